-- Commands leave as many registers and gray slots as there were.
use Rattle.std.proofs.Common.{◌≡◌, ℕ, length, Option, refl}
use Rattle.gz_names.specs.declared.names.Name.{Name}
use Rattle.gz_names.specs.declared.commands.GraphCmd.{GraphCmd}
use Rattle.colour_defs.specs.Graph.{GraphState}
use Rattle.colour_defs.specs.Step.{step_of, with_register}
use Rattle.colour_defs.proofs.Effects.{Effect, Waking, comps, dels, effect_of, keeps, makes, puts, slots, takes}
use Rattle.colour_defs.proofs.Effects.{waking_of}
use Rattle.colour_defs.proofs.Effects.{wraps, writes, zones}
use Rattle.colour_defs.proofs.Lists.{length_set}

pub record HasSizes (g h : GraphState) : Type 0 where
  pub registers : length h.registers ≡ length g.registers
  pub slots : length h.slots ≡ length g.slots

of_effect : (g : GraphState) (w : Waking) {h : GraphState} → Effect g w h → HasSizes g h
of_effect g w keeps = record { registers = refl; slots = refl }
of_effect g w (zones n) = record { registers = refl; slots = refl }
of_effect g w (comps z) = record { registers = refl; slots = refl }
of_effect g w (makes r o n e) = record { registers = length_set g.registers r _; slots = refl }
of_effect g w (takes r x e) = record { registers = length_set g.registers r x; slots = refl }
of_effect g w (wraps r c t e f) = record { registers = length_set g.registers r _; slots = refl }
of_effect g w (writes n o f v a b c) = record { registers = refl; slots = refl }
of_effect g w (slots k x e) = record { registers = refl; slots = length_set g.slots k x }
of_effect g w (puts m k v e s) = record { registers = refl; slots = refl }
of_effect g w (dels m k e) = record { registers = refl; slots = refl }

pub command_sizes : (g : GraphState) (c : GraphCmd) → HasSizes g (step_of g c).0
command_sizes g c = of_effect g (waking_of g c) (effect_of g c)

pub take_sizes : (g : GraphState) (r : ℕ) (x : Option Name) → HasSizes g (with_register g r x)
take_sizes g r x = record { registers = length_set g.registers r x; slots = refl }

-- The commands that the lines of a storm stand for.
use Rattle.std.specs.Prelude.{◌≡◌, ◌≢◌, ◌-◌, ◌%◌, ◌==◌, nat_lt, ℕ, List, [], ◌∷◌, ◌++◌, Some, All}
use Rattle.std.specs.Prelude.{if◌then◌else◌, ⊤}
use Rattle.gz_names.specs.Zones.{zones_in}
use Rattle.gz_names.specs.declared.zone_sets.ZoneSet.{ZoneSet}
use Rattle.gz_names.specs.declared.commands.Cmd.{Cmd}
use Rattle.gz_names.specs.declared.commands.Cmd.TheVariants.{Graph, Weak, Gc, Slice, Finish, Collect, Colours}
use Rattle.gz_names.specs.declared.commands.GraphCmd.{GraphCmd}
use Rattle.gz_names.specs.declared.commands.GraphCmd.TheVariants as cmd
use Rattle.gz_names.specs.declared.commands.WeakCmd.{WeakCmd}
use Rattle.trace_lang.specs.Grammar.{Spells}
use Rattle.storm_source.specs.Draws.{choice_of, next_state}
use Rattle.storm_source.specs.Trace.{zone_bits}

-- the lines stand for the commands, one for one
abbrev pub SpellAll : List (List ℕ) → List Cmd → Type 0
SpellAll [] [] = ⊤
SpellAll (line ∷ lines) (c ∷ cs) = Spells line c × SpellAll lines cs
SpellAll [] (c ∷ cs) = ⊥
SpellAll (line ∷ lines) [] = ⊥

-- the command of a line of the head, and of one of the tail, by its place there
abbrev pub head_command : ℕ → Cmd
head_command i =
    if nat_lt i 4 then Graph cmd.Zone
    else if nat_lt i 12 then Graph (cmd.Comp (i % 4))
    else Graph (cmd.New (i - 12) (record { 0 = i - 12 }) 4)

abbrev pub tail_command : ℕ → Cmd
tail_command i = if i == 0 then Finish else if i == 1 then Collect (record { bits = 15 }) else Colours

-- the command of a row of the table below 15, whose arguments are drawn from left to right
abbrev pub row_command : ℕ → ℕ → GraphCmd
row_command row x =
    let a = next_state x in let b = next_state a in let c = next_state b in
    if nat_lt row 3 then cmd.New (choice_of a 16) (record { 0 = choice_of b 8 }) (choice_of c 5)
    else if nat_lt row 4 then cmd.Map (choice_of a 16) (record { 0 = choice_of b 8 })
    else if nat_lt row 6 then cmd.Get (choice_of a 16) (choice_of b 16) (choice_of c 4)
    else if nat_lt row 8 then cmd.Set (choice_of a 16) (choice_of b 4) (Some (choice_of c 16))
    else if nat_lt row 9 then cmd.Wrap (choice_of a 16) (choice_of b 16) (record { 0 = choice_of c 8 })
    else if nat_lt row 10 then cmd.Unwrap (choice_of a 16) (choice_of b 16)
    else if nat_lt row 11 then cmd.Put (choice_of a 16) (choice_of b 16) (choice_of c 16)
    else if nat_lt row 12 then cmd.Find (choice_of a 16) (choice_of b 16) (choice_of c 16)
    else if nat_lt row 13 then cmd.Hold (choice_of a 64) (choice_of b 16)
    else if nat_lt row 14 then cmd.Expose (choice_of a 16) (choice_of b 64)
    else cmd.Drop (choice_of a 16)

-- the command of the last row
abbrev pub collection_command : ℕ → Cmd
collection_command x =
    let a = next_state x in let b = next_state a in
    if choice_of a 4 == 0 then Gc (record { bits = zone_bits b }) else Slice (choice_of b 64)

-- the command of a line that is drawn
abbrev pub drawn_command : ℕ → Cmd
drawn_command x =
    let y = next_state x in let row = choice_of y 16 in
    if nat_lt row 15 then Graph (row_command row y) else collection_command y

abbrev pub MakesNoZone : Cmd → Type 0
MakesNoZone c = c ≢ Graph cmd.Zone

abbrev pub IsNoWeakCommand : Cmd → Type 0
IsNoWeakCommand c = (weak : WeakCmd) → c ≢ Weak weak

-- four zones are made first, and none later; nothing is named weakly; at the end the zones are collected
pub record AreOfStorm (commands : List Cmd) : Type 0 where
  pub between : List Cmd
  pub zones : ZoneSet
  pub none_made : All MakesNoZone between
  pub none_weak : All IsNoWeakCommand between
  pub zones_are : zones_in zones ≡ 0 ∷ 1 ∷ 2 ∷ 3 ∷ []
  pub commands_are : commands
      ≡ (Graph cmd.Zone ∷ Graph cmd.Zone ∷ Graph cmd.Zone ∷ Graph cmd.Zone ∷ between)
      ++ Finish ∷ Collect zones ∷ Colours ∷ []

-- A register takes what a weak slot names.
use Rattle.std.proofs.Common.{◌≡◌, ◌∙◌, ℕ, Option, None, refl, subst, ap}
use Rattle.gz_names.specs.Zones.{zones_in}
use Rattle.gz_names.specs.declared.names.Name.{Name}
use Rattle.colour_defs.specs.Graph.{GraphState}
use Rattle.colour_defs.specs.Step.{with_register}
use Rattle.colour_defs.specs.Units.{Tally}
use Rattle.judge.specs.Stages.{Changes, Shown, Stage, TakesNamed, idle, preparing, collecting, woken_tally}
use Rattle.judge.specs.declared.former.Change.TheVariants as change
use Rattle.judge.proofs.Counted.{woken_comps}

-- what the name that is woken counts for, by the graph before and after
read_tally : (g : GraphState) (r : ℕ) (s : Stage) (x : Option Name) (t : Tally)
    → woken_tally (with_register g r x) s x t ≡ woken_tally g s x t
read_tally g r idle x t = refl
read_tally g r (preparing zones) x t = refl
read_tally g r (collecting zones marking groups) x t =
    woken_comps g (with_register g r x) (zones_in zones) x t refl

-- a register took a name, and the name was woken, by the graph after it
pub record Took (h : GraphState) (r : ℕ) (x : Option Name) (old new : Shown) : Type 0 where
  pub changes : Changes (change.Take r x) h x None old new
  pub tally_is : new.tally ≡ woken_tally h old.stage x old.tally

pub takes_named : (g h : GraphState) (r : ℕ) (x y : Option Name) (old new : Shown) → x ≡ y → h ≡ with_register g r x
    → Took h r x old new → TakesNamed g r y old new
takes_named g h r x y old new same graph took = subst (λ (z : Option Name). TakesNamed g r z old new) same (record {
  changes = subst (λ (k : GraphState). Changes (change.Take r x) k x None old new) graph took.changes;
  tally_is = took.tally_is ∙ ap (λ (k : GraphState). woken_tally k old.stage x old.tally) graph
      ∙ read_tally g r old.stage x old.tally;
})

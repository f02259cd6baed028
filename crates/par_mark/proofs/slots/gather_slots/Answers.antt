use Rattle.std.proofs.Common.{rules, ◌<◌, ℕ, refl, sym, subst, ◌∙◌, ◌*◌, ◌%◌, ◌^◌}
use Rattle.par_mark.specs.Slots.{AreGathered}
use Rattle.par_mark.proofs.Gathering.{gathered_one, gathered_more}
use Rattle.par_mark.proofs.slots.gather_slots.Goals as goal

pub loop-init : goal.loop-init
loop-init c = (
  subst (λ (k : ℕ). AreGathered c.args.first 1 c.args.tries.now.items c.args.tries.now.items (1 * 2 ^ k % 2 ^ 64))
      (sym c.slot.ensures.value) (gathered_one c.args.first c.args.tries.now.items
      (subst (λ (k : ℕ). k < 64) c.slot.ensures.value c.slot.ensures.below)),
  refl,
)

pub loop-preserved : goal.loop-preserved
loop-preserved c = (
  gathered_more c.args.first c.loop.counter c.args.tries.now.items c.loop.tries.items _ c.loop.slots c.in-Some.slot
      c.loop.invariant.0 (search rules),
  c.take_slot.ensures.room ∙ c.loop.invariant.1,
)

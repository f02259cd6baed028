use Rattle.std.proofs.Common.{◌≡◌, ◌∙◌, inl, inr, ap, arith, is_some, sym}
use Rattle.std.specs.BTreeMap as tree
use Rattle.judge.specs.Places.{place_order}
use Rattle.judge.proofs.Slots.{at_least}
use Rattle.judge.proofs.arenas.Arenas.first_empty.Goals as goal

pub loop-slot-preserved : goal.loop-slot-preserved
loop-slot-preserved c = λ s from below e. elim (at_least s c.loop-slot.slot) [
  | inl past ↦
      let at : s ≡ c.loop-slot.slot = omega (arith, past, below) in
      let place : (c.args.arena, s) ≡ c.in-Some.place =
      ap (λ n. (c.args.arena, n)) at ∙ sym c.in-Some.ensures.1 in
      let is = sym c.contains_key.ensures ∙ c.if-not-contains_key.false in
      let none = ap is_some (ap (tree.get place_order c.args.self.now.lying) (sym place) ∙ e) in cc (is, none)
  | inr before ↦ c.loop-slot.invariant s from before e
]

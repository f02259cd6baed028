use Rattle.heap_core.specs.Heap.{joined}
use Rattle.barriers.specs.Pending.{pending}
use Rattle.barriers.proofs.Loops.{delegate_present, key_grows, no_delegate, turned_invariant, turned_key}
use Rattle.barriers.proofs.woken.follow_delegate.Goals as goal

pub turn_with-requires-clause-marks : goal.turn_with-requires-clause-marks
turn_with-requires-clause-marks g c = record {
  covers = c.requires.covers;
  colours = c.requires.holds.1.colours;
  piles = c.requires.holds.1.piles;
}

pub turn_with-requires-clause-other : goal.turn_with-requires-clause-other
turn_with-requires-clause-other g c =
    delegate_present c.requires.holds.0 _ _ _ _ _ c.requires.holds.1 c.requires.entry c.in-Some.delegate
    c.in-Some.ensures.delegate

pub turn_with-requires-clause-present : goal.turn_with-requires-clause-present
turn_with-requires-clause-present g c = (c.requires.holds.1.colours.shape.entries _ _ _ c.requires.entry).1

pub returns-in-Some-clause-follows : goal.returns-in-Some-clause-follows
returns-in-Some-clause-follows g c = λ rest holds. record {
  holds = turned_invariant _ _ _ _ _ _ c.turn_with.ensures.turns rest holds;
  grows = key_grows rest _ _ _ _ _ holds c.requires.entry c.in-Some.delegate _ _
      c.in-Some.ensures.delegate c.requires.black c.turn_with.ensures.turns;
  covers = c.turn_with.ensures.covers;
  origin = c.turn_with.ensures.origin;
}

pub returns-in-Some-clause-key : goal.returns-in-Some-clause-key
returns-in-Some-clause-key g c =
    turned_key c.requires.holds.0 _ _ _ _ _ c.requires.holds.1 c.requires.entry c.in-Some.delegate _ _
    c.in-Some.ensures.delegate c.turn_with.ensures.turns

pub returns-in_default-clause-key : goal.returns-in_default-clause-key
returns-in_default-clause-key g c =
    let h = joined c.args.heap.now (g.F.Flight.bits c.args.flight.now) in
    let p = pending c.args.heap.now c.args.stack.now in
    no_delegate c.requires.holds.0 h p _ _ _ c.requires.holds.1 c.requires.entry h p c.in_default.ensures.delegate

use Rattle.heap_core.specs.Heap.{without_delayed}
use Rattle.barriers.specs.Pending.{pending}
use Rattle.barriers.proofs.LeftOut.{delegate_present, key_grows, no_delegate, turned_holds, turned_key}
use Rattle.barriers.proofs.left_out.follow_delegate.Goals as goal

pub turn_with-requires-clause-colours : goal.turn_with-requires-clause-colours
turn_with-requires-clause-colours c = c.requires.holds.1.colours

pub turn_with-requires-clause-other : goal.turn_with-requires-clause-other
turn_with-requires-clause-other c =
    delegate_present c.requires.holds.0 _ _ _ _ _ c.requires.holds.1 c.requires.entry c.in-Some.delegate
    c.in-Some.ensures.delegate

pub turn_with-requires-clause-present : goal.turn_with-requires-clause-present
turn_with-requires-clause-present c = (c.requires.holds.1.colours.shape.entries _ _ _ c.requires.entry).1

pub returns-in-Some-clause-step : goal.returns-in-Some-clause-step
returns-in-Some-clause-step c = λ followed holds. record {
  holds = turned_holds _ _ _ _ _ _ holds.colours c.turn_with.ensures followed holds;
  grows = key_grows followed _ _ _ _ _ holds c.requires.entry c.in-Some.delegate _ _
      c.in-Some.ensures.delegate c.requires.black c.turn_with.ensures;
}

pub returns-in-Some-clause-key : goal.returns-in-Some-clause-key
returns-in-Some-clause-key c =
    turned_key c.requires.holds.0 _ _ _ _ _ c.requires.holds.1 c.requires.entry c.in-Some.delegate _ _
    c.in-Some.ensures.delegate c.turn_with.ensures

pub returns-in_default-clause-key : goal.returns-in_default-clause-key
returns-in_default-clause-key c =
    let h = without_delayed c.args.heap.now in
    let p = pending c.args.heap.now c.args.stack.now in
    no_delegate c.requires.holds.0 h p _ _ _ c.requires.holds.1 c.requires.entry h p c.in_default.ensures.delegate

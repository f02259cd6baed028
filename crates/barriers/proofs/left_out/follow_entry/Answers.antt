use Rattle.std.proofs.Common.{subst, sym}
use Rattle.heap_core.specs.Heap.{without_delayed}
use Rattle.heap_core.specs.Shape.{Shape, IsPresent}
use Rattle.barriers.specs.Colours.{IsBlack}
use Rattle.barriers.specs.LeftOut.{ReachedLeftOut}
use Rattle.barriers.specs.Pending.{pending}
use Rattle.barriers.proofs.LeftOut.{entry_followed, entry_grows, pale_followed, turned_holds}
use Rattle.barriers.proofs.Spreading.{grows_none}
use Rattle.barriers.proofs.Walks.{same_shape}
use Rattle.barriers.proofs.left_out.follow_entry.Goals as goal

pub is_black-requires-clause-present : goal.is_black-requires-clause-present
is_black-requires-clause-present c = (c.requires.holds.1.colours.shape.entries _ _ _ c.requires.entry).0

pub is_black-requires-clause-sized : goal.is_black-requires-clause-sized
is_black-requires-clause-sized c = c.requires.holds.1.colours.sized

pub follow_delegate-requires-clause-black : goal.follow_delegate-requires-clause-black
follow_delegate-requires-clause-black c = (c.is_black.ensures.0 c.if-is_black.true).1

pub turn_with-requires-clause-colours : goal.turn_with-requires-clause-colours
turn_with-requires-clause-colours c =
    (c.follow_delegate.ensures.step c.requires.holds.0 c.requires.holds.1).holds.colours

pub turn_with-requires-clause-other : goal.turn_with-requires-clause-other
turn_with-requires-clause-other c =
    let done = c.follow_delegate.ensures.step c.requires.holds.0 c.requires.holds.1 in
    subst (λ (s : Shape). IsPresent s c.args.entry.now.key)
    (sym (same_shape _ _ _ _ _ done.grows))
    (c.requires.holds.1.colours.shape.entries _ _ _ c.requires.entry).1

pub turn_with-requires-clause-present : goal.turn_with-requires-clause-present
turn_with-requires-clause-present c =
    let done = c.follow_delegate.ensures.step c.requires.holds.0 c.requires.holds.1 in
    subst (λ (s : Shape). IsPresent s c.args.entry.now.value)
    (sym (same_shape _ _ _ _ _ done.grows))
    (c.requires.holds.1.colours.shape.entries _ _ _ c.requires.entry).2

pub returns-then-is_black-clause-step : goal.returns-then-is_black-clause-step
returns-then-is_black-clause-step c = λ followed holds.
    let done = c.follow_delegate.ensures.step followed holds in
    record {
      holds = turned_holds _ _ _ _ _ _ done.holds.colours c.turn_with.ensures followed done.holds;
      grows = entry_grows _ _ _ _ _ c.requires.holds.1.colours.shape c.requires.entry
          (c.is_black.ensures.0 c.if-is_black.true).1 _ _ done.grows done.holds.colours _ _ c.turn_with.ensures;
    }

pub returns-then-is_black-clause-followed : goal.returns-then-is_black-clause-followed
returns-then-is_black-clause-followed c =
    let done = c.follow_delegate.ensures.step c.requires.holds.0 c.requires.holds.1 in
    entry_followed _ _ _ _ _ c.requires.holds.1.colours.shape c.requires.entry
    (c.is_black.ensures.0 c.if-is_black.true).1 _ _ done.grows done.holds.colours _ _ c.turn_with.ensures
    c.follow_delegate.ensures.key

pub returns-else-is_black-clause-step : goal.returns-else-is_black-clause-step
returns-else-is_black-clause-step c = λ followed holds. record {
  holds = holds;
  grows = grows_none (ReachedLeftOut c.args.heap.now.shape (IsBlack c.args.heap.now))
      (without_delayed c.args.heap.now) (pending c.args.heap.now c.args.stack.now);
}

pub returns-else-is_black-clause-followed : goal.returns-else-is_black-clause-followed
returns-else-is_black-clause-followed c =
    pale_followed (without_delayed c.args.heap.now) (pending c.args.heap.now c.args.stack.now) _ _ _
    c.requires.holds.1.colours.shape c.requires.entry (λ b. cc (c.is_black.ensures.1 b, c.if-is_black.false))

use Rattle.std.proofs.Common.{inl, inr, refl}
use Rattle.barriers.proofs.left_out.turn_with.Goals as goal

pub is_black-requires-clause-present : goal.is_black-requires-clause-present
is_black-requires-clause-present c = c.requires.other

pub is_black-requires-clause-sized : goal.is_black-requires-clause-sized
is_black-requires-clause-sized c = c.requires.colours.sized

pub returns-then-is_black : goal.returns-then-is_black
returns-then-is_black c =
    let black = c.is_black.ensures.0 c.if-is_black.true in inl (black.0, black.1, c.turn.ensures)

pub returns-else-is_black : goal.returns-else-is_black
returns-else-is_black c = inr (
  (λ counts black. cc (c.is_black.ensures.1 (counts, black), c.if-is_black.false)),
  refl,
  refl,
)

use Rattle.std.proofs.Common.{inl, inr, refl, subst}
use Rattle.heap_core.specs.Heap.{HeapState, joined}
use Rattle.barriers.specs.Pending.{pending}
use Rattle.barriers.specs.Spreading.{Turns}
use Rattle.barriers.proofs.Answering.{bits_within, marks_kept}
use Rattle.barriers.proofs.woken.turn_with.Goals as goal

pub is_black-requires-clause-made : goal.is_black-requires-clause-made
is_black-requires-clause-made g c =
    bits_within c.args.heap.now (g.F.Flight.bits c.args.flight.now) c.args.other c.requires.marks.colours
    c.requires.other

pub turn-requires-clause-marks : goal.turn-requires-clause-marks
turn-requires-clause-marks g c =
    marks_kept c.args.heap.now (g.F.Flight.bits c.args.flight.now) _ c.args.stack.now c.requires.marks
    c.is_black.ensures.kept.same c.is_black.ensures.kept.covers

pub returns-then-is_black-clause-turns : goal.returns-then-is_black-clause-turns
returns-then-is_black-clause-turns g c = inl (
  c.is_black.ensures.black.0 c.if-is_black.true,
  subst (λ (z : HeapState). Turns z (pending c.args.heap.now c.args.stack.now) c.args.place
      (joined c.turn.new.heap (g.F.Flight.bits c.turn.new.flight)) (pending c.turn.new.heap c.turn.new.stack))
      c.is_black.ensures.kept.same c.turn.ensures.turns,
)

pub returns-else-is_black-clause-turns : goal.returns-else-is_black-clause-turns
returns-else-is_black-clause-turns g c =
    inr ((λ b. cc (c.is_black.ensures.black.1 b, c.if-is_black.false)), c.is_black.ensures.kept.same, refl)

use Rattle.std.proofs.Common.{arith, inr, subst, sym, ◌∙◌, ap}
use Rattle.heap_core.specs.Heap.{HeapState}
use Rattle.heap_core.specs.Shape.{Shape, IsPresent}
use Rattle.barriers.proofs.LeftOut.{turn_scanned_left_out}
use Rattle.barriers.proofs.Walks.{all_scanned, same_shape, scan_skip, target_present}
use Rattle.barriers.proofs.left_out.scan.Goals as goal
use Rattle.barriers.proofs.left_out.scan.Goals.{in-Some, in_default}

pub edge_count-count-requires : goal.edge_count-count-requires
edge_count-count-requires g c = c.requires.holds.colours.seen_present c.args.place (inr c.requires.black)

pub reached_by-requires-clause-present : goal.reached_by-requires-clause-present
reached_by-requires-clause-present g c =
    subst (λ (s : Shape). IsPresent s c.args.place) (sym (same_shape _ _ _ _ _ c.loop-i.invariant.scanned.grows))
    (c.requires.holds.colours.seen_present c.args.place (inr c.requires.black))

pub reached_by-requires-clause-counted : goal.reached_by-requires-clause-counted
reached_by-requires-clause-counted g c =
    ap (λ (z : HeapState). z.ledger) c.loop-i.invariant.scanned.grows.spreads.blackens.rest ∙ c.requires.counted

pub returns-clause-step : goal.returns-clause-step
returns-clause-step g c =
    record { holds = c.loop-i.invariant.scanned.holds; grows = c.loop-i.invariant.scanned.grows }

pub returns-clause-edges : goal.returns-clause-edges
returns-clause-edges g c = all_scanned _ _ _ _ _ _ _ _ c.loop-i.invariant.scanned _ c.loop-i-test.false
    c.edge_count-count.ensures.past

pub returns-clause-few : goal.returns-clause-few
returns-clause-few g c = omega (arith, c.loop-i.invariant.steps, c.edge_count-count.ensures.most)

pub turn-requires-clause-colours : goal.turn-requires-clause-colours
turn-requires-clause-colours g c = c.loop-i.invariant.scanned.holds.colours

pub turn-requires-clause-present : goal.turn-requires-clause-present
turn-requires-clause-present g c =
    target_present _ _ _ _ _ _ _ _ c.loop-i.invariant.scanned _ c.loop-i.invariant.scanned.holds.colours.shape
    (omega (arith, c.edge_count-count.ensures.most, c.loop-i-test.true)) (sym c.in-Some.ensures.edge)

pub loop-i-preserved : goal.loop-i-preserved
loop-i-preserved g c = elim c.match-reached_by.branch [
  | in-Some w ↦ rw (w.heap-is, w.stack-is) (record {
    scanned = turn_scanned_left_out _ _ _ _ _ _ _ _ _
        (omega (arith, c.edge_count-count.ensures.most, c.loop-i-test.true)) c.loop-i.invariant.scanned
        (sym w.in-Some.ensures.edge) w.turn.ensures;
    steps = omega (arith, c.reached_by.ensures.steps, c.loop-i.invariant.steps);
  })
  | in_default w ↦ rw (w.heap-is, w.stack-is) (record {
    scanned = scan_skip _ _ _ _ _ _ _ _ c.loop-i.invariant.scanned
        (λ t e. w.in_default.not-Some t (c.reached_by.ensures.edge ∙ e));
    steps = omega (arith, c.reached_by.ensures.steps, c.loop-i.invariant.steps);
  })
]

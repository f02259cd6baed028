use Rattle.std.proofs.Common.{◌≡◌, ◌≢◌, ◌∙◌, Some, ap, arith, inr, refl, subst, sym, true}
use Rattle.std.specs.Option.{option_map}
use Rattle.gz_names.specs.declared.commands.Kind.TheVariants as kind
use Rattle.arena_table.specs.Cells.{CellState}
use Rattle.heap_core.specs.Heap.{HeapState}
use Rattle.heap_core.specs.Shape.{Shape, HasEdge, IsPresent, cell_of, is_marking}
use Rattle.barriers.proofs.Loops.{turn_scanned}
use Rattle.barriers.proofs.Spreading.{grows_within}
use Rattle.barriers.proofs.Walks.{all_scanned, marking_target, same_shape, scan_skip, target_present}
use Rattle.barriers.proofs.woken.scan_inside.Goals as goal
use Rattle.barriers.proofs.woken.scan_inside.Goals.{in-Some, in_default}

pub edge_count-count-requires : goal.edge_count-count-requires
edge_count-count-requires g c = c.requires.holds.1.colours.seen_present c.args.place (inr c.requires.black)

pub reached_by-requires-clause-present : goal.reached_by-requires-clause-present
reached_by-requires-clause-present g c =
    let scanned = c.loop-i.invariant.scanned c.requires.holds.0 c.requires.holds.1 in
    subst (λ (s : Shape). IsPresent s c.args.place) (sym (same_shape _ _ _ _ _ scanned.grows))
    (c.requires.holds.1.colours.seen_present c.args.place (inr c.requires.black))

pub reached_by-requires-clause-counted : goal.reached_by-requires-clause-counted
reached_by-requires-clause-counted g c =
    let scanned = c.loop-i.invariant.scanned c.requires.holds.0 c.requires.holds.1 in
    ap (λ (z : HeapState). z.ledger) scanned.grows.spreads.blackens.rest ∙ c.requires.counted

pub returns-clause-follows : goal.returns-clause-follows
returns-clause-follows g c = λ followed holds. record {
  holds = (c.loop-i.invariant.scanned followed holds).holds;
  grows = grows_within _ (HasEdge c.args.heap.now.shape c.args.place) _ _ _ _
      (c.loop-i.invariant.scanned followed holds).grows (λ y e. e.0);
  covers = c.loop-i.invariant.covers;
  origin = refl;
}

pub returns-clause-edges : goal.returns-clause-edges
returns-clause-edges g c =
    let scanned = c.loop-i.invariant.scanned c.requires.holds.0 c.requires.holds.1 in
    λ y e. all_scanned _ _ _ _ _ _ _ _ scanned _ c.loop-i-test.false c.edge_count-count.ensures.past y e tt

pub turn_marking-requires-clause-marks : goal.turn_marking-requires-clause-marks
turn_marking-requires-clause-marks g c =
    let scanned = c.loop-i.invariant.scanned c.requires.holds.0 c.requires.holds.1 in
    record {
      covers = c.loop-i.invariant.covers;
      colours = scanned.holds.colours;
      piles = scanned.holds.piles;
    }

pub turn_marking-requires-clause-present : goal.turn_marking-requires-clause-present
turn_marking-requires-clause-present g c =
    let scanned = c.loop-i.invariant.scanned c.requires.holds.0 c.requires.holds.1 in
    target_present _ _ _ _ _ _ _ _ scanned _ scanned.holds.colours.shape
    (omega (arith, c.edge_count-count.ensures.most, c.loop-i-test.true)) (sym c.in-Some.ensures.edge)

pub turn_marking-requires-clause-marking : goal.turn_marking-requires-clause-marking
turn_marking-requires-clause-marking g c =
    let scanned = c.loop-i.invariant.scanned c.requires.holds.0 c.requires.holds.1 in
    let same = sym (same_shape _ _ _ _ _ scanned.grows) in
    marking_target _ c.args.place _ _ scanned.holds.colours.shape
    (subst (λ (s : Shape). option_map (λ (x : CellState). x.kind) (cell_of s c.args.place) ≢ Some kind.Wrapper) same
    c.requires.inside)
    (subst (λ (s : Shape). is_marking s c.args.place ≡ true) same c.requires.marking)
    (omega (arith, c.edge_count-count.ensures.most, c.loop-i-test.true)) (sym c.in-Some.ensures.edge)

pub loop-i-preserved : goal.loop-i-preserved
loop-i-preserved g c = elim c.match-reached_by.branch [
  | in-Some w ↦ rw (w.heap-is, w.stack-is) (record {
    scanned = λ followed holds. turn_scanned followed _ _ _ _ _ _ _ _ _
        (omega (arith, c.edge_count-count.ensures.most, c.loop-i-test.true))
        (c.loop-i.invariant.scanned followed holds) (sym w.in-Some.ensures.edge) w.turn_marking.ensures.turns;
    covers = w.turn_marking.ensures.covers;
    steps = omega (arith, c.reached_by.ensures.steps, c.loop-i.invariant.steps);
  })
  | in_default w ↦ rw (w.heap-is, w.stack-is) (record {
    scanned = λ followed holds. scan_skip _ _ _ _ _ _ _ _ (c.loop-i.invariant.scanned followed holds)
        (λ t e. w.in_default.not-Some t (c.reached_by.ensures.edge ∙ e));
    covers = c.loop-i.invariant.covers;
    steps = omega (arith, c.reached_by.ensures.steps, c.loop-i.invariant.steps);
  })
]

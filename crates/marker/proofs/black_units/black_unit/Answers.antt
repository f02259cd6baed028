use Rattle.std.proofs.Common.{◌∙◌, ◌∷◌, [], ap, arith}
use Rattle.heap_core.specs.Heap.{HeapState, joined}
use Rattle.barriers.specs.Pending.{pending}
use Rattle.marker.proofs.BlackSteps.{Started, black_done, black_some, scanned, started_by, started_grays, started_marks}
use Rattle.marker.proofs.BlackSteps.{started_left, started_once, started_point, started_taken}
use Rattle.marker.proofs.black_units.black_unit.Given.{Over}
use Rattle.marker.proofs.black_units.black_unit.Goals as goal
use Rattle.marker.proofs.black_units.black_unit.Goals.{After-start}

-- the cell was taken from the black pile, and started
started : (g : Over) (c : After-start g) → Started (joined c.args.heap.now (g.F.Flight.bits c.args.flight.now))
    (pending c.args.heap.now c.args.stack.now) (pending c.start.new.self c.next_pending.new.stack) c.in-Some.place
    (joined c.start.new.self (g.F.Flight.bits c.args.flight.now))
started g c = started_by c.args.heap.now c.next_pending.new.heap c.start.new.self (g.F.Flight.bits c.args.flight.now)
    (pending c.args.heap.now c.args.stack.now) c.next_pending.new.stack c.in-Some.place c.requires.invariant
    c.next_pending.ensures.rest c.in-Some.ensures.some c.start.ensures.rest c.start.ensures.sound (record {
      map = c.start.ensures.map;
      key = c.start.ensures.key;
      delegate = c.start.ensures.delegate;
      parallel = c.start.ensures.parallel;
    })

pub scan_marking-requires-clause-black : goal.scan_marking-requires-clause-black
scan_marking-requires-clause-black g c =
    (started_taken _ _ _ _ _ (started g (goal.at.scan_marking-requires-clause-black g c).After-start)).black

pub scan_marking-requires-clause-holds : goal.scan_marking-requires-clause-holds
scan_marking-requires-clause-holds g c = (
  c.in-Some.place ∷ [],
  (started_taken _ _ _ _ _ (started g (goal.at.scan_marking-requires-clause-holds g c).After-start)).invariant,
)

pub scan_marking-requires-clause-counted : goal.scan_marking-requires-clause-counted
scan_marking-requires-clause-counted g c =
    let s = started g (goal.at.scan_marking-requires-clause-counted g c).After-start in
    ap (λ (z : HeapState). z.ledger) s.rest ∙ c.requires.counted

pub scan_marking-requires-clause-marking : goal.scan_marking-requires-clause-marking
scan_marking-requires-clause-marking g c =
    (started_taken _ _ _ _ _ (started g (goal.at.scan_marking-requires-clause-marking g c).After-start)).zone

pub drain-requires : goal.drain-requires
drain-requires g c =
    let s = started g (goal.at.drain-requires g c).After-start in
    let k = joined c.scan_marking.new.heap (g.F.Flight.bits c.scan_marking.new.flight) in
    let r = pending c.scan_marking.new.heap c.scan_marking.new.stack in
    let did = c.scan_marking.ensures.follows (c.in-Some.place ∷ []) (started_taken _ _ _ _ _ s).invariant in
    let grows = did.grows in
    record {
      counted = ap (λ (z : HeapState). z.ledger) grows.spreads.blackens.rest
          ∙ (ap (λ (z : HeapState). z.ledger) s.rest ∙ c.requires.counted);
      covers = did.covers;
      holds = scanned _ _ _ _ k r (started_marks _ _ _ _ _ s).holds s.popped did.holds grows
          c.scan_marking.ensures.edges (started_left _ _ _ _ _ s k r grows);
      weak = started_point _ _ _ _ _ s k r grows;
      once = started_once _ _ _ _ _ s k r grows;
    }

pub returns : goal.returns
returns g c =
    let s = started g (goal.at.returns g c).After-start in
    let one = c.scan_marking.ensures.follows (c.in-Some.place ∷ []) (started_taken _ _ _ _ _ s).invariant in
    let k = joined c.scan_marking.new.heap (g.F.Flight.bits c.scan_marking.new.flight) in
    let r = pending c.scan_marking.new.heap c.scan_marking.new.stack in
    record {
      does = λ did. black_done _ _ _ _ _ s k r (joined c.drain.new.heap (g.F.Flight.bits c.drain.new.flight))
          (pending c.drain.new.heap c.drain.new.stack) one.grows c.drain.ensures.spreads
          c.drain.ensures.invariant;
      empty = (
        λ e. cc e,
        λ none. absurd
            (black_some _ (pending c.next_pending.new.heap c.next_pending.new.stack) _ c.in-Some.ensures.some none),
      );
      same = λ e. cc e;
      steps = omega (
        arith,
        c.scan_marking.ensures.few,
        c.drain.ensures.steps,
        started_grays _ _ _ _ _ s k r one.grows,
      );
      covers = c.drain.ensures.covers;
      origin = c.drain.ensures.origin ∙ one.origin;
    }

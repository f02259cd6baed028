use Rattle.std.proofs.Common.{◌≡◌, ◌<◌, length, true, None, sym, ap, subst, ◌∙◌, arith, inl}
use Rattle.heap_core.specs.Heap.{HeapState, joined, without_delayed}
use Rattle.barriers.specs.Colours.{IsGray}
use Rattle.barriers.specs.Spreading.{Covers}
use Rattle.slice_driver.specs.Collector.{CollectorState}
use Rattle.slice_driver.specs.Grays.{MayNameGrays, grays_below, grays_up_to}
use Rattle.slice_driver.specs.NextGray.{Picks}
use Rattle.slice_driver.proofs.abstraction.Phases.{calm_marking}
use Rattle.slice_driver.proofs.dumping.NextGray.{picks_arena, settled_next}
use Rattle.slice_driver.proofs.dumping.Reading.{arena_coloured, reads_same, seen_present}
use Rattle.slice_driver.proofs.collector.Collector.next_gray.Goals as goal

pub first_in-first-requires : goal.first_in-first-requires
first_in-first-requires g c =
    let here = ap (λ (z : CollectorState). z.heap) c.self.view_is in
    let below : c.loop-arena.arena < length c.self.inside.heap.shape.arenas =
    omega (arith, c.loop-arena-test.true, c.arenas-arena-end.ensures) in
    let there : MayNameGrays c.args.self.now.heap (g.F.Flight.bits c.loop-arena.flight) c.loop-arena.arena =
    record {
      covers = c.loop-arena.invariant.covers;
      made = arena_coloured c.args.self.now (g.F.Flight.bits c.args.flight.now) c.requires.sound.world
          c.loop-arena.arena c.requires.sound.represents
          (subst (λ (h : HeapState). c.loop-arena.arena < length h.shape.arenas) here below);
      present = λ p gray. seen_present c.args.self.now (g.F.Flight.bits c.args.flight.now) c.requires.sound.world
          c.requires.sound.represents p
          (inl (subst (λ (h : HeapState). IsGray h p) c.loop-arena.invariant.same gray));
    } in
    let seen : MayNameGrays (without_delayed c.self.inside.heap) (g.F.Flight.bits c.loop-arena.flight)
    c.loop-arena.arena =
    subst (λ (h : HeapState). MayNameGrays h (g.F.Flight.bits c.loop-arena.flight) c.loop-arena.arena) (sym here) there
    in
    record { covers = seen.covers; made = seen.made; present = seen.present }

pub loop-arena-preserved : goal.loop-arena-preserved
loop-arena-preserved g c =
    let here = ap (λ (z : CollectorState). z.heap) c.self.view_is in
    let now = joined c.args.self.now.heap (g.F.Flight.bits c.args.flight.now) in
    let same = subst (λ (h : HeapState). joined h (g.F.Flight.bits c.first_in-first.new.flight)
    ≡ joined h (g.F.Flight.bits c.loop-arena.flight)) here c.first_in-first.ensures.kept.same in
    let more = subst (λ (h : HeapState). Picks c.args.after c.loop-arena.first
    (grays_below (joined h (g.F.Flight.bits c.loop-arena.flight)) c.loop-arena.arena 64) c.first_in-first.result) here
    c.first_in-first.ensures.picks in
    record {
      picks = picks_arena now c.loop-arena.arena c.args.after None c.loop-arena.first c.first_in-first.result
          c.loop-arena.invariant.picks (subst (λ (h : HeapState). Picks c.args.after c.loop-arena.first
          (grays_below h c.loop-arena.arena 64) c.first_in-first.result) c.loop-arena.invariant.same more);
      same = same ∙ c.loop-arena.invariant.same;
      covers = subst (λ (h : HeapState). Covers h.shape (g.F.Flight.bits c.first_in-first.new.flight)) here
          c.first_in-first.ensures.kept.covers;
      origin = c.first_in-first.ensures.kept.origin ∙ c.loop-arena.invariant.origin;
    }

pub returns-clause-next : goal.returns-clause-next
returns-clause-next g c w rep settled =
    let here = ap (λ (z : CollectorState). z.heap) c.self.view_is in
    let all = subst (λ (h : HeapState). c.arenas-arena-end.result ≡ length h.shape.arenas) here
    c.arenas-arena-end.ensures in
    let end : c.loop-arena.arena ≡ length c.args.self.now.heap.shape.arenas =
    omega (arith, c.loop-arena-test.false, all, c.loop-arena.auto.arena-end) in
    settled_next c.args.self.now (g.F.Flight.bits c.args.flight.now) w c.args.after c.loop-arena.first
    (calm_marking c.args.self.now (g.F.Flight.bits c.args.flight.now) w settled.none_preparing rep) settled
    (subst (λ n. Picks c.args.after None (grays_up_to
    (joined c.args.self.now.heap (g.F.Flight.bits c.args.flight.now)) (λ a. true) n) c.loop-arena.first) end
    c.loop-arena.invariant.picks)

pub returns-clause-same : goal.returns-clause-same
returns-clause-same g c w rep = reads_same c.args.self.now (g.F.Flight.bits c.args.flight.now)
    (g.F.Flight.bits c.loop-arena.flight) w c.loop-arena.invariant.covers c.loop-arena.invariant.same rep

pub returns-clause-heap : goal.returns-clause-heap
returns-clause-heap g c = c.loop-arena.invariant.same

use Rattle.std.proofs.Common.{◌≡◌, ◌<◌, ◌++◌, length, true, refl, sym, ap, subst, ◌∙◌, arith, rules, inl}
use Rattle.std.specs.List.Sorted.{IsPermutation, IsSorted}
use Rattle.gz_names.specs.Order.{name_cmp}
use Rattle.colour_defs.specs.Ends.{Lists}
use Rattle.colour_defs.specs.World.{Has, IsPresent as IsPresentName}
use Rattle.heap_core.specs.Heap.{HeapState, joined, without_delayed}
use Rattle.barriers.specs.Colours.{IsGray}
use Rattle.barriers.specs.Spreading.{Covers}
use Rattle.slice_driver.specs.Collector.{CollectorState}
use Rattle.slice_driver.specs.Grays.{MayNameGrays, grays_below, grays_up_to}
use Rattle.slice_driver.proofs.group_end.Grays.{grays_more}
use Rattle.slice_driver.proofs.abstraction.Phases.{calm_marking}
use Rattle.slice_driver.proofs.dumping.Reading.{arena_coloured, reads_same, seen_present}
use Rattle.slice_driver.proofs.group_end.GrayNames.{settled_grays}
use Rattle.slice_driver.proofs.collector.Collector.gray_names.Goals as goal

pub push_gray-requires : goal.push_gray-requires
push_gray-requires g c =
    let here = ap (λ (z : CollectorState). z.heap) c.self.view_is in
    let below : c.loop-arena.arena < length c.self.inside.heap.shape.arenas =
    omega (arith, c.loop-arena-test.true, c.arenas-arena-end.ensures) in
    let there : MayNameGrays c.args.self.now.heap (g.F.Flight.bits c.loop-arena.flight) c.loop-arena.arena =
    record {
      covers = c.loop-arena.invariant.covers;
      made = arena_coloured c.args.self.now (g.F.Flight.bits c.args.flight.now) c.requires.sound.world
          c.loop-arena.arena c.requires.sound.represents
          (subst (λ (h : HeapState). c.loop-arena.arena < length h.shape.arenas) here below);
      present = λ p gray. seen_present c.args.self.now (g.F.Flight.bits c.args.flight.now) c.requires.sound.world
          c.requires.sound.represents p
          (inl (subst (λ (h : HeapState). IsGray h p) c.loop-arena.invariant.same gray));
    } in
    let seen : MayNameGrays (without_delayed c.self.inside.heap) (g.F.Flight.bits c.loop-arena.flight)
    c.loop-arena.arena =
    subst (λ (h : HeapState). MayNameGrays h (g.F.Flight.bits c.loop-arena.flight) c.loop-arena.arena) (sym here) there
    in
    record { covers = seen.covers; made = seen.made; present = seen.present }

pub returns-in_err-push_gray-clause-same : goal.returns-in_err-push_gray-clause-same
returns-in_err-push_gray-clause-same g c w rep =
    let here = ap (λ (z : CollectorState). z.heap) c.self.view_is in
    let same = subst (λ (h : HeapState). joined h (g.F.Flight.bits c.push_gray.new.flight)
    ≡ joined h (g.F.Flight.bits c.loop-arena.flight)) here c.push_gray.ensures.kept.same in
    let covers = subst (λ (h : HeapState). Covers h.shape (g.F.Flight.bits c.push_gray.new.flight)) here
    c.push_gray.ensures.kept.covers in
    reads_same c.args.self.now (g.F.Flight.bits c.args.flight.now) (g.F.Flight.bits c.push_gray.new.flight) w
    covers (same ∙ c.loop-arena.invariant.same) rep

pub loop-arena-preserved : goal.loop-arena-preserved
loop-arena-preserved g c =
    let here = ap (λ (z : CollectorState). z.heap) c.self.view_is in
    let now = joined c.args.self.now.heap (g.F.Flight.bits c.args.flight.now) in
    let same = subst (λ (h : HeapState). joined h (g.F.Flight.bits c.push_gray.new.flight)
    ≡ joined h (g.F.Flight.bits c.loop-arena.flight)) here c.push_gray.ensures.kept.same in
    let more = subst (λ (h : HeapState). c.push_gray.new.names.items ≡ c.loop-arena.names.items
    ++ grays_below (joined h (g.F.Flight.bits c.loop-arena.flight)) c.loop-arena.arena 64) here
    c.in_ok-push_gray.ensures.names in
    record {
      names = grays_more now (λ a. true) c.loop-arena.arena c.loop-arena.names.items c.push_gray.new.names.items
          c.loop-arena.invariant.names refl
          (more ∙ ap (λ (h : HeapState). c.loop-arena.names.items ++ grays_below h c.loop-arena.arena 64)
          c.loop-arena.invariant.same);
      same = same ∙ c.loop-arena.invariant.same;
      covers = subst (λ (h : HeapState). Covers h.shape (g.F.Flight.bits c.push_gray.new.flight)) here
          c.push_gray.ensures.kept.covers;
      origin = c.push_gray.ensures.kept.origin ∙ c.loop-arena.invariant.origin;
    }

pub returns-clause-names : goal.returns-clause-names
returns-clause-names g c w rep settled =
    let here = ap (λ (z : CollectorState). z.heap) c.self.view_is in
    let all = subst (λ (h : HeapState). c.arenas-arena-end.result ≡ length h.shape.arenas) here
    c.arenas-arena-end.ensures in
    let end : c.loop-arena.arena ≡ length c.args.self.now.heap.shape.arenas =
    omega (arith, c.loop-arena-test.false, all, c.loop-arena.auto.arena-end) in
    let moved = subst (λ n.
    IsPermutation (grays_up_to (joined c.args.self.now.heap (g.F.Flight.bits c.args.flight.now)) (λ a. true) n)
    c.sort_unstable.new.self.items) end
    (subst (λ xs. IsPermutation xs c.sort_unstable.new.self.items) c.loop-arena.invariant.names
    c.sort_unstable.ensures.permutation) in
    let sorted : IsSorted name_cmp c.sort_unstable.new.self.items = search rules in
    subst (λ xs. Lists (λ x. IsPresentName w x × (Has w.black x → ⊥)) xs) (sym c.from_vec.ensures)
    (settled_grays c.args.self.now (g.F.Flight.bits c.args.flight.now) w c.sort_unstable.new.self.items
    (calm_marking c.args.self.now (g.F.Flight.bits c.args.flight.now) w settled.none_preparing rep) settled
    moved sorted)

pub returns-clause-same : goal.returns-clause-same
returns-clause-same g c w rep = reads_same c.args.self.now (g.F.Flight.bits c.args.flight.now)
    (g.F.Flight.bits c.loop-arena.flight) w c.loop-arena.invariant.covers c.loop-arena.invariant.same rep

pub returns-in_err-push_gray-clause-heap : goal.returns-in_err-push_gray-clause-heap
returns-in_err-push_gray-clause-heap g c =
    let here = ap (λ (z : CollectorState). z.heap) c.self.view_is in
    subst (λ (h : HeapState). joined h (g.F.Flight.bits c.push_gray.new.flight)
    ≡ joined h (g.F.Flight.bits c.loop-arena.flight)) here c.push_gray.ensures.kept.same ∙ c.loop-arena.invariant.same

pub returns-clause-heap : goal.returns-clause-heap
returns-clause-heap g c = c.loop-arena.invariant.same

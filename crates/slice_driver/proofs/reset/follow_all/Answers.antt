use Rattle.std.proofs.Common.{◌∙◌, ◌+◌, List, [], ap, append-nil, arith, length, slice_get, subst, sym}
use Rattle.gz_names.specs.declared.numbers.Place.{Place}
use Rattle.heap_core.specs.Shape.{ArenaShape, Shape, is_owned}
use Rattle.heap_core.specs.Heap.{joined}
use Rattle.barriers.specs.Colours.{IsBlack}
use Rattle.barriers.specs.Following.{FollowDone}
use Rattle.barriers.specs.Reached.{Reached}
use Rattle.slice_driver.specs.Resets.{MayFollowAll, cells_of, places_in}
use Rattle.slice_driver.proofs.resetting.Followed.{FollowsOn, follows_next, follows_none, may_follow_all, next_here}
use Rattle.slice_driver.proofs.resetting.Followed.{no_cells, owned_made, part_in, rest_among, rest_in, shape_same}
use Rattle.slice_driver.proofs.reset.follow_all.Goals as goal

pub loop-arena-init : goal.loop-arena-init
loop-arena-init g c =
    let cells = places_in c.args.zones.bits 0 c.args.heap.now.shape.arenas in
    subst (λ (xs : List Place). FollowsOn g.F.Flight.bits g.F.Flight.origin cells xs c.args.heap.now c.args.flight.now
    c.args.stack.now c.args.heap.now c.args.flight.now c.args.stack.now) (append-nil cells)
    (follows_none g.F.Flight.bits g.F.Flight.origin g.L.Ledger.name c.args.heap.now c.args.flight.now c.args.stack.now
    cells [] c.requires)

pub follow_arena-requires-clause-made : goal.follow_arena-requires-clause-made
follow_arena-requires-clause-made g c = owned_made c.args.zones.bits c.in-Some.arena c.loop-arena.heap.shape.arenas
    c.in-Some.ensures.owned.1

pub follow_arena-requires-clause-follow : goal.follow_arena-requires-clause-follow
follow_arena-requires-clause-follow g c =
    let arenas = c.args.heap.now.shape.arenas in
    let arena = c.in-Some.arena in
    let rest = rest_in c.args.zones.bits 0 (arena + 1) arenas in
    let same = shape_same g.F.Flight.bits g.F.Flight.origin g.L.Ledger.name c.args.heap.now c.args.flight.now
    c.args.stack.now _ _ c.loop-arena.heap c.loop-arena.flight c.loop-arena.stack c.loop-arena.invariant in
    let next = next_here c.args.zones.bits c.loop-arena.from arena arenas c.in-Some.ensures.owned.0
    (ap (λ (s : Shape). is_owned s c.args.zones.bits arena) (sym same) ∙ c.in-Some.ensures.owned.1)
    (λ o ge lt. ap (λ (s : Shape). is_owned s c.args.zones.bits o) (sym same) ∙ c.in-Some.ensures.lowest o ge lt) in (
      rest,
      subst (λ (xs : List ArenaShape). MayFollowAll g.L.Ledger.name (cells_of arena (slice_get xs arena)) rest
          c.loop-arena.heap (g.F.Flight.bits c.loop-arena.flight) c.loop-arena.stack)
          (ap (λ (s : Shape). s.arenas) (sym same))
          (may_follow_all g.F.Flight.bits g.F.Flight.origin g.L.Ledger.name c.args.heap.now c.args.flight.now
          c.args.stack.now _ _ c.loop-arena.heap c.loop-arena.flight c.loop-arena.stack c.loop-arena.invariant
          (cells_of arena (slice_get arenas arena)) rest next (part_in _ rest _ next) c.requires.counted
          c.requires.outside),
    )

pub loop-arena-smaller : goal.loop-arena-smaller
loop-arena-smaller g c =
    let same = shape_same g.F.Flight.bits g.F.Flight.origin g.L.Ledger.name c.args.heap.now c.args.flight.now
    c.args.stack.now _ _ c.loop-arena.heap c.loop-arena.flight c.loop-arena.stack c.loop-arena.invariant in
    let made = owned_made c.args.zones.bits c.in-Some.arena c.loop-arena.heap.shape.arenas c.in-Some.ensures.owned.1 in
    let count = ap (λ (s : Shape). length s.arenas) same in
    let after = c.in-Some.ensures.owned.0 in
    omega (arith, made, count, after)

pub loop-arena-preserved : goal.loop-arena-preserved
loop-arena-preserved g c =
    let arenas = c.args.heap.now.shape.arenas in
    let arena = c.in-Some.arena in
    let rest = rest_in c.args.zones.bits 0 (arena + 1) arenas in
    let same = shape_same g.F.Flight.bits g.F.Flight.origin g.L.Ledger.name c.args.heap.now c.args.flight.now
    c.args.stack.now _ _ c.loop-arena.heap c.loop-arena.flight c.loop-arena.stack c.loop-arena.invariant in
    let next = next_here c.args.zones.bits c.loop-arena.from arena arenas c.in-Some.ensures.owned.0
    (ap (λ (s : Shape). is_owned s c.args.zones.bits arena) (sym same) ∙ c.in-Some.ensures.owned.1)
    (λ o ge lt. ap (λ (s : Shape). is_owned s c.args.zones.bits o) (sym same) ∙ c.in-Some.ensures.lowest o ge lt) in
    follows_next g.F.Flight.bits g.F.Flight.origin g.L.Ledger.name c.args.heap.now c.args.flight.now c.args.stack.now
    _ _
    c.loop-arena.heap c.loop-arena.flight c.loop-arena.stack c.loop-arena.invariant c.follow_arena.new.heap
    c.follow_arena.new.flight c.follow_arena.new.stack rest rest
    (c.follow_arena.ensures.follows rest
    (subst (λ (xs : List ArenaShape). MayFollowAll g.L.Ledger.name (cells_of arena (slice_get xs arena)) rest
    c.loop-arena.heap (g.F.Flight.bits c.loop-arena.flight) c.loop-arena.stack)
    (ap (λ (s : Shape). s.arenas) (sym same))
    (may_follow_all g.F.Flight.bits g.F.Flight.origin g.L.Ledger.name c.args.heap.now c.args.flight.now
    c.args.stack.now _ _ c.loop-arena.heap c.loop-arena.flight c.loop-arena.stack c.loop-arena.invariant
    (cells_of arena (slice_get arenas arena)) rest next (part_in _ rest _ next) c.requires.counted
    c.requires.outside)))
    (rest_among (cells_of arena (slice_get arenas arena)) rest _ next)

pub returns : goal.returns
returns g c =
    let arenas = c.args.heap.now.shape.arenas in
    let same = shape_same g.F.Flight.bits g.F.Flight.origin g.L.Ledger.name c.args.heap.now c.args.flight.now
    c.args.stack.now _ _ c.loop-arena.heap c.loop-arena.flight c.loop-arena.stack c.loop-arena.invariant in
    subst (λ (xs : List Place). FollowDone g.F.Flight.bits g.F.Flight.origin
    (Reached c.args.heap.now.shape (IsBlack (joined c.args.heap.now (g.F.Flight.bits c.args.flight.now)))) xs
    c.args.heap.now c.args.flight.now c.args.stack.now c.loop-arena.heap c.loop-arena.flight c.loop-arena.stack)
    (no_cells c.args.zones.bits 0 c.loop-arena.from arenas
    (λ o ge. ap (λ (s : Shape). is_owned s c.args.zones.bits o) (sym same) ∙ c.in_default.ensures.none o ge))
    c.loop-arena.invariant.done

use Rattle.arena_table.proofs.Visiting.{IsListing-first, IsListing-next}
use Rattle.arena_table.proofs.arenas.jobs_in_zones.Goals as goal

pub loop-arena-init : goal.loop-arena-init
loop-arena-init c = IsListing-first c.args.store.now.arenas c.args.zones.bits c.in_ok-jobs.jobs.items c.over-walk.result
    c.in_ok-jobs.ensures.items (c.over-walk.ensures.rest c.args.store.now.arenas) c.over-walk.ensures.below

pub loop-arena-preserved : goal.loop-arena-preserved
loop-arena-preserved c =
    rw c.in_ok-push.ensures.items
    (IsListing-next c.args.store.now.arenas c.args.zones.bits c.loop-arena.jobs.items c.loop-arena.walk c.next.new.self
    c.in-Some.arena c.head-head.result.now c.loop-arena.invariant (c.in-Some.ensures.some _ c.requires)
    c.in-Some.ensures.below c.head-head.ensures.head)

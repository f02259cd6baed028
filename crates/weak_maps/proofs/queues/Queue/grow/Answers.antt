use Rattle.std.proofs.Common.{arith}
use Rattle.weak_maps.proofs.Queueing.{IsQueue-grown, fewer_wait}
use Rattle.weak_maps.proofs.queues.Queue.grow.Goals as goal

pub invariant_of-self-2 : goal.invariant_of-self-2
invariant_of-self-2 c =
    let few = fewer_wait c.self.inside.waiting.items _ c.self.inside.waits.items c.self.invariant in
    let room = c.in_ok-reserve.ensures.ok in
    rw (c.in_ok-push.ensures.items, c.reserve.ensures.items)
    (IsQueue-grown c.self.inside.waiting.items _ _ c.self.inside.waits.items c.self.invariant
    (omega (arith, few, room)))

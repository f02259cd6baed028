use Rattle.barriers.proofs.Queueing.{delayed_instead, delayed_is_pending, pushed_pending}
use Rattle.barriers.proofs.pending.queue.Goals as goal

pub delay-requires-clause-fresh : goal.delay-requires-clause-fresh
delay-requires-clause-fresh c =
    λ d. c.requires.fresh (delayed_is_pending c.args.heap.now c.args.stack.now c.args.pile c.args.place d)

pub returns-then-push-clause-more : goal.returns-then-push-clause-more
returns-then-push-clause-more c = rw c.fetch.ensures
    (pushed_pending c.args.heap.now c.args.stack.now c.push.new.self c.args.pile c.args.place c.if-push.ensures.1)

pub returns-else-push-clause-more : goal.returns-else-push-clause-more
returns-else-push-clause-more c =
    delayed_instead c.args.heap.now c.delay.new.self c.args.stack.now c.push.new.self c.args.pile c.args.place
    c.if-push.ensures.1 c.delay.ensures.more

use Rattle.barriers.proofs.Queueing.{none_left_pending, popped_pending, undelayed}
use Rattle.barriers.proofs.pending.next_pending.Goals as goal

pub returns-in-Some-clause-some : goal.returns-in-Some-clause-some
returns-in-Some-clause-some c =
    popped_pending c.args.heap.now c.args.stack.now c.pop.new.self c.args.pile c.in-Some.place c.in-Some.ensures.some

pub returns-clause-some : goal.returns-clause-some
returns-clause-some c =
    undelayed c.args.heap.now c.next_delayed.new.self c.args.stack.now c.pop.new.self c.args.pile c.next_delayed.result
    c.in_default.ensures.none.1 c.next_delayed.ensures.some

pub returns-clause-none : goal.returns-clause-none
returns-clause-none c =
    none_left_pending c.args.heap.now c.next_delayed.new.self c.args.stack.now c.pop.new.self c.args.pile
    c.next_delayed.result c.in_default.ensures.none.1 c.in_default.ensures.none.0 c.next_delayed.ensures.none

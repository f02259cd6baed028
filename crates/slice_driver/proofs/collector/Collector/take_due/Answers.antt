use Rattle.std.proofs.Common.{rules}
use Rattle.slice_driver.proofs.taking_in.TakingDue.{due_does, due_flies, due_freed, due_keeps, due_lowers, due_out}
use Rattle.slice_driver.proofs.taking_in.TakingDue.{due_to_come, some_left}
use Rattle.slice_driver.proofs.collector.Collector.take_due.Goals as goal

pub unreachable-requires : goal.unreachable-requires
unreachable-requires g c = due_flies c.args.self.now (g.F.Flight.bits c.args.flight.now) c.args.arena
    c.requires.ready.sound c.requires.lowest (c.is_empty.ensures.none_held c.if-is_empty.true)

pub take_lowest-taken-requires : goal.take_lowest-taken-requires
take_lowest-taken-requires g c = some_left c.is_empty.result (g.F.Sweeping.left (g.F.Flight.origin c.args.flight.now))
    c.is_empty.ensures.none_left c.if-is_empty.false

pub take_one_into-requires : goal.take_one_into-requires
take_one_into-requires g c = record {
  lowest = c.requires.lowest;
  freed = due_freed _ _ _ _ _ _ _ c.requires.ready.sound c.requires.lowest c.requires.ready.out
      c.take_lowest-taken.ensures.taken;
  running = c.requires.ready.running;
}

pub returns-clause-takes : goal.returns-clause-takes
returns-clause-takes g c =
    let ready = c.requires.ready in
    let taken = c.take_lowest-taken.ensures.taken in
    let took = c.take_one_into.ensures.takes in
    record {
      done = due_does _ _ _ _ _ _ _ ready.sound c.requires.lowest ready.out taken c.take_one_into.new.self _ took.done;
      left = due_lowers _ _ _ _ _ _ _ ready.sound c.requires.lowest ready.out taken c.take_one_into.new.self took.left;
      to_come = due_to_come _ _ _ _ _ _ _ ready.sound c.requires.lowest ready.out taken c.take_one_into.new.self
          took.to_come;
      finished = took.finished;
      sound = due_keeps _ _ _ _ _ _ _ ready.sound c.requires.lowest ready.out taken c.take_one_into.new.self took.sound;
      out = due_out _ _ _ _ _ _ _ ready.sound c.requires.lowest ready.out taken c.take_one_into.new.self took.words;
      home = search rules;
      made = took.made;
      ledger = took.ledger;
      weak = took.weak;
    }

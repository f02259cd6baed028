use Rattle.heap_core.proofs.Planned.{planned-here}
use Rattle.par_mark.proofs.TestHeaps.{after, has_room, sound_of}
use Rattle.par_mark.proofs.heap_tests.TestHeap.step.Goals as goal

pub resolve-requires : goal.resolve-requires
resolve-requires c = record { sound = sound_of c.self.inside.heap c.self.invariant }

pub commit-requires-clause-sound : goal.commit-requires-clause-sound
commit-requires-clause-sound c = sound_of c.self.inside.heap c.self.invariant

pub commit-requires-clause-able : goal.commit-requires-clause-able
commit-requires-clause-able c =
    (planned-here c.self.inside.heap c.args.cmd.now c.in-Ok.plan c.in-Ok.ensures.plan).able
    (has_room c.self.inside.heap c.args.cmd.now (c.is_full.ensures c.if-is_full.false)) c.requires

pub invariant_of-self : goal.invariant_of-self
invariant_of-self c = after c.self.inside.heap _ c.args.cmd.now c.in-Ok.plan _ c.self.invariant c.requires
    c.in-Ok.ensures.plan c.commit.ensures.change c.commit.ensures.err

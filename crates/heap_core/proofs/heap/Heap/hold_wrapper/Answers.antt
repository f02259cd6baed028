use Rattle.heap_core.proofs.Wrapped.{one_zone}
use Rattle.heap_core.proofs.heap.Heap.hold_wrapper.Goals as goal

pub make_wrapper-requires-clause-one_zone : goal.make_wrapper-requires-clause-one_zone
make_wrapper-requires-clause-one_zone c = λ z e m is. one_zone c.args.self.now c.requires.sound.0 c.args.c c.args.zone z
    e c.requires.sound.1 c.requires.home m is

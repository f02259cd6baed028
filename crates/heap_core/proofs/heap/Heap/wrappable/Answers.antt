use Rattle.heap_core.proofs.Seen.{target_present}
use Rattle.heap_core.proofs.heap.Heap.wrappable.Goals as goal

pub returns-clause-present : goal.returns-clause-present
returns-clause-present c =
    rw c.target.ensures (target_present c.args.self.now c.requires.sound.0 c.args.s c.in-Some.place c.requires.sound.1
    (cc))

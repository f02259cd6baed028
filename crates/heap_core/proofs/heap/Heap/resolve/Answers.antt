use Rattle.heap_core.specs.Heap.{with_marks}
use Rattle.heap_core.proofs.Resolved.{plans-copy, plans-drop, plans-expose, plans-hold, plans-release, shows_coloured}
use Rattle.heap_core.proofs.heap.Heap.resolve.Goals as goal

pub returns-in-Copy-clause-plan : goal.returns-in-Copy-clause-plan
returns-in-Copy-clause-plan c =
    rw (c.in-Copy.is, c.of.ensures, c.reg.ensures.value)
    (λ ds d. plans-copy (with_marks c.args.self.now ds d) c.requires.sound.0 c.in-Copy.r c.in-Copy.s
    (shows_coloured c.args.self.now ds d c.requires.sound.0 c.requires.sound.1))

pub returns-in-Drop-clause-plan : goal.returns-in-Drop-clause-plan
returns-in-Drop-clause-plan c =
    rw (c.in-Drop.is, c.of-in-Drop.ensures) (λ ds d. plans-drop (with_marks c.args.self.now ds d) c.in-Drop.r)

pub returns-in-Hold-clause-plan : goal.returns-in-Hold-clause-plan
returns-in-Hold-clause-plan c = rw (c.in-Hold.is, c.of-in-Hold.ensures, c.reg-in-Hold.ensures.value)
    (λ ds d. plans-hold (with_marks c.args.self.now ds d) c.requires.sound.0 c.in-Hold.g c.in-Hold.r
    (shows_coloured c.args.self.now ds d c.requires.sound.0 c.requires.sound.1))

pub returns-in-Release-clause-plan : goal.returns-in-Release-clause-plan
returns-in-Release-clause-plan c =
    rw (c.in-Release.is, c.of-in-Release.ensures)
    (λ ds d. plans-release (with_marks c.args.self.now ds d) c.in-Release.g)

pub returns-in-Expose-clause-plan : goal.returns-in-Expose-clause-plan
returns-in-Expose-clause-plan c = rw (c.in-Expose.is, c.of-in-Expose.ensures, c.slot.ensures.value)
    (λ ds d. plans-expose (with_marks c.args.self.now ds d) c.requires.sound.0 c.in-Expose.r c.in-Expose.g
    (shows_coloured c.args.self.now ds d c.requires.sound.0 c.requires.sound.1))

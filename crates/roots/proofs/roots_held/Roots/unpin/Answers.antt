use Rattle.std.proofs.Common.{None, refl}
use Rattle.roots.proofs.PinnedRoots.{set-pinned, slots-removed}
use Rattle.roots.proofs.roots_held.Roots.unpin.Goals as goal

pub returns-clause-rest : goal.returns-clause-rest
returns-clause-rest c =
    let held = c.self.inside in
    let left = slots-removed held.pinned c.try_remove.new.self c.args.root c.try_remove.result
    c.try_remove.ensures.value c.try_remove.ensures.slots c.try_remove.ensures.absent in
    rw (← c.self.view_is, set-pinned held.regs c.self.invariant.3 held.pinned.slots c.args.root None, ← left) refl

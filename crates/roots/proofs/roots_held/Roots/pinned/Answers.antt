use Rattle.std.proofs.Common.{◌∙◌, sym}
use Rattle.roots.proofs.PinnedRoots.{held-pinned}
use Rattle.roots.proofs.roots_held.Roots.pinned.Goals as goal

pub returns : goal.returns
returns c = rw (← c.self.view_is)
    (c.copied.ensures
    ∙ (c.get.ensures ∙ sym (held-pinned c.self.inside.regs c.self.invariant.3 c.self.inside.pinned.slots c.args.root)))

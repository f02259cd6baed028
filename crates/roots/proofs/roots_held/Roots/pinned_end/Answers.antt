use Rattle.std.proofs.Common.{None, ◌∙◌, arith}
use Rattle.std.proofs.lemmas.List.{get_or_past}
use Rattle.roots.proofs.PinnedRoots.{held-pinned}
use Rattle.roots.proofs.roots_held.Roots.pinned_end.Goals as goal

pub returns : goal.returns
returns c = λ root past.
    rw (← c.self.view_is) (held-pinned c.self.inside.regs c.self.invariant.3 c.self.inside.pinned.slots root
    ∙ get_or_past c.self.inside.pinned.slots root None (omega (arith, c.capacity.ensures.slots)))

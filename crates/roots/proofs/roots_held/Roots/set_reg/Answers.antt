use Rattle.std.proofs.Common.{arith, refl}
use Rattle.std.proofs.lemmas.List.{set-append_left}
use Rattle.roots.proofs.roots_held.Roots.set_reg.Goals as goal

pub returns : goal.returns
returns c =
    let held = c.self.inside in
    rw (
      ← c.self.view_is,
      ← c.index.ensures.value,
      set-append_left held.regs held.pinned.slots c.index.result c.args.v
          (omega (arith, c.self.invariant.3)),
    ) refl

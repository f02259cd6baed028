use Rattle.std.proofs.Common.{◌∙◌, refl}
use Rattle.roots.proofs.PinnedRoots.{held-pinned, others-pinned}
use Rattle.roots.proofs.roots_held.Roots.pin.Goals as goal

pub returns-clause-pins : goal.returns-clause-pins
returns-clause-pins c =
    let regs = c.self.inside.regs in
    let sixteen = c.self.invariant.3 in
    let root = c.in_ok-insert.field-0 in
    let updates = c.in_ok-insert.ensures.updates in
    rw (← c.self.view_is) (record {
      rest = refl;
      free = held-pinned regs sixteen c.self.inside.pinned.slots root ∙ c.in_ok-insert.ensures.was_vacant;
      held = held-pinned regs sixteen c.insert.new.self.slots root ∙ updates.changed;
      others = others-pinned regs sixteen c.self.inside.pinned c.insert.new.self root _ updates;
    })

use Rattle.std.proofs.Common.{◌∙◌}
use Rattle.weak_maps.specs.WeakMaps.{state_with}
use Rattle.weak_maps.proofs.Kept.{IsSound-kept, entry_listed, no_entry_listed}
use Rattle.weak_maps.proofs.tables.WeakMaps.entries_of_delegate.Goals as goal

pub returns-in_err-key-clause-sound : goal.returns-in_err-key-clause-sound
returns-in_err-key-clause-sound c =
    rw (← c.self.view_is) (IsSound-kept c.self.inside.entries c.self.inside.delegates c.self.invariant)

pub returns-clause-sound : goal.returns-clause-sound
returns-clause-sound c =
    rw (← c.self.view_is) (IsSound-kept c.self.inside.entries c.self.inside.delegates c.self.invariant)

pub returns-in_err-key-clause-entry : goal.returns-in_err-key-clause-entry
returns-in_err-key-clause-entry c =
    let sound = IsSound-kept c.self.inside.entries c.self.inside.delegates c.self.invariant in
    c.from_residual.ensures
    ∙ rw (← c.self.view_is)
    (no_entry_listed (state_with c.self.inside.entries c.self.inside.delegates).table sound c.args.target c.args.index
    c.in_err-key.ensures.key)

pub returns-clause-entry : goal.returns-clause-entry
returns-clause-entry c =
    let sound = IsSound-kept c.self.inside.entries c.self.inside.delegates c.self.invariant in
    c.entry_of.ensures
    ∙ rw (← c.self.view_is)
    (entry_listed (state_with c.self.inside.entries c.self.inside.delegates).table sound c.args.target c.args.index
    c.in_ok-key.key c.in_ok-key.ensures.key)

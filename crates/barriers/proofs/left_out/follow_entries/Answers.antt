use Rattle.std.proofs.Common.{◌∷◌, [], sym, ◌∙◌}
use Rattle.barriers.proofs.LeftOut.{left_out_walk}
use Rattle.barriers.proofs.Walks.{listed_end, listed_held, listed_smaller, listed_step}
use Rattle.barriers.proofs.left_out.follow_entries.Goals as goal

pub follow_entry-requires-clause-holds : goal.follow_entry-requires-clause-holds
follow_entry-requires-clause-holds c = (c.args.place ∷ [], c.loop-entry.invariant.holds)

pub follow_entry-requires-clause-entry : goal.follow_entry-requires-clause-entry
follow_entry-requires-clause-entry c =
    listed_held (left_out_walk (c.args.place ∷ [])) c.args.part c.args.place c.loop-entry.index _ _ _ _
    c.loop-entry.invariant c.in-Some.entry c.entry_of.ensures.sound (sym c.entry_of.ensures.entry ∙ c.in-Some.is)

pub loop-entry-smaller : goal.loop-entry-smaller
loop-entry-smaller c =
    let did = c.follow_entry.ensures.step (c.args.place ∷ []) c.loop-entry.invariant.holds in
    listed_smaller (left_out_walk (c.args.place ∷ [])) c.args.part c.args.place c.loop-entry.index _ _ _ _
    c.loop-entry.invariant _ c.in-Some.entry _ _ (sym c.entry_of.ensures.entry ∙ c.in-Some.is)
    did.grows

pub loop-entry-preserved : goal.loop-entry-preserved
loop-entry-preserved c =
    let did = c.follow_entry.ensures.step (c.args.place ∷ []) c.loop-entry.invariant.holds in
    listed_step (left_out_walk (c.args.place ∷ [])) c.args.part c.args.place c.loop-entry.index _ _ _ _
    c.loop-entry.invariant c.in-Some.entry _ _ (sym c.entry_of.ensures.entry ∙ c.in-Some.is)
    did.grows did.holds c.follow_entry.ensures.followed

pub returns-clause-step : goal.returns-clause-step
returns-clause-step c = record { holds = c.loop-entry.invariant.holds; grows = c.loop-entry.invariant.grows }

pub returns-clause-entries : goal.returns-clause-entries
returns-clause-entries c =
    listed_end (left_out_walk (c.args.place ∷ [])) c.args.part c.args.place c.loop-entry.index _ _ _ _
    c.loop-entry.invariant _ c.entry_of.ensures.entry c.in_default.is c.entry_of.ensures.sound c.requires.colours.shape

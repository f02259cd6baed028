use Rattle.std.proofs.Common.{sym, ◌∙◌}
use Rattle.barriers.proofs.Loops.{marking_walk}
use Rattle.barriers.proofs.Walks.{listed_end, listed_held, listed_smaller, listed_step}
use Rattle.barriers.proofs.woken.follow_some_entries.Goals as goal

pub follow_entry-requires-clause-holds : goal.follow_entry-requires-clause-holds
follow_entry-requires-clause-holds g c =
    (c.requires.holds.0, (c.loop-entry.invariant.seen c.requires.holds.0 c.requires.holds.1).holds)

pub follow_entry-requires-clause-entry : goal.follow_entry-requires-clause-entry
follow_entry-requires-clause-entry g c =
    listed_held (marking_walk c.requires.holds.0) c.args.part c.args.place c.loop-entry.index _ _ _ _
    (c.loop-entry.invariant.seen c.requires.holds.0 c.requires.holds.1) c.in-Some.entry c.entry_of.ensures.sound
    (sym c.entry_of.ensures.entry ∙ c.in-Some.is)

pub loop-entry-smaller : goal.loop-entry-smaller
loop-entry-smaller g c =
    let seen = c.loop-entry.invariant.seen c.requires.holds.0 c.requires.holds.1 in
    listed_smaller (marking_walk c.requires.holds.0) c.args.part c.args.place c.loop-entry.index _ _ _ _ seen _
    c.in-Some.entry _ _ (sym c.entry_of.ensures.entry ∙ c.in-Some.is)
    (c.follow_entry.ensures.follows c.requires.holds.0 seen.holds).grows

pub loop-entry-preserved : goal.loop-entry-preserved
loop-entry-preserved g c =
    let seen = c.loop-entry.invariant.seen c.requires.holds.0 c.requires.holds.1 in
    let did = c.follow_entry.ensures.follows c.requires.holds.0 seen.holds in
    record {
      seen = λ followed holds.
          let before = c.loop-entry.invariant.seen followed holds in
          let after = c.follow_entry.ensures.follows followed before.holds in
          listed_step (marking_walk followed) c.args.part c.args.place c.loop-entry.index _ _ _ _ before
          c.in-Some.entry _ _ (sym c.entry_of.ensures.entry ∙ c.in-Some.is) after.grows after.holds
          c.follow_entry.ensures.followed;
      covers = did.covers;
      origin = did.origin ∙ c.loop-entry.invariant.origin;
    }

pub returns : goal.returns
returns g c = record {
  follows = λ followed holds. (let seen = c.loop-entry.invariant.seen followed holds in record {
    holds = seen.holds;
    grows = seen.grows;
    covers = c.loop-entry.invariant.covers;
    origin = c.loop-entry.invariant.origin;
  });
  entries = listed_end (marking_walk c.requires.holds.0) c.args.part c.args.place c.loop-entry.index _ _ _ _
      (c.loop-entry.invariant.seen c.requires.holds.0 c.requires.holds.1) _ c.entry_of.ensures.entry c.in_default.is
      c.entry_of.ensures.sound c.requires.holds.1.colours.shape;
}

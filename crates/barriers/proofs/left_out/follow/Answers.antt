use Rattle.std.proofs.Common.{◌∷◌, []}
use Rattle.barriers.proofs.LeftOut.{follow_holds, grows_along, left_out_walk}
use Rattle.barriers.proofs.Walks.{FollowSteps, follow_grows}
use Rattle.barriers.proofs.left_out.follow.Goals as goal

pub follow_entries-requires : goal.follow_entries-requires
follow_entries-requires g c = c.scan.ensures.step.holds

pub follow_entries-requires-2 : goal.follow_entries-requires-2
follow_entries-requires-2 g c = c.follow_entries.ensures.step.holds

pub follow_entries-requires-3 : goal.follow_entries-requires-3
follow_entries-requires-3 g c = c.follow_entries-2.ensures.step.holds

pub returns-clause-step : goal.returns-clause-step
returns-clause-step g c =
    let w = left_out_walk (c.args.place ∷ []) in
    let steps : FollowSteps w _ _ _ _ _ _ _ _ _ _ = record {
      scan = grows_along _ _ c.args.place _ _ c.requires.counts c.requires.black c.scan.ensures.step.grows;
      as_map = c.follow_entries.ensures.step.grows;
      as_key = c.follow_entries-2.ensures.step.grows;
      as_delegate = c.follow_entries-3.ensures.step.grows;
    } in
    record {
      holds = follow_holds c.args.place _ _ _ _ _ _ _ _ _ _ steps c.follow_entries-3.ensures.step.holds
          c.scan.ensures.edges c.follow_entries.ensures.entries c.follow_entries-2.ensures.entries
          c.follow_entries-3.ensures.entries;
      grows = follow_grows w c.args.place _ _ _ _ _ _ _ _ _ _ steps;
    }

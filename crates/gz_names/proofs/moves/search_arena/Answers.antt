use Rattle.std.proofs.Common.{◌≢◌, All, MatchResult, subst, rules}
use Rattle.std.proofs.lemmas.List.Sorted.{answers_always}
use Rattle.gz_names.specs.Moves.{StandsAt}
use Rattle.gz_names.proofs.Moving.{searched}
use Rattle.gz_names.proofs.moves.search_arena.Goals as goal

pub returns-in-Ok : goal.returns-in-Ok
returns-in-Ok c =
    let facts = c.binary_search_by_key.ensures in
    let looked = searched c.args.arenas.now c.requires c.args.arena c.binary_search_by_key.result facts.bound
    (facts.position (λ leaving. leaving.arena) (answers_always _ _ _ (λ f a r g called. search rules))) in
    subst (λ r. MatchResult r (StandsAt c.args.arenas.now c.args.arena)
    (λ k. All (λ a. a.arena ≢ c.args.arena) c.args.arenas.now)) c.in-Ok.is looked

pub returns-in-Err : goal.returns-in-Err
returns-in-Err c =
    let facts = c.binary_search_by_key.ensures in
    let looked = searched c.args.arenas.now c.requires c.args.arena c.binary_search_by_key.result facts.bound
    (facts.position (λ leaving. leaving.arena) (answers_always _ _ _ (λ f a r g called. search rules))) in
    subst (λ r. MatchResult r (StandsAt c.args.arenas.now c.args.arena)
    (λ k. All (λ a. a.arena ≢ c.args.arena) c.args.arenas.now)) c.in-Err.is looked

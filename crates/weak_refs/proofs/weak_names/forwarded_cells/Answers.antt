use Rattle.std.proofs.Common.{◌≡◌, ◌<◌, ◌∷◌, ◌++◌, [], if◌then◌else◌, List, Contains, length, map, take, sym, ap, ◌∙◌}
use Rattle.std.proofs.Common.{subst, arith}
use Rattle.std.specs.List.{IsDistinct}
use Rattle.std.proofs.lemmas.List.{map_more}
use Rattle.indexmap.specs.IndexSet.{insert_key}
use Rattle.gz_names.specs.Moves.{GoApart, moved}
use Rattle.gz_names.specs.declared.numbers.Place.{Place}
use Rattle.weak_refs.specs.WeakNames.{is_same}
use Rattle.weak_refs.proofs.Forwarding.{goes_anew}
use Rattle.weak_refs.proofs.weak_names.forwarded_cells.Goals as goal

pub loop-place-preserved : goal.loop-place-preserved
loop-place-preserved c =
    let moves = c.args.moves.now in
    let cells = c.as_slice-place-items.result.now in
    let i = c.loop-place.place-index in
    let place = c.place-item.result in
    let same : cells ≡ c.args.cells.now.keys = c.as_slice-place-items.ensures.keys in
    let within : i < length cells = omega arith in
    let anew = goes_anew moves cells i place
    (subst (λ (l : List Place). GoApart (Contains l) moves) (sym same) c.requires)
    (subst (IsDistinct is_same) (sym same) c.as_slice-place-items.ensures.unique) within c.place-item.is in
    let before = map (moved moves) (take i cells) in
    c.in_ok-insert.ensures.keys
    ∙ ap (λ (ks : List Place). insert_key is_same ks c.moved_to.result) c.loop-place.invariant
    ∙ ap (insert_key is_same before) c.moved_to.ensures.moved
    ∙ ap (λ b. if b then before else before ++ moved moves place ∷ []) anew
    ∙ ap (λ (p : Place). before ++ moved moves p ∷ []) c.place-item.is
    ∙ sym (map_more (moved moves) cells i place within)

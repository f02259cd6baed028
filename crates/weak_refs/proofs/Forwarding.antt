-- A set of cells, where they have gone.
use Rattle.std.proofs.Common.{◌≡◌, ◌≢◌, ◌<◌, ◌+◌, ◌&&◌, ◌||◌, ◌==◌, ℕ, zero, suc, Bool, true, false, List, [], ◌∷◌}
use Rattle.std.proofs.Common.{length}
use Rattle.std.proofs.Common.{get_or, map, take, Contains, Decides, refl, sym, ap, ◌∙◌, subst, arith}
use Rattle.std.specs.List.{list_any, IsDistinct}
use Rattle.std.proofs.lemmas.Bool.{false≢true}
use Rattle.std.proofs.lemmas.List.{get_or-map, get_or-take, length-map, length-take-le}
use Rattle.std.proofs.lemmas.List.Elements.{Contains-get_or}
use Rattle.std.proofs.lemmas.Map.Made.{AllPairs-from_IsDistinct}
use Rattle.gz_names.proofs.Moving.{same-true, same-apart, same-places, moved-apart}
use Rattle.gz_names.specs.Moves.{GoApart, moved}
use Rattle.gz_names.specs.declared.moves.Move.{Move}
use Rattle.gz_names.specs.declared.numbers.Place.{Place}
use Rattle.weak_refs.specs.WeakNames.{is_same}

-- equality of places, as a test
decided : (p q : Place) → Decides (is_same p q) (p ≡ q)
decided p q = (same-places p q, λ e. subst (λ x. is_same p x ≡ true) e (same-true p))

-- a place that is none of some is not found among them
none_is : (p : Place) (ps : List Place) → ((k : ℕ) (d : Place) → k < length ps → get_or ps k d ≢ p)
    → list_any (is_same p) ps ≡ false
none_is p [] other = refl
none_is p (q ∷ ps) other =
    ap (λ b. b || list_any (is_same p) ps) (same-apart p q (λ e. other 0 p (omega arith) (sym e)))
    ∙ none_is p ps (λ k d lt. other (suc k) d (omega (arith, lt)))

-- a cell goes where none of those before it went
pub goes_anew : (ms : List Move) (cells : List Place) (i : ℕ) (p : Place) → GoApart (Contains cells) ms
    → IsDistinct is_same cells → i < length cells → p ≡ get_or cells i p
    → list_any (is_same (moved ms p)) (map (moved ms) (take i cells)) ≡ false
goes_anew ms cells i p goes distinct within at = none_is (moved ms p) (map (moved ms) (take i cells)) (λ k d lt same.
    (let few : length (take i cells) ≡ i = length-take-le i cells (omega (arith, within)) in
    let mapped : length (map (moved ms) (take i cells)) ≡ length (take i cells) = length-map (take i cells) (moved ms)
    in
    let before : k < i = omega (arith, lt, few, mapped) in
    let read : get_or (map (moved ms) (take i cells)) k d ≡ moved ms (get_or cells k p) =
    get_or-map (moved ms) (take i cells) k p d (omega (arith, lt, mapped))
    ∙ ap (moved ms) (get_or-take i cells k p before) in
    let held : Contains cells p = subst (Contains cells) (sym at) (Contains-get_or cells i p within) in
    let one = moved-apart (Contains cells) ms goes (get_or cells k p) p
    (Contains-get_or cells k p (omega (arith, before, within))) held (sym read ∙ same) in
    AllPairs-from_IsDistinct decided cells distinct k i p before within (one ∙ at)))

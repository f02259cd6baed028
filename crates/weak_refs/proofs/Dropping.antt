-- What dead cells leave of slots and of the watched set.
use Rattle.std.proofs.Common.{◌≡◌, ℕ, zero, suc, Bool, true, false, not, refl, ap, List, ◌∷◌, Option, None, map}
use Rattle.std.proofs.Common.{filter, replicate}
use Rattle.std.specs.List.Retain.{IsFiltered}
use Rattle.std.proofs.lemmas.Fn.{filter_same}
use Rattle.gz_names.specs.declared.numbers.Place.{Place}
use Rattle.weak_refs.specs.WeakNames.{AnswersBy, unless_dead}

flip : (b t : Bool) → not b ≡ t → b ≡ not t
flip true t e = ap not e
flip false t e = ap not e

-- what `retain` keeps, where its closure answers the contrary of a test of the dead
pub filter_dead : {F : Type 0} (R : F → Place → Bool → F → Type 0) (ask : Place → Bool → Type 0)
    (is_dead : Place → Bool) → AnswersBy ask is_dead → (f : F)
    → ((x : Place) (b : Bool) (g : F) → R f x b g → ask x (not b) × (g ≡ f)) → (xs ys : List Place)
    → IsFiltered R f xs ys → ys ≡ filter (λ place. not (is_dead place)) xs
filter_dead R ask is_dead says f calls xs ys h =
    filter_same R (λ place. not (is_dead place)) f
    (λ x b g r. (let c = calls x b g r in (flip b (is_dead x) (says x (not b) c.0), c.1))) xs ys h

-- empty slots stay empty
pub none_dead : (is_dead : Place → Bool) (n : ℕ) → replicate n None ≡ map (unless_dead is_dead) (replicate n None)
none_dead is_dead zero = refl
none_dead is_dead (suc n) = ap (λ (xs : List (Option Place)). None ∷ xs) (none_dead is_dead n)

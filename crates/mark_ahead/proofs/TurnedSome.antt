-- Some cells turned black, one after another.
use Rattle.std.proofs.Common.{◌≡◌, ◌<◌, ◌+◌, ◌++◌, ◌∷◌, ◌∙◌, [], ℕ, suc, List, inl, inr, sym, ap, subst, arith}
use Rattle.std.proofs.Common.{length, get_or, take}
use Rattle.std.proofs.Common.{Contains, map, take-suc}
use Rattle.std.proofs.lemmas.List.{map-append}
use Rattle.std.proofs.lemmas.List.Elements.{Contains-append_left, Contains-push, Contains-push_cases}
use Rattle.gz_names.specs.declared.numbers.Place.{Place}
use Rattle.mark_stack.specs.Stack.{Piles}
use Rattle.heap_core.specs.Heap.{HeapState}
use Rattle.barriers.specs.Colours.{IsBlack}
use Rattle.barriers.specs.Invariant.{InvariantWhile}
use Rattle.barriers.specs.Spreading.{Grows, Turns}
use Rattle.barriers.proofs.Spreading.{grows_more}
use Rattle.barriers.proofs.Turning.{turn_effect}

pub record TurnedSome (followed xs : List Place) (h : HeapState) (p : Piles) (k : HeapState) (q : Piles) : Type 0 where
  pub holds : InvariantWhile followed k q
  pub grows : Grows (Contains xs) h p k q
  pub black : (x : Place) → Contains xs x → IsBlack k x

pub one_turned : (followed xs : List Place) (h : HeapState) (p : Piles) (k : HeapState) (q : Piles) (x : Place)
    (l : HeapState) (r : Piles) → TurnedSome followed xs h p k q → Turns k q x l r
    → TurnedSome followed (xs ++ x ∷ []) h p l r
one_turned followed xs h p k q x l r was turns =
    let ef = turn_effect k q x l r turns in
    record {
      holds = ef.invariant followed was.holds;
      grows = grows_more (Contains xs) (λ y. y ≡ x) (Contains (xs ++ x ∷ [])) h p k q l r was.grows ef.grows
          (λ y c. Contains-append_left xs (x ∷ []) y c)
          (λ y e. subst (λ z. Contains (xs ++ x ∷ []) z) (sym e) (Contains-push xs x));
      black = λ y c. elim (Contains-push_cases xs x y c) [
        | inl before ↦ ef.grows.spreads.blackens.kept y (was.black y before)
        | inr is ↦ subst (λ z. IsBlack l z) is ef.is_black
      ];
    }

-- one element more of a list
pub take_more : {X : Type 0} (xs : List X) (i : ℕ) (x : X) → i < length xs → x ≡ get_or xs i x
    → take (i + 1) xs ≡ take i xs ++ x ∷ []
take_more xs i x within is =
    let next : i + 1 ≡ suc i = omega arith in
    ap (λ n. take n xs) next ∙ (take-suc xs i x within ∙ ap (λ y. take i xs ++ y ∷ []) (sym is))

-- and of what it is mapped to
pub map_more : {X Y : Type 0} (f : X → Y) (xs : List X) (i : ℕ) (x : X) → i < length xs → x ≡ get_or xs i x
    → (ys zs : List Y) → ys ≡ map f (take i xs) → zs ≡ ys ++ f x ∷ [] → zs ≡ map f (take (i + 1) xs)
map_more f xs i x within is ys zs was more =
    more ∙ (ap (λ us. us ++ f x ∷ []) was ∙ (sym (map-append f (take i xs) (x ∷ []))
    ∙ sym (ap (map f) (take_more xs i x within is))))

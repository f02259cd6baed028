-- A place comes onto a pile, or leaves it.
use Rattle.std.proofs.Common.{◌≡◌, ◌≢◌, ◌∷◌, ◌++◌, [], List, Option, Some, None, IfSome}
use Rattle.std.proofs.Common.{refl, subst, sym}
use Rattle.std.specs.Option.{option_to_list}
use Rattle.std.specs.List.Sorted.{IsPermutation}
use Rattle.std.proofs.lemmas.List.Sorted.{IsPermutation-sym, IsPermutation-to_front}
use Rattle.gz_names.specs.declared.numbers.Place.{Place}
use Rattle.mark_stack.specs.declared.stack.Pile.{Pile}
use Rattle.mark_stack.specs.declared.stack.Pile.TheVariants as pile
use Rattle.mark_stack.specs.Stack.{Piles, IsPushed, pile_of}

-- the last of a list may as well be its first
pub last_first : {X : Type 0} (xs : List X) (x : X) → IsPermutation (x ∷ xs) (xs ++ x ∷ [])
last_first xs x = IsPermutation-sym (xs ++ x ∷ []) (x ∷ xs) (IsPermutation-to_front xs x)

-- so the last that is taken may as well have been the first
pub popped : {X : Type 0} (last : Option X) (xs ys : List X) → xs ≡ ys ++ option_to_list last
    → IfSome last (λ x. IsPermutation (x ∷ ys) xs)
popped None xs ys e = tt
popped (Some x) xs ys e = subst (IsPermutation (x ∷ ys)) (sym e) (last_first ys x)

pub pushed_black : (p : Piles) (x : Place) (more : List Place) → IsPermutation (x ∷ p.black) more
    → IsPushed p pile.Black x (record p { black = more })
pushed_black p x more m = record { more = m; others = others }
  where
    others : (other : Pile) → other ≢ pile.Black → pile_of (record p { black = more }) other ≡ pile_of p other
    others pile.Black ne = absurd (ne refl)
    others pile.Gray ne = refl
    others pile.Wake ne = refl

pub pushed_gray : (p : Piles) (x : Place) (more : List Place) → IsPermutation (x ∷ p.gray) more
    → IsPushed p pile.Gray x (record p { gray = more })
pushed_gray p x more m = record { more = m; others = others }
  where
    others : (other : Pile) → other ≢ pile.Gray → pile_of (record p { gray = more }) other ≡ pile_of p other
    others pile.Black ne = refl
    others pile.Gray ne = absurd (ne refl)
    others pile.Wake ne = refl

pub pushed_wake : (p : Piles) (x : Place) (more : List Place) → IsPermutation (x ∷ p.wake) more
    → IsPushed p pile.Wake x (record p { wake = more })
pushed_wake p x more m = record { more = m; others = others }
  where
    others : (other : Pile) → other ≢ pile.Wake → pile_of (record p { wake = more }) other ≡ pile_of p other
    others pile.Black ne = refl
    others pile.Gray ne = refl
    others pile.Wake ne = absurd (ne refl)

-- What is sorted by a finer order is sorted by a coarser one.
use Rattle.std.proofs.Common.{◌≡◌, ◌<◌, ◌+◌, false, List, length, map, get_or, refl, sym, subst, arith}
use Rattle.std.specs.List.Sorted.{IsSorted}
use Rattle.std.specs.declared.cmp.Ordering.{Ordering}
use Rattle.std.specs.declared.cmp.Ordering.TheVariants.{Less, Equal, Greater}
use Rattle.std.specs.Ordering.{is_lt, ordering_then}
use Rattle.gz_names.specs.Order.{name_cmp}
use Rattle.gz_names.specs.contracts.names.NameOrd.TheImpl as derived
use Rattle.gz_names.specs.declared.names.Name.{Name}
use Rattle.gz_names.specs.declared.names.Name.TheVariants.{Cell, Wrap}
use Rattle.std.proofs.lemmas.List.{get_or-map, length-map}

-- the first of two orders decides, or the first two of three
pub first_decides : (o p : Ordering) → is_lt (ordering_then o p) ≡ false → is_lt o ≡ false
first_decides Less p later = later
first_decides Equal p later = refl
first_decides Greater p later = refl

pub two_decide : (o p q : Ordering) → is_lt (ordering_then o (ordering_then p q)) ≡ false
    → is_lt (ordering_then o p) ≡ false
two_decide Less p q later = later
two_decide Equal p q later = first_decides p q later
two_decide Greater p q later = refl

-- of what is made of the elements
pub sorted_as : {X Y : Type 0} (fine : X → X → Ordering) (xs : List X) → IsSorted fine xs → (f : X → Y)
    → (some : Y → X) (coarse : Y → Y → Ordering)
    → ((a b : X) → is_lt (fine a b) ≡ false → is_lt (coarse (f a) (f b)) ≡ false) → IsSorted coarse (map f xs)
sorted_as fine xs up f some coarse less = λ k d from below. (
    let same = length-map xs f in
    let next : k + 1 < length xs = omega (arith, below, same) in
    let here : k < length xs = omega (arith, next) in
    subst (λ y. is_lt (coarse y (get_or (map f xs) k d)) ≡ false) (sym (get_or-map f xs (k + 1) (some d) d next))
    (subst (λ y. is_lt (coarse (f (get_or xs (k + 1) (some d))) y) ≡ false) (sym (get_or-map f xs k (some d) d here))
    (less (get_or xs (k + 1) (some d)) (get_or xs k (some d)) (up k (some d) from next))))

-- the derived order of names
pub names_as : (x y : Name) → derived.ghosts.cmp x y ≡ name_cmp x y
names_as (Cell a) (Cell b) = refl
names_as (Cell a) (Wrap d b) = refl
names_as (Wrap c a) (Cell b) = refl
names_as (Wrap c a) (Wrap d b) = refl

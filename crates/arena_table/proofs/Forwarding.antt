-- Fields that lead to where their cells have gone.
use Rattle.std.proofs.Common.{◌≡◌, ◌≢◌, ◌<◌, ◌≤◌, ◌^◌, ◌↔◌, ◌+◌, ◌==◌, ◌&&◌, ℕ, zero, suc, Bool, true, false, not}
use Rattle.std.proofs.Common.{if◌then◌else◌}
use Rattle.std.proofs.Common.{List, [], ◌∷◌, ◌++◌, length, map, take, drop, All, Option, Some, None, option_map}
use Rattle.std.proofs.Common.{slice_get}
use Rattle.std.proofs.Common.{slice_set, inl, inr, refl, sym, ◌∙◌, ap, subst, eq-eqb, ne_eqb, arith}
use Rattle.std.specs.Int.{bit_at}
use Rattle.std.specs.Option.{option_and_then}
use Rattle.std.proofs.lemmas.Bool.{cases_eq}
use Rattle.std.proofs.lemmas.List.Elements.{All-head, All-tail}
use Rattle.std.proofs.lemmas.Nat.Bits.{bit_at_above}
use Rattle.gz_names.specs.Zones.{HasZone}
use Rattle.std.proofs.lemmas.List.{append-nil, take_all, drop_all}
use Rattle.gz_names.specs.Moves.{moved}
use Rattle.gz_names.specs.declared.moves.Move.{Move}
use Rattle.gz_names.specs.declared.numbers.Place.{Place}
use Rattle.arena_table.specs.Cells.{CellState, joined}
use Rattle.arena_table.specs.Moving.{all_forwarded, forwarded, forwarded_at, in_zone}
use Rattle.arena_table.specs.Slots.{Arena, cell_at, cell_in, change_at, change_cell, first_free, has_free, held_in}
use Rattle.arena_table.specs.Indexed.{in_zones, is_owned}
use Rattle.arena_table.specs.Table.{in_these}
use Rattle.arena_table.proofs.Changing.{IsLike}

-- the first elements of a list are changed
abbrev pub so_far : {X : Type 0} → (X → X) → ℕ → List X → List X
so_far g n xs = map g (take n xs) ++ drop n xs

pub so_far-step : {X : Type 0} (g : X → X) (n : ℕ) (xs : List X) → change_at g (so_far g n xs) n ≡ so_far g (suc n) xs
so_far-step g zero [] = refl
so_far-step g (suc n) [] = refl
so_far-step g zero (x ∷ xs) = refl
so_far-step g (suc n) (x ∷ xs) = ap (λ ys. g x ∷ ys) (so_far-step g n xs)

pub so_far-all : {X : Type 0} (g : X → X) (n : ℕ) (xs : List X) → length xs ≤ n → so_far g n xs ≡ map g xs
so_far-all g n xs le =
    ap (λ ys. map g ys ++ drop n xs) (take_all n xs le) ∙ ap (λ ys. map g xs ++ ys) (drop_all n xs le)
    ∙ append-nil (map g xs)

pub length-so_far : {X : Type 0} (g : X → X) (n : ℕ) (xs : List X) → length (so_far g n xs) ≡ length xs
length-so_far g zero xs = refl
length-so_far g (suc n) [] = refl
length-so_far g (suc n) (x ∷ xs) = ap suc (length-so_far g n xs)

pub get-so_far : {X : Type 0} (g : X → X) (n : ℕ) (xs : List X) → slice_get (so_far g n xs) n ≡ slice_get xs n
get-so_far g zero xs = refl
get-so_far g (suc n) [] = refl
get-so_far g (suc n) (x ∷ xs) = get-so_far g n xs

-- where there is nothing to change
pub so_far-skip : {X : Type 0} (g : X → X) (n : ℕ) (xs : List X) → ((x : X) → slice_get xs n ≡ Some x → g x ≡ x)
    → so_far g (suc n) xs ≡ so_far g n xs
so_far-skip g zero [] none = refl
so_far-skip g (suc n) [] none = refl
so_far-skip g zero (x ∷ xs) none = ap (λ y. y ∷ xs) (none x refl)
so_far-skip g (suc n) (x ∷ xs) none = ap (λ ys. g x ∷ ys) (so_far-skip g n xs none)

-- a field takes what it is changed to
pub set-joined : (g : Option Place → Option Place) (xs : List (Option Place)) (n : ℕ)
    → slice_set xs n (g (joined (slice_get xs n))) ≡ change_at g xs n
set-joined g [] n = refl
set-joined g (x ∷ xs) zero = refl
set-joined g (x ∷ xs) (suc n) = ap (λ ys. x ∷ ys) (set-joined g xs n)

pub set-same : (xs : List (Option Place)) (n : ℕ) → slice_set xs n (joined (slice_get xs n)) ≡ xs
set-same [] n = refl
set-same (x ∷ xs) zero = refl
set-same (x ∷ xs) (suc n) = ap (λ ys. x ∷ ys) (set-same xs n)

-- an arena whose cells are changed, but not where they stand
free-mapped : (f : CellState → CellState) (slots : List (Option CellState))
    → has_free (map (option_map f) slots) ≡ has_free slots
free-mapped f [] = refl
free-mapped f (None ∷ slots) = refl
free-mapped f (Some x ∷ slots) = free-mapped f slots

first-mapped : (f : CellState → CellState) (slots : List (Option CellState))
    → first_free (map (option_map f) slots) ≡ first_free slots
first-mapped f [] = refl
first-mapped f (None ∷ slots) = refl
first-mapped f (Some x ∷ slots) = ap suc (first-mapped f slots)

held-mapped : (f : CellState → CellState) (slots : List (Option CellState))
    → held_in (map (option_map f) slots) ≡ held_in slots
held-mapped f [] = refl
held-mapped f (None ∷ slots) = held-mapped f slots
held-mapped f (Some x ∷ slots) = ap suc (held-mapped f slots)

pub IsLike-forwarded : (moves : List Move) (x : Arena) → IsLike x (all_forwarded moves x)
IsLike-forwarded moves x = record {
  zone = refl;
  is_out = refl;
  free = free-mapped (forwarded moves) x.slots;
  first = first-mapped (forwarded moves) x.slots;
  held = held-mapped (forwarded moves) x.slots;
}

pub cell_in-mapped : (f : CellState → CellState) (slots : List (Option CellState)) (s : ℕ)
    → cell_in (map (option_map f) slots) s ≡ option_map f (cell_in slots s)
cell_in-mapped f [] s = refl
cell_in-mapped f (None ∷ slots) zero = refl
cell_in-mapped f (Some x ∷ slots) zero = refl
cell_in-mapped f (o ∷ slots) (suc s) = cell_in-mapped f slots s

pub changes-mapped : (f : CellState → CellState) (o : Option CellState) → change_cell f o ≡ option_map f o
changes-mapped f None = refl
changes-mapped f (Some x) = refl

-- whether a zone is in the set that has only one
pub in_zones-one : (word zone z : ℕ) → word < 2 ^ 64 → zone < 64 → ((z : ℕ) → HasZone word z ↔ (z ≡ zone)) → z ≤ 64
    → in_zones word z ≡ (z == zone)
unfolding HasZone
in_zones-one word zone z fits below only most = elim (cases_eq z zone) [
  | inl e ↦ eq-eqb (bit_at word z) 1 ((only z).1 e).1 ∙ sym (eq-eqb z zone e)
  | inr ne ↦ ne_eqb (bit_at word z) 1 (λ one. elim (cases_eq z 64) [
    | inl past ↦ (let none = ap (bit_at word) past ∙ bit_at_above word 64 64 fits (omega arith) in omega
        (arith, none, one))
    | inr under ↦ ne ((only z).0 (omega (arith, most, under), one))
  ]) ∙ sym (ne_eqb z zone ne)
]

-- a zone that a set has is below 64
pub below-only : (word zone : ℕ) → ((z : ℕ) → HasZone word z ↔ (z ≡ zone)) → zone < 64
unfolding HasZone
below-only word zone only = ((only zone).1 refl).0

-- the arenas of one zone, as those of the set that has only this
pub in_zone-these : (f : Arena → Arena) (word zone : ℕ) (xs : List Arena) → word < 2 ^ 64 → zone < 64
    → ((z : ℕ) → HasZone word z ↔ (z ≡ zone)) → All (λ (x : Arena). x.zone ≤ 64) xs
    → in_these f word xs ≡ in_zone f zone xs
in_zone-these f word zone [] fits below only all = refl
in_zone-these f word zone (x ∷ xs) fits below only all =
    ap (λ b. (if b then f x else x) ∷ in_these f word xs)
    (in_zones-one word zone x.zone fits below only (All-head (λ (y : Arena). y.zone ≤ 64) x xs all))
    ∙ ap (λ ys. (if x.zone == zone then f x else x) ∷ ys)
    (in_zone-these f word zone xs fits below only (All-tail (λ (y : Arena). y.zone ≤ 64) x xs all))

pub cells-in_zone : (moves : List Move) (zone : ℕ) (xs : List Arena) (p : Place)
    → cell_at (in_zone (all_forwarded moves) zone xs) p
    ≡ (if is_owned zone (slice_get xs p.0) then option_map (forwarded moves) (cell_at xs p) else cell_at xs p)
cells-in_zone moves zone [] p = refl
cells-in_zone moves zone (x ∷ xs) (zero, s) = by (x.zone == zone)
  where
    by : (b : Bool) → cell_in (if b then all_forwarded moves x else x).slots s
        ≡ (if b then option_map (forwarded moves) (cell_in x.slots s) else cell_in x.slots s)
    by true = cell_in-mapped (forwarded moves) x.slots s
    by false = refl
cells-in_zone moves zone (x ∷ xs) (suc a, s) = cells-in_zone moves zone xs (a, s)

pub un-not : (b : Bool) → not b ≡ false → b ≡ true
un-not true e = refl
un-not false e = sym e

-- changes of one element
pub change-same : {X : Type 0} (f : X → X) → ((x : X) → f x ≡ x) → (xs : List X) (i : ℕ) → change_at f xs i ≡ xs
change-same f same [] i = refl
change-same f same (x ∷ xs) zero = ap (λ y. y ∷ xs) (same x)
change-same f same (x ∷ xs) (suc i) = ap (λ ys. x ∷ ys) (change-same f same xs i)

change-twice : {X : Type 0} (f g : X → X) (xs : List X) (i : ℕ)
    → change_at f (change_at g xs i) i ≡ change_at (λ x. f (g x)) xs i
change-twice f g [] i = refl
change-twice f g (x ∷ xs) zero = refl
change-twice f g (x ∷ xs) (suc i) = ap (λ ys. x ∷ ys) (change-twice f g xs i)

change-like : {X : Type 0} (f g : X → X) (xs : List X) (i : ℕ) → ((x : X) → slice_get xs i ≡ Some x → f x ≡ g x)
    → change_at f xs i ≡ change_at g xs i
change-like f g [] i same = refl
change-like f g (x ∷ xs) zero same = ap (λ y. y ∷ xs) (same x refl)
change-like f g (x ∷ xs) (suc i) same = ap (λ ys. x ∷ ys) (change-like f g xs i same)

-- an arena whose first slots were forwarded
module _ (moves : List Move) where
  abbrev pub goes_cell : Option CellState → Option CellState
  goes_cell = option_map (forwarded moves)

  abbrev pub upto : ℕ → Arena → Arena
  upto n x = record x { slots = so_far goes_cell n x.slots }

  cell-changed : (o : Option CellState) → change_cell (forwarded moves) o ≡ goes_cell o
  cell-changed None = refl
  cell-changed (Some cell) = refl

  pub upto-none : (xs : List Arena) (a : ℕ) → xs ≡ change_at (upto 0) xs a
  upto-none xs a = sym (change-same (upto 0) (λ x. refl) xs a)

  pub upto-more : (n m : ℕ) (xs : List Arena) (a : ℕ) → m ≡ n + 1
      → change_at (forwarded_at moves n) (change_at (upto n) xs a) a ≡ change_at (upto m) xs a
  upto-more n m xs a next =
      let one : suc n ≡ m = omega (arith, next) in
      change-twice (forwarded_at moves n) (upto n) xs a
      ∙ change-like (λ x. forwarded_at moves n (upto n x)) (upto m) xs a (λ x at.
      ap (λ (slots : List (Option CellState)). record x { slots = slots })
      (change-like (change_cell (forwarded moves)) goes_cell (so_far goes_cell n x.slots) n (λ o got. cell-changed o)
      ∙ so_far-step goes_cell n x.slots ∙ ap (λ k. so_far goes_cell k x.slots) one))

  pub upto-skip : (n m : ℕ) (xs : List Arena) (a : ℕ) → m ≡ n + 1 → cell_at xs (a, n) ≡ None
      → change_at (upto n) xs a ≡ change_at (upto m) xs a
  upto-skip n m xs a next none =
      let one : suc n ≡ m = omega (arith, next) in
      change-like (upto n) (upto m) xs a (λ x at.
      ap (λ (slots : List (Option CellState)). record x { slots = slots })
      (sym (so_far-skip goes_cell n x.slots (empty x at)) ∙ ap (λ k. so_far goes_cell k x.slots) one))
    where
      empty : (x : Arena) → slice_get xs a ≡ Some x → (o : Option CellState) → slice_get x.slots n ≡ Some o
          → goes_cell o ≡ o
      empty x at o got =
          let is : o ≡ None = sym (ap (option_and_then (λ (c : Option CellState). c)) got)
          ∙ sym (ap (option_and_then (λ (y : Arena). cell_in y.slots n)) at) ∙ none in
          ap goes_cell is ∙ sym is

  pub upto-all : (n : ℕ) (xs : List Arena) (a : ℕ)
      → ((x : Arena) → slice_get xs a ≡ Some x → length x.slots ≤ n)
      → change_at (upto n) xs a ≡ change_at (all_forwarded moves) xs a
  upto-all n xs a long = change-like (upto n) (all_forwarded moves) xs a (λ x at.
      ap (λ (slots : List (Option CellState)). record x { slots = slots }) (so_far-all goes_cell n x.slots (long x at)))

  pub upto-cell : (n : ℕ) (xs : List Arena) (a : ℕ) → cell_at (change_at (upto n) xs a) (a, n) ≡ cell_at xs (a, n)
  upto-cell n [] a = refl
  upto-cell n (x ∷ xs) zero = ap (option_and_then (λ (c : Option CellState). c)) (get-so_far goes_cell n x.slots)
  upto-cell n (x ∷ xs) (suc a) = upto-cell n xs a

-- Where cells stand after a change.
use Rattle.std.proofs.Common.{◌≡◌, ◌≢◌, ◌<◌, ◌/◌, ◌==◌, ◌&&◌, inl, inr, ℕ, zero, suc, Bool, true, false, if◌then◌else◌}
use Rattle.std.proofs.Common.{List, [], ◌∷◌, ◌++◌, length, replicate, Option, Some, None, slice_get, slice_set}
use Rattle.std.proofs.Common.{option_map, refl, sym, ◌∙◌, ap, arith, eq-eqb, ne_eqb}
use Rattle.std.proofs.lemmas.Bool.{cases_eq, and_from, and_left, and_right}
use Rattle.std.proofs.lemmas.Nat.Bits.{bit_at_lowest, bit_at-suc}
use Rattle.std.specs.Int.{bit_at}
use Rattle.std.specs.Option.{option_and_then}
use Rattle.gz_names.specs.declared.numbers.Place.{Place}
use Rattle.cell_bits.specs.declared.bits.Bits.{Bits}
use Rattle.arena_table.specs.Cells.{CellState, with_value}
use Rattle.arena_table.specs.Slots.{Arena, cell_at, cell_in, change_at, change_cell, empty_arena, with_cell, with_field}
use Rattle.arena_table.specs.Slots.{handed_out, taken_in, without_freed}
use Rattle.arena_table.specs.Indexed.{in_zones}
use Rattle.arena_table.specs.Table.{is_place, in_these, grown_to, put_at}
use Rattle.arena_table.proofs.Changing.{slice_get-change_same, slice_get-change_other}

abbrev slots-at : ℕ → Option Arena → Option CellState
slots-at s o = option_and_then (λ (x : Arena). cell_in x.slots s) o

-- one slot is changed
cell_at-changed : (f : Arena → Arena) (g : Option CellState → Option CellState) (xs : List Arena) (a s : ℕ) (p : Place)
    → ((x : Arena) → slice_get xs a ≡ Some x → cell_in (f x).slots s ≡ g (cell_in x.slots s))
    → ((x : Arena) (k : ℕ) → k ≢ s → cell_in (f x).slots k ≡ cell_in x.slots k) → a < length xs
    → cell_at (change_at f xs a) p ≡ (if is_place p (a, s) then g (cell_at xs p) else cell_at xs p)
cell_at-changed f g xs a s (b, k) here others within = elim (cases_eq b a) [
  | inl e ↦ (elim (cases_eq k s) [
    | inl d ↦ (at-same e d
        ∙ sym (ap (λ t. if t then g (cell_at xs (b, k)) else cell_at xs (b, k))
        (and_from (b == a) (k == s) (eq-eqb _ _ e) (eq-eqb _ _ d))))
    | inr n ↦ (at-arena e n
        ∙ sym (ap (λ t. if t then g (cell_at xs (b, k)) else cell_at xs (b, k))
        (and_right (b == a) (k == s) (ne_eqb _ _ n))))
  ])
  | inr n ↦ (ap (slots-at k) (slice_get-change_other f xs a b n)
      ∙ sym (ap (λ t. if t then g (cell_at xs (b, k)) else cell_at xs (b, k))
      (and_left (b == a) (k == s) (ne_eqb _ _ n))))
]
  where
    got : (x : Arena) → slice_get xs a ≡ Some x → slice_get (change_at f xs a) a ≡ Some (f x)
    got x e = slice_get-change_same f xs a ∙ ap (option_map f) e

    is-there : (ys : List Arena) (i : ℕ) → i < length ys → (x : Arena) × (slice_get ys i ≡ Some x)
    is-there [] i lt = absurd (omega arith)
    is-there (y ∷ ys) zero lt = (y, refl)
    is-there (y ∷ ys) (suc i) lt = is-there ys i (omega arith)

    at-same : b ≡ a → k ≡ s → cell_at (change_at f xs a) (b, k) ≡ g (cell_at xs (b, k))
    at-same e d =
        let x = is-there xs a within in
        ap (λ i. slots-at k (slice_get (change_at f xs a) i)) e
        ∙ (ap (slots-at k) (got x.0 x.1)
        ∙ (ap (cell_in (f x.0).slots) d
        ∙ (here x.0 x.1 ∙ ap g
        (sym (ap (λ i. slots-at k (slice_get xs i)) e ∙ (ap (slots-at k) x.1 ∙ ap (cell_in x.0.slots) d))))))

    at-arena : b ≡ a → k ≢ s → cell_at (change_at f xs a) (b, k) ≡ cell_at xs (b, k)
    at-arena e n =
        let x = is-there xs a within in
        ap (λ i. slots-at k (slice_get (change_at f xs a) i)) e
        ∙ (ap (slots-at k) (got x.0 x.1)
        ∙ (others x.0 k n ∙ sym (ap (λ i. slots-at k (slice_get xs i)) e ∙ ap (slots-at k) x.1)))

-- a field takes a value
cell_in-change_same : (f : CellState → CellState) (slots : List (Option CellState)) (s : ℕ)
    → cell_in (change_at (change_cell f) slots s) s ≡ option_map f (cell_in slots s)
cell_in-change_same f [] s = refl
cell_in-change_same f (None ∷ slots) zero = refl
cell_in-change_same f (Some cell ∷ slots) zero = refl
cell_in-change_same f (o ∷ slots) (suc s) = cell_in-change_same f slots s

cell_in-change_other : (f : Option CellState → Option CellState) (slots : List (Option CellState)) (s k : ℕ) → k ≢ s
    → cell_in (change_at f slots s) k ≡ cell_in slots k
cell_in-change_other f slots s k n = ap (option_and_then (λ cell. cell)) (slice_get-change_other f slots s k n)

pub cell_at-field : (xs : List Arena) (place : Place) (f : ℕ) (value : Option Place) (p : Place) → place.0 < length xs
    → cell_at (change_at (with_field place.1 f value) xs place.0) p
    ≡ (if is_place p place then option_map (with_value f value) (cell_at xs p) else cell_at xs p)
cell_at-field xs place f value p within = cell_at-changed (with_field place.1 f value) (option_map (with_value f value))
    xs place.0 place.1 p (λ x e. cell_in-change_same (with_value f value) x.slots place.1)
    (λ x k n. cell_in-change_other (change_cell (with_value f value)) x.slots place.1 k n) within

-- any change of one cell
pub cell_at-cell : (xs : List Arena) (place : Place) (f : CellState → CellState) (p : Place) → place.0 < length xs
    → cell_at (change_at (λ (a : Arena). record a { slots = change_at (change_cell f) a.slots place.1 }) xs place.0) p
    ≡ (if is_place p place then option_map f (cell_at xs p) else cell_at xs p)
cell_at-cell xs place f p within = cell_at-changed
    (λ (a : Arena). record a { slots = change_at (change_cell f) a.slots place.1 }) (option_map f) xs place.0 place.1 p
    (λ x e. cell_in-change_same f x.slots place.1)
    (λ x k n. cell_in-change_other (change_cell f) x.slots place.1 k n) within

-- a cell is put
cell_in-set_same : (slots : List (Option CellState)) (s : ℕ) (o : Option CellState) → s < length slots
    → cell_in (slice_set slots s o) s ≡ o
cell_in-set_same [] s o lt = absurd (omega arith)
cell_in-set_same (x ∷ slots) zero o lt = refl
cell_in-set_same (x ∷ slots) (suc s) o lt = cell_in-set_same slots s o (omega arith)

cell_in-set_other : (slots : List (Option CellState)) (s k : ℕ) (o : Option CellState) → k ≢ s
    → cell_in (slice_set slots s o) k ≡ cell_in slots k
cell_in-set_other [] s k o n = refl
cell_in-set_other (x ∷ slots) zero zero o n = absurd (n refl)
cell_in-set_other (x ∷ slots) zero (suc k) o n = refl
cell_in-set_other (x ∷ slots) (suc s) zero o n = refl
cell_in-set_other (x ∷ slots) (suc s) (suc k) o n = cell_in-set_other slots s k o (λ e. n (ap suc e))

cell_in-none : (n s : ℕ) → cell_in (replicate n None) s ≡ None
cell_in-none zero s = refl
cell_in-none (suc n) zero = refl
cell_in-none (suc n) (suc s) = cell_in-none n s

-- an arena without cells is made
cell_at-push : (xs : List Arena) (zone : ℕ) (p : Place) → cell_at (xs ++ empty_arena zone ∷ []) p ≡ cell_at xs p
cell_at-push xs zone (a, s) = by xs a
  where
    by : (ys : List Arena) (i : ℕ) → slots-at s (slice_get (ys ++ empty_arena zone ∷ []) i)
        ≡ slots-at s (slice_get ys i)
    by [] zero = cell_in-none 64 s
    by [] (suc i) = refl
    by (y ∷ ys) zero = refl
    by (y ∷ ys) (suc i) = by ys i

cell_at-grown : (xs : List Arena) (zone a : ℕ) (p : Place) → cell_at (grown_to xs zone a) p ≡ cell_at xs p
cell_at-grown xs zone a p = by (a == length xs)
  where
    by : (b : Bool) → cell_at (if b then xs ++ empty_arena zone ∷ [] else xs) p ≡ cell_at xs p
    by true = cell_at-push xs zone p
    by false = refl

pub cell_at-set : (xs : List Arena) (place : Place) (cell : CellState) (p : Place) → place.0 < length xs
    → ((x : Arena) → slice_get xs place.0 ≡ Some x → place.1 < length x.slots)
    → cell_at (change_at (with_cell place.1 cell) xs place.0) p ≡ (if is_place p place then Some cell else cell_at xs p)
cell_at-set xs place cell p within long =
    cell_at-changed (with_cell place.1 cell) (λ o. Some cell) xs place.0 place.1 p
    (λ x e. cell_in-set_same x.slots place.1 (Some cell) (long x e))
    (λ x k n. cell_in-set_other x.slots place.1 k (Some cell) n) within

pub cell_at-put : (xs : List Arena) (zone : ℕ) (place : Place) (cell : CellState) (p : Place)
    → place.0 < length (grown_to xs zone place.0)
    → ((x : Arena) → slice_get (grown_to xs zone place.0) place.0 ≡ Some x → place.1 < length x.slots)
    → cell_at (put_at xs zone place cell) p ≡ (if is_place p place then Some cell else cell_at xs p)
cell_at-put xs zone place cell p within long =
    cell_at-set (grown_to xs zone place.0) place cell p within long
    ∙ ap (λ o. if is_place p place then Some cell else o) (cell_at-grown xs zone place.0 p)

-- cells are freed
cell_in-freed : (freed : ℕ) (slots : List (Option CellState)) (s : ℕ) → cell_in (without_freed freed slots) s
    ≡ (if bit_at freed s == 1 then None else cell_in slots s)
cell_in-freed freed [] s = by (bit_at freed s == 1)
  where
    by : (b : Bool) → cell_in [] s ≡ (if b then None else cell_in [] s)
    by true = refl
    by false = refl
cell_in-freed freed (o ∷ slots) zero = ap (λ n. if n == 1 then None else o) (sym (bit_at_lowest freed))
cell_in-freed freed (o ∷ slots) (suc s) = cell_in-freed (freed / 2) slots s
    ∙ ap (λ n. if n == 1 then None else cell_in slots s) (sym (bit_at-suc freed s))

pub cell_at-taken : (xs : List Arena) (a freed : ℕ) (bits : Bits) (p : Place)
    → cell_at (change_at (taken_in freed bits) xs a) p
    ≡ (if (p.0 == a) && (bit_at freed p.1 == 1) then None else cell_at xs p)
cell_at-taken xs a freed bits (b, k) = elim (cases_eq b a) [
  | inl e ↦ (ap (λ i. slots-at k (slice_get (change_at (taken_in freed bits) xs a) i)) e
      ∙ (ap (slots-at k) (slice_get-change_same (taken_in freed bits) xs a)
      ∙ (at (slice_get xs a)
      ∙ sym (ap (λ t. if t && (bit_at freed k == 1) then None else cell_at xs (b, k)) (eq-eqb _ _ e)
      ∙ ap (λ i. if bit_at freed k == 1 then None else slots-at k (slice_get xs i)) e))))
  | inr n ↦ (ap (slots-at k) (slice_get-change_other (taken_in freed bits) xs a b n)
      ∙ sym (ap (λ t. if t then None else cell_at xs (b, k)) (and_left (b == a) (bit_at freed k == 1) (ne_eqb _ _ n))))
]
  where
    empty : Option CellState
    empty = None

    none : (t : Bool) → empty ≡ (if t then None else empty)
    none true = refl
    none false = refl

    at : (o : Option Arena) → slots-at k (option_map (taken_in freed bits) o)
        ≡ (if bit_at freed k == 1 then None else slots-at k o)
    at None = none (bit_at freed k == 1)
    at (Some x) = cell_in-freed freed x.slots k

-- arenas are handed out
pub cell_at-handed : (xs : List Arena) (word : ℕ) (p : Place) → cell_at (in_these handed_out word xs) p ≡ cell_at xs p
cell_at-handed xs word (a, s) = by xs a
  where
    one : (x : Arena) (b : Bool) → cell_in (if b then handed_out x else x).slots s ≡ cell_in x.slots s
    one x true = refl
    one x false = refl

    by : (ys : List Arena) (i : ℕ) → slots-at s (slice_get (in_these handed_out word ys) i)
        ≡ slots-at s (slice_get ys i)
    by [] i = refl
    by (y ∷ ys) zero = one y (in_zones word y.zone)
    by (y ∷ ys) (suc i) = by ys i

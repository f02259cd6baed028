-- What callers know of the arenas after a call.
use Rattle.std.proofs.Common.{◌≡◌, ◌+◌, ◌==◌, ℕ, zero, suc, Bool, true, false, if◌then◌else◌, IsSomeAnd, List, [], ◌∷◌}
use Rattle.std.proofs.Common.{◌++◌, length, length-append, Option, Some, None, slice_get, option_map, refl, sym, ◌∙◌}
use Rattle.std.proofs.Common.{ap, subst}
use Rattle.std.proofs.lemmas.List.Elements.{All-cons, All-head, All-tail, All-push}
use Rattle.std.specs.Option.{option_and_then}
use Rattle.gz_names.specs.declared.numbers.Place.{Place}
use Rattle.cell_bits.specs.declared.bits.Bits.{Bits}
use Rattle.arena_table.specs.Cells.{CellState}
use Rattle.arena_table.specs.Slots.{Arena, cell_at, cell_in, change_at, empty_arena, with_cell, with_bits}
use Rattle.arena_table.specs.Indexed.{is_open, in_zones}
use Rattle.arena_table.specs.Placement.{place_for}
use Rattle.arena_table.specs.Table.{AreIn, in_these, grown_to, put_at}
use Rattle.arena_table.proofs.Changing.{length-change_at, slice_get-change_same}
use Rattle.arena_table.proofs.Placing.{open-parts}
use Rattle.arena_table.proofs.Putting.{grown-open}

-- the arena of a new cell is one of its zone, and is not handed to sweeping
pub placed-in : (xs : List Arena) (zone : ℕ) (p : Place) (cell : CellState) → p ≡ place_for xs zone
    → IsSomeAnd (slice_get (put_at xs zone p cell) p.0) (λ (x : Arena). (x.zone ≡ zone) × (x.is_out ≡ false))
placed-in xs zone p cell e = subst (λ o. IsSomeAnd o (λ (x : Arena). (x.zone ≡ zone) × (x.is_out ≡ false)))
    (sym (slice_get-change_same (with_cell p.1 cell) (grown_to xs zone p.0) p.0))
    (by (slice_get (grown_to xs zone p.0) p.0) (grown-open xs zone p e))
  where
    by : (o : Option Arena) → is_open zone o ≡ true
        → IsSomeAnd (option_map (with_cell p.1 cell) o) (λ (x : Arena). (x.zone ≡ zone) × (x.is_out ≡ false))
    by None h = absurd (cc)
    by (Some x) h = (let parts = open-parts zone x h in (parts.0, parts.1))

-- cells stay as they are where bits are written
pub cell_at-set_bits : (xs : List Arena) (a : ℕ) (bits : Bits) (p : Place) → cell_at (change_at (with_bits bits) xs a) p
    ≡ cell_at xs p
cell_at-set_bits xs a bits (b, s) = by xs a b
  where
    by : (ys : List Arena) (i j : ℕ)
        → option_and_then (λ (x : Arena). cell_in x.slots s) (slice_get (change_at (with_bits bits) ys i) j)
        ≡ option_and_then (λ (x : Arena). cell_in x.slots s) (slice_get ys j)
    by [] i j = refl
    by (y ∷ ys) zero zero = refl
    by (y ∷ ys) zero (suc j) = refl
    by (y ∷ ys) (suc i) zero = refl
    by (y ∷ ys) (suc i) (suc j) = by ys i j

-- no arena of a set of zones is handed to sweeping, and none is by a change that keeps zones and takes none out
abbrev IsIn : ℕ → Arena → Type 0
IsIn word x = in_zones word x.zone ≡ true → x.is_out ≡ false

pub AreIn-change : (f : Arena → Arena) (word : ℕ) (xs : List Arena) (a : ℕ) → ((x : Arena) → (f x).zone ≡ x.zone)
    → ((x : Arena) → x.is_out ≡ false → (f x).is_out ≡ false) → AreIn word xs → AreIn word (change_at f xs a)
AreIn-change f word [] a zone out h = h
AreIn-change f word (x ∷ xs) zero zone out h =
    All-cons (IsIn word) (f x) xs (λ e. out x (All-head (IsIn word) x xs h (ap (in_zones word) (sym (zone x)) ∙ e)))
    (All-tail (IsIn word) x xs h)
AreIn-change f word (x ∷ xs) (suc a) zone out h =
    All-cons (IsIn word) x (change_at f xs a) (All-head (IsIn word) x xs h)
    (AreIn-change f word xs a zone out (All-tail (IsIn word) x xs h))

pub AreIn-these : (f : Arena → Arena) (of word : ℕ) (xs : List Arena) → ((x : Arena) → (f x).zone ≡ x.zone)
    → ((x : Arena) → x.is_out ≡ false → (f x).is_out ≡ false) → AreIn word xs → AreIn word (in_these f of xs)
AreIn-these f of word [] zone out h = h
AreIn-these f of word (x ∷ xs) zone out h = All-cons (IsIn word) (if in_zones of x.zone then f x else x)
    (in_these f of xs) (by (in_zones of x.zone)) (AreIn-these f of word xs zone out (All-tail (IsIn word) x xs h))
  where
    here : IsIn word x
    here = All-head (IsIn word) x xs h

    by : (c : Bool) → IsIn word (if c then f x else x)
    by true = λ e. out x (here (ap (in_zones word) (sym (zone x)) ∙ e))
    by false = here

pub AreIn-put : (word : ℕ) (xs : List Arena) (zone : ℕ) (p : Place) (cell : CellState) → AreIn word xs
    → AreIn word (put_at xs zone p cell)
AreIn-put word xs zone p cell h = AreIn-change (with_cell p.1 cell) word (grown_to xs zone p.0) p.0 (λ x. refl)
    (λ x e. e) (by (p.0 == length xs))
  where
    by : (c : Bool) → AreIn word (if c then xs ++ empty_arena zone ∷ [] else xs)
    by true = All-push (IsIn word) xs (empty_arena zone) h (λ e. refl)
    by false = h

-- how many arenas there are
pub length-put_at : (xs : List Arena) (zone : ℕ) (p : Place) (cell : CellState)
    → length (put_at xs zone p cell) ≡ (if p.0 == length xs then length xs + 1 else length xs)
length-put_at xs zone p cell = length-change_at (with_cell p.1 cell) (grown_to xs zone p.0) p.0 ∙ by (p.0 == length xs)
  where
    by : (c : Bool) → length (if c then xs ++ empty_arena zone ∷ [] else xs) ≡ (if c then length xs + 1 else length xs)
    by true = length-append xs (empty_arena zone ∷ [])
    by false = refl

pub length-in_these : (f : Arena → Arena) (word : ℕ) (xs : List Arena) → length (in_these f word xs) ≡ length xs
length-in_these f word [] = refl
length-in_these f word (x ∷ xs) = ap suc (length-in_these f word xs)

-- A cell is put at the place that is kept for it.
use Rattle.std.proofs.Common.{◌≡◌, ◌≢◌, ◌<◌, ◌+◌, ◌/◌, ◌%◌, ◌==◌, ◌&&◌, ◌⊎◌, inl, inr, ℕ, zero, suc, Bool, true, false}
use Rattle.std.proofs.Common.{cond, if◌then◌else◌, IsSomeAnd, List, [], ◌∷◌, ◌++◌, length, Option, Some, None}
use Rattle.std.proofs.Common.{slice_get, slice_set, option_map, refl, sym, ◌∙◌, ap, subst, arith, eq-eqb, ne_eqb}
use Rattle.std.proofs.lemmas.Bool.{false≢true}
use Rattle.gz_names.specs.declared.numbers.Place.{Place}
use Rattle.gz_names.specs.declared.names.Name.{Name}
use Rattle.cell_bits.specs.declared.bits.Bits.{Bits}
use Rattle.arena_table.specs.Cells.{CellState}
use Rattle.arena_table.specs.Slots.{Arena, cell_in, change_at, empty_arena, with_cell, taken_in, without_freed}
use Rattle.arena_table.specs.Slots.{has_free, first_free, held_in, held_by, names_of, at_bits}
use Rattle.arena_table.specs.Indexed.{is_open}
use Rattle.arena_table.specs.Placement.{place_from, place_for}
use Rattle.arena_table.specs.Table.{grown_to, put_at}
use Rattle.arena_table.specs.declared.arenas.Reserved.{Reserved}
use Rattle.arena_table.proofs.Placing.{open-parts, first_free-none}

-- a free slot is one of the slots
first_free-within : (slots : List (Option CellState)) → has_free slots ≡ true → first_free slots < length slots
first_free-within [] e = absurd (false≢true e)
first_free-within (None ∷ slots) e = omega arith
first_free-within (Some cell ∷ slots) e = (let rest = first_free-within slots e in omega arith)

-- what is said of a place: its arena takes cells of the zone, and its slot is free
pub record IsFree (xs : List Arena) (zone a s : ℕ) (x : Arena) : Type 0 where
  pub at : slice_get xs a ≡ Some x
  pub takes : is_open zone (Some x) ≡ true
  pub none : cell_in x.slots s ≡ None
  pub within : s < length x.slots

abbrev EndOr : List Arena → ℕ → ℕ → ℕ → Type 0
EndOr xs zone a s = ((a ≡ length xs) × (s ≡ 0)) ⊎ ((x : Arena) × IsFree xs zone a s x)

place_from-is : (n : ℕ) (xs : List Arena) (zone : ℕ) → (k s : ℕ) × (place_from n xs zone ≡ (n + k, s))
    × EndOr xs zone k s
place_from-is n [] zone = (0, 0, ap (λ k. (k, 0)) (let same : n ≡ n + 0 = omega arith in same), inl (refl, refl))
place_from-is n (x ∷ xs) zone = by (is_open zone (Some x)) refl (place_from-is (suc n) xs zone)
  where
    later : (k s : ℕ) → EndOr xs zone k s → EndOr (x ∷ xs) zone (suc k) s
    later k s (inl (e, f)) = inl (ap suc e, f)
    later k s (inr (y, h)) = inr (y, record { at = h.at; takes = h.takes; none = h.none; within = h.within })

    by : (b : Bool) → is_open zone (Some x) ≡ b → (k s : ℕ) × (place_from (suc n) xs zone ≡ (suc n + k, s))
        × EndOr xs zone k s → (k s : ℕ) × (place_from n (x ∷ xs) zone ≡ (n + k, s)) × EndOr (x ∷ xs) zone k s
    by true e h = (
      0,
      first_free x.slots,
      ap (λ t. if t then (n, first_free x.slots) else place_from (suc n) xs zone) e
          ∙ ap (λ k. (k, first_free x.slots)) (let same : n ≡ n + 0 = omega arith in same),
      inr (
        x,
        record {
          at = refl;
          takes = e;
          none = first_free-none x.slots;
          within = first_free-within x.slots (open-parts zone x e).2;
        },
      ),
    )
    by false e (k, s, p, q) = (
      suc k,
      s,
      ap (λ t. if t then (n, first_free x.slots) else place_from (suc n) xs zone) e
          ∙ (p ∙ ap (λ k. (k, s)) (let same : suc n + k ≡ n + suc k = omega arith in same)),
      later k s q,
    )

grown-end : (xs : List Arena) (zone a s : ℕ) → a ≡ length xs → s ≡ 0
    → IsFree (grown_to xs zone a) zone a s (empty_arena zone)
grown-end xs zone a s e f = record {
  at = ap (λ t. slice_get (if t then xs ++ empty_arena zone ∷ [] else xs) a) (eq-eqb _ _ e)
      ∙ (ap (slice_get (xs ++ empty_arena zone ∷ [])) e ∙ last xs);
  takes = ap (λ t. t && true) (eq-eqb zone zone refl);
  none = ap (cell_in (empty_arena zone).slots) f;
  within = omega (arith, f);
}
  where
    last : (ys : List Arena) → slice_get (ys ++ empty_arena zone ∷ []) (length ys) ≡ Some (empty_arena zone)
    last [] = refl
    last (y ∷ ys) = last ys

grown-before : (xs : List Arena) (zone a s : ℕ) (x : Arena) → IsFree xs zone a s x
    → IsFree (grown_to xs zone a) zone a s x
grown-before xs zone a s x h = record {
  at = ap (λ t. slice_get (if t then xs ++ empty_arena zone ∷ [] else xs) a) (ne_eqb a (length xs) (before xs a h.at))
      ∙ h.at;
  takes = h.takes;
  none = h.none;
  within = h.within;
}
  where
    before : (ys : List Arena) (i : ℕ) → slice_get ys i ≡ Some x → i ≢ length ys
    before [] i e f = absurd (cc)
    before (y ∷ ys) zero e f = omega arith
    before (y ∷ ys) (suc i) e f = before ys i e (omega arith)

pub place_for-free_in : (xs : List Arena) (zone : ℕ) (p : Place) → p ≡ place_for xs zone
    → (x : Arena) × IsFree (grown_to xs zone p.0) zone p.0 p.1 x
place_for-free_in xs zone p e = by (place_from-is 0 xs zone)
  where
    at : (a s : ℕ) → EndOr xs zone a s → (x : Arena) × IsFree (grown_to xs zone a) zone a s x
    at a s (inl (e, f)) = (empty_arena zone, grown-end xs zone a s e f)
    at a s (inr (x, h)) = (x, grown-before xs zone a s x h)

    by : (k s : ℕ) × (place_from 0 xs zone ≡ (0 + k, s)) × EndOr xs zone k s
        → (x : Arena) × IsFree (grown_to xs zone p.0) zone p.0 p.1 x
    by (k, s, q, h) = subst (λ (r : Place). (x : Arena) × IsFree (grown_to xs zone r.0) zone r.0 r.1 x)
        (ap (λ i. (i, s)) (let same : k ≡ 0 + k = omega arith in same) ∙ (sym q ∙ sym e)) (at k s h)

-- its arena takes cells
pub grown-open : (xs : List Arena) (zone : ℕ) (p : Place) → p ≡ place_for xs zone
    → is_open zone (slice_get (grown_to xs zone p.0) p.0) ≡ true
grown-open xs zone p e = (let h = place_for-free_in xs zone p e in ap (is_open zone) h.1.at ∙ h.1.takes)

pub grown-within : (xs : List Arena) (zone : ℕ) (p : Place) → p ≡ place_for xs zone
    → p.0 < length (grown_to xs zone p.0)
grown-within xs zone p e = (let h = place_for-free_in xs zone p e in by (grown_to xs zone p.0) p.0 h.0 h.1.at)
  where
    by : (ys : List Arena) (i : ℕ) (x : Arena) → slice_get ys i ≡ Some x → i < length ys
    by [] i x f = absurd (cc)
    by (y ∷ ys) zero x f = omega arith
    by (y ∷ ys) (suc i) x f = (let rest = by ys i x f in omega arith)

abbrev SlotIn : ℕ → Option Arena → Type 0
SlotIn s None = ⊥
SlotIn s (Some y) = s < length y.slots

pub grown-slot : (xs : List Arena) (zone : ℕ) (p : Place) → p ≡ place_for xs zone → (x : Arena)
    → slice_get (grown_to xs zone p.0) p.0 ≡ Some x → p.1 < length x.slots
grown-slot xs zone p e x g = (let h = place_for-free_in xs zone p e in subst (SlotIn p.1) (sym h.1.at ∙ g) h.1.within)

-- there is one cell more
pub held_in-put : (slots : List (Option CellState)) (s : ℕ) (cell : CellState) → cell_in slots s ≡ None
    → s < length slots → held_in (slice_set slots s (Some cell)) ≡ suc (held_in slots)
held_in-put [] s cell e lt = absurd (omega arith)
held_in-put (None ∷ slots) zero cell e lt = refl
held_in-put (Some other ∷ slots) zero cell e lt = absurd (cc)
held_in-put (None ∷ slots) (suc s) cell e lt = held_in-put slots s cell e (omega arith)
held_in-put (Some other ∷ slots) (suc s) cell e lt = ap suc (held_in-put slots s cell e (omega arith))

abbrev Adds : (Arena → Arena) → ℕ → Option Arena → Type 0
Adds f n None = ⊥
Adds f n (Some z) = held_in (f z).slots ≡ n + held_in z.slots

pub held_by-change : (f : Arena → Arena) (xs : List Arena) (a n : ℕ) (x : Arena) → slice_get xs a ≡ Some x
    → held_in (f x).slots ≡ n + held_in x.slots → held_by (change_at f xs a) ≡ n + held_by xs
held_by-change f [] a n x e h = absurd (cc)
held_by-change f (y ∷ xs) zero n x e h =
    (let here : held_in (f y).slots ≡ n + held_in y.slots = subst (Adds f n) (sym e) h in omega arith)
held_by-change f (y ∷ xs) (suc a) n x e h = (let rest = held_by-change f xs a n x e h in omega arith)

held_by-push : (xs : List Arena) (zone : ℕ) → held_by (xs ++ empty_arena zone ∷ []) ≡ held_by xs
held_by-push [] zone = refl
held_by-push (x ∷ xs) zone = (let rest = held_by-push xs zone in omega arith)

held_by-grown : (xs : List Arena) (zone a : ℕ) → held_by (grown_to xs zone a) ≡ held_by xs
held_by-grown xs zone a = by (a == length xs)
  where
    by : (b : Bool) → held_by (if b then xs ++ empty_arena zone ∷ [] else xs) ≡ held_by xs
    by true = held_by-push xs zone
    by false = refl

pub held_by-put : (xs : List Arena) (zone : ℕ) (p : Place) (cell : CellState) → p ≡ place_for xs zone
    → held_by (put_at xs zone p cell) ≡ held_by xs + 1
held_by-put xs zone p cell e =
    let h = place_for-free_in xs zone p e in
    let more = held_in-put h.0.slots p.1 cell h.1.none h.1.within in
    let put = held_by-change (with_cell p.1 cell) (grown_to xs zone p.0) p.0 1 h.0 h.1.at (omega (arith, more)) in
    let grown = held_by-grown xs zone p.0 in
    omega arith

-- as many fewer as names are freed
freed-none : (b : Bool) (picked slots all : List (Option CellState)) → length (names_of picked) + held_in slots
    ≡ held_in all → length (names_of (cond b (None ∷ picked) picked)) + held_in (cond b None None ∷ slots)
    ≡ held_in (None ∷ all)
freed-none true picked slots all e = e
freed-none false picked slots all e = e

freed-some : (b : Bool) (cell : CellState) (picked slots all : List (Option CellState))
    → length (names_of picked) + held_in slots ≡ held_in all
    → length (names_of (cond b (Some cell ∷ picked) picked)) + held_in (cond b None (Some cell) ∷ slots)
    ≡ held_in (Some cell ∷ all)
freed-some true cell picked slots all e = omega arith
freed-some false cell picked slots all e = omega arith

held_in-freed : (freed : ℕ) (slots : List (Option CellState))
    → length (names_of (at_bits freed slots)) + held_in (without_freed freed slots) ≡ held_in slots
held_in-freed freed [] = refl
held_in-freed freed (None ∷ slots) =
    freed-none (freed % 2 == 1) (at_bits (freed / 2) slots) (without_freed (freed / 2) slots) slots
    (held_in-freed (freed / 2) slots)
held_in-freed freed (Some cell ∷ slots) = freed-some (freed % 2 == 1) cell (at_bits (freed / 2) slots)
    (without_freed (freed / 2) slots) slots (held_in-freed (freed / 2) slots)

pub held_by-taken : (xs : List Arena) (a freed : ℕ) (bits : Bits) (names : List Name)
    → IsSomeAnd (slice_get xs a) (λ (x : Arena). names ≡ names_of (at_bits freed x.slots))
    → length names + held_by (change_at (taken_in freed bits) xs a) ≡ held_by xs
held_by-taken [] a freed bits names is = absurd is
held_by-taken (x ∷ xs) zero freed bits names is =
    (let here = held_in-freed freed x.slots in let long = ap length is in omega arith)
held_by-taken (x ∷ xs) (suc a) freed bits names is = (let rest = held_by-taken xs a freed bits names is in omega arith)

-- the place that is kept
abbrev place-of : Option Place → Place
place-of None = (0, 0)
place-of (Some p) = p

pub kept-place : (o : Option Reserved) (r : Reserved) (p : Place) → o ≡ Some r
    → option_map (λ (r : Reserved). r.place) o ≡ Some p → p ≡ r.place
kept-place o r p e f = sym (ap place-of f) ∙ ap (λ x. place-of (option_map (λ (r : Reserved). r.place) x)) e

-- What a new cell changes in the heap.
use Rattle.std.proofs.Common.{◌≡◌, ◌≢◌, ◌<◌, ◌+◌, ◌==◌, ◌&&◌, ◌⊎◌, inl, inr, ℕ, zero, suc, Bool, true, false, not, List}
use Rattle.std.proofs.Common.{[], ◌∷◌, ◌++◌, length, Option, Some, None, IsSomeAnd, IfSome, slice_get, slice_set}
use Rattle.std.proofs.Common.{is_none, if◌then◌else◌, refl, sym, ◌∙◌, ap, subst, arith, eq-eqb, ne_eqb}
use Rattle.std.proofs.lemmas.Bool.{cases_eq, and_from, and_left, and_right}
use Rattle.std.proofs.lemmas.Nat.Bits.{bit_at-zero}
use Rattle.std.proofs.lemmas.List.{length-append, length-map, length-set}
use Rattle.std.proofs.lemmas.Option.{same_Some}
use Rattle.gz_names.specs.declared.numbers.Place.{Place}
use Rattle.cell_bits.specs.declared.bits.Bits.{Bits}
use Rattle.cell_bits.specs.declared.bits.Colour.{Colour}
use Rattle.cell_bits.specs.declared.bits.Colour.TheVariants as colour
use Rattle.cell_bits.specs.Colours as bits
use Rattle.cell_bits.specs.Colours.{Marks}
use Rattle.arena_table.specs.Cells.{CellState, with_value}
use Rattle.arena_table.specs.Slots.{Arena, cell_at, cell_in, change_at, change_cell, empty_arena, has_free, first_free}
use Rattle.arena_table.specs.Slots.{with_bits, with_cell, with_field}
use Rattle.arena_table.specs.Placement.{place_for, place_from}
use Rattle.arena_table.specs.Indexed.{is_open}
use Rattle.arena_table.specs.Table.{ArenasState, grown_to, is_place, put_at}
use Rattle.arena_table.proofs.Placing.{open-parts}
use Rattle.arena_table.proofs.Putting.{grown-open}
use Rattle.arena_table.proofs.Changing.{length-change_at}
use Rattle.heap_core.specs.Shape.{ArenaShape, AreWhole, Shape, arena_shape, arena_shapes, cell_of, out_in, present_in}
use Rattle.heap_core.specs.Shape.{is_prepared, is_white, stored_at, zone_in}
use Rattle.heap_core.specs.Heap.{HeapState, bits_of, colour_in}
use Rattle.heap_core.specs.Births.{ColoursAtBirth}
use Rattle.heap_core.specs.Changes.{Makes, next_place_from, takes_cells}
use Rattle.heap_core.proofs.Views.{shapes-with_bits, bits-with_bits, with_state}

-- the place of the next cell
takes-seen : (zone : ℕ) (x : Arena) → takes_cells zone (arena_shape x) ≡ is_open zone (Some x)
takes-seen zone x = ap (λ b. (x.zone == zone) && (b && has_free x.slots)) (by x.is_out)
  where
    by : (b : Bool) → is_none (if b then Some x.bits else None) ≡ not b
    by true = refl
    by false = refl

pub place-seen : (n : ℕ) (xs : List Arena) (zone : ℕ) → place_from n xs zone ≡ next_place_from n (arena_shapes xs) zone
place-seen n [] zone = refl
place-seen n (x ∷ xs) zone =
    ap (λ p. if is_open zone (Some x) then (n, first_free x.slots) else p) (place-seen (suc n) xs zone)
    ∙ ap (λ b. if b then (n, first_free x.slots) else next_place_from (suc n) (arena_shapes xs) zone)
    (sym (takes-seen zone x))

-- the cells that are seen: those that stand there, but the white ones of arenas that are out
abbrev pub visible : Option Bits → ℕ → Option CellState → Option CellState
visible None slot cell = cell
visible (Some bits) slot cell = if is_white bits slot then None else cell

abbrev pub out_at : List Arena → ℕ → Option Bits
out_at xs a = out_in (slice_get (arena_shapes xs) a)

seen-in : (out : Option Bits) (slots : List (Option CellState)) (k : ℕ)
    → present_in out slots k ≡ visible out k (cell_in slots k)
seen-in None slots k = refl
seen-in (Some b) slots k = refl

pub cells-seen : (s : Shape) (xs : List Arena) (p : Place) → s.arenas ≡ arena_shapes xs
    → cell_of s p ≡ visible (out_at xs p.0) p.1 (cell_at xs p)
cells-seen s xs (a, k) e =
    subst (λ (ss : List ArenaShape). cell_of (record s { arenas = ss }) (a, k)
    ≡ visible (out_at xs a) k (cell_at xs (a, k))) (sym e) (by xs a)
  where
    by : (ys : List Arena) (i : ℕ) → cell_of (record s { arenas = arena_shapes ys }) (i, k)
        ≡ visible (out_at ys i) k (cell_at ys (i, k))
    by [] i = refl
    by (y ∷ ys) zero = seen-in (arena_shape y).out y.slots k
    by (y ∷ ys) (suc i) = by ys i

pub stored-seen : (s : Shape) (xs : List Arena) (p : Place) → s.arenas ≡ arena_shapes xs → stored_at s p ≡ cell_at xs p
stored-seen s xs (a, k) e =
    subst (λ (ss : List ArenaShape). stored_at (record s { arenas = ss }) (a, k) ≡ cell_at xs (a, k)) (sym e) (by xs a)
  where
    by : (ys : List Arena) (i : ℕ) → stored_at (record s { arenas = arena_shapes ys }) (i, k) ≡ cell_at ys (i, k)
    by [] i = refl
    by (y ∷ ys) zero = refl
    by (y ∷ ys) (suc i) = by ys i

-- what keeps how many slots an arena has
pub whole-change : (f : Arena → Arena) → ((x : Arena) → length (f x).slots ≡ length x.slots) → (xs : List Arena) (i : ℕ)
    → AreWhole (arena_shapes xs) → AreWhole (arena_shapes (change_at f xs i))
whole-change f k [] i w a arena e = absurd (cc e)
whole-change f k (x ∷ xs) zero w zero arena e = ap (λ (o : Option ArenaShape). slots-in o) (sym e)
    ∙ (k x ∙ w zero (arena_shape x) refl)
  where
    slots-in : Option ArenaShape → ℕ
    slots-in None = 0
    slots-in (Some y) = length y.slots
whole-change f k (x ∷ xs) zero w (suc a) arena e = w (suc a) arena e
whole-change f k (x ∷ xs) (suc i) w zero arena e = w zero arena e
whole-change f k (x ∷ xs) (suc i) w (suc a) arena e = whole-change f k xs i (λ b y h. w (suc b) y h) a arena e

whole-more : (xs : List Arena) (zone : ℕ) → AreWhole (arena_shapes xs)
    → AreWhole (arena_shapes (xs ++ empty_arena zone ∷ []))
whole-more [] zone w zero arena e = ap (λ (o : Option ArenaShape). slots-in o) (sym e)
  where
    slots-in : Option ArenaShape → ℕ
    slots-in None = 0
    slots-in (Some y) = length y.slots
whole-more [] zone w (suc a) arena e = absurd (cc e)
whole-more (x ∷ xs) zone w zero arena e = w zero arena e
whole-more (x ∷ xs) zone w (suc a) arena e = whole-more xs zone (λ b y h. w (suc b) y h) a arena e

pub whole-put : (xs : List Arena) (zone : ℕ) (p : Place) (cell : CellState) → AreWhole (arena_shapes xs)
    → AreWhole (arena_shapes (put_at xs zone p cell))
whole-put xs zone p cell w = whole-change (with_cell p.1 cell) (λ x. length-set x.slots p.1 (Some cell))
    (grown_to xs zone p.0) p.0 (by (p.0 == length xs))
  where
    by : (t : Bool) → AreWhole (arena_shapes (if t then xs ++ empty_arena zone ∷ [] else xs))
    by true = whole-more xs zone w
    by false = w

-- what keeps whether an arena is out, and its zone
pub out-change : (f : Arena → Arena) → ((x : Arena) → (arena_shape (f x)).out ≡ (arena_shape x).out)
    → (xs : List Arena) (i a : ℕ) → out_at (change_at f xs i) a ≡ out_at xs a
out-change f k [] i a = refl
out-change f k (x ∷ xs) zero zero = k x
out-change f k (x ∷ xs) zero (suc a) = refl
out-change f k (x ∷ xs) (suc i) zero = refl
out-change f k (x ∷ xs) (suc i) (suc a) = out-change f k xs i a

out-more : (xs : List Arena) (zone a : ℕ) → out_at (xs ++ empty_arena zone ∷ []) a ≡ out_at xs a
out-more [] zone zero = refl
out-more [] zone (suc a) = refl
out-more (x ∷ xs) zone zero = refl
out-more (x ∷ xs) zone (suc a) = out-more xs zone a

out-grown : (xs : List Arena) (zone b a : ℕ) → out_at (grown_to xs zone b) a ≡ out_at xs a
out-grown xs zone b a = by (b == length xs)
  where
    by : (t : Bool) → out_at (if t then xs ++ empty_arena zone ∷ [] else xs) a ≡ out_at xs a
    by true = out-more xs zone a
    by false = refl

pub out-put : (xs : List Arena) (zone : ℕ) (p : Place) (cell : CellState) (a : ℕ)
    → out_at (put_at xs zone p cell) a ≡ out_at xs a
out-put xs zone p cell a = out-change (with_cell p.1 cell) (λ x. refl) (grown_to xs zone p.0) p.0 a
    ∙ out-grown xs zone p.0 a

abbrev pub zone_at : List Arena → ℕ → ℕ
zone_at xs a = zone_in (slice_get (arena_shapes xs) a)

pub zone-change : (f : Arena → Arena) → ((x : Arena) → (f x).zone ≡ x.zone) → (xs : List Arena) (i a : ℕ)
    → zone_at (change_at f xs i) a ≡ zone_at xs a
zone-change f k [] i a = refl
zone-change f k (x ∷ xs) zero zero = k x
zone-change f k (x ∷ xs) zero (suc a) = refl
zone-change f k (x ∷ xs) (suc i) zero = refl
zone-change f k (x ∷ xs) (suc i) (suc a) = zone-change f k xs i a

zone-more : (xs : List Arena) (zone a : ℕ) → a < length xs → zone_at (xs ++ empty_arena zone ∷ []) a ≡ zone_at xs a
zone-more [] zone a lt = absurd (omega arith)
zone-more (x ∷ xs) zone zero lt = refl
zone-more (x ∷ xs) zone (suc a) lt = zone-more xs zone a (omega arith)

zone-grown : (xs : List Arena) (zone b a : ℕ) → a < length xs → zone_at (grown_to xs zone b) a ≡ zone_at xs a
zone-grown xs zone b a lt = by (b == length xs)
  where
    by : (t : Bool) → zone_at (if t then xs ++ empty_arena zone ∷ [] else xs) a ≡ zone_at xs a
    by true = zone-more xs zone a lt
    by false = refl

pub zone-put : (xs : List Arena) (zone : ℕ) (p : Place) (cell : CellState) (a : ℕ) → a < length xs
    → zone_at (put_at xs zone p cell) a ≡ zone_at xs a
zone-put xs zone p cell a lt = zone-change (with_cell p.1 cell) (λ x. refl) (grown_to xs zone p.0) p.0 a
    ∙ zone-grown xs zone p.0 a lt

-- the arena of the next cell is one of the zone's and not out
open-zone : (xs : List Arena) (zone a : ℕ) → is_open zone (slice_get xs a) ≡ true → (zone_at xs a ≡ zone)
    × IsSomeAnd (slice_get xs a) (λ x. x.is_out ≡ false)
open-zone [] zone a o = absurd (cc o)
open-zone (x ∷ xs) zone zero o = let parts = open-parts zone x o in (parts.0, parts.1)
open-zone (x ∷ xs) zone (suc a) o = open-zone xs zone a o

out-false : (xs : List Arena) (a : ℕ) → IsSomeAnd (slice_get xs a) (λ x. x.is_out ≡ false) → out_at xs a ≡ None
out-false [] a k = absurd k
out-false (x ∷ xs) zero k = ap (λ b. if b then Some x.bits else None) k
out-false (x ∷ xs) (suc a) k = out-false xs a k

pub put-zone : (xs : List Arena) (zone : ℕ) (p : Place) (cell : CellState) → p ≡ place_for xs zone
    → zone_at (put_at xs zone p cell) p.0 ≡ zone
put-zone xs zone p cell e = zone-change (with_cell p.1 cell) (λ x. refl) (grown_to xs zone p.0) p.0 p.0
    ∙ (open-zone (grown_to xs zone p.0) zone p.0 (grown-open xs zone p e)).0

kept-change : (f : Arena → Arena) → ((x : Arena) → (f x).is_out ≡ x.is_out) → (xs : List Arena) (i a : ℕ)
    → IsSomeAnd (slice_get xs a) (λ x. x.is_out ≡ false)
    → IsSomeAnd (slice_get (change_at f xs i) a) (λ x. x.is_out ≡ false)
kept-change f k [] i a h = h
kept-change f k (x ∷ xs) zero zero h = k x ∙ h
kept-change f k (x ∷ xs) zero (suc a) h = h
kept-change f k (x ∷ xs) (suc i) zero h = h
kept-change f k (x ∷ xs) (suc i) (suc a) h = kept-change f k xs i a h

pub put-kept : (xs : List Arena) (zone : ℕ) (p : Place) (cell : CellState) → p ≡ place_for xs zone
    → IsSomeAnd (slice_get (put_at xs zone p cell) p.0) (λ x. x.is_out ≡ false)
put-kept xs zone p cell e = kept-change (with_cell p.1 cell) (λ x. refl) (grown_to xs zone p.0) p.0 p.0
    (open-zone (grown_to xs zone p.0) zone p.0 (grown-open xs zone p e)).1

pub place-kept : (xs : List Arena) (zone : ℕ) (p : Place) → p ≡ place_for xs zone → out_at xs p.0 ≡ None
place-kept xs zone p e = sym (out-grown xs zone p.0 p.0)
    ∙ out-false (grown_to xs zone p.0) p.0 (open-zone (grown_to xs zone p.0) zone p.0 (grown-open xs zone p e)).1

-- colours
white-nothing : (k : ℕ) → bits.colour_of (record { black = 0; gob = 0 }) k ≡ colour.White
white-nothing k = rw (bit_at-zero k) refl

pub colours-change : (f : Arena → Arena) → ((x : Arena) → (f x).bits ≡ x.bits) → (xs : List Arena) (i : ℕ)
    → bits_of (change_at f xs i) ≡ bits_of xs
colours-change f k [] i = refl
colours-change f k (x ∷ xs) zero = ap (λ b. b ∷ bits_of xs) (k x)
colours-change f k (x ∷ xs) (suc i) = ap (λ bs. x.bits ∷ bs) (colours-change f k xs i)

colours-more : (xs : List Arena) (zone a k : ℕ) → colour_in (slice_get (bits_of (xs ++ empty_arena zone ∷ [])) a) k
    ≡ colour_in (slice_get (bits_of xs) a) k
colours-more [] zone zero k = white-nothing k
colours-more [] zone (suc a) k = refl
colours-more (x ∷ xs) zone zero k = refl
colours-more (x ∷ xs) zone (suc a) k = colours-more xs zone a k

colours-grown : (xs : List Arena) (zone b a k : ℕ) → colour_in (slice_get (bits_of (grown_to xs zone b)) a) k
    ≡ colour_in (slice_get (bits_of xs) a) k
colours-grown xs zone b a k = by (b == length xs)
  where
    by : (t : Bool) → colour_in (slice_get (bits_of (if t then xs ++ empty_arena zone ∷ [] else xs)) a) k
        ≡ colour_in (slice_get (bits_of xs) a) k
    by true = colours-more xs zone a k
    by false = refl

pub colours-put : (xs : List Arena) (zone : ℕ) (p : Place) (cell : CellState) (a k : ℕ)
    → colour_in (slice_get (bits_of (put_at xs zone p cell)) a) k ≡ colour_in (slice_get (bits_of xs) a) k
colours-put xs zone p cell a k =
    ap (λ bs. colour_in (slice_get bs a) k) (colours-change (with_cell p.1 cell) (λ x. refl) (grown_to xs zone p.0) p.0)
    ∙ colours-grown xs zone p.0 a k

-- the colour at birth of a cell in a slot with these bits
abbrev born : Bool → ℕ → Bits → Colour
born is_prepared k b = if is_prepared then bits.colour_of b k else colour.Black

marked-here : (xs : List Arena) (a k : ℕ) (b : Bits) (is_prepared : Bool)
    → IfSome (slice_get xs a) (λ x. Marks x.bits k (born is_prepared k x.bits) b)
    → IsSomeAnd (slice_get xs a) (λ x. x.is_out ≡ false) → colour_in (slice_get (slice_set (bits_of xs) a b) a) k
    ≡ (if is_prepared then colour_in (slice_get (bits_of xs) a) k else colour.Black)
marked-here [] a k b is_prepared m h = absurd h
marked-here (x ∷ xs) zero k b is_prepared m h = m.marked
marked-here (x ∷ xs) (suc a) k b is_prepared m h = marked-here xs a k b is_prepared m h

marked-there : (xs : List Arena) (a k : ℕ) (b : Bits) (q : Place)
    (is_prepared : Bool) → IfSome (slice_get xs a) (λ x. Marks x.bits k (born is_prepared k x.bits) b) → q ≢ (a, k)
    → colour_in (slice_get (slice_set (bits_of xs) a b) q.0) q.1 ≡ colour_in (slice_get (bits_of xs) q.0) q.1
marked-there [] a k b q is_prepared m n = refl
marked-there (x ∷ xs) zero k b (zero, l) is_prepared m n = m.others l (λ e. n (ap (λ j. (0, j)) e))
marked-there (x ∷ xs) zero k b (suc c, l) is_prepared m n = refl
marked-there (x ∷ xs) (suc a) k b (zero, l) is_prepared m n = refl
marked-there (x ∷ xs) (suc a) k b (suc c, l) is_prepared m n =
    marked-there xs a k b (c, l) is_prepared m (λ e. n (ap (λ (r : Place). (suc r.0, r.1)) e))

-- two places are the same, or not
pub same-place : (q p : Place) → ((q ≡ p) × (is_place q p ≡ true)) ⊎ ((q ≢ p) × (is_place q p ≡ false))
same-place (b, l) (a, k) = elim (cases_eq b a) [
  | inl e ↦ (elim (cases_eq l k) [
    | inl d ↦ inl (ap (λ i. (i, l)) e ∙ ap (λ j. (a, j)) d, and_from (b == a) (l == k) (eq-eqb _ _ e) (eq-eqb _ _ d))
    | inr n ↦ inr ((λ e. n (ap (λ (r : Place). r.1) e)), and_right (b == a) (l == k) (ne_eqb _ _ n))
  ])
  | inr n ↦ inr ((λ e. n (ap (λ (r : Place). r.0) e)), and_left (b == a) (l == k) (ne_eqb _ _ n))
]

pub length-grown : (xs : List Arena) (zone a : ℕ)
    → length (grown_to xs zone a) ≡ (if a == length xs then length xs + 1 else length xs)
length-grown xs zone a = by (a == length xs)
  where
    by : (t : Bool) → length (if t then xs ++ empty_arena zone ∷ [] else xs) ≡ (if t then length xs + 1 else length xs)
    by true = length-append xs (empty_arena zone ∷ [])
    by false = refl

-- an arena that is there
pub kept-within : (xs : List Arena) (a : ℕ) (P : Arena → Type 0) → IsSomeAnd (slice_get xs a) P → a < length xs
kept-within [] a P h = absurd h
kept-within (x ∷ xs) zero P h = omega arith
kept-within (x ∷ xs) (suc a) P h = omega (arith, kept-within xs a P h)

-- bits that are written as they were
pub bits-same : (s : ArenasState) (p : Place) → IsSomeAnd (slice_get s.arenas p.0) (λ a. a.is_out ≡ false)
    → ColoursAtBirth true s p s
bits-same s p there = by (slice_get s.arenas p.0) refl there
  where
    same : (xs : List Arena) (i : ℕ) (a : Arena) → slice_get xs i ≡ Some a → change_at (with_bits a.bits) xs i ≡ xs
    same [] i a at = refl
    same (x ∷ xs) zero a at = (λ j. record x { bits = (sym (same_Some x a at) j).bits } ∷ xs)
    same (x ∷ xs) (suc i) a at = ap (λ ys. x ∷ ys) (same xs i a at)

    by : (o : Option Arena) → slice_get s.arenas p.0 ≡ o → IsSomeAnd o (λ a. a.is_out ≡ false)
        → ColoursAtBirth true s p s
    by None at out = absurd out
    by (Some a) at out = record {
      bits = a.bits;
      new_is = ap (λ xs. record s { arenas = xs }) (sym (same s.arenas p.0 a at));
      marks = rw at (record { marked = refl; others = λ k n. refl });
    }

-- a cell is made at a place of a zone: the arenas before, after it is put, and after it has its colour
pub record IsMade (s t : ArenasState) (zone : ℕ) (p : Place) (cell : CellState) (is_kept : Bool) : Type 0 where
  pub put : List Arena
  pub bits : Bits
  pub place_is : p ≡ place_for s.arenas zone
  pub below : zone < 64
  pub free : cell_at s.arenas p ≡ None
  pub put_is : put ≡ put_at s.arenas zone p cell
  pub cells : (q : Place) → cell_at put q ≡ (if is_place q p then Some cell else cell_at s.arenas q)
  pub arenas_is : t.arenas ≡ change_at (with_bits bits) put p.0
  pub made_is : t.made ≡ s.made + 1
  pub delayed_is : t.delayed ≡ s.delayed
  pub marks : IfSome (slice_get put p.0) (λ x. Marks x.bits p.1 (born is_kept p.1 x.bits) bits)

pub makes-seen : (h k : HeapState) (s t : ArenasState) (zone : ℕ) (p : Place) (cell : CellState) → with_state h s ≡ k
    → (is_kept : Bool) → IsMade s t zone p cell is_kept
    → is_kept ≡ is_prepared (with_state h s).shape zone
    → Makes k zone p cell (with_state h t)
makes-seen h k s t zone p cell v is_kept m same =
    subst (λ (k : HeapState). Makes k zone p cell (with_state h t)) v (record {
      rest = ap (λ n. record (with_state h t) { made = n }) m.made_is
          ∙ ap (λ d. record (with_state h t) { made = s.made + 1; delayed = d }) m.delayed_is;
      place_is = m.place_is ∙ place-seen 0 xs zone;
      free = cells-seen (with_state h s).shape xs p refl ∙ (ap (λ o. visible o p.1 (cell_at xs p)) kept ∙ m.free);
      grown = ap length shapes
          ∙ (length-map m.put arena_shape
          ∙ (ap length m.put_is
          ∙ (length-change_at (with_cell p.1 cell) (grown_to xs zone p.0) p.0
          ∙ (length-grown xs zone p.0 ∙ ap (λ n. if p.0 == n then n + 1 else n) (sym (length-map xs arena_shape))))));
      coloured = length-map t.arenas (λ (x : Arena). x.bits) ∙ sym (length-map t.arenas arena_shape);
      below = m.below;
      zone_is = ap (λ ss. zone_in (slice_get ss p.0)) shapes
          ∙ (ap (λ ys. zone_at ys p.0) m.put_is ∙ put-zone xs zone p cell m.place_is);
      zones = λ q lt. ap (λ ss. zone_in (slice_get ss q.0)) shapes
          ∙ (ap (λ ys. zone_at ys q.0) m.put_is
          ∙ zone-put xs zone p cell q.0 (subst (λ n. q.0 < n) (length-map xs arena_shape) lt));
      outs = outs;
      in_place = kept;
      cells = λ q. cells-seen (with_state h t).shape m.put q shapes
          ∙ (ap (λ o. visible o q.1 (cell_at m.put q)) (ap (λ ys. out_at ys q.0) m.put_is ∙ out-put xs zone p cell q.0)
          ∙ (ap (λ o. visible (out_at xs q.0) q.1 o) (m.cells q)
          ∙ (at-place q (same-place q p) ∙ ap (λ o. if is_place q p then Some cell else o)
          (sym (cells-seen (with_state h s).shape xs q refl)))));
      stored = λ q. stored-seen (with_state h t).shape m.put q shapes
          ∙ (m.cells q ∙ ap (λ o. if is_place q p then Some cell else o)
          (sym (stored-seen (with_state h s).shape xs q refl)));
      whole = λ w. subst (λ ss. AreWhole ss) (sym (shapes ∙ ap arena_shapes m.put_is)) (whole-put xs zone p cell w);
      born = ap (λ bs. colour_in (slice_get bs p.0) p.1) colours
          ∙ (marked-here m.put p.0 p.1 m.bits is_kept m.marks stays
          ∙ (ap (λ c. if is_kept then c else colour.Black)
          (ap (λ ys. colour_in (slice_get (bits_of ys) p.0) p.1) m.put_is ∙ colours-put xs zone p cell p.0 p.1)
          ∙ ap (λ b. if b then colour_in (slice_get (bits_of xs) p.0) p.1 else colour.Black) same));
      colours = λ q n. ap (λ bs. colour_in (slice_get bs q.0) q.1) colours
          ∙ (marked-there m.put p.0 p.1 m.bits q is_kept m.marks n
          ∙ (ap (λ ys. colour_in (slice_get (bits_of ys) q.0) q.1) m.put_is ∙ colours-put xs zone p cell q.0 q.1));
    })
  where
    xs : List Arena
    xs = s.arenas

    kept : out_at xs p.0 ≡ None
    kept = place-kept xs zone p m.place_is

    stays : IsSomeAnd (slice_get m.put p.0) (λ x. x.is_out ≡ false)
    stays = subst (λ ys. IsSomeAnd (slice_get ys p.0) (λ x. x.is_out ≡ false)) (sym m.put_is)
        (put-kept xs zone p cell m.place_is)

    shapes : arena_shapes t.arenas ≡ arena_shapes m.put
    shapes = ap arena_shapes m.arenas_is
        ∙ shapes-with_bits m.put p.0 m.bits (ap (λ ys. out_at ys p.0) m.put_is ∙ (out-put xs zone p cell p.0 ∙ kept))

    colours : bits_of t.arenas ≡ slice_set (bits_of m.put) p.0 m.bits
    colours = ap bits_of m.arenas_is ∙ bits-with_bits m.put p.0 m.bits

    outs : (a : ℕ) → out_at t.arenas a ≡ out_at xs a
    outs a = ap (λ ss. out_in (slice_get ss a)) shapes ∙ (ap (λ ys. out_at ys a) m.put_is ∙ out-put xs zone p cell a)

    at-place : (q : Place) → ((q ≡ p) × (is_place q p ≡ true)) ⊎ ((q ≢ p) × (is_place q p ≡ false))
        → visible (out_at xs q.0) q.1 (if is_place q p then Some cell else cell_at xs q)
        ≡ (if is_place q p then Some cell else visible (out_at xs q.0) q.1 (cell_at xs q))
    at-place q (inl e) = ap (λ b. visible (out_at xs q.0) q.1 (if b then Some cell else cell_at xs q)) e.1
        ∙ (ap (λ o. visible o q.1 (Some cell)) (ap (λ (r : Place). out_at xs r.0) e.0 ∙ kept)
        ∙ ap (λ b. if b then Some cell else visible (out_at xs q.0) q.1 (cell_at xs q)) (sym e.1))
    at-place q (inr e) = ap (λ b. visible (out_at xs q.0) q.1 (if b then Some cell else cell_at xs q)) e.1
        ∙ ap (λ b. if b then Some cell else visible (out_at xs q.0) q.1 (cell_at xs q)) (sym e.1)

-- a wrapper is put, and its target written
change-twice : (f g k : Arena → Arena) → ((x : Arena) → g (f x) ≡ k x) → (xs : List Arena) (a : ℕ)
    → change_at g (change_at f xs a) a ≡ change_at k xs a
change-twice f g k e [] a = refl
change-twice f g k e (x ∷ xs) zero = ap (λ y. y ∷ xs) (e x)
change-twice f g k e (x ∷ xs) (suc a) = ap (λ ys. x ∷ ys) (change-twice f g k e xs a)

set-then-change : (f : CellState → CellState) (cell : CellState) (slots : List (Option CellState)) (i : ℕ)
    → change_at (change_cell f) (slice_set slots i (Some cell)) i ≡ slice_set slots i (Some (f cell))
set-then-change f cell [] i = refl
set-then-change f cell (o ∷ slots) zero = refl
set-then-change f cell (o ∷ slots) (suc i) = ap (λ rest. o ∷ rest) (set-then-change f cell slots i)

pub put-with_field : (xs : List Arena) (zone : ℕ) (p : Place) (cell : CellState) (f : ℕ) (v : Option Place)
    → change_at (with_field p.1 f v) (put_at xs zone p cell) p.0 ≡ put_at xs zone p (with_value f v cell)
put-with_field xs zone p cell f v =
    change-twice (with_cell p.1 cell) (with_field p.1 f v) (with_cell p.1 (with_value f v cell))
    (λ x. ap (λ slots. record x { slots = slots }) (set-then-change (with_value f v) cell x.slots p.1))
    (grown_to xs zone p.0) p.0

-- a place was kept, and a cell put there
pub put-state : (s r u : ArenasState) (zone : ℕ) (p : Place) (cell : CellState)
    → r ≡ record s { reserved = Some (record { zone = zone; place = p }) }
    → IfSome r.reserved (λ k. u ≡ record r {
      arenas = put_at r.arenas k.zone p cell;
      made = r.made + 1;
      reserved = None;
    })
    → u ≡ record s { arenas = put_at s.arenas zone p cell; made = s.made + 1; reserved = None }
put-state s r u zone p cell e put =
    subst (λ (r : ArenasState).
    IfSome r.reserved (λ k. u ≡ record r {
      arenas = put_at r.arenas k.zone p cell;
      made = r.made + 1;
      reserved = None;
    }))
    e put

pub put-kept-in : (s r u : ArenasState) (zone : ℕ) (p : Place) (cell : CellState) → p ≡ place_for s.arenas zone
    → r ≡ record s { reserved = Some (record { zone = zone; place = p }) }
    → IfSome r.reserved (λ k. u ≡ record r {
      arenas = put_at r.arenas k.zone p cell;
      made = r.made + 1;
      reserved = None;
    })
    → IsSomeAnd (slice_get u.arenas p.0) (λ x. x.is_out ≡ false)
put-kept-in s r u zone p cell e k put =
    subst (λ (u : ArenasState). IsSomeAnd (slice_get u.arenas p.0) (λ x. x.is_out ≡ false))
    (sym (put-state s r u zone p cell k put)) (put-kept s.arenas zone p cell e)

pub made-by : (s r u t : ArenasState) (zone : ℕ) (p : Place) (cell : CellState) → p ≡ place_for s.arenas zone
    → zone < 64 → cell_at s.arenas p ≡ None → r ≡ record s { reserved = Some (record { zone = zone; place = p }) }
    → IfSome r.reserved (λ k. u ≡ record r {
      arenas = put_at r.arenas k.zone p cell;
      made = r.made + 1;
      reserved = None;
    })
    → ((q : Place) → cell_at u.arenas q ≡ (if is_place q p then Some cell else cell_at r.arenas q))
    → (is_kept : Bool) → ColoursAtBirth is_kept u p t → IsMade s t zone p cell is_kept
made-by s r u t zone p cell e below free k put cells is_kept b = record {
  put = u.arenas;
  bits = b.bits;
  place_is = e;
  below = below;
  free = free;
  put_is = ap (λ (x : ArenasState). x.arenas) (put-state s r u zone p cell k put);
  cells = λ q. cells q ∙ ap (λ (x : ArenasState). if is_place q p then Some cell else cell_at x.arenas q) k;
  arenas_is = ap (λ (x : ArenasState). x.arenas) b.new_is;
  made_is = ap (λ (x : ArenasState). x.made) b.new_is
      ∙ ap (λ (x : ArenasState). x.made) (put-state s r u zone p cell k put);
  delayed_is = ap (λ (x : ArenasState). x.delayed) b.new_is
      ∙ ap (λ (x : ArenasState). x.delayed) (put-state s r u zone p cell k put);
  marks = b.marks;
}

-- The cells of a zone are as many as the names that the world has there.
use Rattle.std.proofs.Common.{◌≡◌, ◌+◌, ◌≤◌, ◌==◌, ◌&&◌, ◌||◌, ℕ, zero, suc, Bool, true, false, cond, T}
use Rattle.std.proofs.Common.{if◌then◌else◌, List, [], ◌∷◌, length, map, Option, Some, None, is_some, Contains}
use Rattle.std.proofs.Common.{slice_get}
use Rattle.std.proofs.Common.{count_by, sum_by, refl, sym, ap, subst, ◌∙◌, inl, inr, arith}
use Rattle.std.specs.Prelude.{option_and_then}
use Rattle.std.specs.FinMap as places
use Rattle.std.specs.FinMap.Entries.{below_all, is_sorted}
use Rattle.std.specs.Cmp.{tied_itself}
use Rattle.std.specs.Ordering.{is_lt}
use Rattle.std.proofs.lemmas.List.Sums.{sum_by-append, sum_by-cons}
use Rattle.gz_names.specs.Order.{name_cmp, names_total}
use Rattle.gz_names.specs.declared.names.Name.{Name}
use Rattle.gz_names.specs.declared.numbers.Place.{Place}
use Rattle.cell_bits.specs.declared.bits.Bits.{Bits}
use Rattle.arena_table.specs.Cells.{CellState}
use Rattle.arena_table.specs.Slots.{held_in}
use Rattle.colour_defs.specs.Graph.{is_among, is_in_zones}
use Rattle.colour_defs.specs.World.{World}
use Rattle.colour_defs.proofs.Lists.{contains_cases, contains_head, contains_tail, nothing_in_none}
use Rattle.compact.specs.Packing.{held_of_zone}
use Rattle.heap_core.specs.Heap.{HeapState}
use Rattle.heap_core.specs.Shape.{ArenaShape, Shape, cell_in_arena, cell_of, name_at, out_in, out_of, present_in}
use Rattle.heap_core.specs.Shape.{zone_in}
use Rattle.heap_core.specs.Shape.{zone_of}
use Rattle.slice_driver.specs.UnitsToCome.{places_below, present_places, slots_of}
use Rattle.slice_driver.specs.Worlds.{LiesIn}
use Rattle.slice_driver.proofs.abstraction.Lying.{zone_named}
use Rattle.slice_driver.proofs.abstraction.Named.{named_present, some_one}
use Rattle.slice_driver.proofs.group_end.Maps.{entries_are}
use Rattle.slice_driver.proofs.measure.CountedCells.{IsApart, counted_cells, sum_injected}
use Rattle.slice_driver.proofs.measure.PresentPlaces.{present_listed, present_sum, where_present}

-- a sum over the numbers below a number, and the same from the lowest on
abbrev total : (ℕ → ℕ) → ℕ → ℕ
total f zero = 0
total f (suc n) = f n + total f n

from_first : (f : ℕ → ℕ) (n : ℕ) → total f (suc n) ≡ f 0 + total (λ i. f (suc i)) n
from_first f zero = refl
from_first f (suc n) = let rest = from_first f n in omega (arith, rest)

total_none : (f : ℕ → ℕ) → ((i : ℕ) → f i ≡ 0) → (n : ℕ) → total f n ≡ 0
total_none f none zero = refl
total_none f none (suc n) = let here = none n in let rest = total_none f none n in omega (arith, here, rest)

slots_total : (f : Place → ℕ) (arena n : ℕ) → sum_by f (slots_of arena n) ≡ total (λ i. f (arena, i)) n
unfolding slots_of
slots_total f arena zero = refl
slots_total f arena (suc n) =
    let first = sum_by-cons f (arena, n) (slots_of arena n) in
    let rest = slots_total f arena n in
    omega (arith, first, rest)

places_total : (f : Place → ℕ) (n : ℕ) → sum_by f (places_below n) ≡ total (λ a. sum_by f (slots_of a 64)) n
unfolding places_below
places_total f zero = refl
places_total f (suc n) =
    let both = sum_by-append f (slots_of n 64) (places_below n) in
    let rest = places_total f n in
    omega (arith, both, rest)

-- so slots that are held, and arenas of a zone, are counted
slots_counted : (slots : List (Option CellState)) (f : ℕ → ℕ)
    → ((i : ℕ) (o : Option CellState) → slice_get slots i ≡ Some o → f i ≡ (if is_some o then 1 else 0))
    → total f (length slots) ≡ held_in slots
slots_counted [] f each = refl
slots_counted (o ∷ slots) f each = by o (each 0 o refl)
    (slots_counted slots (λ i. f (suc i)) (λ i p e. each (suc i) p e)) (from_first f (length slots))
  where
    by : (p : Option CellState) → f 0 ≡ (if is_some p then 1 else 0)
        → total (λ i. f (suc i)) (length slots) ≡ held_in slots
        → total f (suc (length slots)) ≡ f 0 + total (λ i. f (suc i)) (length slots)
        → total f (suc (length slots)) ≡ held_in (p ∷ slots)
    by None first rest both = omega (arith, first, rest, both)
    by (Some cell) first rest both = omega (arith, first, rest, both)

module _ (zone : ℕ) where
  abbrev held_here : ArenaShape → ℕ
  held_here arena = if arena.zone == zone then held_in arena.slots else 0

  arenas_counted : (arenas : List ArenaShape) (f : ℕ → ℕ)
      → ((a : ℕ) (arena : ArenaShape) → slice_get arenas a ≡ Some arena → f a ≡ held_here arena)
      → total f (length arenas) ≡ held_of_zone zone arenas
  arenas_counted [] f each = refl
  arenas_counted (arena ∷ arenas) f each =
      let first = each 0 arena refl in
      let rest = arenas_counted arenas (λ a. f (suc a)) (λ a other e. each (suc a) other e) in
      let both = from_first f (length arenas) in
      omega (arith, first, rest, both)

-- the keys of a map whose values differ
both_hold : (a b : Bool) → T (a && b) → T a × T b
both_hold true b t = (tt, t)
both_hold false b t = absurd t

not_below : (x y : Name) → x ≡ y → T (is_lt (name_cmp x y)) → ⊥
not_below x y same lt =
    let at : T (is_lt (name_cmp x x)) = subst (λ (z : Name). T (is_lt (name_cmp x z))) (sym same) lt in
    subst T (ap is_lt (tied_itself names_total x)) at

later_above : (x : Name) (es : List (Name × Place)) (e : Name × Place) → T (below_all name_cmp x es)
    → Contains {X = Name × Place} es e → T (is_lt (name_cmp x e.0))
later_above x [] e below c = absurd (nothing_in_none e c)
later_above x (d ∷ es) e below c = elim (contains_cases {X = Name × Place} d es e c) [
  | inl is ↦ subst (λ (z : Name × Place). T (is_lt (name_cmp x z.0))) is (both_hold _ _ below).0
  | inr later ↦ later_above x es e (both_hold _ _ below).1 later
]

abbrev place_of_entry : Name × Place → Place
place_of_entry e = e.1

apart_entries : (es : List (Name × Place)) → T (is_sorted name_cmp es)
    → ((d e : Name × Place) → Contains {X = Name × Place} es d → Contains {X = Name × Place} es e → d.1 ≡ e.1
    → d.0 ≡ e.0)
    → IsApart place_of_entry es
apart_entries [] sorted one = tt
apart_entries (d ∷ es) sorted one = (
  λ e c same. not_below d.0 e.0
      (one d e (contains_head {X = Name × Place} d es) (contains_tail {X = Name × Place} d es e c) same)
      (later_above d.0 es e (both_hold _ _ sorted).0 c),
  apart_entries es (both_hold _ _ sorted).1 (λ a b c there same. one a b (contains_tail {X = Name × Place} d es a c)
      (contains_tail {X = Name × Place} d es b there) same),
)

counted_keys : (test : Name → Bool) (es : List (Name × Place))
    → count_by test (map (λ (e : Name × Place). e.0) es)
    ≡ sum_by (λ (e : Name × Place). cond (test e.0) 1 0) es
counted_keys test [] = refl
counted_keys test (e ∷ es) =
    let rest = counted_keys test es in
    let first = sum_by-cons (λ (x : Name). cond (test x) 1 0) e.0 (map (λ (d : Name × Place). d.0) es) in
    let entries = sum_by-cons (λ (d : Name × Place). cond (test d.0) 1 0) e es in
    omega (arith, rest, first, entries)

module _ (h : HeapState) (w : World) (l : LiesIn h w) (zone : ℕ) (kept : (a : ℕ) → out_of h.shape a ≡ None) where
  abbrev s : Shape
  s = h.shape

  abbrev is_here : Place → Bool
  is_here p = zone_of s p == zone

  abbrev is_named_here : Name → Bool
  is_named_here x = is_in_zones w.graph (zone ∷ []) x

  -- a cell is of the zone where its name is
  zone_tested : (p : Place) (x : Name) → name_at s p ≡ Some x → is_named_here x ≡ is_here p
  zone_tested p x named =
      ap (is_among (zone ∷ [])) (zone_named h l.graph w.graph p x l.shown l.part.part named)
      ∙ by (zone_of s p == zone)
    where
      by : (b : Bool) → (b || false) ≡ b
      by true = refl
      by false = refl

  abbrev found : List (Name × Place)
  found = places.entries w.places

  named_entry : (e : Name × Place) → Contains {X = Name × Place} found e → name_at s e.1 ≡ Some e.0
  named_entry e c = (l.places_are e.0 e.1).0 ((entries_are w.places e.0 e.1).0 c)

  no_more_names : count_by is_named_here (places.keys w.places) ≤ count_by is_here (present_places s)
  no_more_names =
      let all = sum_injected (λ p. cond (is_here p) 1 0) (λ (e : Name × Place). cond (is_named_here e.0) 1 0)
      place_of_entry (present_places s) found
      (apart_entries found (places.entries_sorted w.places)
      (λ d e c f same. some_one d.0 e.0 (sym (named_entry d c) ∙ (ap (name_at s) same ∙ named_entry e f))))
      (λ e c. present_listed s l.whole e.1 (named_present s e.1 e.0 (named_entry e c)))
      (λ e c. (let same : ◌≡◌ {A = ℕ} (cond (is_named_here e.0) 1 0) (cond (is_here e.1) 1 0) =
      ap (λ b. cond b 1 0) (zone_tested e.1 e.0 (named_entry e c)) in omega (arith, same))) in
      let keys = counted_keys is_named_here found in
      omega (arith, all, keys)

  no_more_cells : count_by is_here (present_places s) ≤ count_by is_named_here (places.keys w.places)
  no_more_cells = counted_cells h w l is_here is_named_here (λ p x named here. zone_tested p x named ∙ here)

  -- the cells of the zone, arena by arena
  abbrev counts : Place → ℕ
  counts = where_present s (λ p. cond (is_here p) 1 0)

  cell_there : (a i : ℕ) (arena : ArenaShape) (o : Option CellState) → slice_get s.arenas a ≡ Some arena
      → slice_get arena.slots i ≡ Some o → cell_of s (a, i) ≡ o
  cell_there a i arena o at slot =
      let none : arena.out ≡ None = sym (ap out_in at) ∙ kept a in
      ap (λ (x : Option ArenaShape). cell_in_arena x i) at
      ∙ (ap (λ (out : Option Bits). present_in out arena.slots i) none
      ∙ ap (λ (x : Option (Option CellState)). option_and_then (λ (cell : Option CellState). cell) x) slot)

  arena_counted : (a : ℕ) (arena : ArenaShape) → slice_get s.arenas a ≡ Some arena
      → sum_by counts (slots_of a 64) ≡ held_here zone arena
  arena_counted a arena at =
      ap {B = ℕ} (λ (n : ℕ). sum_by counts (slots_of a n)) (sym (l.whole a arena at))
      ∙ (slots_total counts a (length arena.slots) ∙ by (arena.zone == zone) refl)
    where
      here : zone_of s (a, 0) ≡ arena.zone
      here = ap zone_in at

      by : (b : Bool) → (arena.zone == zone) ≡ b
          → total (λ i. counts (a, i)) (length arena.slots) ≡ (if b then held_in arena.slots else 0)
      by true e = slots_counted arena.slots (λ i. counts (a, i)) (λ i o slot.
          ap {B = ℕ} (λ (x : Option CellState). if is_some x then cond (zone_of s (a, i) == zone) 1 0 else 0)
          (cell_there a i arena o at slot)
          ∙ ap {B = ℕ} (λ (b : Bool). if is_some o then cond b 1 0 else 0) (ap (λ (z : ℕ). z == zone) here ∙ e))
      by false e = total_none (λ i. counts (a, i)) (λ i.
          ap {B = ℕ} (λ (b : Bool). if is_some (cell_of s (a, i)) then cond b 1 0 else 0)
          (ap (λ (z : ℕ). z == zone) here ∙ e) ∙ none (is_some (cell_of s (a, i)))) (length arena.slots)
        where
          none : (t : Bool) → ◌≡◌ {A = ℕ} (if t then 0 else 0) 0
          none true = refl
          none false = refl

  cells_counted : count_by is_here (present_places s) ≡ held_of_zone zone s.arenas
  cells_counted = present_sum s (λ p. cond (is_here p) 1 0)
      ∙ (places_total counts (length s.arenas)
      ∙ arenas_counted zone s.arenas (λ a. sum_by counts (slots_of a 64)) arena_counted)

  pub held_is : count_by is_named_here (places.keys w.places) ≡ held_of_zone zone s.arenas
  held_is =
      let cells = cells_counted in
      let less = no_more_names in
      let more = no_more_cells in
      omega (arith, cells, less, more)

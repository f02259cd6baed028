-- The next place of a zone, by the world.
use Rattle.std.proofs.Common.{◌≡◌, ◌<◌, ◌≤◌, ◌+◌, ◌++◌, ◌==◌, ◌&&◌, ◌⊎◌, ℕ, zero, suc, Bool, true, false, List, [], ◌∷◌}
use Rattle.std.proofs.Common.{length, Option, Some, None, IsSome, is_some, is_none, slice_get, if◌then◌else◌, refl, sym}
use Rattle.std.proofs.Common.{ap, subst, ◌∙◌, inl, inr, arith, Contains, eqb-true, eq-eqb, option_map, ne_eqb}
use Rattle.std.proofs.lemmas.Option.{slice_get_within}
use Rattle.std.proofs.lemmas.List.{length-map}
use Rattle.gz_names.specs.declared.numbers.Place.{Place}
use Rattle.cell_bits.specs.declared.bits.Bits.{Bits}
use Rattle.arena_table.specs.Cells.{CellState}
use Rattle.arena_table.specs.Slots.{cell_in, first_free, has_free}
use Rattle.colour_defs.specs.World.{World, IsFreeSlot, IsPlaceFor}
use Rattle.colour_defs.proofs.Lists.{contains_cases, contains_head, contains_tail, nothing_in_none}
use Rattle.heap_core.specs.Shape.{ArenaShape, AreWhole, Shape, cell_in_arena, cell_of, out_in, present_in}
use Rattle.heap_core.specs.Heap.{HeapState}
use Rattle.heap_core.specs.Changes.{next_place, next_place_from, takes_cells}
use Rattle.slice_driver.specs.Worlds.{LiesIn, outs_from, owners_of}
use Rattle.slice_driver.proofs.basics.Owners.{owner_below, owner_by, owner_is}
use Rattle.slice_driver.proofs.abstraction.Named.{name_of, named_present, some_one}

-- a free slot of an arena of a zone that is not handed to sweeping
record IsFreeIn (xs : List ArenaShape) (zone : ℕ) (p : Place) : Type 0 where
  arena : ArenaShape
  there : slice_get xs p.0 ≡ Some arena
  zone_is : arena.zone ≡ zone
  kept : arena.out ≡ None
  below : p.1 < 64
  free : cell_in arena.slots p.1 ≡ None

-- the lowest free slot
has_lowest : (slots : List (Option CellState)) → has_free slots ≡ true → (first_free slots < length slots)
    × (cell_in slots (first_free slots) ≡ None)
has_lowest [] e = absurd (cc e)
has_lowest (None ∷ slots) e = (omega arith, refl)
has_lowest (Some c ∷ slots) e = let r = has_lowest slots e in (omega (arith, r.0), r.1)

lowest_first : (slots : List (Option CellState)) (i : ℕ) → i < length slots → cell_in slots i ≡ None
    → (has_free slots ≡ true) × (first_free slots ≤ i)
lowest_first [] i lt e = absurd (omega arith)
lowest_first (None ∷ slots) i lt e = (refl, omega arith)
lowest_first (Some c ∷ slots) zero lt e = absurd (cc e)
lowest_first (Some c ∷ slots) (suc i) lt e = let r = lowest_first slots i (omega arith) e in (r.0, omega (arith, r.1))

takes_parts : (zone : ℕ) (x : ArenaShape) → takes_cells zone x ≡ true → (x.zone ≡ zone) × (x.out ≡ None)
    × (has_free x.slots ≡ true)
takes_parts zone x e = go (x.zone == zone) refl x.out refl e
  where
    go : (b : Bool) → (x.zone == zone) ≡ b → (o : Option Bits) → x.out ≡ o → (b && (is_none o && has_free x.slots))
        ≡ true → (x.zone ≡ zone) × (x.out ≡ None) × (has_free x.slots ≡ true)
    go true is None out e = (eqb-true x.zone zone is, out, e)
    go true is (Some bits) out e = absurd (cc e)
    go false is o out e = absurd (cc e)

takes_from : (zone : ℕ) (x : ArenaShape) → x.zone ≡ zone → x.out ≡ None → has_free x.slots ≡ true
    → takes_cells zone x ≡ true
takes_from zone x z out free = rw (eq-eqb x.zone zone z, out, free) refl

-- the next place is the lowest free slot, or there is none
record IsLowest (n : ℕ) (xs : List ArenaShape) (zone : ℕ) : Type 0 where
  place : Place
  next_is : next_place_from n xs zone ≡ (n + place.0, place.1)
  free : IsFreeIn xs zone place
  lowest : (q : Place) → IsFreeIn xs zone q → (place.0 < q.0) ⊎ ((place.0 ≡ q.0) × (place.1 ≤ q.1))

record HasNone (n : ℕ) (xs : List ArenaShape) (zone : ℕ) : Type 0 where
  next_is : next_place_from n xs zone ≡ (n + length xs, 0)
  none : (q : Place) → IsFreeIn xs zone q → ⊥

AreWhole-tail : (x : ArenaShape) (xs : List ArenaShape) → AreWhole (x ∷ xs) → AreWhole xs
AreWhole-tail x xs w a arena e = w (suc a) arena e

in_first : (x : ArenaShape) (xs : List ArenaShape) (zone : ℕ) (a i : ℕ) → IsFreeIn (x ∷ xs) zone (suc a, i)
    → IsFreeIn xs zone (a, i)
in_first x xs zone a i f =
    record { arena = f.arena; there = f.there; zone_is = f.zone_is; kept = f.kept; below = f.below; free = f.free }

takes_first : (x : ArenaShape) (xs : List ArenaShape) (zone i : ℕ) → AreWhole (x ∷ xs) → IsFreeIn (x ∷ xs) zone (0, i)
    → (takes_cells zone x ≡ true) × (first_free x.slots ≤ i)
takes_first x xs zone i whole f =
    let is : x ≡ f.arena = some_one _ _ f.there in
    let size : length x.slots ≡ 64 = whole 0 x refl in
    let lt : i < 64 = f.below in
    let e : cell_in x.slots i ≡ None = ap (λ (y : ArenaShape). cell_in y.slots i) is ∙ f.free in
    let low = lowest_first x.slots i (omega (arith, lt, size)) e in (
      takes_from zone x (ap (λ (y : ArenaShape). y.zone) is ∙ f.zone_is) (ap (λ (y : ArenaShape). y.out) is ∙ f.kept)
          low.0,
      low.1,
    )

next_if : (n : ℕ) (x : ArenaShape) (xs : List ArenaShape) (zone : ℕ) (b : Bool) → takes_cells zone x ≡ b
    → next_place_from n (x ∷ xs) zone ≡ (if b then (n, first_free x.slots) else next_place_from (suc n) xs zone)
next_if n x xs zone b e = ap (λ t. if t then (n, first_free x.slots) else next_place_from (suc n) xs zone) e

lowest_or_none : (n : ℕ) (xs : List ArenaShape) (zone : ℕ) → AreWhole xs → IsLowest n xs zone ⊎ HasNone n xs zone
lowest_or_none n [] zone whole =
    inr (record { next_is = ap (λ (k : ℕ). (k, 0)) (omega arith); none = λ q f. cc (f.there) })
lowest_or_none n (x ∷ xs) zone whole = go (lowest_or_none (suc n) xs zone (AreWhole-tail x xs whole))
    (takes_cells zone x) refl
  where
    go : IsLowest (suc n) xs zone ⊎ HasNone (suc n) xs zone → (b : Bool) → takes_cells zone x ≡ b
        → IsLowest n (x ∷ xs) zone ⊎ HasNone n (x ∷ xs) zone
    go rest true e =
        let parts = takes_parts zone x e in
        let low = has_lowest x.slots parts.2 in
        let size : length x.slots ≡ 64 = whole 0 x refl in
        inl (record {
          place = (0, first_free x.slots);
          next_is = next_if n x xs zone true e ∙ ap (λ (k : ℕ). (k, first_free x.slots)) (omega arith);
          free = record {
            arena = x;
            there = refl;
            zone_is = parts.0;
            kept = parts.1;
            below = omega (arith, low.0, size);
            free = low.1;
          };
          lowest = first;
        })
      where
        first : (q : Place) → IsFreeIn (x ∷ xs) zone q → (0 < q.0) ⊎ ((0 ≡ q.0) × (first_free x.slots ≤ q.1))
        first (zero, i) f = inr (refl, (takes_first x xs zone i whole f).1)
        first (suc a, i) f = inl (omega arith)
    go rest false e = elim rest [
      | inl l ↦ inl (record {
        place = (suc l.place.0, l.place.1);
        next_is = next_if n x xs zone false e ∙ (l.next_is ∙ ap (λ (k : ℕ). (k, l.place.1)) (omega arith));
        free = record {
          arena = l.free.arena;
          there = l.free.there;
          zone_is = l.free.zone_is;
          kept = l.free.kept;
          below = l.free.below;
          free = l.free.free;
        };
        lowest = later l;
      })
      | inr h ↦ inr (record {
        next_is = next_if n x xs zone false e
            ∙ (h.next_is ∙ ap (λ (k : ℕ). (k, 0)) (omega arith));
        none = nowhere h;
      })
    ]
      where
        later : (l : IsLowest (suc n) xs zone) (q : Place) → IsFreeIn (x ∷ xs) zone q → (suc l.place.0 < q.0)
            ⊎ ((suc l.place.0 ≡ q.0) × (l.place.1 ≤ q.1))
        later l (zero, i) f = absurd (cc (e, (takes_first x xs zone i whole f).0))
        later l (suc a, i) f =
            elim (l.lowest (a, i) (in_first x xs zone a i f)) [
              | inl lt ↦ inl (omega (arith, lt))
              | inr same
                  ↦ inr (ap suc same.0, same.1)
            ]

        nowhere : HasNone (suc n) xs zone → (q : Place) → IsFreeIn (x ∷ xs) zone q → ⊥
        nowhere h (zero, i) f = cc (e, (takes_first x xs zone i whole f).0)
        nowhere h (suc a, i) f = h.none (a, i) (in_first x xs zone a i f)

-- the arenas that are out, by number
pub outs_has : (n : ℕ) (xs : List ArenaShape) (a : ℕ) → IsSome (out_in (slice_get xs a))
    → Contains (outs_from n xs) (n + a)
outs_has n [] a e = absurd (cc e)
outs_has n (x ∷ xs) zero e =
    subst (λ k. Contains (if is_some x.out then n ∷ outs_from (suc n) xs else outs_from (suc n) xs) k) (omega arith)
    (here x.out e)
  where
    here : (o : Option Bits) → IsSome o
        → Contains (if is_some o then n ∷ outs_from (suc n) xs else outs_from (suc n) xs) n
    here None e = absurd (cc e)
    here (Some b) e = contains_head n (outs_from (suc n) xs)
outs_has n (x ∷ xs) (suc a) e =
    subst (λ k. Contains (if is_some x.out then n ∷ outs_from (suc n) xs else outs_from (suc n) xs) k) (omega arith)
    (there x.out (outs_has (suc n) xs a e))
  where
    there : (o : Option Bits) → Contains (outs_from (suc n) xs) (suc n + a)
        → Contains (if is_some o then n ∷ outs_from (suc n) xs else outs_from (suc n) xs) (suc n + a)
    there None c = c
    there (Some b) c = contains_tail n (outs_from (suc n) xs) (suc n + a) c

pub outs_only : (n : ℕ) (xs : List ArenaShape) (k : ℕ) → Contains (outs_from n xs) k → (a : ℕ) × (k ≡ n + a)
    × IsSome (out_in (slice_get xs a))
outs_only n [] k c = absurd (nothing_in_none k c)
outs_only n (x ∷ xs) k c = go (λ t. outs_only (suc n) xs k t) x.out refl c
  where
    next : (a : ℕ) × (k ≡ suc n + a) × IsSome (out_in (slice_get xs a)) → (a : ℕ) × (k ≡ n + a)
        × IsSome (out_in (slice_get (x ∷ xs) a))
    next r = (suc r.0, omega (arith, r.1), r.2)

    go : (Contains (outs_from (suc n) xs) k → (a : ℕ) × (k ≡ suc n + a) × IsSome (out_in (slice_get xs a)))
        → (o : Option Bits) → x.out ≡ o
        → Contains (if is_some o then n ∷ outs_from (suc n) xs else outs_from (suc n) xs) k → (a : ℕ) × (k ≡ n + a)
        × IsSome (out_in (slice_get (x ∷ xs) a))
    go more None out c = next (more c)
    go more (Some b) out c =
        elim (contains_cases n (outs_from (suc n) xs) k c) [
          | inl e ↦ (0, omega (arith, e), ap is_some out)
          | inr t
              ↦ next (more t)
        ]

-- free slots of the world
arena_owned : (xs : List ArenaShape) (a zone : ℕ) → slice_get (owners_of xs) a ≡ Some (Some zone) → (arena : ArenaShape)
    × (slice_get xs a ≡ Some arena) × (arena.zone ≡ zone)
arena_owned [] a zone e = absurd (cc e)
arena_owned (x ∷ xs) zero zone e = (x, refl, owner_is x.zone zone (cc e))
arena_owned (x ∷ xs) (suc a) zone e = arena_owned xs a zone e

owned_arena : (xs : List ArenaShape) (a : ℕ) (arena : ArenaShape) → slice_get xs a ≡ Some arena
    → slice_get (owners_of xs) a ≡ Some (owner_by arena.zone)
owned_arena [] a arena e = absurd (cc e)
owned_arena (x ∷ xs) zero arena e = ap (λ o. option_map (λ (y : ArenaShape). owner_by y.zone) o) e
owned_arena (x ∷ xs) (suc a) arena e = owned_arena xs a arena e

kept_cell : (s : Shape) (p : Place) (arena : ArenaShape) → slice_get s.arenas p.0 ≡ Some arena → arena.out ≡ None
    → cell_of s p ≡ cell_in arena.slots p.1
kept_cell s p arena e kept = ap (λ o. cell_in_arena o p.1) e ∙ ap (λ o. present_in o arena.slots p.1) kept

from_zero : (k : ℕ) → 0 + k ≡ k
from_zero k = omega arith

module _ (h : HeapState) (w : World) (l : LiesIn h w) where
  free_in_heap : (zone : ℕ) (q : Place) → IsFreeSlot w zone q → IsFreeIn h.shape.arenas zone q
  free_in_heap zone q f =
      let owned = arena_owned h.shape.arenas q.0 zone
      (subst (λ xs. slice_get xs q.0 ≡ Some (Some zone)) l.owner_is f.owned) in
      let kept : owned.0.out ≡ None =
      no_bits owned.0.out (λ some.
      f.not_out (subst (λ xs. Contains xs q.0) (sym l.out_is)
      (subst (λ k. Contains (outs_from 0 h.shape.arenas) k) (from_zero q.0)
      (outs_has 0 h.shape.arenas q.0 (subst (λ o. IsSome (out_in o)) (sym owned.1) some))))) in
      record {
        arena = owned.0;
        there = owned.1;
        zone_is = owned.2;
        kept = kept;
        below = f.below;
        free = sym (kept_cell h.shape q owned.0 owned.1 kept)
            ∙ no_cell (cell_of h.shape q)
            (λ some. (let n = name_of h.shape q some in f.free n.0 ((l.places_are n.0 q).1 n.1)));
      }
    where
      no_bits : (o : Option Bits) → (IsSome o → ⊥) → o ≡ None
      no_bits None n = refl
      no_bits (Some b) n = absurd (n refl)

      no_cell : (o : Option CellState) → (IsSome o → ⊥) → o ≡ None
      no_cell None n = refl
      no_cell (Some c) n = absurd (n refl)

  free_in_world : (zone : ℕ) (q : Place) → zone < 64 → IsFreeIn h.shape.arenas zone q → IsFreeSlot w zone q
  free_in_world zone q small f = record {
    owned = subst (λ xs. slice_get xs q.0 ≡ Some (Some zone)) (sym l.owner_is)
        (owned_arena h.shape.arenas q.0 f.arena f.there
        ∙ ap (λ o. Some o) (ap owner_by f.zone_is ∙ owner_below zone small));
    not_out = λ c. (let o = outs_only 0 h.shape.arenas q.0 (subst (λ xs. Contains xs q.0) l.out_is c) in
        let some : IsSome (out_in (slice_get h.shape.arenas q.0)) =
        subst (λ k. IsSome (out_in (slice_get h.shape.arenas k))) (sym (o.1 ∙ from_zero o.0)) o.2 in
        let none : out_in (slice_get h.shape.arenas q.0) ≡ None = ap out_in f.there ∙ f.kept in cc (some, none));
    below = f.below;
    free = λ x e. (let some = named_present h.shape q x ((l.places_are x q).0 e) in
        let none : cell_of h.shape q ≡ None = kept_cell h.shape q f.arena f.there f.kept ∙ f.free in cc (some, none));
  }

  -- the next place is the one for a new cell of the zone
  pub place_is_for : (zone : ℕ) (p : Place) (owner : List (Option ℕ)) → zone < 64 → p ≡ next_place h.shape zone
      → owner ≡ (if p.0 == length h.shape.arenas then owners_of h.shape.arenas ++ Some zone ∷ []
      else owners_of h.shape.arenas) → IsPlaceFor w zone p owner
  place_is_for zone p owner small e owners = elim (lowest_or_none 0 h.shape.arenas zone l.whole) [
    | inl low ↦
        let is : low.place ≡ p = ap (λ (k : ℕ). (k, low.place.1)) (sym (from_zero low.place.0))
        ∙ (sym low.next_is ∙ sym e) in
        let lt : low.place.0 < length h.shape.arenas =
        slice_get_within h.shape.arenas low.place.0 low.free.arena low.free.there in
        let other : (low.place.0 == length h.shape.arenas) ≡ false =
        less_other low.place.0 (length h.shape.arenas) lt in
        subst (λ q. owner ≡ (if q.0 == length h.shape.arenas then owners_of h.shape.arenas ++ Some zone ∷ []
        else owners_of h.shape.arenas) → IsPlaceFor w zone q owner) is
        (λ o. inl (
          free_in_world zone low.place small low.free,
          o ∙ ap (λ b. if b then owners_of h.shape.arenas ++ Some zone ∷ [] else owners_of h.shape.arenas) other
              ∙ sym l.owner_is,
          λ q f. low.lowest q (free_in_heap zone q f),
        )) owners
    | inr none ↦
        let is : (length h.shape.arenas, 0) ≡ p = ap (λ (k : ℕ). (k, 0)) (sym (from_zero (length h.shape.arenas)))
        ∙ (sym none.next_is ∙ sym e) in
        let size : length w.owner ≡ length h.shape.arenas = ap (λ (xs : List (Option ℕ)). length xs) l.owner_is
        ∙ length-map h.shape.arenas (λ (arena : ArenaShape). owner_by arena.zone) in
        subst (λ q. owner ≡ (if q.0 == length h.shape.arenas then owners_of h.shape.arenas ++ Some zone ∷ []
        else owners_of h.shape.arenas) → IsPlaceFor w zone q owner) is
        (λ o. inr (
          λ q f. none.none q (free_in_heap zone q f),
          ap (λ (k : ℕ). (k, 0)) (sym size),
          o ∙ ap (λ b. if b then owners_of h.shape.arenas ++ Some zone ∷ [] else owners_of h.shape.arenas)
              (eq-eqb (length h.shape.arenas) (length h.shape.arenas) refl)
              ∙ ap (λ (xs : List (Option ℕ)). xs ++ Some zone ∷ []) (sym l.owner_is),
        )) owners
  ]
    where
      less_other : (a b : ℕ) → a < b → (a == b) ≡ false
      less_other a b lt = ne_eqb a b (λ e. omega (arith, e, lt))

-- What the changes of the heap leave in place.
use Rattle.std.proofs.Common.{◌≡◌, ◌<◌, ◌+◌, ◌++◌, ◌==◌, ◌↔◌, ℕ, suc, Bool, true, false, List, [], ◌∷◌, length, Option}
use Rattle.std.proofs.Common.{Some, None, is_some, slice_get, if◌then◌else◌, refl, sym, ap, subst, ◌∙◌, inl, inr, arith}
use Rattle.std.proofs.Common.{option_map, eqb-true}
use Rattle.gz_names.specs.declared.names.Name.{Name}
use Rattle.gz_names.specs.declared.names.Name.TheVariants.{Wrap}
use Rattle.gz_names.specs.declared.numbers.CompNo.{CompNo}
use Rattle.gz_names.specs.declared.numbers.Place.{Place}
use Rattle.arena_table.specs.Cells.{CellState, with_value}
use Rattle.arena_table.specs.Table.{is_place}
use Rattle.heap_core.specs.Shape.{ArenaShape, AreWhole, Shape, cell_in_arena, cell_of, out_in, out_of, stored_at}
use Rattle.heap_core.specs.Shape.{stored_in, zone_in}
use Rattle.heap_core.specs.Heap.{HeapState}
use Rattle.heap_core.specs.Changes.{Makes, MakesWrapper, Writes, wrapper_cell}
use Rattle.heap_core.proofs.MakingCells.{same-place}
use Rattle.slice_driver.specs.Worlds.{IsUnswept, outs_from, owners_of}
use Rattle.slice_driver.specs.Commands.{ComesTo, StayInPlace}
use Rattle.slice_driver.proofs.basics.Owners.{owner_below, owner_by}
use Rattle.slice_driver.proofs.abstraction.Named.{some_one}

abbrev name_in : Option CellState → Option Name
name_in o = option_map (λ (c : CellState). c.name) o

-- the owners and the arenas that are out, arena by arena
pub outs_same : (n : ℕ) (xs ys : List ArenaShape) → ((a : ℕ) → out_in (slice_get xs a) ≡ out_in (slice_get ys a))
    → outs_from n xs ≡ outs_from n ys
outs_same n [] [] e = refl
outs_same n [] (y ∷ ys) e = outs_same (suc n) [] ys (λ a. e (suc a))
    ∙ ap (λ o. if is_some o then n ∷ outs_from (suc n) ys else outs_from (suc n) ys) (e 0)
outs_same n (x ∷ xs) [] e = ap (λ o. if is_some o then n ∷ outs_from (suc n) xs else outs_from (suc n) xs) (e 0)
    ∙ outs_same (suc n) xs [] (λ a. e (suc a))
outs_same n (x ∷ xs) (y ∷ ys) e = ap (λ o. if is_some o then n ∷ outs_from (suc n) xs else outs_from (suc n) xs) (e 0)
    ∙ ap (λ zs. if is_some y.out then n ∷ zs else zs) (outs_same (suc n) xs ys (λ a. e (suc a)))

pub owners_same : (xs ys : List ArenaShape) → length xs ≡ length ys
    → ((a : ℕ) → a < length ys → zone_in (slice_get xs a) ≡ zone_in (slice_get ys a)) → owners_of xs ≡ owners_of ys
owners_same [] [] e f = refl
owners_same [] (y ∷ ys) e f = absurd (omega (arith, e))
owners_same (x ∷ xs) [] e f = absurd (omega (arith, e))
owners_same (x ∷ xs) (y ∷ ys) e f = ap (λ z. owner_by z ∷ owners_of xs) (f 0 (omega arith))
    ∙ ap (λ zs. owner_by y.zone ∷ zs) (owners_same xs ys (omega (arith, e)) (λ a lt. f (suc a) (omega (arith, lt))))

pub owners_more : (xs ys : List ArenaShape) (zone : ℕ) → length xs ≡ length ys + 1
    → ((a : ℕ) → a < length ys → zone_in (slice_get xs a) ≡ zone_in (slice_get ys a))
    → zone_in (slice_get xs (length ys)) ≡ zone → zone < 64 → owners_of xs ≡ owners_of ys ++ Some zone ∷ []
owners_more [] ys zone e f z below = absurd (omega (arith, e))
owners_more (x ∷ xs) [] zone e f z below =
    ap (λ o. o ∷ owners_of xs) (ap owner_by z ∙ owner_below zone below)
    ∙ ap (λ zs. Some zone ∷ zs) (owners_same xs [] (omega (arith, e)) (λ a lt. absurd (omega (arith, lt))))
owners_more (x ∷ xs) (y ∷ ys) zone e f z below =
    ap (λ k. owner_by k ∷ owners_of xs) (f 0 (omega arith))
    ∙ ap (λ zs. owner_by y.zone ∷ zs)
    (owners_more xs ys zone (omega (arith, e)) (λ a lt. f (suc a) (omega (arith, lt))) z below)

-- cells that are not swept, where what stands there keeps its name
stored_named : (o u : Option CellState) (cell : CellState) → name_in u ≡ name_in o → o ≡ Some cell → (other : CellState)
    × (u ≡ Some other) × (other.name ≡ cell.name)
stored_named o None cell e is = absurd (cc (e, is))
stored_named o (Some other) cell e is = (other, refl, some_one _ _ (e ∙ ap name_in is))

unswept_kept : (s t : Shape) (p : Place) (x : Name) → out_of t p.0 ≡ out_of s p.0
    → name_in (stored_at t p) ≡ name_in (stored_at s p) → IsUnswept s p x → IsUnswept t p x
unswept_kept s t p x out named u =
    let there = stored_named (stored_at s p) (stored_at t p) u.cell named u.cell_is in
    record {
      bits = u.bits;
      cell = there.0;
      out_is = out ∙ u.out_is;
      white = u.white;
      cell_is = there.1;
      name_is = there.2 ∙ u.name_is;
    }

pub unswept_same : (s t : Shape) (p : Place) (x : Name) → out_of t p.0 ≡ out_of s p.0
    → name_in (stored_at t p) ≡ name_in (stored_at s p) → IsUnswept t p x ↔ IsUnswept s p x
unswept_same s t p x out named =
    (λ u. unswept_kept t s p x (sym out) (sym named) u, λ u. unswept_kept s t p x out named u)

-- the arenas are as they were
pub stay_same : (s t : Shape) → t.arenas ≡ s.arenas → AreWhole s.arenas → StayInPlace s t
stay_same s t e whole = record {
  names = λ p. ap (λ xs. name_in (cell_in_arena (slice_get xs p.0) p.1)) e;
  owners = ap owners_of e;
  outs = ap (outs_from 0) e;
  unswept = λ p x. unswept_same s t p x (ap (λ xs. out_in (slice_get xs p.0)) e)
      (ap (λ xs. name_in (stored_in (slice_get xs p.0) p.1)) e);
  whole = subst AreWhole (sym e) whole;
}

-- a field was written
written_name : (f : ℕ) (v : Option Place) (b : Bool) (o : Option CellState)
    → name_in (if b then option_map (with_value f v) o else o) ≡ name_in o
written_name f v true None = refl
written_name f v true (Some c) = refl
written_name f v false o = refl

pub stay_writes : (old : HeapState) (p : Place) (f : ℕ) (v : Option Place) (new : HeapState) → Writes old p f v new
    → AreWhole old.shape.arenas → StayInPlace old.shape new.shape
stay_writes old p f v new w whole = record {
  names = λ q. ap name_in (w.cells q) ∙ written_name f v (is_place q p) (cell_of old.shape q);
  owners = owners_same new.shape.arenas old.shape.arenas w.sized (λ a lt. w.zones (a, 0));
  outs = outs_same 0 new.shape.arenas old.shape.arenas w.outs;
  unswept = λ q x. unswept_same old.shape new.shape q x (w.outs q.0)
      (ap name_in (w.stored q) ∙ written_name f v (is_place q p) (stored_at old.shape q));
  whole = w.whole whole;
}

-- a cell was made
pub comes_makes : (old : HeapState) (zone : ℕ) (p : Place) (cell : CellState) (new : HeapState)
    → Makes old zone p cell new → AreWhole old.shape.arenas → ComesTo old.shape new.shape zone p cell.name
comes_makes old zone p cell new m whole = record {
  place_is = m.place_is;
  free = λ some. cc (some, m.free);
  names = λ q. ap name_in (m.cells q) ∙ named (is_place q p) (cell_of old.shape q);
  below = m.below;
  zone_is = m.zone_is;
  owners = owners (p.0 == length old.shape.arenas) refl;
  outs = outs_same 0 new.shape.arenas old.shape.arenas m.outs;
  unswept = λ q y. elim (same-place q p) [
    | inl e ↦ (
      λ u. absurd (none_here q e.0 new.shape y (m.outs q.0) u),
      λ u. absurd (none_here q e.0 old.shape y refl u),
    )
    | inr n ↦ unswept_same old.shape new.shape q y (m.outs q.0)
        (ap name_in (m.stored q ∙ ap (λ b. if b then Some cell else stored_at old.shape q) n.1))
  ];
  whole = m.whole whole;
}
  where
    named : (b : Bool) (o : Option CellState)
        → name_in (if b then Some cell else o) ≡ (if b then Some cell.name else name_in o)
    named true o = refl
    named false o = refl

    owners : (b : Bool) → (p.0 == length old.shape.arenas) ≡ b
        → owners_of new.shape.arenas
        ≡ (if b then owners_of old.shape.arenas ++ Some zone ∷ [] else owners_of old.shape.arenas)
    owners true e = owners_more new.shape.arenas old.shape.arenas zone
        (m.grown ∙ ap (λ b. if b then length old.shape.arenas + 1 else length old.shape.arenas) e)
        (λ a lt. m.zones (a, 0) lt)
        (ap (λ (n : ℕ). zone_in (slice_get new.shape.arenas n)) (sym (eqb-true p.0 (length old.shape.arenas) e))
        ∙ m.zone_is) m.below
    owners false e = owners_same new.shape.arenas old.shape.arenas
        (m.grown ∙ ap (λ b. if b then length old.shape.arenas + 1 else length old.shape.arenas) e)
        (λ a lt. m.zones (a, 0) lt)

    none_here : (q : Place) → q ≡ p → (s : Shape) (y : Name) → out_of s q.0 ≡ out_of old.shape q.0 → IsUnswept s q y → ⊥
    none_here q e s y out u = let none : out_of old.shape q.0 ≡ None = ap (λ (r : Place). out_of old.shape r.0) e
        ∙ m.in_place in cc (none, out, u.out_is)

-- a cell came, and then the arenas stayed as they were
pub comes_then : (s t u : Shape) (zone : ℕ) (p : Place) (x : Name) → ComesTo s t zone p x → u.arenas ≡ t.arenas
    → ComesTo s u zone p x
comes_then s t u zone p x m e =
    let stay = stay_same t u e m.whole in
    record {
      place_is = m.place_is;
      free = m.free;
      names = λ q. stay.names q ∙ m.names q;
      below = m.below;
      zone_is = ap (λ xs. zone_in (slice_get xs p.0)) e ∙ m.zone_is;
      owners = stay.owners ∙ m.owners;
      outs = stay.outs ∙ m.outs;
      unswept = λ q y. (
        (λ h. (m.unswept q y).0 ((stay.unswept q y).0 h)),
        λ h. (stay.unswept q y).1 ((m.unswept q y).1 h),
      );
      whole = stay.whole;
    }

pub comes_wrapper : (old : HeapState) (zone : ℕ) (comp : CompNo) (number : ℕ) (target p : Place) (new : HeapState)
    → MakesWrapper old zone comp number target p new → AreWhole old.shape.arenas
    → ComesTo old.shape new.shape zone p (Wrap comp number)
comes_wrapper old zone comp number target p new m whole =
    comes_then old.shape m.made.shape new.shape zone p (Wrap comp number)
    (comes_makes old zone p (wrapper_cell comp number target) m.made m.makes whole)
    (ap (λ (h : HeapState). h.shape.arenas) m.rest)

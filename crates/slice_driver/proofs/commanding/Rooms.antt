-- How many arenas and entries a command leaves, and the invariant of gray marking with more room.
use Rattle.std.proofs.Common.{◌≡◌, ◌≤◌, ◌+◌, ◌==◌, ℕ, Bool, true, false, List, length, Option, Some, None, is_some}
use Rattle.std.proofs.Common.{if◌then◌else◌, refl, sym, ap, subst, ◌∙◌, arith}
use Rattle.gz_names.specs.declared.numbers.Place.{Place}
use Rattle.gz_names.specs.declared.replies.Reply.{Reply}
use Rattle.cell_bits.specs.declared.bits.Bits.{Bits}
use Rattle.arena_table.specs.Cells.{CellState}
use Rattle.weak_maps.specs.WeakMaps.{value_of}
use Rattle.heap_core.specs.Heap.{HeapState}
use Rattle.heap_core.specs.Changes.{IsWith, Makes, next_place}
use Rattle.heap_core.specs.declared.plans.Change.{Change}
use Rattle.heap_core.specs.declared.plans.Change.TheVariants as change
use Rattle.heap_core.specs.Plans.{ChangesBy, IsAble, made_by}
use Rattle.mark_stack.specs.Stack.{Piles}
use Rattle.gray_lists.specs.Incoming.{Incoming}
use Rattle.barriers.specs.PendingLive.{GrayInvariant}
use Rattle.slice_driver.specs.Rooms.{arenas_after}

module _ (old new : HeapState) where
  few : (k : HeapState) → new ≡ k → k.shape.weak ≡ old.shape.weak
      → length new.shape.weak.entries ≤ length old.shape.weak.entries + 1
  few k e same = let n : length new.shape.weak.entries ≡ length old.shape.weak.entries =
      ap (λ (h : HeapState). length h.shape.weak.entries) e ∙ ap (λ w. length w.entries) same in omega (arith, n)

  few_put : (m k v : Place) → IsWith old m k v new → length new.shape.weak.entries ≤ length old.shape.weak.entries + 1
  few_put m k v w = go (is_some (value_of old.shape.weak m k)) w.count
    where
      go : (b : Bool) → length new.shape.weak.entries ≡ length old.shape.weak.entries + (if b then 0 else 1)
          → length new.shape.weak.entries ≤ length old.shape.weak.entries + 1
      go true e = omega (arith, e)
      go false e = omega (arith, e)

  pub few_entries : (ch : Change) (answer : Reply) → ChangesBy old ch answer new
      → length new.shape.weak.entries ≤ length old.shape.weak.entries + 1
  few_entries change.Zone answer by = few new refl (ap (λ (h : HeapState). h.shape.weak) by.0)
  few_entries (change.Comp z) answer by = few new refl (ap (λ (h : HeapState). h.shape.weak) by.0)
  few_entries (change.Cell r z c k) answer by =
      few new refl (ap (λ (h : HeapState). h.shape.weak) by.0.rest
      ∙ ap (λ (h : HeapState). h.shape.weak) by.0.makes.rest)
  few_entries (change.Wrapper r z c t) answer by = few new refl (ap (λ (h : HeapState). h.shape.weak) by.0.rest
      ∙ (ap (λ (h : HeapState). h.shape.weak) by.0.makes.rest
      ∙ ap (λ (h : HeapState). h.shape.weak) by.0.makes.makes.rest))
  few_entries (change.Register r v named) answer by = few new refl (ap (λ (h : HeapState). h.shape.weak) by.0)
  few_entries (change.Slot g v) answer by = few new refl (ap (λ (h : HeapState). h.shape.weak) by.0)
  few_entries (change.Field p f v) answer by = few new refl (ap (λ (h : HeapState). h.shape.weak) by.0.rest)
  few_entries (change.Put m k v) answer by = few_put m k v by.0
  few_entries (change.Del m k) answer by = (let n = by.0.count in omega (arith, n))

  as_many : new.colours ≡ old.colours → (o : Option ℕ) → length new.colours ≤ arenas_after old o
  as_many same None = let n = ap (λ (ds : List Bits). length ds) same in omega (arith, n)
  as_many same (Some zone) = let n = ap (λ (ds : List Bits). length ds) same in omega (arith, n)

  module _ (sized : length old.colours ≡ length old.shape.arenas) where
    grown_by : (b : Bool) (n : ℕ) → (if b then n + 1 else n) ≡ n + (if b then 1 else 0)
    grown_by true n = refl
    grown_by false n = omega arith

    one_arena : (k : HeapState) (zone : ℕ) (p : Place) (cell : CellState) → Makes old zone p cell k
        → new.colours ≡ k.colours → length new.colours ≤ arenas_after old (Some zone)
    one_arena k zone p cell m same =
        let n : length new.colours ≡ length k.colours = ap (λ (ds : List Bits). length ds) same in
        let by : length k.shape.arenas ≡ length old.shape.arenas + (if p.0 == length old.shape.arenas then 1 else 0) =
        m.grown ∙ grown_by (p.0 == length old.shape.arenas) (length old.shape.arenas) in
        let at : ◌≡◌ {A = ℕ} (if p.0 == length old.shape.arenas then 1 else 0)
        (if (next_place old.shape zone).0 == length old.shape.arenas then 1 else 0) =
        ap (λ (q : Place). if q.0 == length old.shape.arenas then 1 else 0) m.place_is in
        let coloured = m.coloured in
        omega (arith, n, by, at, coloured, sized)

    pub few_arenas : (n : ℕ) (ch : Change) (answer : Reply) → IsAble old.shape n ch → ChangesBy old ch answer new
        → length new.colours ≤ arenas_after old (made_by ch)
    few_arenas n change.Zone answer able by = as_many (ap (λ (h : HeapState). h.colours) by.0) None
    few_arenas n (change.Comp z) answer able by = as_many (ap (λ (h : HeapState). h.colours) by.0) None
    few_arenas n (change.Cell r z c k) answer able by =
        subst (λ (o : Option ℕ). length new.colours ≤ arenas_after old o) (sym by.0.home ∙ able.0.home)
        (one_arena by.0.made by.0.zone by.0.place _ by.0.makes (ap (λ (h : HeapState). h.colours) by.0.rest))
    few_arenas n (change.Wrapper r z c t) answer able by =
        subst (λ (o : Option ℕ). length new.colours ≤ arenas_after old o) (sym by.0.home ∙ able.0.home)
        (one_arena by.0.makes.made by.0.zone by.0.wrapper _ by.0.makes.makes
        (ap (λ (h : HeapState). h.colours) by.0.rest ∙ ap (λ (h : HeapState). h.colours) by.0.makes.rest))
    few_arenas n (change.Register r v named) answer able by = as_many (ap (λ (h : HeapState). h.colours) by.0) None
    few_arenas n (change.Slot g v) answer able by = as_many (ap (λ (h : HeapState). h.colours) by.0) None
    few_arenas n (change.Field p f v) answer able by = as_many (ap (λ (h : HeapState). h.colours) by.0.rest) None
    few_arenas n (change.Put m k v) answer able by = as_many (ap (λ (h : HeapState). h.colours) by.0.rest) None
    few_arenas n (change.Del m k) answer able by = as_many (ap (λ (h : HeapState). h.colours) by.0.rest) None

-- more room on the lists
pub gray_room : (h : HeapState) (p : Piles) (lists more : Incoming) → more ≡ record lists { room = more.room }
    → lists.room ≤ more.room → GrayInvariant h p lists → GrayInvariant h p more
gray_room h p lists more e le g =
    subst (λ (z : Incoming). GrayInvariant h p z) (sym e) (record {
      buffered_seen = g.buffered_seen;
      buffered_present = g.buffered_present;
      incoming_seen = g.incoming_seen;
      closed = g.closed;
      apart = g.apart;
      lists_apart = g.lists_apart;
      few = g.few;
      room = (let was = g.room in omega (arith, was, le));
    })

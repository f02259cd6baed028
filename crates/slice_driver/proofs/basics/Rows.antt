-- The rows of weak entries whose keys are wrappers tell the zones of these, whatever changes.
use Rattle.std.proofs.Common.{◌≡◌, ◌<◌, ◌+◌, ◌==◌, ℕ, Bool, true, false, List, length, Option, Some, None}
use Rattle.std.proofs.Common.{IsSome, Contains, is_some, if◌then◌else◌, inl, inr, refl, sym, ap, subst, ◌∙◌, arith}
use Rattle.std.proofs.lemmas.List.Elements.{Contains-push_cases}
use Rattle.gz_names.specs.declared.commands.Kind.{Kind}
use Rattle.gz_names.specs.declared.commands.Kind.TheVariants as kind
use Rattle.gz_names.specs.declared.numbers.Place.{Place}
use Rattle.gz_names.specs.declared.replies.Reply.{Reply}
use Rattle.arena_table.specs.Cells.{CellState, field_of}
use Rattle.weak_maps.specs.Delegates.{DelegateRow, row_of}
use Rattle.weak_maps.specs.WeakMaps.{WeakTableState, rows_with, value_of}
use Rattle.weak_maps.specs.declared.delegates.Delegate.{Delegate}
use Rattle.weak_maps.specs.declared.entries.EntryKey.{EntryKey}
use Rattle.heap_core.specs.Shape.{ArenaShape, Shape, cell_of, delegate_in, delegate_of_key, wrapped_by, zone_of}
use Rattle.heap_core.specs.Heap.{HeapState}
use Rattle.heap_core.specs.Changes.{Makes}
use Rattle.heap_core.specs.Plans.{ChangesBy}
use Rattle.heap_core.specs.declared.plans.Change.{Change}
use Rattle.heap_core.specs.declared.plans.Change.TheVariants as change
use Rattle.heap_core.proofs.Places.{present_within}
use Rattle.slice_driver.specs.Worlds.{AreRowsAtHome}
use Rattle.slice_driver.proofs.basics.Cells.{HasSameCells}

-- rows that were there, in arenas that stay in their zones
pub rows_kept : (s t : Shape) → ((row : DelegateRow) → Contains t.weak.delegates.rows row
    → Contains s.weak.delegates.rows row) → ((a : ℕ) → a < length s.arenas → a < length t.arenas)
    → ((p : Place) → p.0 < length s.arenas → zone_of t p ≡ zone_of s p) → AreRowsAtHome s → AreRowsAtHome t
rows_kept s t was within zones homes row has =
    let home = homes row (was row has) in
    record { within = within row.key.0 home.within; zone_is = home.zone_is ∙ sym (zones row.key home.within) }

pub rows_same : (s t : Shape) → t.weak ≡ s.weak → t.arenas ≡ s.arenas → AreRowsAtHome s → AreRowsAtHome t
rows_same s t weak arenas homes = rows_kept s t
    (λ row has. subst (λ (w : WeakTableState). Contains w.delegates.rows row) weak has)
    (λ a lt. subst (λ (xs : List ArenaShape). a < length xs) (sym arenas) lt)
    (λ p lt. ap (λ (xs : List ArenaShape). zone_of (record s { arenas = xs }) p) arenas) homes

-- no cell changed, and there are as many arenas
pub rows_in : (h k : HeapState) → HasSameCells h k → length k.shape.arenas ≡ length h.shape.arenas
    → AreRowsAtHome h.shape → AreRowsAtHome k.shape
rows_in h k same sized homes = rows_kept h.shape k.shape
    (λ row has. subst (λ (w : WeakTableState). Contains w.delegates.rows row) same.weak has)
    (λ a lt. omega (arith, lt, sized)) (λ p lt. same.zones p) homes

-- a cell was made
made_rows : (h : HeapState) (zone : ℕ) (p : Place) (cell : CellState) (m : HeapState) → Makes h zone p cell m
    → AreRowsAtHome h.shape → AreRowsAtHome m.shape
made_rows h zone p cell m makes homes =
    rows_kept h.shape m.shape
    (λ row has. subst (λ (w : WeakTableState). Contains w.delegates.rows row)
    (ap (λ (z : HeapState). z.shape.weak) makes.rest) has) (λ a lt. more
    (p.0 == length h.shape.arenas) a makes.grown lt)
    makes.zones homes
  where
    more : (b : Bool) (a : ℕ)
        → length m.shape.arenas ≡ (if b then length h.shape.arenas + 1 else length h.shape.arenas)
        → a < length h.shape.arenas → a < length m.shape.arenas
    more true a grown lt = omega (arith, grown, lt)
    more false a grown lt = omega (arith, grown, lt)

-- what a wrapper leads to came with the wrapper's zone
wrapped_zone : (k : Kind) (t : Option Place) (z : ℕ) (d : Delegate) → wrapped_by k t z ≡ Some d → d.zone ≡ z
wrapped_zone (kind.Object n) t z d e = absurd (cc e)
wrapped_zone kind.Map t z d e = absurd (cc e)
wrapped_zone kind.Wrapper None z d e = absurd (cc e)
wrapped_zone kind.Wrapper (Some p) z d e = (let is : record { target = p; zone = z } ≡ d = cc e in
    sym (ap (λ (x : Delegate). x.zone) is))

delegate_home : (o : Option CellState) (z : ℕ) (d : Delegate) → delegate_in o z ≡ Some d → IsSome o × (d.zone ≡ z)
delegate_home None z d e = absurd (cc e)
delegate_home (Some cell) z d e = (refl, wrapped_zone cell.kind (field_of cell 0) z d e)

-- an entry came with its row, if it has one
put_rows : (s t : Shape) (map key : Place) (b : Bool) (o : Option Delegate) → delegate_of_key s key ≡ o
    → t.weak.delegates.rows ≡ (if b then s.weak.delegates.rows
    else rows_with s.weak.delegates.rows (record { map = map; key = key }) o) → t.arenas ≡ s.arenas → AreRowsAtHome s
    → AreRowsAtHome t
put_rows s t map key true o is rows arenas homes = rows_kept s t
    (λ row has. subst (λ (rs : List DelegateRow). Contains rs row) rows has)
    (λ a lt. subst (λ (xs : List ArenaShape). a < length xs) (sym arenas) lt)
    (λ p lt. ap (λ (xs : List ArenaShape). zone_of (record s { arenas = xs }) p) arenas) homes
put_rows s t map key false None is rows arenas homes = rows_kept s t
    (λ row has. subst (λ (rs : List DelegateRow). Contains rs row) rows has)
    (λ a lt. subst (λ (xs : List ArenaShape). a < length xs) (sym arenas) lt)
    (λ p lt. ap (λ (xs : List ArenaShape). zone_of (record s { arenas = xs }) p) arenas) homes
put_rows s t map key false (Some d) is rows arenas homes = λ row has.
    let new : EntryKey = record { map = map; key = key } in
    let zones : zone_of t row.key ≡ zone_of s row.key =
    ap (λ (xs : List ArenaShape). zone_of (record s { arenas = xs }) row.key) arenas in
    let long : length t.arenas ≡ length s.arenas = ap (λ (xs : List ArenaShape). length xs) arenas in
    elim (Contains-push_cases s.weak.delegates.rows (row_of new d) row
    (subst (λ (rs : List DelegateRow). Contains rs row) rows has)) [
      | inl was ↦ (let home = homes row was in
          record { within = (let lt = home.within in omega (arith, lt, long)); zone_is = home.zone_is ∙ sym zones })
      | inr same ↦ (
          let home = delegate_home (cell_of s key) (zone_of s key) d is in
          let key_is : key ≡ row.key = ap (λ (r : DelegateRow). r.key) same in
          let within = present_within s key home.0 in
          let at = ap (λ (q : Place). q.0) key_is in
          record {
            within = omega (arith, within, at, long);
            zone_is = sym (ap (λ (r : DelegateRow). r.zone) same) ∙ home.1 ∙ ap (zone_of s) key_is ∙ sym zones;
          })
    ]

-- no change of the heap makes it untrue
pub rows_changed : (h k : HeapState) (ch : Change) (answer : Reply) → ChangesBy h ch answer k → AreRowsAtHome h.shape
    → AreRowsAtHome k.shape
rows_changed h k change.Zone answer by homes = rows_same h.shape k.shape
    (ap (λ (z : HeapState). z.shape.weak) by.0) (ap (λ (z : HeapState). z.shape.arenas) by.0) homes
rows_changed h k (change.Comp n) answer by homes = rows_same h.shape k.shape
    (ap (λ (z : HeapState). z.shape.weak) by.0) (ap (λ (z : HeapState). z.shape.arenas) by.0) homes
rows_changed h k (change.Cell r n d e) answer by homes =
    let held = by.0 in
    rows_same held.made.shape k.shape (ap (λ (z : HeapState). z.shape.weak) held.rest)
    (ap (λ (z : HeapState). z.shape.arenas) held.rest) (made_rows h held.zone held.place _ held.made held.makes homes)
rows_changed h k (change.Wrapper r n d t) answer by homes =
    let held = by.0 in
    let makes = held.makes in
    rows_same makes.made.shape k.shape
    (ap (λ (z : HeapState). z.shape.weak) held.rest ∙ ap (λ (z : HeapState). z.shape.weak) makes.rest)
    (ap (λ (z : HeapState). z.shape.arenas) held.rest ∙ ap (λ (z : HeapState). z.shape.arenas) makes.rest)
    (made_rows h held.zone held.wrapper _ makes.made makes.makes homes)
rows_changed h k (change.Register r v named) answer by homes = rows_same h.shape k.shape
    (ap (λ (z : HeapState). z.shape.weak) by.0) (ap (λ (z : HeapState). z.shape.arenas) by.0) homes
rows_changed h k (change.Slot g v) answer by homes = rows_same h.shape k.shape
    (ap (λ (z : HeapState). z.shape.weak) by.0) (ap (λ (z : HeapState). z.shape.arenas) by.0) homes
rows_changed h k (change.Field p f v) answer by homes =
    let writes = by.0 in
    rows_kept h.shape k.shape
    (λ row has. subst (λ (w : WeakTableState). Contains w.delegates.rows row)
    (ap (λ (z : HeapState). z.shape.weak) writes.rest) has) (λ a lt. omega (arith, lt, writes.sized))
    (λ q lt. writes.zones q) homes
rows_changed h k (change.Put m n v) answer by homes = put_rows h.shape k.shape m n (is_some (value_of h.shape.weak m n))
    (delegate_of_key h.shape n) refl by.0.rows (ap (λ (z : HeapState). z.shape.arenas) by.0.rest) homes
rows_changed h k (change.Del m n) answer by homes = rows_kept h.shape k.shape (λ row has.
    ((by.0.rows.rows row).0 has).0)
    (λ a lt. subst (λ (xs : List ArenaShape). a < length xs)
    (sym (ap (λ (z : HeapState). z.shape.arenas) by.0.rest)) lt)
    (λ p lt. ap (λ (z : HeapState). zone_of z.shape p) by.0.rest) homes

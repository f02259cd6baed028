-- Delegates after a compaction: those that were, where they and their keys went.
use Rattle.std.proofs.Common.{◌≡◌, ◌↔◌, ◌&&◌, Bool, true, false, if◌then◌else◌, List, [], ◌∷◌, map, Option, Some, None}
use Rattle.std.proofs.Common.{Contains, refl, sym, ap, subst, ◌∙◌}
use Rattle.std.specs.Option.{option_map}
use Rattle.gz_names.specs.Moves.{moved}
use Rattle.gz_names.specs.declared.commands.Kind.TheVariants as kind
use Rattle.gz_names.specs.declared.numbers.Place.{Place}
use Rattle.gz_names.proofs.Moving.{same-places, same-true}
use Rattle.arena_table.specs.Cells.{CellState}
use Rattle.arena_table.specs.Moving.{forwarded}
use Rattle.weak_maps.specs.Delegates.{DelegateRow, delegate_at, is_row}
use Rattle.weak_maps.specs.Moving.{row_forwarded}
use Rattle.weak_maps.specs.Places.{is_same}
use Rattle.weak_maps.specs.WeakMaps.{WeakTableState, delegate_of}
use Rattle.colour_defs.specs.World.{World}
use Rattle.colour_defs.proofs.Lists.{contains_head, contains_tail}
use Rattle.heap_core.specs.Heap.{HeapState}
use Rattle.heap_core.specs.Shape.{IsDelegate, IsPresent, cell_of, field_at}
use Rattle.barriers.specs.Reached.{HasEntry}
use Rattle.slice_driver.proofs.abstraction.Named.{some_one}
use Rattle.slice_driver.proofs.packing.Entries.{entry_came}
use Rattle.slice_driver.proofs.packing.Fields.{field_went}
use Rattle.slice_driver.proofs.packing.NamedWeakly.{moved_apart}
use Rattle.slice_driver.proofs.packing.Packed.{Packed}

module _ (h new : HeapState) (w : World) (packed : Packed h new w) where
  same_place : (p q : Place) → IsPresent h.shape p → IsPresent h.shape q
      → is_same (moved packed.moves p) (moved packed.moves q) ≡ is_same p q
  same_place p q here there = by (is_same p q) refl
    where
      by : (b : Bool) → is_same p q ≡ b → is_same (moved packed.moves p) (moved packed.moves q) ≡ b
      by true e = ap (λ (z : Place). is_same (moved packed.moves p) (moved packed.moves z)) (sym (same-places p q e))
          ∙ same-true (moved packed.moves p)
      by false e = moved_apart h new w packed p q here there e

  rows_gone : (rows : List DelegateRow)
      → ((row : DelegateRow) → Contains rows row → IsPresent h.shape row.map × IsPresent h.shape row.key)
      → (a b : Place) → IsPresent h.shape a → IsPresent h.shape b
      → delegate_at (map (row_forwarded packed.moves) rows) (moved packed.moves a) (moved packed.moves b)
      ≡ option_map (moved packed.moves) (delegate_at rows a b)
  rows_gone [] there a b here beside = refl
  rows_gone (row ∷ rows) there a b here beside =
      let both = there row (contains_head row rows) in
      let same : is_row (moved packed.moves a) (moved packed.moves b) (row_forwarded packed.moves row)
      ≡ is_row a b row =
      ap (λ t. t && is_same (moved packed.moves b) (moved packed.moves row.key)) (same_place a row.map here both.0)
      ∙ ap (λ t. is_same a row.map && t) (same_place b row.key beside both.1) in
      ap (λ t. if t then Some (moved packed.moves row.target)
      else delegate_at (map (row_forwarded packed.moves) rows) (moved packed.moves a) (moved packed.moves b)) same
      ∙ by (is_row a b row) (rows_gone rows (λ r c. there r (contains_tail row rows r c)) a b here beside)
    where
      by : (t : Bool)
          → delegate_at (map (row_forwarded packed.moves) rows) (moved packed.moves a) (moved packed.moves b)
          ≡ option_map (moved packed.moves) (delegate_at rows a b)
          → (if t then Some (moved packed.moves row.target)
          else delegate_at (map (row_forwarded packed.moves) rows) (moved packed.moves a) (moved packed.moves b))
          ≡ option_map (moved packed.moves) (if t then Some row.target else delegate_at rows a b)
      by true rest = refl
      by false rest = rest

  rows_there : (row : DelegateRow) → Contains h.shape.weak.delegates.rows row
      → IsPresent h.shape row.map × IsPresent h.shape row.key
  rows_there row c =
      let value = packed.entries.entered row c in
      let held = packed.lies.shown.entries_held row.map row.key value.0 value.1 in (held.0, held.1)

  delegate_gone : (a b : Place) → IsPresent h.shape a → IsPresent h.shape b
      → delegate_of new.shape.weak (moved packed.moves a) (moved packed.moves b)
      ≡ option_map (moved packed.moves) (delegate_of h.shape.weak a b)
  delegate_gone a b here beside =
      ap (λ (t : WeakTableState). delegate_at t.delegates.rows (moved packed.moves a) (moved packed.moves b))
      (ap (λ (k : HeapState). k.shape.weak) packed.relocates.rest)
      ∙ rows_gone h.shape.weak.delegates.rows rows_there a b here beside

  -- what a wrapper leads to
  same_kind : (b : Place) → IsPresent h.shape b
      → option_map (λ (cell : CellState). cell.kind) (cell_of new.shape (moved packed.moves b))
      ≡ option_map (λ (cell : CellState). cell.kind) (cell_of h.shape b)
  same_kind b there = ap (option_map (λ (cell : CellState). cell.kind)) (packed.relocates.cells b there)
      ∙ by (cell_of h.shape b)
    where
      by : (o : Option CellState)
          → option_map (λ (cell : CellState). cell.kind) (option_map (forwarded packed.moves) o)
          ≡ option_map (λ (cell : CellState). cell.kind) o
      by None = refl
      by (Some cell) = refl

  pub delegate_went : (b e : Place) → IsPresent h.shape b → IsDelegate h.shape b e
      → IsDelegate new.shape (moved packed.moves b) (moved packed.moves e)
  delegate_went b e there is = (
    same_kind b there ∙ is.0,
    field_went h new w packed b 0 there ∙ ap (option_map (moved packed.moves)) is.1,
  )

  pub delegate_came : (b k d : Place) → IsPresent h.shape b → moved packed.moves b ≡ k → IsDelegate new.shape k d
      → (e : Place) × IsDelegate h.shape b e × (moved packed.moves e ≡ d)
  delegate_came b k d there went is =
      let now : IsDelegate new.shape (moved packed.moves b) d =
      subst (λ (x : Place). IsDelegate new.shape x d) (sym went) is in
      by (field_at h.shape b 0) refl (sym (field_went h new w packed b 0 there) ∙ now.1)
      (sym (same_kind b there) ∙ now.0)
    where
      by : (o : Option Place) → field_at h.shape b 0 ≡ o → option_map (moved packed.moves) o ≡ Some d
          → option_map (λ (cell : CellState). cell.kind) (cell_of h.shape b) ≡ Some kind.Wrapper
          → (e : Place) × IsDelegate h.shape b e × (moved packed.moves e ≡ d)
      by None at led wrapper = absurd (cc led)
      by (Some e) at led wrapper = (e, (wrapper, at), some_one (moved packed.moves e) d led)

  pub delegates_after : (m k v d : Place) → HasEntry new.shape m k v
      → IsDelegate new.shape k d ↔ (delegate_of new.shape.weak m k ≡ Some d)
  delegates_after m k v d entry =
      let from = entry_came h new w packed m k v entry in
      let a = from.0 in
      let b = from.1 in
      let c = from.2 in
      let held = packed.lies.shown.entries_held a b c from.3 in
      let gone : delegate_of new.shape.weak m k ≡ option_map (moved packed.moves) (delegate_of h.shape.weak a b) =
      ap (λ (x : Place). delegate_of new.shape.weak x k) (sym from.4)
      ∙ (ap (λ (x : Place). delegate_of new.shape.weak (moved packed.moves a) x) (sym from.5)
      ∙ delegate_gone a b held.0 held.1) in (
        λ is. (let e = delegate_came b k d held.1 from.5 is in
            gone ∙ (ap (option_map (moved packed.moves)) ((packed.shape.delegates a b c e.0 from.3).0 e.1)
            ∙ ap Some e.2)),
        λ is. by a b c from.3 held.1 from.5 (delegate_of h.shape.weak a b) refl (sym gone ∙ is),
      )
    where
      by : (a b c : Place) → HasEntry h.shape a b c → IsPresent h.shape b → moved packed.moves b ≡ k
          → (o : Option Place) → delegate_of h.shape.weak a b ≡ o → option_map (moved packed.moves) o ≡ Some d
          → IsDelegate new.shape k d
      by a b c was there went None at led = absurd (cc led)
      by a b c was there went (Some e) at led =
          subst (λ (x : Place). IsDelegate new.shape x d) went
          (subst (λ (y : Place). IsDelegate new.shape (moved packed.moves b) y) (some_one (moved packed.moves e) d led)
          (delegate_went b e there ((packed.shape.delegates a b c e was).1 at)))

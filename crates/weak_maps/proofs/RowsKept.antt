-- Each row stands in the lists of its target and of its zone, whatever is done.
use Rattle.std.proofs.Common.{◌≡◌, ◌<◌, ◌+◌, ◌++◌, ◌∷◌, [], ℕ, List, Option, Some, None, IsSome, ◌↔◌, is_some}
use Rattle.std.proofs.Common.{if◌then◌else◌, length, map, position, get_or, slice_get, refl, sym, ◌∙◌, ap, subst, arith}
use Rattle.std.proofs.Common.{length-append}
use Rattle.std.specs.List.{swap_remove}
use Rattle.std.specs.Map.{keys_of}
use Rattle.std.specs.Option.{option_map, option_to_list}
use Rattle.std.proofs.lemmas.Bool.{false≢true}
use Rattle.std.proofs.lemmas.List.{length-map, map-append, get_or-map}
use Rattle.std.proofs.lemmas.List.Quantifiers.{position-Some}
use Rattle.std.proofs.lemmas.Option.{slice_get-map, slice_get-get_or}
use Rattle.gz_names.specs.declared.numbers.Place.{Place}
use Rattle.weak_maps.specs.Sides.{SideState, IsAdded, IsSide, IsUndone}
use Rattle.weak_maps.specs.Entries.{IsFor}
use Rattle.weak_maps.specs.Tables.{is_key}
use Rattle.weak_maps.specs.Delegates.{AddsRow, AreDistinctRows, AreRows, AreSameRows, AreSoundRows, DelegateRow}
use Rattle.weak_maps.specs.Delegates.{DelegatesState, key_of_row, place_of_zone, rows_of}
use Rattle.weak_maps.specs.declared.delegates.Delegate.{Delegate}
use Rattle.weak_maps.specs.declared.entries.EntryKey.{EntryKey}
use Rattle.weak_maps.proofs.Reading.{length-swap_remove}
use Rattle.weak_maps.proofs.Rows.{RowTable, seen_row}
use Rattle.weak_maps.proofs.Table.{is_key-true}
use Rattle.weak_maps.proofs.Tying.{IsFor-added, IsFor-taken, IsFor-undone}

abbrev target_of : DelegateRow → Place
target_of row = row.target

abbrev zone_of : DelegateRow → Place
zone_of row = place_of_zone row.zone

-- one row is taken out
pub AreRows-taken : (rows new : List DelegateRow) (by_target by_zone target_now zone_now : SideState) (n : ℕ)
    (d : DelegateRow) → AreRows rows by_target by_zone → n < length rows → new ≡ swap_remove rows n d
    → AreDistinctRows new → target_now.heads ≡ by_target.heads → target_now.owners ≡ swap_remove by_target.owners n 0
    → IsSide target_now → zone_now.heads ≡ by_zone.heads → zone_now.owners ≡ swap_remove by_zone.owners n 0
    → IsSide zone_now → AreRows new target_now zone_now
AreRows-taken rows new by_target by_zone target_now zone_now n d are less taken distinct target_heads target_owners
    target_side zone_heads zone_owners zone_side = record {
      distinct = distinct;
      few = (let len = ap length taken in let short = length-swap_remove rows n d in let few = are.few in
          omega (arith, len, short, few));
      targets = subst (λ rs. IsFor target_of rs target_now) (sym taken)
          (IsFor-taken target_of rows by_target target_now n d less are.targets target_heads target_owners target_side);
      zones = subst (λ rs. IsFor zone_of rs zone_now) (sym taken)
          (IsFor-taken zone_of rows by_zone zone_now n d less are.zones zone_heads zone_owners zone_side);
    }

-- a new row
pub AreRows-added : (rows new : List DelegateRow) (by_target by_zone target_now zone_now : SideState)
    (row : DelegateRow)
    → AreRows rows by_target by_zone → new ≡ rows ++ row ∷ [] → AreDistinctRows new → length rows < 4294967295
    → IsAdded by_target row.target target_now → IsSide target_now → IsAdded by_zone (place_of_zone row.zone) zone_now
    → IsSide zone_now → AreRows new target_now zone_now
AreRows-added rows new by_target by_zone target_now zone_now row are pushed distinct few target target_side zone
    zone_side = record {
      distinct = distinct;
      few = (let len = ap length pushed in let more = length-append rows (row ∷ []) in omega (arith, len, more, few));
      targets = subst (λ rs. IsFor target_of rs target_now) (sym pushed)
          (IsFor-added target_of rows by_target target_now row are.targets target target_side);
      zones = subst (λ rs. IsFor zone_of rs zone_now) (sym pushed)
          (IsFor-added zone_of rows by_zone zone_now row are.zones zone zone_side);
    }

-- the first list is put back
pub AreRows-back : (rows : List DelegateRow) (by_target by_zone mid now : SideState) (t : Place)
    → AreRows rows by_target by_zone → IsAdded by_target t mid → IsUndone by_target mid now → IsSide now
    → AreRows rows now by_zone
AreRows-back rows by_target by_zone mid now t are added undone side = record {
  distinct = are.distinct;
  few = are.few;
  targets = IsFor-undone target_of rows by_target mid now t are.targets added undone side;
  zones = are.zones;
}

-- the last row goes again
pub AreRows-undone : (before old : DelegatesState) (row : DelegateRow) (rows : List DelegateRow)
    (target_now zone_now : SideState) → AreSoundRows before → AddsRow before row old → rows ≡ before.rows
    → IsUndone before.by_target old.by_target target_now → IsSide target_now
    → IsUndone before.by_zone old.by_zone zone_now → IsSide zone_now → AreRows rows target_now zone_now
AreRows-undone before old row rows target_now zone_now are added same target target_side zone zone_side =
    subst (λ rs. AreRows rs target_now zone_now) (sym same) (record {
      distinct = are.distinct;
      few = are.few;
      targets = IsFor-undone target_of before.rows before.by_target old.by_target target_now row.target are.targets
          added.target target target_side;
      zones = IsFor-undone zone_of before.rows before.by_zone old.by_zone zone_now (place_of_zone row.zone) are.zones
          added.zone zone zone_side;
    })

pub AreSameRows-undone : (before : DelegatesState) (rows : List DelegateRow)
    (old_target old_zone target zone : SideState)
    → rows ≡ before.rows → IsUndone before.by_target old_target target → IsUndone before.by_zone old_zone zone
    → AreSameRows before (record { rows = rows; by_target = target; by_zone = zone })
AreSameRows-undone before rows old_target old_zone target zone same undone zone_undone = record {
  shows = λ i. record { rows = same i; by_target = undone.lists i; by_zone = zone_undone.lists i };
  left = undone.left;
}

-- what stood before one that came last
same_front : {X : Type 0} (xs ys : List X) (x y : X) → xs ++ x ∷ [] ≡ ys ++ y ∷ [] → xs ≡ ys
same_front [] [] x y h = refl
same_front [] (z ∷ ys) x y h =
    absurd (let len = ap length h in let more = length-append ys (y ∷ []) in omega (arith, len, more))
same_front (z ∷ xs) [] x y h =
    absurd (let len = ap length h in let more = length-append xs (x ∷ []) in omega (arith, len, more))
same_front {X} (z ∷ xs) (w ∷ ys) x y h =
    let first : z ≡ w = ap (λ l. get_or l 0 z) h in
    let rest = same_front xs ys x y (ap (λ l. tail l) h) in λ i. first i ∷ rest i
  where
    tail : List X → List X
    tail [] = []
    tail (a ∷ l) = l

pub popped : (old new : RowTable) (r : Option (EntryKey × Delegate)) (rows : List DelegateRow) (row : DelegateRow)
    → old.entries ≡ new.entries ++ option_to_list r
    → length new.entries + (if is_some r then 1 else 0) ≡ length old.entries → (IsSome r ↔ (0 < length old.entries))
    → rows_of old ≡ rows ++ row ∷ [] → rows_of new ≡ rows
popped old new None rows row is len found pushed =
    absurd (false≢true (found.1 (
    let size = ap length pushed in
    let seen = length-map old.entries seen_row in
    let more = length-append rows (row ∷ []) in
    omega (arith, size, seen, more))))
popped old new (Some p) rows row is len found pushed =
    same_front (rows_of new) rows (seen_row p) row
    (sym (map-append seen_row new.entries (p ∷ [])) ∙ (sym (ap (map seen_row) is) ∙ pushed))

-- the row at the index of a key
pub row_position : (table : RowTable) (key : EntryKey) (n : ℕ)
    → Some n ≡ position (is_key key) (keys_of table.entries)
    → (row : DelegateRow) × (slice_get (rows_of table) n ≡ Some row) × (key_of_row row ≡ key)
row_position table key n h =
    let here = position-Some (is_key key) (keys_of table.entries) n key (sym h) in
    let len = length-map table.entries (λ (p : EntryKey × Delegate). p.0) in
    let less : n < length table.entries = (let low = here.0 in omega (arith, low, len)) in
    let some : Delegate = record { target = key.map; zone = 0 } in
    let p = get_or table.entries n (key, some) in
    let at : slice_get table.entries n ≡ Some p = slice_get-get_or table.entries n (key, some) less in
    let same : key ≡ p.0 =
    is_key-true key p.0 (sym
    (ap (is_key key) (get_or-map (λ (q : EntryKey × Delegate). q.0) table.entries n (key, some) key less)) ∙ here.1)
    in (seen_row p, slice_get-map seen_row table.entries n ∙ ap (option_map seen_row) at, sym same)

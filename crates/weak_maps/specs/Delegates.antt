-- The entries whose key is a wrapper: what the wrapper leads to, and in which zone map and key lie.
use Rattle.std.specs.Prelude.{◌≡◌, ◌≢◌, ◌↔◌, ◌&&◌, ◌∷◌, ◌++◌, [], ℕ, Bool, List, Option, Some, None, AllPairs, Contains}
use Rattle.std.specs.Prelude.{◌≤◌, length, map, slice_get, slice_index_or, slice_set, if◌then◌else◌}
use Rattle.std.specs.declared.hash.FoldHasher.{FoldHasher}
use Rattle.std.specs.declared.hash.BuildHasherDefault.{BuildHasherDefault}
use Rattle.indexmap.specs.IndexMap.{IndexMap}
use Rattle.gz_names.specs.declared.numbers.Place.{Place}
use Rattle.weak_maps.specs.Places.{is_same}
use Rattle.weak_maps.specs.Sides.{SideState, IsAdded, shown}
use Rattle.weak_maps.specs.Entries.{IsFor, list_of}
use Rattle.weak_maps.specs.declared.colours.MarkColour.{MarkColour}
use Rattle.weak_maps.specs.declared.delegates.Delegate.{Delegate}
use Rattle.weak_maps.specs.declared.entries.EntryKey.{EntryKey}

-- a map, a key of it that is a wrapper, what this leads to, and the zone in which map and key lie
pub record DelegateRow : Type 0 where
  pub map : Place
  pub key : Place
  pub target : Place
  pub zone : ℕ

-- the rows by number, and the numbers of those of each target, and of each zone, that has any
pub record DelegateTableState : Type 0 where
  pub rows : List DelegateRow
  pub by_target : List (List ℕ)
  pub by_zone : List (List ℕ)

-- the rows by number, and where each stands
pub record DelegatesState : Type 0 where
  pub rows : List DelegateRow
  pub by_target : SideState
  pub by_zone : SideState

-- what callers see of them
abbrev pub rows_shown : DelegatesState → DelegateTableState
rows_shown d = record { rows = d.rows; by_target = shown d.by_target.lists; by_zone = shown d.by_zone.lists }

abbrev pub row_of : EntryKey → Delegate → DelegateRow
row_of key delegate =
    record { map = key.map; key = key.key; target = delegate.target; zone = delegate.zone }

abbrev pub rows_of : IndexMap EntryKey Delegate (BuildHasherDefault FoldHasher) → List DelegateRow
rows_of table = map (λ row. row_of row.0 row.1) table.entries

-- what a row is found by
abbrev pub key_of_row : DelegateRow → EntryKey
key_of_row row = record { map = row.map; key = row.key }

-- whether a row is that of a key in a map
abbrev pub is_row : Place → Place → DelegateRow → Bool
is_row m k row = is_same m row.map && is_same k row.key

-- what the key of an entry leads to, if it is a wrapper
abbrev pub delegate_at : List DelegateRow → Place → Place → Option Place
delegate_at [] m k = None
delegate_at (row ∷ rows) m k = if is_row m k row then Some row.target else delegate_at rows m k

-- the place that stands for a zone
abbrev pub place_of_zone : ℕ → Place
place_of_zone zone = (zone, 0)

-- the row of a number
abbrev pub row_numbered : List DelegateRow → Place → ℕ → DelegateRow
row_numbered rows p n = slice_index_or rows n (record { map = p; key = p; target = p; zone = 0 })

-- the rows of a target, and of a zone
abbrev pub rows_of_target : DelegateTableState → Place → List DelegateRow
rows_of_target d p = map (row_numbered d.rows p) (list_of (λ row. row.target) d.rows p d.by_target)

abbrev pub rows_of_zone : DelegateTableState → ℕ → List DelegateRow
rows_of_zone d z =
    map (row_numbered d.rows (place_of_zone z)) (list_of (λ row. place_of_zone row.zone) d.rows (place_of_zone z)
    d.by_zone)

-- no key of a map has two rows
abbrev pub AreDistinctRows : List DelegateRow → Type 0
AreDistinctRows rows = AllPairs (λ d e. d.map ≡ e.map → d.key ≢ e.key) rows

-- what always holds: each row stands in the lists of its target and of its zone
pub record AreRows (rows : List DelegateRow) (by_target by_zone : SideState) : Type 0 where
  pub distinct : AreDistinctRows rows
  pub few : length rows ≤ 4294967295
  pub targets : IsFor (λ (row : DelegateRow). row.target) rows by_target
  pub zones : IsFor (λ (row : DelegateRow). place_of_zone row.zone) rows by_zone

abbrev pub AreSoundRows : DelegatesState → Type 0
AreSoundRows d = AreRows d.rows d.by_target d.by_zone

-- those of the rows that meet a condition
abbrev pub AreRowsThat : (DelegateRow → Type 0) → List DelegateRow → List DelegateRow → Type 0
AreRowsThat P rows listed = (row : DelegateRow) → Contains listed row ↔ (Contains rows row × P row)

-- what always holds, as callers see it
pub record AreDelegates (d : DelegateTableState) : Type 0 where
  pub distinct : AreDistinctRows d.rows
  pub found : (row : DelegateRow) → Contains d.rows row → delegate_at d.rows row.map row.key ≡ Some row.target
  pub there : (m k t : Place) → delegate_at d.rows m k ≡ Some t
      → (z : ℕ) × Contains d.rows (record { map = m; key = k; target = t; zone = z })
  pub of_target : (p : Place) → AreRowsThat (λ row. row.target ≡ p) d.rows (rows_of_target d p)
  pub of_zone : (z : ℕ) → AreRowsThat (λ row. row.zone ≡ z) d.rows (rows_of_zone d z)

-- a row came, after the others; it is not to be looked at
pub record AddsRow (old : DelegatesState) (row : DelegateRow) (new : DelegatesState) : Type 0 where
  pub rows : new.rows ≡ old.rows ++ row ∷ []
  pub target : IsAdded old.by_target row.target new.by_target
  pub zone : IsAdded old.by_zone (place_of_zone row.zone) new.by_zone

-- a row came last
pub record HasNewRow (new : DelegatesState) : Type 0 where
  pub before : DelegatesState
  pub sound : AreSoundRows before
  pub row : DelegateRow
  pub added : AddsRow before row new

-- the rows are as they were, and are to be looked at as they were
pub record AreSameRows (old new : DelegatesState) : Type 0 where
  pub shows : rows_shown new ≡ rows_shown old
  pub left : new.by_target.left ≡ old.by_target.left

-- the row of a key goes, if there is one
pub record TakesRow (key : EntryKey) (old new : List DelegateRow) : Type 0 where
  pub found : (m k : Place) → delegate_at new m k
      ≡ (if is_same key.map m && is_same key.key k then None else delegate_at old m k)
  pub rows : (row : DelegateRow) → Contains new row ↔ (Contains old row × (key_of_row row ≢ key))

-- each row was there, and is to be looked at as it was
abbrev pub CarriesRows : DelegatesState → DelegatesState → Type 0
CarriesRows old new = (i : ℕ) (row : DelegateRow) → slice_get new.rows i ≡ Some row → (j : ℕ)
    × (slice_get old.rows j ≡ Some row) × (slice_get new.by_target.left i ≡ slice_get old.by_target.left j)

-- a row that was to be looked at in a colour is not any more
pub record LooksAtRow (c : MarkColour) (key : EntryKey) (rows : List DelegateRow) (old new : List (Option MarkColour))
    : Type 0 where
  pub number : ℕ
  pub row : DelegateRow
  pub there : slice_get rows number ≡ Some row
  pub is : key_of_row row ≡ key
  pub was_left : slice_get old number ≡ Some (Some c)
  pub new_is : new ≡ slice_set old number None

-- no row is to be looked at in a colour
abbrev pub NoRowLeft : MarkColour → List (Option MarkColour) → Type 0
NoRowLeft c left = (n : ℕ) → slice_get left n ≢ Some (Some c)

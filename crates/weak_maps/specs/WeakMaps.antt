-- The entries of weak maps, and the delegates of their keys.
use Rattle.std.specs.Prelude.{◌≡◌, ◌↔◌, ◌⊎◌, ◌==◌, ◌&&◌, ◌||◌, ◌∷◌, [], ℕ, Bool, false, List, Option, Some, None}
use Rattle.std.specs.Prelude.{Contains, length, slice_get, slice_set, map, unwrap_or}
use Rattle.std.specs.Prelude.{◌++◌, if◌then◌else◌}
use Rattle.std.specs.Int.{bit_at}
use Rattle.gz_names.specs.declared.numbers.Place.{Place}
use Rattle.weak_maps.specs.Entries.{AreDistinct, AreEntries, AreThose, EntriesState, HaveLooks, NoEntryLeft, listed_of}
use Rattle.weak_maps.specs.Entries.{value_at}
use Rattle.weak_maps.specs.Delegates.{AreDelegates, AreSoundRows, DelegateRow, DelegatesState, DelegateTableState}
use Rattle.weak_maps.specs.Delegates.{NoRowLeft, delegate_at, row_of, rows_of_target, rows_of_zone, rows_shown}
use Rattle.weak_maps.specs.declared.colours.MarkColour.{MarkColour}
use Rattle.weak_maps.specs.declared.delegates.Delegate.{Delegate}
use Rattle.weak_maps.specs.declared.entries.EntryKey.{EntryKey}
use Rattle.weak_maps.specs.declared.entries.WeakEntry.{WeakEntry}

-- the entries of all weak maps, by number; the numbers of the entries of each map that has any, and of each key; and
-- the rows of those whose key is a wrapper
pub record WeakTableState : Type 0 where
  pub entries : List WeakEntry
  pub by_map : List (List ℕ)
  pub by_key : List (List ℕ)
  pub delegates : DelegateTableState

-- in which colour each entry is still to be looked at for its map, and for its key, and each row for its target
pub record LooksState : Type 0 where
  pub by_map : List (Option MarkColour)
  pub by_key : List (Option MarkColour)
  pub by_delegate : List (Option MarkColour)

-- the entries, and apart from them what marking has still to look at
pub record WeakMapsState : Type 0 where
  pub table : WeakTableState
  pub looks : LooksState

abbrev pub state_with : EntriesState → DelegatesState → WeakMapsState
state_with e d = record {
  table = record {
    entries = e.table.entries;
    by_map = e.table.by_map;
    by_key = e.table.by_key;
    delegates = rows_shown d;
  };
  looks = record { by_map = e.looks.by_map; by_key = e.looks.by_key; by_delegate = d.by_target.left };
}

-- the value of a key in a map
abbrev pub value_of : WeakTableState → Place → Place → Option Place
value_of weak m k = value_at weak.entries m k

-- what a key of a map leads to, if it is a wrapper
abbrev pub delegate_of : WeakTableState → Place → Place → Option Place
delegate_of weak m k = delegate_at weak.delegates.rows m k

-- the entries of a map, and of a key
abbrev pub listed_of_map : WeakTableState → Place → List WeakEntry
listed_of_map weak m = listed_of (λ entry. entry.map) weak.entries m weak.by_map

abbrev pub listed_of_key : WeakTableState → Place → List WeakEntry
listed_of_key weak k = listed_of (λ entry. entry.key) weak.entries k weak.by_key

-- the entry of a row
abbrev pub entry_of_row : WeakTableState → DelegateRow → WeakEntry
entry_of_row weak row =
    record { map = row.map; key = row.key; value = unwrap_or (value_of weak row.map row.key) row.target }

-- the entries whose key is a wrapper of a place
abbrev pub listed_of_delegate : WeakTableState → Place → List WeakEntry
listed_of_delegate weak p = map (entry_of_row weak) (rows_of_target weak.delegates p)

-- the maps of a zone's entries whose key is a wrapper, one for each of them
abbrev pub maps_delegated_in : WeakTableState → ℕ → List Place
maps_delegated_in weak z = map (λ row. row.map) (rows_of_zone weak.delegates z)

-- each row is that of an entry
abbrev pub HaveEntries : List DelegateRow → List WeakEntry → Type 0
HaveEntries rows entries =
    (row : DelegateRow) → Contains rows row → (v : Place) × (value_at entries row.map row.key ≡ Some v)

-- what always holds
pub record IsKept (e : EntriesState) (d : DelegatesState) : Type 0 where
  pub entries : AreEntries e.table
  pub looks : HaveLooks e
  pub rows : AreSoundRows d
  pub entered : HaveEntries d.rows e.table.entries

-- what always holds, as callers see it
pub record IsSound (weak : WeakTableState) : Type 0 where
  pub distinct : AreDistinct weak.entries
  pub found : (m k v : Place) → Contains weak.entries (record { map = m; key = k; value = v })
      ↔ (value_of weak m k ≡ Some v)
  pub of_map : (m : Place) → AreThose (λ entry. entry.map ≡ m) weak.entries (listed_of_map weak m)
  pub of_key : (k : Place) → AreThose (λ entry. entry.key ≡ k) weak.entries (listed_of_key weak k)
  pub delegates : AreDelegates weak.delegates
  pub entered : HaveEntries weak.delegates.rows weak.entries

-- the rows of the entries that stayed
pub record KeepsRows (old new : WeakTableState) : Type 0 where
  pub rows : (row : DelegateRow) → Contains new.delegates.rows row
      ↔ (Contains old.delegates.rows row × (v : Place) × (value_of new row.map row.key ≡ Some v))
  pub delegates : (m k v : Place) → value_of new m k ≡ Some v → delegate_of new m k ≡ delegate_of old m k

-- each entry, and each row, was there, and is to be looked at as it was
pub record Carries (old new : WeakMapsState) : Type 0 where
  pub from : (i : ℕ) (entry : WeakEntry) → slice_get new.table.entries i ≡ Some entry → (j : ℕ)
      × (slice_get old.table.entries j ≡ Some entry)
      × (slice_get new.looks.by_map i ≡ slice_get old.looks.by_map j)
      × (slice_get new.looks.by_key i ≡ slice_get old.looks.by_key j)
  pub from_row : (i : ℕ) (row : DelegateRow) → slice_get new.table.delegates.rows i ≡ Some row → (j : ℕ)
      × (slice_get old.table.delegates.rows j ≡ Some row)
      × (slice_get new.looks.by_delegate i ≡ slice_get old.looks.by_delegate j)

-- whether the map, the key or the value of an entry is dead
abbrev pub is_dead_entry : (Place → Bool) → WeakEntry → Bool
is_dead_entry is_dead entry = is_dead entry.map || is_dead entry.key || is_dead entry.value

-- a value that was found, unless its entry is dead
abbrev pub alive_value : (Place → Bool) → Place → Place → Option Place → Option Place
alive_value is_dead m k None = None
alive_value is_dead m k (Some v) = if is_dead_entry is_dead (record { map = m; key = k; value = v }) then None
    else Some v

-- the entries without the dead ones, in some order
pub record IsWithoutDead (is_dead : Place → Bool) (old new : WeakTableState) : Type 0 where
  pub exact : (entry : WeakEntry) → Contains new.entries entry
      ↔ (Contains old.entries entry × (is_dead_entry is_dead entry ≡ false))
  pub found : (m k : Place) → value_of new m k ≡ alive_value is_dead m k (value_of old m k)

-- whether a place is at one of these slots of an arena
abbrev pub is_slot_of : ℕ → ℕ → Place → Bool
is_slot_of arena slots p = (p.0 == arena) && (bit_at slots p.1 == 1)

-- whether the map or the key of an entry meets a test
abbrev pub is_owned_by : (Place → Bool) → WeakEntry → Bool
is_owned_by test entry = test entry.map || test entry.key

-- the entries without those whose map or key meets a test, in some order
pub record IsWithoutOwned (test : Place → Bool) (old new : WeakTableState) : Type 0 where
  pub exact : (entry : WeakEntry) → Contains new.entries entry
      ↔ (Contains old.entries entry × (is_owned_by test entry ≡ false))
  pub found : (m k : Place) → value_of new m k ≡ (if test m || test k then None else value_of old m k)

-- each entry, and each row, has its looks
abbrev pub AreParallel : WeakMapsState → Type 0
AreParallel weak =
    (length weak.looks.by_map ≡ length weak.table.entries) × (length weak.looks.by_key ≡ length weak.table.entries)
    × (length weak.looks.by_delegate ≡ length weak.table.delegates.rows)

-- the rows after an entry came with this delegate
abbrev pub rows_with : List DelegateRow → EntryKey → Option Delegate → List DelegateRow
rows_with rows key None = rows
rows_with rows key (Some delegate) = rows ++ row_of key delegate ∷ []

-- what this delegate is
abbrev pub target_of : Option Delegate → Option Place
target_of None = None
target_of (Some delegate) = Some delegate.target

-- the looks of these rows
abbrev pub looks_with : List (Option MarkColour) → Option Delegate → List (Option MarkColour)
looks_with left None = left
looks_with left (Some delegate) = left ++ None ∷ []

-- a value was put where one was, or not: a new entry is not to be looked at, nor its row, and the others are as they
-- were
abbrev pub PutsLeft : Option Place → Option Delegate → LooksState → LooksState → Type 0
PutsLeft (Some v) delegate old new = new ≡ old
PutsLeft None delegate old new = new ≡ record {
  by_map = old.by_map ++ None ∷ [];
  by_key = old.by_key ++ None ∷ [];
  by_delegate = looks_with old.by_delegate delegate;
}

-- a row of an entry
pub record IsRowOf (rows : List DelegateRow) (entry : WeakEntry) (number : ℕ) : Type 0 where
  pub row : DelegateRow
  pub there : slice_get rows number ≡ Some row
  pub map : row.map ≡ entry.map
  pub key : row.key ≡ entry.key

-- an entry that was to be looked at in a colour, for its map or its key, or whose row was for its target, is not any
-- more
pub record HasLooked (c : MarkColour) (handed : WeakEntry) (weak : WeakTableState) (old new : LooksState) : Type 0 where
  pub number : ℕ
  pub there : slice_get weak.entries number ≡ Some handed
  pub looked : ((slice_get old.by_map number ≡ Some (Some c))
      × (new ≡ record old { by_map = slice_set old.by_map number None }))
      ⊎ ((slice_get old.by_key number ≡ Some (Some c))
      × (new ≡ record old { by_key = slice_set old.by_key number None }))
      ⊎ ((n : ℕ) × IsRowOf weak.delegates.rows handed n × (slice_get old.by_delegate n ≡ Some (Some c))
      × (new ≡ record old { by_delegate = slice_set old.by_delegate n None }))

-- no entry is to be looked at in a colour, and no row
abbrev pub NoneLeft : MarkColour → LooksState → Type 0
NoneLeft c looks =
    NoEntryLeft c (record { by_map = looks.by_map; by_key = looks.by_key }) × NoRowLeft c looks.by_delegate

-- what is left in no colour stays so
abbrev pub IsLeftFewer : LooksState → LooksState → Type 0
IsLeftFewer old new = (c : MarkColour) → NoneLeft c old → NoneLeft c new

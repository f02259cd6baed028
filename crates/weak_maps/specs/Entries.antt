-- The entries of weak maps, by number.
use Rattle.std.specs.Prelude.{◌≡◌, ◌≢◌, ◌↔◌, ◌⊎◌, ◌&&◌, ◌∷◌, [], ℕ, Bool, false, List, Option, Some, None}
use Rattle.std.specs.Prelude.{AllPairs, Contains, length, ◌≤◌, slice_get, slice_index_or, slice_set}
use Rattle.std.specs.Prelude.{map, unwrap_or, ◌++◌, if◌then◌else◌}
use Rattle.std.specs.Option.{option_map}
use Rattle.gz_names.specs.declared.numbers.Place.{Place}
use Rattle.weak_maps.specs.Places.{is_same}
use Rattle.weak_maps.specs.Sides.{SideState, IsSide, number_of, shown}
use Rattle.weak_maps.specs.declared.colours.MarkColour.{MarkColour}
use Rattle.weak_maps.specs.declared.colours.MarkColour.TheVariants as colour
use Rattle.weak_maps.specs.declared.entries.WeakEntry.{WeakEntry}

-- the entries of all weak maps, by number; the numbers of the entries of each map that has any, and of each key
pub record EntryTableState : Type 0 where
  pub entries : List WeakEntry
  pub by_map : List (List ℕ)
  pub by_key : List (List ℕ)

-- in which colour each entry is still to be looked at for its map, and for its key
pub record EntryLooksState : Type 0 where
  pub by_map : List (Option MarkColour)
  pub by_key : List (Option MarkColour)

-- the entries, and apart from them those that marking has still to look at
pub record EntriesState : Type 0 where
  pub table : EntryTableState
  pub looks : EntryLooksState

abbrev pub table_of : List WeakEntry → SideState → SideState → EntryTableState
table_of entries by_map by_key =
    record { entries = entries; by_map = shown by_map.lists; by_key = shown by_key.lists }

abbrev pub state_of : List WeakEntry → SideState → SideState → EntriesState
state_of entries by_map by_key =
    record { table = table_of entries by_map by_key; looks = record { by_map = by_map.left; by_key = by_key.left } }

-- whether an entry is that of a key in a map
abbrev pub is_entry : Place → Place → WeakEntry → Bool
is_entry m k entry = is_same m entry.map && is_same k entry.key

-- the value of a key in a map
abbrev pub value_at : List WeakEntry → Place → Place → Option Place
value_at [] m k = None
value_at (entry ∷ entries) m k = if is_entry m k entry then Some entry.value else value_at entries m k

-- a value is given to a key of a map: in place where it has one, else in an entry after the others
abbrev pub put_at : List WeakEntry → Place → Place → Place → List WeakEntry
put_at [] m k v = record { map = m; key = k; value = v } ∷ []
put_at (entry ∷ entries) m k v = if is_entry m k entry then record { map = entry.map; key = entry.key; value = v }
    ∷ entries else entry ∷ put_at entries m k v

-- the entry of a number
abbrev pub numbered : List WeakEntry → Place → ℕ → WeakEntry
numbered entries p n = slice_index_or entries n (record { map = p; key = p; value = p })

-- whether the entry of a number is one of a place
abbrev pub is_of : {E : Type 0} → (E → Place) → List E → Place → ℕ → Bool
is_of place_of entries p n = unwrap_or (option_map (λ entry. is_same p (place_of entry)) (slice_get entries n)) false

-- the list of a place: the first entry of it tells
abbrev pub list_of : {E : Type 0} → (E → Place) → List E → Place → List (List ℕ) → List ℕ
list_of place_of entries p [] = []
list_of place_of entries p ([] ∷ lists) = list_of place_of entries p lists
list_of place_of entries p ((n ∷ ns) ∷ lists) =
    if is_of place_of entries p n then n ∷ ns else list_of place_of entries p lists

-- the entries of a place
abbrev pub listed_of : (WeakEntry → Place) → List WeakEntry → Place → List (List ℕ) → List WeakEntry
listed_of place_of entries p lists = map (numbered entries p) (list_of place_of entries p lists)

-- no key of a map has two entries
abbrev pub AreDistinct : List WeakEntry → Type 0
AreDistinct entries = AllPairs (λ d e. d.map ≡ e.map → d.key ≢ e.key) entries

-- each entry stands in the list of its own place
pub record IsFor {E : Type 0} (place_of : E → Place) (entries : List E) (side : SideState) : Type 0 where
  pub sound : IsSide side
  pub numbers : map (λ entry. number_of side (place_of entry)) entries ≡ map (λ j. Some j) side.owners

-- what always holds
pub record AreTied (entries : List WeakEntry) (by_map by_key : SideState) : Type 0 where
  pub distinct : AreDistinct entries
  pub few : length entries ≤ 4294967295
  pub maps : IsFor (λ entry. entry.map) entries by_map
  pub keys : IsFor (λ entry. entry.key) entries by_key

-- those of the entries that meet a condition, each once
pub record AreThose (P : WeakEntry → Type 0) (entries listed : List WeakEntry) : Type 0 where
  pub distinct : AreDistinct listed
  pub exact : (entry : WeakEntry) → Contains listed entry ↔ (Contains entries entry × P entry)

-- what always holds, as callers see it
pub record AreEntries (weak : EntryTableState) : Type 0 where
  pub distinct : AreDistinct weak.entries
  pub found : (m k v : Place) → Contains weak.entries (record { map = m; key = k; value = v })
      ↔ (value_at weak.entries m k ≡ Some v)
  pub of_map : (m : Place) → AreThose (λ entry. entry.map ≡ m) weak.entries
      (listed_of (λ entry. entry.map) weak.entries m weak.by_map)
  pub of_key : (k : Place) → AreThose (λ entry. entry.key ≡ k) weak.entries
      (listed_of (λ entry. entry.key) weak.entries k weak.by_key)

-- each entry was there, and is to be looked at as it was
pub record CarriesEntries (old new : EntriesState) : Type 0 where
  pub from : (i : ℕ) (entry : WeakEntry) → slice_get new.table.entries i ≡ Some entry → (j : ℕ)
      × (slice_get old.table.entries j ≡ Some entry)
      × (slice_get new.looks.by_map i ≡ slice_get old.looks.by_map j)
      × (slice_get new.looks.by_key i ≡ slice_get old.looks.by_key j)

-- each entry has its looks
abbrev pub HaveLooks : EntriesState → Type 0
HaveLooks weak =
    (length weak.looks.by_map ≡ length weak.table.entries) × (length weak.looks.by_key ≡ length weak.table.entries)

-- a new entry came, which is not to be looked at; the others are as they were
abbrev pub PutsEntry : EntryLooksState → EntryLooksState → Type 0
PutsEntry old new = new ≡ record { by_map = old.by_map ++ None ∷ []; by_key = old.by_key ++ None ∷ [] }

-- an entry of a place is to be looked at in a colour
pub record IsLeftOf {E : Type 0} (place_of : E → Place) (c : MarkColour) (p : Place) (entries : List E)
    (left : List (Option MarkColour)) : Type 0 where
  pub number : ℕ
  pub entry : E
  pub there : slice_get entries number ≡ Some entry
  pub of : place_of entry ≡ p
  pub is_left : slice_get left number ≡ Some (Some c)

-- in which colour the entries of a place are still to be looked at after these were started in a colour: in black where
-- one of them was to be looked at in black
pub record Starts {E : Type 0} (place_of : E → Place) (c : MarkColour) (p : Place) (entries : List E)
    (old new : List (Option MarkColour)) : Type 0 where
  pub sized : length new ≡ length old
  pub colour_now : MarkColour
  pub those : (n : ℕ) (entry : E) → slice_get entries n ≡ Some entry → place_of entry ≡ p
      → slice_get new n ≡ Some (Some colour_now)
  pub is : (colour_now ≡ c) ⊎ ((colour_now ≡ colour.Black) × IsLeftOf place_of colour.Black p entries old)
  pub black : (n : ℕ) → slice_get old n ≡ Some (Some colour.Black) → slice_get new n ≡ Some (Some colour.Black)
  pub others : (n : ℕ) (entry : E) → slice_get entries n ≡ Some entry → place_of entry ≢ p
      → slice_get new n ≡ slice_get old n

-- an entry that was to be looked at in a colour, for its map or its key, is not any more
pub record LooksAtEntry (c : MarkColour) (handed : WeakEntry) (entries : List WeakEntry)
    (old new : EntryLooksState) : Type 0 where
  pub number : ℕ
  pub there : slice_get entries number ≡ Some handed
  pub looked : ((slice_get old.by_map number ≡ Some (Some c))
      × (new ≡ record old { by_map = slice_set old.by_map number None }))
      ⊎ ((slice_get old.by_key number ≡ Some (Some c))
      × (new ≡ record old { by_key = slice_set old.by_key number None }))

-- no entry is to be looked at in a colour
abbrev pub NoEntryLeft : MarkColour → EntryLooksState → Type 0
NoEntryLeft c looks =
    (n : ℕ) → (slice_get looks.by_map n ≢ Some (Some c)) × (slice_get looks.by_key n ≢ Some (Some c))

-- Entries of weak maps whose cells go to other places.
use Rattle.std.specs.Prelude.{◌≡◌, ◌⊎◌, List, [], ◌∷◌, Contains, map, if◌then◌else◌}
use Rattle.gz_names.specs.Moves.{moved}
use Rattle.gz_names.specs.declared.moves.Move.{Move}
use Rattle.gz_names.specs.declared.numbers.Place.{Place}
use Rattle.weak_maps.specs.Delegates.{DelegateRow, DelegateTableState}
use Rattle.weak_maps.specs.Entries.{EntriesState}
use Rattle.weak_maps.specs.Places.{is_same}
use Rattle.weak_maps.specs.WeakMaps.{WeakMapsState, WeakTableState}
use Rattle.weak_maps.specs.declared.entries.WeakEntry.{WeakEntry}

-- a place, or the other one of a move that leaves or reaches it: so each two places exchange what they have
abbrev pub other_of : Move → Place → Place
other_of m p = if is_same m.from p then m.to else if is_same m.to p then m.from else p

abbrev pub exchanged : List Move → Place → Place
exchanged [] p = p
exchanged (m ∷ moves) p = other_of m (exchanged moves p)

-- an entry, and a row, by the places to which moves take the cells
abbrev pub entry_forwarded : List Move → WeakEntry → WeakEntry
entry_forwarded moves entry = record {
  map = moved moves entry.map;
  key = moved moves entry.key;
  value = moved moves entry.value;
}

abbrev pub row_forwarded : List Move → DelegateRow → DelegateRow
row_forwarded moves row = record row {
  map = moved moves row.map;
  key = moved moves row.key;
  target = moved moves row.target;
}

-- an entry names a place, and a row does
abbrev pub EntryNames : WeakEntry → Place → Type 0
EntryNames entry p = (entry.map ≡ p) ⊎ (entry.key ≡ p) ⊎ (entry.value ≡ p)

abbrev pub RowNames : DelegateRow → Place → Type 0
RowNames row p = (row.map ≡ p) ⊎ (row.key ≡ p) ⊎ (row.target ≡ p)

abbrev pub AreNamed : List WeakEntry → Place → Type 0
AreNamed entries p = (entry : WeakEntry) × Contains entries entry × EntryNames entry p

abbrev pub AreNamedByRows : List DelegateRow → Place → Type 0
AreNamedByRows rows p = (row : DelegateRow) × Contains rows row × RowNames row p

-- some entry, or some row, names a place
abbrev pub IsNamed : WeakTableState → Place → Type 0
IsNamed weak p = AreNamed weak.entries p ⊎ AreNamedByRows weak.delegates.rows p

-- the entries with the cells where they have gone: each has its number, and its places in all lists
abbrev pub entries_forwarded : List Move → EntriesState → EntriesState
entries_forwarded moves e =
    record e { table = record e.table { entries = map (entry_forwarded moves) e.table.entries } }

abbrev pub delegates_forwarded : List Move → DelegateTableState → DelegateTableState
delegates_forwarded moves d = record d { rows = map (row_forwarded moves) d.rows }

abbrev pub table_forwarded : List Move → WeakTableState → WeakTableState
table_forwarded moves weak = record weak {
  entries = map (entry_forwarded moves) weak.entries;
  delegates = delegates_forwarded moves weak.delegates;
}

abbrev pub maps_forwarded : List Move → WeakMapsState → WeakMapsState
maps_forwarded moves weak = record weak { table = table_forwarded moves weak.table }

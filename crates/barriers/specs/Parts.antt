-- Entries by the part of them that a cell is.
use Rattle.std.specs.Prelude.{◌≡◌, List}
use Rattle.gz_names.specs.declared.numbers.Place.{Place}
use Rattle.weak_maps.specs.WeakMaps.{WeakTableState, listed_of_delegate, listed_of_key, listed_of_map}
use Rattle.weak_maps.specs.declared.entries.WeakEntry.{WeakEntry}
use Rattle.heap_core.specs.Shape.{IsDelegate, Shape}
use Rattle.barriers.specs.declared.parts.Part.{Part}
use Rattle.barriers.specs.declared.parts.Part.TheVariants as part

-- the entries of which a cell is this part, as they are listed
abbrev pub listed_of : WeakTableState → Part → Place → List WeakEntry
listed_of weak part.Map x = listed_of_map weak x
listed_of weak part.Key x = listed_of_key weak x
listed_of weak part.Delegate x = listed_of_delegate weak x

-- a cell is this part of the entry of a map and a key
abbrev pub IsPart : Shape → Part → Place → Place → Place → Type 0
IsPart s part.Map x m k = m ≡ x
IsPart s part.Key x m k = k ≡ x
IsPart s part.Delegate x m k = IsDelegate s k x

-- A list of places for each zone.
use Rattle.std.specs.Prelude.{◌≢◌, ◌<◌, ◌≤◌, ◌+◌, ◌↔◌, ◌==◌, ◌++◌, ◌∷◌, [], ℕ, List, length, map, filter, count_by}
use Rattle.std.specs.Prelude.{slice_index, slice_set, slice_index_or, vec_capacity, Vec}
use Rattle.std.specs.declared.alloc.Global.{Global}
use Rattle.gz_names.specs.Zones.{HasZone}
use Rattle.gz_names.specs.declared.numbers.Place.{Place}
use Rattle.gz_names.specs.declared.numbers.ZoneNo.{ZoneNo}

-- what waits for a zone; nothing for a zone that there can't be
abbrev pub buffer_at : List (List Place) → ℕ → List Place
buffer_at buffers zone = slice_index_or buffers zone []

-- one more place waits for a zone
abbrev pub put_at : List (List Place) → ℕ → Place → List (List Place)
put_at buffers zone place = slice_set buffers zone (buffer_at buffers zone ++ place ∷ [])

-- each of the places waits for its zone
abbrev pub put_all : List (List Place) → List (ZoneNo × Place) → List (List Place)
put_all buffers [] = buffers
put_all buffers (item ∷ items) = put_all (put_at buffers item.0 item.1) items

-- the places of one zone, in order
abbrev pub places_in : ℕ → List (ZoneNo × Place) → List Place
places_in zone items = map (λ item. item.1) (filter (λ item. item.0 == zone) items)

-- how many of the places are of one zone
abbrev pub count_in : ℕ → List (ZoneNo × Place) → ℕ
count_in zone items = count_by (λ item. item.0 == zone) items

-- a word has the zones for which something waits
abbrev pub IsWaiting : List (List Place) → ℕ → Type 0
IsWaiting buffers word = (z : ℕ) → HasZone word z ↔ (buffer_at buffers z ≢ [])

-- the lists that vectors hold, and how much they could hold
abbrev pub lists_of : List (Vec Place Global) → List (List Place)
lists_of buffers = map (λ b. b.items) buffers

abbrev pub capacities_of : List (Vec Place Global) → List ℕ
capacities_of buffers = map (λ b. vec_capacity b) buffers

-- each zone's buffer has room for this number of places more
abbrev pub HasRoom : List (List Place) → List ℕ → (ℕ → ℕ) → Type 0
HasRoom lists capacities more = (z : ℕ) → z < length lists
    → length (buffer_at lists z) + more z ≤ slice_index capacities z

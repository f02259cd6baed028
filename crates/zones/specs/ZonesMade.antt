-- The zones and compartments that were made.
use Rattle.std.specs.Prelude.{◌≡◌, ◌<◌, ◌≤◌, ◌↔◌, ℕ, List, length, Some, slice_get, slice_index_or, All}
use Rattle.gz_names.specs.Zones.{HasZone}
use Rattle.gz_names.specs.declared.zone_sets.ZoneSet.{ZoneSet}
use Rattle.zones.specs.States.{number_of}
use Rattle.zones.specs.declared.states.State.{State}

-- the state of each zone, and the zone of each compartment, both by number
pub record ZonesState : Type 0 where
  pub states : List State
  pub comps : List ℕ

-- the word of the zones that are in a state
abbrev pub word_of : List ZoneSet → State → ℕ
word_of members s = (slice_index_or members (number_of s) (record { bits = 0 })).bits

-- the sets by state say what the states by zone say
abbrev pub AreGrouped : List State → List ZoneSet → Type 0
AreGrouped states members = (z : ℕ) (s : State) → HasZone (word_of members s) z ↔ (slice_get states z ≡ Some s)

-- what always holds: the limits are kept, each compartment's zone is made, and the sets are those of the states
pub record AreSound (states : List State) (comps : List ℕ) (members : List ZoneSet) : Type 0 where
  pub zones_fit : length states ≤ 64
  pub comps_fit : length comps ≤ 256
  pub zones_made : All (λ z. z < length states) comps
  pub six : length members ≡ 6
  pub grouped : AreGrouped states members

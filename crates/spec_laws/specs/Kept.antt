-- What a compaction keeps, and what a line keeps of weak slots and watches.
use Rattle.std.specs.Prelude.{◌≡◌, ◌↔◌, ◌≤◌, ℕ, ◌+◌, ◌*◌, [], ◌∷◌, length, count_by}
use Rattle.std.specs.FinMap as map
use Rattle.gz_names.specs.declared.names.Name.{Name}
use Rattle.colour_defs.specs.Graph.{is_in_zones}
use Rattle.colour_defs.specs.World.{World, Has, IsPresent}
use Rattle.colour_defs.specs.Ends.{arenas_from}
use Rattle.colour_defs.specs.WeakRefs.{weak_cell, if_present}

-- a compaction keeps what is present, and leaves the zone no arena more than its cells need
pub record IsTight (w : World) (zone given : ℕ) (v : World) : Type 0 where
  pub present : (x : Name) → IsPresent v x ↔ IsPresent w x
  pub owned : length (arenas_from 0 v.owner (zone ∷ [])) + given ≡ length (arenas_from 0 w.owner (zone ∷ []))
  pub fewest : (n : ℕ) → count_by (λ x. is_in_zones w.graph (zone ∷ []) x) (map.keys w.places) ≤ 64 * n
      → length (arenas_from 0 w.owner (zone ∷ [])) ≤ given + n

-- weak slots and watched cells keep what is still present, and nothing else
pub record KeepsWeak (w v : World) : Type 0 where
  pub slots : (q : ℕ) → weak_cell v q ≡ if_present v (weak_cell w q)
  pub watched : (x : Name) → Has v.weak.watched x ↔ (Has w.weak.watched x × IsPresent v x)

-- The zones in which the targets of wrappers lie, as they are noted for the zone of each wrapper.
use Rattle.std.specs.Prelude.{◌≡◌, ℕ, List, Option, Some, slice_get}
use Rattle.std.specs.Option.{option_map}
use Rattle.gz_names.specs.declared.commands.Kind.TheVariants as kind
use Rattle.gz_names.specs.declared.numbers.Place.{Place}
use Rattle.gz_names.specs.declared.zone_sets.ZoneSet.{ZoneSet}
use Rattle.arena_table.specs.Cells.{CellState, field_of}
use Rattle.arena_table.specs.Slots.{Arena, cell_at}
use Rattle.wrappers.specs.TargetZones.{IsNoted}
use Rattle.wrappers.specs.WrapperMaps.{list_of}
use Rattle.heap_core.specs.Shape.{Shape, cell_of, field_at, zone_of}

-- the zone of an arena, if it was made
abbrev pub owner_in : List Arena → ℕ → Option ℕ
owner_in arenas a = option_map (λ (arena : Arena). arena.zone) (slice_get arenas a)

-- a cell is a wrapper of this target
pub record IsWrapperOf (cell : CellState) (target : Place) : Type 0 where
  pub kind_is : cell.kind ≡ kind.Wrapper
  pub target_is : field_of cell 0 ≡ Some target

-- a wrapper's target lies in an arena, whose zone is noted for the wrapper's
pub record IsTargetNoted (arenas : List Arena) (noted : List ZoneSet) (p target : Place) : Type 0 where
  pub from : ℕ
  pub to : ℕ
  pub from_is : owner_in arenas p.0 ≡ Some from
  pub to_is : owner_in arenas target.0 ≡ Some to
  pub is_noted : IsNoted noted from to

-- so it is of each wrapper that stands in the arenas
pub record AreTargetsNoted (arenas : List Arena) (noted : List ZoneSet) : Type 0 where
  pub targets : (p target : Place) (cell : CellState) → cell_at arenas p ≡ Some cell → IsWrapperOf cell target
      → IsTargetNoted arenas noted p target

-- a present wrapper of a zone that stands in the zone's list, and its target
pub record IsListedWrapper (s : Shape) (zone : ℕ) (p target : Place) : Type 0 where
  pub index : ℕ
  pub listed : option_map (λ entry. entry.1) (slice_get (list_of s.wrappers zone) index) ≡ Some p
  pub kind_is : option_map (λ cell. cell.kind) (cell_of s p) ≡ Some kind.Wrapper
  pub zone_is : zone_of s p ≡ zone
  pub target_is : field_at s p 0 ≡ Some target

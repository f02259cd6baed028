-- A heap before and after its compaction, while no collection runs.
use Rattle.std.proofs.Common.{◌≡◌, ◌<◌, ℕ, List, length, None}
use Rattle.gz_names.specs.declared.moves.Move.{Move}
use Rattle.weak_maps.specs.WeakMaps.{IsSound as AreEntries}
use Rattle.colour_defs.specs.World.{IsIdle, World}
use Rattle.compact.specs.Packing.{Packs}
use Rattle.heap_core.specs.Heap.{HeapState}
use Rattle.heap_core.specs.Moving.{Relocates}
use Rattle.heap_core.specs.Shape.{out_of}
use Rattle.barriers.specs.Invariant.{ShapeInvariant}
use Rattle.slice_driver.specs.Worlds.{LiesIn}

-- a heap lies in a world in which no collection runs, no arena of it is out, and a zone of it was packed
pub record Packed (h new : HeapState) (w : World) : Type 0 where
  pub lies : LiesIn h w
  pub idle : IsIdle w
  pub kept : (a : ℕ) → out_of h.shape a ≡ None
  pub shape : ShapeInvariant h.shape
  pub entries : AreEntries h.shape.weak
  pub zone : ℕ
  pub small : zone < 64
  pub made : zone < length h.shape.states
  pub first : ℕ
  pub moves : List Move
  pub packs : Packs h.shape zone first moves
  pub relocates : Relocates h zone first moves new

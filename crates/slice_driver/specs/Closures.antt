-- How what is left to mark is tied to the closures of a collection.
use Rattle.std.specs.Prelude.{◌≡◌, ◌⊎◌, ◌↔◌, ◌≤◌, Some, length}
use Rattle.gz_names.specs.declared.names.Name.{Name}
use Rattle.gz_names.specs.declared.numbers.Place.{Place}
use Rattle.mark_stack.specs.Stack.{Piles}
use Rattle.gray_lists.specs.Incoming.{Incoming}
use Rattle.colour_defs.specs.Graph.{value_of}
use Rattle.colour_defs.specs.Closure.{HasEdge}
use Rattle.colour_defs.specs.World.{World, Collection, Has, IsPresent, BlackClosure, LiveClosure}
use Rattle.colour_defs.specs.Laws.{IsWellFormed}
use Rattle.heap_core.specs.Shape.{name_at}
use Rattle.heap_core.specs.Heap.{HeapState}
use Rattle.barriers.specs.Colours.{IsBlack}
use Rattle.barriers.specs.PendingBlack.{PendingBlack}
use Rattle.barriers.specs.PendingLive.{PendingLive}

-- where no zone is marking: exactly the black names are black
abbrev pub AreBlack : HeapState → World → Type 0
AreBlack h w = (x : Name) (p : Place) → name_at h.shape p ≡ Some x → Has w.black x ↔ IsBlack h p

-- while some zone is marking: what is still to become black is the black closure, what is still to become gray or black
-- the live one; from the snapshot nothing was lost but what leads to black; and the snapshot, which is well formed,
-- knows no name that was not given yet
pub record AreTied (h : HeapState) (stack : Piles) (lists : Incoming) (w : World) (k : Collection) : Type 0 where
  pub black : (x : Name) (p : Place) → name_at h.shape p ≡ Some x → PendingBlack h stack p ↔ BlackClosure k x
  pub live : (x : Name) (p : Place) → name_at h.shape p ≡ Some x → PendingLive h stack lists p ↔ LiveClosure k x
  pub present : (x : Name) → LiveClosure k x → IsPresent w x
  pub edges_then : (x y : Name) → IsPresent w x → HasEdge k.snapshot x y → HasEdge w.graph x y ⊎ BlackClosure k y
  pub entries_then : (m q v : Name) → IsPresent w m → IsPresent w q → value_of k.snapshot m q ≡ Some v
      → (value_of w.graph m q ≡ Some v) ⊎ BlackClosure k v
  pub grown : length k.snapshot.objects ≤ length w.graph.objects
  pub formed : IsWellFormed k.snapshot

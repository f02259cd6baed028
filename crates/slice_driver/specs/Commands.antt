-- What a command on the graph leaves in place, what it makes, and what it does in a world.
use Rattle.std.specs.Prelude.{◌≡◌, ◌↔◌, ◌<◌, ◌==◌, ◌++◌, ℕ, List, [], ◌∷◌, length, Option, Some, None, if◌then◌else◌}
use Rattle.gz_names.specs.declared.names.Name.{Name}
use Rattle.gz_names.specs.declared.numbers.Place.{Place}
use Rattle.gz_names.specs.declared.commands.GraphCmd.{GraphCmd}
use Rattle.gz_names.specs.declared.replies.Reply.{Reply}
use Rattle.cell_bits.specs.declared.bits.Bits.{Bits}
use Rattle.arena_table.specs.Table.{is_place}
use Rattle.colour_defs.specs.Graph.{GraphState}
use Rattle.colour_defs.specs.Laws.{IsValid}
use Rattle.colour_defs.specs.Step.{IsAccepted, step_of}
use Rattle.colour_defs.specs.World.{World, Collection, CommandInWorld, IsSettled, with_counts, with_waking, woken_by}
use Rattle.heap_core.specs.Shape.{AreWhole, Shape, IsPresent, name_at, zone_of}
use Rattle.heap_core.specs.Heap.{HeapState, with_marks}
use Rattle.heap_core.specs.Plans.{IsNoWrap}
use Rattle.heap_core.specs.Shows.{Shows}
use Rattle.heap_core.specs.Changes.{next_place}
use Rattle.mark_stack.specs.Stack.{Piles, no_places}
use Rattle.barriers.specs.Reached.{Reached}
use Rattle.barriers.specs.Colours.{IsBlack}
use Rattle.barriers.specs.Exposing.{BlackOr, Exposes}
use Rattle.barriers.specs.LeftOut.{ExposesLeftOut}
use Rattle.slice_driver.specs.Worlds.{IsUnswept, LiesIn, outs_from, owners_of}
use Rattle.slice_driver.specs.Closures.{AreBlack}
use Rattle.slice_driver.specs.Collector.{CollectorState}
use Rattle.slice_driver.specs.Represents.{Represents}
use Rattle.slice_driver.specs.Rooms.{Widens}

-- all cells stay where they are, present or not
pub record StayInPlace (s t : Shape) : Type 0 where
  pub names : (p : Place) → name_at t p ≡ name_at s p
  pub owners : owners_of t.arenas ≡ owners_of s.arenas
  pub outs : outs_from 0 t.arenas ≡ outs_from 0 s.arenas
  pub unswept : (p : Place) (x : Name) → IsUnswept t p x ↔ IsUnswept s p x
  pub whole : AreWhole t.arenas

-- a cell came to the next place of a zone, and all others stay where they are
pub record ComesTo (s t : Shape) (zone : ℕ) (p : Place) (x : Name) : Type 0 where
  pub place_is : p ≡ next_place s zone
  pub free : IsPresent s p → ⊥
  pub names : (q : Place) → name_at t q ≡ (if is_place q p then Some x else name_at s q)
  pub below : zone < 64
  pub zone_is : zone_of t p ≡ zone
  pub owners : owners_of t.arenas
      ≡ (if p.0 == length s.arenas then owners_of s.arenas ++ Some zone ∷ [] else owners_of s.arenas)
  pub outs : outs_from 0 t.arenas ≡ outs_from 0 s.arenas
  pub unswept : (q : Place) (y : Name) → IsUnswept t q y ↔ IsUnswept s q y
  pub whole : AreWhole t.arenas

-- on each graph that a heap shows, a command wakes this
abbrev pub Wakes : HeapState → GraphCmd → Option Name → Type 0
Wakes h c x = (g : GraphState) → Shows h g → woken_by g c ≡ x

abbrev pub waking : Option Name → Option Collection → Option Collection
waking None collection = collection
waking (Some x) collection = with_waking x collection

-- the heap as marking sees it, with other bits: those in flight besides its own
abbrev pub with_colours : HeapState → List Bits → HeapState
with_colours h colours = with_marks h colours no_places

-- a present cell is black exactly where it was
abbrev pub KeepsBlack : HeapState → HeapState → Type 0
KeepsBlack h k = (p : Place) → IsPresent h.shape p → IsBlack k p ↔ IsBlack h p

-- black spread to a cell and to what is reached from it
abbrev pub SpreadsBlack : HeapState → Place → HeapState → Type 0
SpreadsBlack h p k = (q : Place) → IsBlack k q ↔ Reached k.shape (BlackOr h p) q

-- a barrier exposed a cell, if there was one to expose
abbrev pub Exposed : Option Place → HeapState → Piles → HeapState → Piles → Type 0
Exposed None h p k q = (k ≡ h) × (q ≡ p)
Exposed (Some x) h p k q = Exposes h p x k q

-- so it did while a collection is being prepared
abbrev pub ExposedLeftOut : Option Place → HeapState → Piles → HeapState → Piles → Type 0
ExposedLeftOut None h p k q = (k ≡ h) × (q ≡ p)
ExposedLeftOut (Some x) h p k q = ExposesLeftOut h p x k q

-- a command leads to a world in which the heap lies, and whose black names are black by these bits
pub record DoesInWorld (w : World) (c : GraphCmd) (answer : Reply) (new : HeapState) (colours : List Bits) : Type 0
  where
    pub after : World
    pub command : CommandInWorld w c answer after
    pub lies : LiesIn new after
    pub black : IsSettled after → AreBlack (with_colours new colours) after
    pub out_is : after.out ≡ w.out
    pub preparing_is : after.preparing ≡ w.preparing
    pub graph_is : after.graph ≡ (step_of w.graph c).0
    pub collection_is : after.collection ≡ waking (woken_by w.graph c) (with_counts w.graph c w.collection)

-- memory was wanted for a command: in no valid world for which the collector stood is it refused, and no cell changed
-- but in its colour; where the command is no `wrap`, there may be more room and nothing else changed, in flight either
pub record WantsMemory (old : CollectorState) (flown : ℕ → Option Bits) (command : GraphCmd) (new : CollectorState)
    (flying : ℕ → Option Bits) : Type 0 where
  pub accepted : (w : World) → IsValid w → Represents old flown w → IsAccepted w.graph command
  pub shape_is : new.heap.shape ≡ old.heap.shape
  pub kept : IsNoWrap command → Widens old new × (flying ≡ flown)

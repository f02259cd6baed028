-- An arena comes back from sweeping, and a collection is over.
use Rattle.std.specs.Prelude.{◌≡◌, ◌<◌, ◌^◌, ℕ, true, List, [], length, Option, Some, None, IsSome, slice_get, bit_or}
use Rattle.std.specs.List.Sorted.{IsPermutation, IsSorted}
use Rattle.gz_names.specs.Order.{name_cmp}
use Rattle.gz_names.specs.declared.names.Name.{Name}
use Rattle.cell_bits.specs.declared.bits.Bits.{Bits}
use Rattle.zones.specs.declared.states.State.{State}
use Rattle.zones.specs.declared.states.State.TheVariants as state
use Rattle.arena_table.specs.Slots.{at_bits, names_of}
use Rattle.heap_core.specs.Shape.{ArenaShape, Shape, out_of, state_in}
use Rattle.heap_core.specs.Sweeping.{with_taken}
use Rattle.slice_driver.specs.Collector.{CollectorState, RunState}
use Rattle.slice_driver.specs.Units.{IsFreedWord, IsLowestOut}

-- the state of a zone once no arena is out any more
abbrev pub after_sweep : State → State
after_sweep state.NoGC = state.NoGC
after_sweep state.Prepare = state.Prepare
after_sweep state.MarkBlackOnly = state.MarkBlackOnly
after_sweep state.MarkBlackAndGray = state.MarkBlackAndGray
after_sweep state.Sweep = state.Finished
after_sweep state.Finished = state.Finished

-- the words of bits at hand-out are words of 64 bits
abbrev pub FitsWords : Bits → Type 0
FitsWords bits = bit_or bits.black bits.gob < 2 ^ 64

-- the names of the cells at the slots of a word, ascending
pub record AreFreed (s : Shape) (a freed : ℕ) (names : List Name) : Type 0 where
  pub moved : (arena : ArenaShape) → slice_get s.arenas a ≡ Some arena
      → IsPermutation (names_of (at_bits freed arena.slots)) names
  pub sorted : IsSorted name_cmp names

-- the lowest arena came in without its white cells, with its bits in flight; where it was the last one out, the zones
-- that were swept are finished
pub record TakesIn (c : CollectorState) (flown : ℕ → Option Bits) (a freed : ℕ) (bits : Bits)
    (d : CollectorState) : Type 0 where
  pub running : IsSome c.run
  pub lowest : IsLowestOut c.heap.shape a
  pub freed_is : IsFreedWord c.heap.shape a freed
  pub fits : (old : Bits) → out_of c.heap.shape a ≡ Some old → FitsWords old
  pub bits_are : flown a ≡ Some bits
  pub heap_is : d.heap
      ≡ record (with_taken c.heap a freed bits) {
        shape =
            record (with_taken c.heap a freed bits).shape { states = d.heap.shape.states };
      }
  pub sized : length d.heap.shape.states ≡ length c.heap.shape.states
  pub still : (b : ℕ) → IsSome (out_of d.heap.shape b) → (z : ℕ) → state_in d.heap.shape z ≡ state_in c.heap.shape z
  pub all_in : ((b : ℕ) → out_of d.heap.shape b ≡ None) → (z : ℕ)
      → state_in d.heap.shape z ≡ after_sweep (state_in c.heap.shape z)
  pub stack_is : d.stack ≡ c.stack
  pub lists_is : d.lists ≡ c.lists
  pub groups_is : d.groups ≡ c.groups
  pub run_is : d.run ≡ c.run

-- nothing is left to do for a collection
pub record IsAllDone (c : CollectorState) : Type 0 where
  pub run : RunState
  pub running : c.run ≡ Some run
  pub formed : run.formed ≡ true
  pub none_left : c.groups ≡ []
  pub kept : (a : ℕ) → out_of c.heap.shape a ≡ None

-- the collection runs no longer, and its zones are in none
pub record FinishesIn (c d : CollectorState) : Type 0 where
  pub heap_is : d.heap ≡ record c.heap { shape = record c.heap.shape { states = d.heap.shape.states } }
  pub sized : length d.heap.shape.states ≡ length c.heap.shape.states
  pub states : (z : ℕ) → state_in d.heap.shape z ≡ state.NoGC
  pub stack_is : d.stack ≡ c.stack
  pub lists_is : d.lists ≡ c.lists
  pub run_is : d.run ≡ None

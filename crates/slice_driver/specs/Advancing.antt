-- Zones go on to the states that follow their own.
use Rattle.std.specs.Prelude.{◌≡◌, ◌≢◌, ℕ, Bool, true, false, List, [], length, IsSome, None}
use Rattle.gz_names.specs.Zones.{HasZone}
use Rattle.gz_names.specs.declared.zone_sets.ZoneSet.{ZoneSet}
use Rattle.zones.specs.States.{next_state}
use Rattle.zones.specs.declared.states.State.{State}
use Rattle.zones.specs.declared.states.State.TheVariants as state
use Rattle.heap_core.specs.Shape.{out_of, state_in}
use Rattle.heap_core.specs.Heap.{HeapState}
use Rattle.slice_driver.specs.Sweeping.{after_sweep}

-- exactly these zones went on to their next states, and nothing else changed
pub record Advances (h : HeapState) (word : ℕ) (k : HeapState) : Type 0 where
  pub rest : k ≡ record h { shape = record h.shape { states = k.shape.states } }
  pub sized : length k.shape.states ≡ length h.shape.states
  pub gone_on : (z : ℕ) → HasZone word z → state_in k.shape z ≡ next_state (state_in h.shape z)
  pub others : (z : ℕ) → (HasZone word z → ⊥) → state_in k.shape z ≡ state_in h.shape z

-- the state of a zone once its collection is over
abbrev pub after_end : State → State
after_end state.NoGC = state.NoGC
after_end state.Prepare = state.Prepare
after_end state.MarkBlackOnly = state.MarkBlackOnly
after_end state.MarkBlackAndGray = state.MarkBlackAndGray
after_end state.Sweep = state.NoGC
after_end state.Finished = state.NoGC

-- zones that are swept are finished where no arena is out any more; where no group is left either, all is over
pub record EndsSweeping (h : HeapState) (groups : List ZoneSet) (over : Bool) (k : HeapState) : Type 0 where
  pub rest : k ≡ record h { shape = record h.shape { states = k.shape.states } }
  pub sized : length k.shape.states ≡ length h.shape.states
  pub still : (b : ℕ) → IsSome (out_of h.shape b) → (over ≡ false) × ((z : ℕ) → state_in k.shape z ≡ state_in h.shape z)
  pub swept : ((b : ℕ) → out_of h.shape b ≡ None) → over ≡ false
      → (groups ≢ []) × ((z : ℕ) → state_in k.shape z ≡ after_sweep (state_in h.shape z))
  pub ended : over ≡ true → (groups ≡ []) × ((b : ℕ) → out_of h.shape b ≡ None)
      × ((z : ℕ) → state_in k.shape z ≡ after_end (state_in h.shape z))

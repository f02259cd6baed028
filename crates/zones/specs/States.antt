-- The order of a zone's states.
use Rattle.std.specs.Prelude.{◌≡◌, ◌⊎◌, ℕ}
use Rattle.zones.specs.declared.states.State.{State}
use Rattle.zones.specs.declared.states.State.TheVariants.{NoGC, Prepare, MarkBlackOnly, MarkBlackAndGray, Sweep}
use Rattle.zones.specs.declared.states.State.TheVariants.{Finished}

-- the state that follows
abbrev pub next_state : State → State
next_state NoGC = Prepare
next_state Prepare = MarkBlackOnly
next_state MarkBlackOnly = MarkBlackAndGray
next_state MarkBlackAndGray = Sweep
next_state Sweep = Finished
next_state Finished = NoGC

-- black marking goes through a zone in such a state
abbrev pub IsMarking : State → Type 0
IsMarking s = (s ≡ MarkBlackOnly) ⊎ (s ≡ MarkBlackAndGray)

-- the place of a state in their order
abbrev pub number_of : State → ℕ
number_of NoGC = 0
number_of Prepare = 1
number_of MarkBlackOnly = 2
number_of MarkBlackAndGray = 3
number_of Sweep = 4
number_of Finished = 5

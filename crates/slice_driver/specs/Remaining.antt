-- What is left of the grouping, of the zones of a collection, and of its arenas.
use Rattle.std.specs.Prelude.{◌+◌, ◌-◌, ◌*◌, ◌||◌, ℕ, zero, suc, is_some, if◌then◌else◌, List, [], ◌∷◌, Option, Some}
use Rattle.std.specs.Prelude.{None}
use Rattle.std.specs.Int.{bit_at}
use Rattle.zones.specs.declared.states.State.{State}
use Rattle.zones.specs.declared.states.State.TheVariants as state
use Rattle.zone_edges.specs.Looks.{left_to_look}
use Rattle.zone_edges.specs.Noted.{Noted}
use Rattle.heap_core.specs.Shape.{ArenaShape, Shape, is_marking_state, is_owned, state_in}
use Rattle.gz_names.specs.declared.zone_sets.ZoneSet.{ZoneSet}
use Rattle.slice_driver.specs.Collector.{RunState}
use Rattle.slice_driver.specs.declared.collector.Uncleared.{Uncleared}

-- how many zones below a number had no grouping step
unfoldable pub ungrouped_below : Noted → ℕ → ℕ
ungrouped_below n zero = 0
ungrouped_below n (suc z) = ungrouped_below n z + bit_at n.zones.bits z * (1 - bit_at n.stepped.bits z)

-- from the beginning of marking till the groups are formed: the wrappers that were not looked at, and the zones that
-- had no grouping step
abbrev pub grouping_left : Shape → Noted → Option RunState → ℕ
grouping_left s n None = 0
grouping_left s n (Some run) =
    if run.formed || is_some run.clearing then 0 else left_to_look s n + ungrouped_below n 64

-- how many arenas of these zones there are from a number on, among the next ones
unfoldable pub owned_from : Shape → ℕ → ℕ → ℕ → ℕ
owned_from s word from zero = 0
owned_from s word from (suc n) = (if is_owned s word from then 1 else 0) + owned_from s word (suc from) n

-- while a collection is being prepared: the arenas whose mark bits are still to be cleared
abbrev pub left_of : Shape → ZoneSet → Option Uncleared → ℕ
left_of s zones None = 0
left_of s zones (Some u) = owned_from s zones.bits u.from (u.end - u.from)

abbrev pub clearing_left : Shape → Option RunState → ℕ
clearing_left s None = 0
clearing_left s (Some run) = left_of s run.zones run.clearing

-- how many steps a zone has to go till its group ends
abbrev pub steps_of : State → ℕ
steps_of state.NoGC = 0
steps_of state.Prepare = 0
steps_of state.MarkBlackOnly = 2
steps_of state.MarkBlackAndGray = 1
steps_of state.Sweep = 0
steps_of state.Finished = 0

abbrev pub steps_left : List State → ℕ
steps_left [] = 0
steps_left (s ∷ states) = steps_of s + steps_left states

-- how many arenas are still to come in: those that are out, and those of marking zones
abbrev pub arenas_left : Shape → List ArenaShape → ℕ
arenas_left s [] = 0
arenas_left s (arena ∷ arenas) = (if is_some arena.out || is_marking_state (state_in s arena.zone) then 1 else 0)
    + arenas_left s arenas

use Rattle.std.proofs.Common.{◌≡◌, ◌≤◌, ◌<◌, ◌-◌, ◌^◌, List}
use Rattle.arena_table.specs.Slots.{Arena}
use Rattle.arena_table.specs.Indexed.{IsOwnedBy}
use Rattle.arena_table.specs.Walks.{walk_rest}
use Rattle.arena_table.proofs.walk.Walk.next.Given as goal

abbrev pub invariant-loop-self : goal.invariant-loop-self
invariant-loop-self l =
    ((arenas : List Arena) → IsOwnedBy arenas l.index.owned → walk_rest arenas l.self ≡ walk_rest arenas l.initial.self)
    × ((l.self.base ≤ 2 ^ 32) × (l.self.at ≤ 2 ^ 26)) × (l.self.left < 2 ^ 64)

abbrev pub decreases-loop-self : goal.decreases-loop-self
decreases-loop-self l = 2 ^ 26 - l.self.at

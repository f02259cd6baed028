-- A walk over the arenas of a set of zones.
use Rattle.std.specs.Prelude.{ℕ, ◌*◌, List, ◌++◌, drop}
use Rattle.std.specs.List.{range_with_len}
use Rattle.arena_table.specs.Slots.{Arena, at_bits}
use Rattle.arena_table.specs.Indexed.{numbers_from}
use Rattle.arena_table.specs.declared.walk.Walk.{Walk}

-- the arenas that a walk has still to visit: those left of its word, and those after it
abbrev pub walk_rest : List Arena → Walk → List ℕ
walk_rest arenas walk = at_bits walk.left (range_with_len walk.base 64) ++ numbers_from walk.zones.bits (64 * walk.at)
    (drop (64 * walk.at) arenas)

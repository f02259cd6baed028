use Rattle.std.proofs.Common.{◌≡◌, ◌++◌, map}
use Rattle.arena_table.specs.Cells.{state_of}
use Rattle.arena_table.specs.Slots.{at_bits}
use Rattle.arena_table.specs.declared.cells.Cell.{Cell}
use Rattle.arena_table.proofs.store.names_of_cells.Given as goal

abbrev pub invariant-loop-left : goal.invariant-loop-left
invariant-loop-left l = l.names ++ map (λ (c : Cell). (state_of c).name) (at_bits l.left l.cells)
    ≡ map (λ (c : Cell). (state_of c).name) (at_bits l.word l.cells)

abbrev pub decreases-loop-left : goal.decreases-loop-left
decreases-loop-left l = l.left

use Rattle.std.proofs.Common.{◌≡◌}
use Rattle.std.specs.Option.{option_map}
use Rattle.gz_names.specs.Moves.{moved}
use Rattle.arena_table.specs.Cells.{state_of}
use Rattle.arena_table.proofs.Forwarding.{so_far}
use Rattle.arena_table.proofs.cells.Cell.forward.Given as goal

abbrev pub invariant-loop-f : goal.invariant-loop-f
invariant-loop-f l = state_of l.self ≡ record (state_of l.initial.self) {
  fields = so_far (option_map (moved l.moves)) l.f (state_of l.initial.self).fields;
}

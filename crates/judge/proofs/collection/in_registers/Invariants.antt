use Rattle.colour_defs.specs.Graph.{register_cell}
use Rattle.judge.specs.Starts.{IsListOf}
use Rattle.judge.proofs.Starts.{IsHeldBelow}
use Rattle.judge.proofs.collection.in_registers.Given as goal

abbrev pub invariant-loop-index : goal.invariant-loop-index
invariant-loop-index l = IsListOf l.names.items (IsHeldBelow (register_cell l.graph) l.index)

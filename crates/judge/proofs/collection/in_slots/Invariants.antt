use Rattle.colour_defs.specs.Graph.{slot_cell}
use Rattle.judge.specs.Starts.{IsListOf}
use Rattle.judge.proofs.Starts.{IsHeldBelow}
use Rattle.judge.proofs.collection.in_slots.Given as goal

abbrev pub invariant-loop-index : goal.invariant-loop-index
invariant-loop-index l = IsListOf l.names.items (IsHeldBelow (slot_cell l.graph) l.index)

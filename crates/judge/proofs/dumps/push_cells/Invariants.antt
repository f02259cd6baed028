use Rattle.std.proofs.Common.{◌≡◌, ◌++◌, map, take}
use Rattle.colour_defs.specs.Graph.{GraphState}
use Rattle.colour_defs.specs.World.{World}
use Rattle.colour_defs.specs.Dumps.{cell_line}
use Rattle.judge.specs.Dumps.{Rests}
use Rattle.judge.specs.Stages.{shown}
use Rattle.judge.proofs.dumps.push_cells.Given as goal

abbrev pub invariant-loop-name : goal.invariant-loop-name
invariant-loop-name l =
    (g : GraphState) (w : World) → Rests g (shown l.world) w
    → l.lines.items ≡ l.fn.lines.items ++ map (cell_line w) (take l.name-index l.names)

use Rattle.std.proofs.Common.{◌≡◌, ◌++◌, take}
use Rattle.std.specs.List.{flat_map}
use Rattle.colour_defs.specs.Dumps.{edge_lines}
use Rattle.judge.proofs.dumps.push_edges.Given as goal

abbrev pub invariant-loop-name : goal.invariant-loop-name
invariant-loop-name l =
    l.lines.items ≡ l.fn.lines.items ++ flat_map (edge_lines l.graph) (take l.name-index l.names)

use Rattle.std.proofs.Common.{◌++◌, List, take}
use Rattle.gz_names.specs.declared.names.Name.{Name}
use Rattle.colour_defs.specs.Graph.{GraphState}
use Rattle.plain_graph.specs.Reach.{Follows}
use Rattle.judge.proofs.collection.add_all.Given as goal

abbrev pub invariant-loop-name : goal.invariant-loop-name
invariant-loop-name l = (g : GraphState) (starts : List Name) → Follows g starts l.fn.walk
    → Follows g (starts ++ take l.name-index l.names) l.walk

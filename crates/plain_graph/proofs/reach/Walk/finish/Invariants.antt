use Rattle.std.proofs.Common.{◌-◌, ◌^◌, List}
use Rattle.gz_names.specs.declared.names.Name.{Name}
use Rattle.plain_graph.specs.Reach.{Follows}
use Rattle.plain_graph.proofs.reach.Walk.finish.Given as goal

abbrev pub invariant-loop-name : goal.invariant-loop-name
invariant-loop-name l = (starts : List Name) → Follows l.graph starts l.fn.self → Follows l.graph starts l.self

abbrev pub decreases-loop-name : goal.decreases-loop-name
decreases-loop-name l = 2 ^ 64 - l.self.next

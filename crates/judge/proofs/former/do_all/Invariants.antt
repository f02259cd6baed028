use Rattle.std.proofs.Common.{◌≡◌, drop}
use Rattle.judge.specs.Former.{graph_by}
use Rattle.judge.proofs.former.do_all.Given as goal

abbrev pub invariant-loop-kept : goal.invariant-loop-kept
invariant-loop-kept l = graph_by l.graph (drop l.kept-index l.changes) ≡ graph_by l.fn.graph l.changes

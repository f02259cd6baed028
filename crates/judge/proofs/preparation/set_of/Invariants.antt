use Rattle.std.proofs.Common.{◌↔◌, Contains, Some, take}
use Rattle.gz_names.specs.declared.names.Name.{Name}
use Rattle.judge.specs.Walks.{IsLeftBlack}
use Rattle.judge.proofs.preparation.set_of.Given as goal

abbrev pub invariant-loop-name : goal.invariant-loop-name
invariant-loop-name l = (x : Name) → IsLeftBlack (Some l.set) x ↔ Contains (take l.name-index l.names) x

use Rattle.std.proofs.Common.{◌↔◌, ◌⊎◌, Contains}
use Rattle.gz_names.specs.declared.names.Name.{Name}
use Rattle.spec_replay.specs.Reached.{IsInRegistersBelow}
use Rattle.spec_replay.proofs.reached.push_registers.Given as goal

abbrev pub invariant-loop-index : goal.invariant-loop-index
invariant-loop-index l = (x : Name) → Contains l.starts.items x
    ↔ (Contains l.fn.starts.items x ⊎ IsInRegistersBelow l.index l.graph x)

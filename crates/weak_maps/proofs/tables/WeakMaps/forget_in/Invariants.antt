use Rattle.std.proofs.Common.{◌≡◌}
use Rattle.weak_maps.specs.WeakMaps.{IsLeftFewer}
use Rattle.weak_maps.proofs.Kept.{looks_left}
use Rattle.weak_maps.proofs.tables.WeakMaps.forget_in.Given as goal

abbrev pub invariant-loop-colour : goal.invariant-loop-colour
invariant-loop-colour l = record {
  table : l.self.table ≡ l.initial.self.table;
  fewer : IsLeftFewer l.initial.self.looks l.self.looks;
}

abbrev pub decreases-loop-colour : goal.decreases-loop-colour
decreases-loop-colour l = looks_left l.self.looks

use Rattle.std.proofs.Common.{ℕ, ◌<◌}
use Rattle.gz_names.specs.Zones.{HasZone}
use Rattle.judge.proofs.world.are_made.Given as goal

abbrev pub invariant-loop-index : goal.invariant-loop-index
invariant-loop-index l = (z : ℕ) → z < l.index → HasZone l.zones.bits z → z < l.made

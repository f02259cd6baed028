use Rattle.std.proofs.Common.{refl}
use Rattle.wrappers.proofs.Dropping.{AreSound-none}
use Rattle.wrappers.proofs.wrapper_maps.Wrappers.new.Goals as goal

pub invariant_of-result : goal.invariant_of-result
invariant_of-result c = AreSound-none _ _ c.in_ok-maps.ensures refl

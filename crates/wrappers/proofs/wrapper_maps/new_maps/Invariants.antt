use Rattle.std.proofs.Common.{◌≡◌, [], replicate}
use Rattle.wrappers.specs.WrapperMaps.{lists_of}
use Rattle.wrappers.proofs.wrapper_maps.new_maps.Given as goal

abbrev pub invariant-loop-i : goal.invariant-loop-i
invariant-loop-i l = lists_of l.maps.items ≡ replicate l._i []

use Rattle.std.proofs.Common.{◌≡◌, take}
use Rattle.slice_driver.proofs.grouping_steps.copy_of.Given as goal

abbrev pub invariant-copy : goal.invariant-copy
invariant-copy l = l.copy ≡ take l.index l.sets

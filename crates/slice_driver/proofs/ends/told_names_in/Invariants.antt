use Rattle.slice_driver.specs.Told.{AreTold}
use Rattle.slice_driver.proofs.ends.told_names_in.Given as goal

abbrev pub invariant-loop-index : goal.invariant-loop-index
invariant-loop-index l = AreTold l.heap l.zones.bits l.index l.names.items

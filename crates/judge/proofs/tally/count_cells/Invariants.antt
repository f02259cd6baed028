use Rattle.std.proofs.Common.{◌≡◌}
use Rattle.std.specs.BTreeMap as tree
use Rattle.std.specs.Map.{keys_of}
use Rattle.gz_names.specs.Zones.{zones_in}
use Rattle.judge.specs.Bounds.{tally_of, with_cells}
use Rattle.judge.proofs.tally.count_cells.Given as goal

abbrev pub invariant-loop-name : goal.invariant-loop-name
invariant-loop-name l = with_cells l.graph (zones_in l.zones) (keys_of l.name-iterator) (tally_of l.tally)
    ≡ with_cells l.graph (zones_in l.zones) (tree.keys l.places) (tally_of l.fn.tally)

use Rattle.std.proofs.Common.{List, ap}
use Rattle.std.specs.Map.{keys_of}
use Rattle.std.specs.Map.Iter.{deref_pair}
use Rattle.std.proofs.lemmas.Map.Iter.{rest_all, rest_more}
use Rattle.gz_names.specs.Zones.{zones_in}
use Rattle.gz_names.specs.declared.names.Name.{Name}
use Rattle.gz_names.specs.declared.numbers.Place.{Place}
use Rattle.judge.specs.Bounds.{tally_of, with_cells}
use Rattle.judge.proofs.Tallies.{cells_all, cells_more}
use Rattle.judge.proofs.tally.count_cells.Goals as goal

pub loop-name-init : goal.loop-name-init
loop-name-init c =
    ap (λ (es : List (Name × Place)). with_cells c.args.graph.now (zones_in c.args.zones) (keys_of es)
    (tally_of c.args.tally.now)) c.into_iter-name-iterator.ensures.into_iter_gives.0

pub loop-name-preserved : goal.loop-name-preserved
loop-name-preserved c =
    cells_more c.args.graph.now (zones_in c.args.zones) c.loop-name.name-iterator c.next.new.self
    (tally_of c.loop-name.tally) (tally_of c.count_cell.new.tally) _
    (rest_more deref_pair _ _ _ _ c.in-Some.is c.next.ensures.steps) c.in_ok-count_cell.ensures c.loop-name.invariant

pub returns-clause-counted : goal.returns-clause-counted
returns-clause-counted c =
    cells_all c.args.graph.now (zones_in c.args.zones) c.loop-name.name-iterator (tally_of c.loop-name.tally) _
    (rest_all deref_pair _ _ _ c.in-None.is c.next.ensures.steps) c.loop-name.invariant

pub returns-clause-ordered : goal.returns-clause-ordered
returns-clause-ordered c = c.into_iter-name-iterator.ensures.into_iter_gives.5

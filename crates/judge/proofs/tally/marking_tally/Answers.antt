use Rattle.std.proofs.Common.{rules}
use Rattle.judge.specs.Bounds.{tally_of}
use Rattle.judge.proofs.FirstTally.{first_is}
use Rattle.judge.proofs.tally.marking_tally.Goals as goal

pub returns-clause-first : goal.returns-clause-first
returns-clause-first c =
    first_is c.args.graph.now c.args.zones c.args.places.now (tally_of c.args.before.now)
    (tally_of c.count_cells.new.tally) c.in_ok-count_cells.ensures.ordered (search rules)

use Rattle.std.proofs.Common.{Contains, rules}
use Rattle.std.specs.List.Sorted.{IsSorted}
use Rattle.gz_names.specs.Order.{name_cmp}
use Rattle.colour_defs.specs.Closure.{Closure}
use Rattle.spec_replay.proofs.Sorted.{lists_from_sort}
use Rattle.spec_replay.proofs.reached.names_from.Goals as goal

pub returns : goal.returns
returns c =
    let sorted : IsSorted name_cmp c.sort_unstable.new.self.items = search rules in
    lists_from_sort (Closure c.args.graph.now (Contains c.args.starts.now)) c.in_ok-names.names.items
    c.sort_unstable.new.self.items c.in_ok-names.ensures.closure c.in_ok-names.ensures.distinct
    c.sort_unstable.ensures.permutation sorted

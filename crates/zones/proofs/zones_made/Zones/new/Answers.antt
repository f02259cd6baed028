use Rattle.std.proofs.Common.{arith, rules}
use Rattle.zones.proofs.Grouping.{AreGrouped-none}
use Rattle.zones.proofs.zones_made.Zones.new.Goals as goal

pub invariant_of-result : goal.invariant_of-result
invariant_of-result c =
    rw (c.new.ensures.items, c.new-2.ensures.items)
    (record {
      zones_fit = omega arith;
      comps_fit = omega arith;
      zones_made = search rules;
      six = search rules;
      grouped = AreGrouped-none;
    })

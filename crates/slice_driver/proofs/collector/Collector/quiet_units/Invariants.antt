use Rattle.std.proofs.Common.{◌≡◌, ◌≤◌, ◌-◌}
use Rattle.slice_driver.specs.Collector.{heap_with}
use Rattle.slice_driver.specs.EdgesRead.{ReadsFew}
use Rattle.slice_driver.specs.Working.{DoesQuietUnits, IsResting}
use Rattle.slice_driver.proofs.collector.Collector.quiet_units.Given as goal

abbrev pub invariant-loop-count : goal.invariant-loop-count
invariant-loop-count g l = record {
  did : DoesQuietUnits l.count l.fn.self (g.F.Flight.bits l.fn.flight) l.self (g.F.Flight.bits l.flight);
  busy : IsResting l.fn.self (g.F.Flight.bits l.fn.flight) → l.count ≡ 0;
  steps : ReadsFew l.count l.fn.steps (heap_with l.fn.self (g.F.Flight.bits l.fn.flight)) l.steps
      (heap_with l.self (g.F.Flight.bits l.flight));
  most : l.count ≤ l.fn.limit;
  origin : g.F.Flight.origin l.flight ≡ g.F.Flight.origin l.fn.flight;
}

abbrev pub decreases-loop-count : goal.decreases-loop-count
decreases-loop-count g l = l.fn.limit - l.count

use Rattle.std.proofs.Common.{◌≡◌, Some, slice_get}
use Rattle.marker.specs.GrayBits.{AreGraying}
use Rattle.slice_driver.specs.Collector.{heap_with}
use Rattle.slice_driver.specs.EdgesRead.{ReadsFew}
use Rattle.slice_driver.specs.Working.{DoesQuietUnits, IsGroupDone}
use Rattle.slice_driver.proofs.collector.Collector.marks_gray_up_to.Given as goal

abbrev pub invariant-loop-count : goal.invariant-loop-count
invariant-loop-count g l = record {
  did : DoesQuietUnits l.count l.fn.self (g.F.Flight.bits l.fn.flight) l.self (g.F.Flight.bits l.flight);
  busy : IsGroupDone l.fn.self (g.F.Flight.bits l.fn.flight) → l.count ≡ 0;
  steps : ReadsFew l.count l.fn.steps (heap_with l.fn.self (g.F.Flight.bits l.fn.flight)) l.steps
      (heap_with l.self (g.F.Flight.bits l.flight));
  begun : AreGraying l.self.heap.shape l.group.bits;
  current : slice_get l.self.groups 0 ≡ Some l.group;
  origin : g.F.Flight.origin l.flight ≡ g.F.Flight.origin l.fn.flight;
}

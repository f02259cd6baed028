use Rattle.std.proofs.Common.{◌≡◌, ◌≤◌, ◌+◌, ℕ, Option}
use Rattle.cell_bits.specs.declared.bits.Bits.{Bits}
use Rattle.slice_driver.specs.Units.{IsSoundMarking}
use Rattle.slice_driver.specs.Working.{DoesQuietUnits, IsBlackDone}
use Rattle.slice_driver.proofs.collector.Collector.looks_up_to.Given as goal

abbrev pub invariant-loop-count : goal.invariant-loop-count
invariant-loop-count g l = record {
  did : (flown : ℕ → Option Bits) → IsSoundMarking l.fn.self flown → IsBlackDone l.fn.self flown
      → DoesQuietUnits l.count l.fn.self flown l.self flown;
  edges : l.self ≡ record l.fn.self { edges = l.self.edges };
  steps : l.steps ≤ l.fn.steps + l.count;
}

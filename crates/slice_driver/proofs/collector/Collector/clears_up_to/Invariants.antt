use Rattle.std.proofs.Common.{◌≡◌, ◌≤◌, ℕ, Option, length}
use Rattle.cell_bits.specs.declared.bits.Bits.{Bits}
use Rattle.barriers.specs.Colours.{grays_outside}
use Rattle.slice_driver.specs.declared.collector.Phase.TheVariants as phase
use Rattle.slice_driver.specs.Collector.{heap_with}
use Rattle.slice_driver.specs.Units.{IsSound}
use Rattle.slice_driver.specs.Working.{DoesQuietUnits}
use Rattle.slice_driver.specs.contracts.collector.Collector.{the_view}
use Rattle.slice_driver.proofs.collector.Collector.clears_up_to.Given as goal

abbrev pub invariant-loop-count : goal.invariant-loop-count
invariant-loop-count l = record {
  did : (flown : ℕ → Option Bits) → IsSound l.fn.self flown
      → DoesQuietUnits l.count l.fn.self flown (the_view l.self-inside) flown;
  phase_is : l.self-inside.phase ≡ phase.Preparing l.zones l.left;
  grays : (flown : ℕ → Option Bits) → grays_outside (heap_with (the_view l.self-inside) flown)
      ≤ grays_outside (heap_with l.fn.self flown);
  arenas : length l.self-inside.heap.shape.arenas ≡ length l.fn.self.heap.shape.arenas;
}

-- How many units are left of a collection at most, also while it is being prepared.
use Rattle.std.proofs.Common.{◌<◌, ◌≤◌, ◌-◌, ◌^◌, ℕ, zero, suc, Bool, true, false, Option, length, sum_by, ap, ◌∙◌}
use Rattle.std.proofs.Common.{arith}
use Rattle.std.specs.Prelude.{if◌then◌else◌}
use Rattle.cell_bits.specs.declared.bits.Bits.{Bits}
use Rattle.wrappers.specs.WrapperMaps.{AreApart}
use Rattle.weak_maps.specs.WeakMaps.{AreParallel, IsSound as AreEntries}
use Rattle.heap_core.specs.Shape.{Shape, is_owned}
use Rattle.heap_core.specs.Heap.{weak_of}
use Rattle.slice_driver.specs.Collector.{CollectorState}
use Rattle.slice_driver.specs.Left.{marking_left, starting_left, units_left}
use Rattle.slice_driver.specs.Remaining.{clearing_left, left_of, owned_from}
use Rattle.slice_driver.specs.Represents.{Represents, going, prepared}
use Rattle.slice_driver.specs.Units.{IsSound}
use Rattle.slice_driver.proofs.measure.FewUnits.{few_arenas, few_marking}
use Rattle.slice_driver.proofs.clearing.ToCome.{to_come_is}

pub few_owned : (s : Shape) (word from n : ℕ) → owned_from s word from n ≤ n
unfolding owned_from
few_owned s word from zero = omega arith
few_owned s word from (suc n) =
    let here = one (is_owned s word from) in
    let rest = few_owned s word (suc from) n in
    omega (arith, here, rest)
  where
    one : (b : Bool) → (if b then 1 else 0) ≤ 1
    one true = omega arith
    one false = omega arith

-- the number of units that are left is one of 64 bits
pub few_units : (c : CollectorState) → length c.heap.shape.arenas < 2 ^ 32 → sum_by length c.heap.buffers < 2 ^ 63
    → length c.heap.shape.states ≤ 64 → length c.heap.shape.weak.entries < 2 ^ 32 → AreParallel (weak_of c.heap)
    → AreEntries c.heap.shape.weak → AreApart c.heap.shape.wrappers.lists → (flown : ℕ → Option Bits)
    → IsSound c flown → units_left c flown < 2 ^ 64
few_units c arenas buffered zones entries parallel weak apart flown sound = by sound.represents
  where
    by : Represents c flown sound.world → units_left c flown < 2 ^ 64
    by (going m) = few_marking c arenas buffered zones entries parallel weak apart flown
        (record { world = sound.world; valid = sound.valid; represents = m })
    by (prepared p) =
        let to_come = to_come_is c flown sound.world p in
        let left = ap (clearing_left c.heap.shape) p.run_is ∙ ap (left_of c.heap.shape p.run.zones) p.clearing in
        let start = ap (marking_left c.heap.shape) p.run_is ∙ ap (starting_left c.heap.shape) p.clearing in
        let owned = few_owned c.heap.shape p.run.zones.bits p.uncleared.from (p.uncleared.end - p.uncleared.from) in
        let within = p.cleared.within in
        let handed = few_arenas c.heap.shape c.heap.shape.arenas in
        omega (arith, to_come, left, start, owned, within, handed, arenas, zones, entries)

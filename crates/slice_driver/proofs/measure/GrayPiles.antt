-- What is on the gray pile of a collector.
use Rattle.std.proofs.Common.{◌≡◌, ◌≢◌, ℕ, Option, Some, true, ap, arith}
use Rattle.gz_names.specs.declared.names.Name.TheVariants.{Wrap}
use Rattle.gz_names.specs.declared.numbers.CompNo.{CompNo}
use Rattle.gz_names.specs.declared.numbers.Place.{Place}
use Rattle.cell_bits.specs.declared.bits.Bits.{Bits}
use Rattle.colour_defs.specs.World.{World}
use Rattle.heap_core.specs.Shape.{Shape, is_marking_state, name_at, state_in, zone_of}
use Rattle.slice_driver.specs.Collector.{CollectorState, heap_with}
use Rattle.slice_driver.specs.Represents.{RepresentsMarking}
use Rattle.slice_driver.specs.UnitsToCome.{is_wrapper_named}
use Rattle.slice_driver.proofs.abstraction.Crossing.{crosses_named}
use Rattle.slice_driver.proofs.measure.MarkingToCome.{IsGrayPile}

-- a place with the name of a wrapper
wrapper_named : (s : Shape) (x : Place) → (c : CompNo) × (t : ℕ) × (name_at s x ≡ Some (Wrap c t))
    → is_wrapper_named (name_at s x) ≡ true
wrapper_named s x (c, t, is) = ap is_wrapper_named is

pub gray_pile : (c : CollectorState) (flown : ℕ → Option Bits) (w : World) → RepresentsMarking c flown w
    → IsGrayPile (heap_with c flown) c.stack
gray_pile c flown w s = record {
  seen = s.coloured.marks.holds.piles.gray;
  marking = λ x has. ap is_marking_state (s.coloured.waits.piled x has);
  inside = λ x y has object leads only.
      (let takes = s.coloured.waits.piled x has in
      let apart : zone_of c.heap.shape x ≢ zone_of c.heap.shape y =
      λ same. (let state_same = ap (state_in c.heap.shape) same in cc (takes, state_same, only)) in
      let wrapper = crosses_named c.heap s.placed.lies.graph x y s.placed.lies.shown s.placed.lies.part.well_formed
      (0, omega arith, leads) apart in
      let is = wrapper_named c.heap.shape x wrapper in
      cc (is, object));
}

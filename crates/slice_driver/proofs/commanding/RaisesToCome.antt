-- A command raises what is to come by no more than the bound on units.
use Rattle.std.proofs.Common.{◌≡◌, ◌+◌, ◌≤◌, ℕ, Option, Some, Result, Ok, Err, OnErr, refl, ap, ◌∙◌, subst}
use Rattle.std.proofs.Common.{arith}
use Rattle.gz_names.specs.declared.commands.GraphCmd.{GraphCmd}
use Rattle.gz_names.specs.declared.numbers.Place.{Place}
use Rattle.gz_names.specs.declared.replies.CmdFault.{CmdFault}
use Rattle.gz_names.specs.declared.replies.Reply.{Reply}
use Rattle.cell_bits.specs.declared.bits.Bits.{Bits}
use Rattle.weak_maps.specs.WeakMaps.{AreParallel, IsSound as AreEntries}
use Rattle.colour_defs.specs.Laws.{IsValid}
use Rattle.colour_defs.specs.World.{Collection, World, woken_by}
use Rattle.heap_core.specs.Heap.{HeapState, joined, weak_of}
use Rattle.heap_core.specs.Shape.{Shape}
use Rattle.heap_core.specs.Plans.{handed_by}
use Rattle.marker.specs.UnitsToCome.{units_at}
use Rattle.slice_driver.specs.Collector.{CollectorState}
use Rattle.slice_driver.specs.Remaining.{clearing_left, grouping_left, steps_left}
use Rattle.slice_driver.specs.Represents.{RepresentsMarking}
use Rattle.slice_driver.specs.Rooms.{Widens}
use Rattle.slice_driver.specs.Steps.{CommandSteps, GoesThrough}
use Rattle.slice_driver.specs.Units.{RaisesBy}
use Rattle.slice_driver.specs.UnitsToCome.{units_to_come}
use Rattle.slice_driver.proofs.commanding.Answering.{first_stands, rises_ok, second_stands, wide_stands}
use Rattle.slice_driver.proofs.commanding.Commanding.{markable, through_shape}
use Rattle.slice_driver.proofs.measure.CommandsToCome.{limit_rises}
use Rattle.slice_driver.proofs.measure.MarkingToCome.{exposed_no_more}

-- more room on the lists changes nothing of it
pub widened_to_come : (c d : CollectorState) (flown : ℕ → Option Bits) → Widens c d
    → units_to_come d flown ≡ units_to_come c flown
unfolding units_to_come units_at
widened_to_come c d flown wide = ap (λ (e : CollectorState). units_to_come e flown) wide.rest

-- a barrier raises nothing of it
pub through_to_come : (o : Option Place) (c : CollectorState) (flown : ℕ → Option Bits) (d : CollectorState)
    (flying : ℕ → Option Bits) (w : World) → GoesThrough o c flown d flying → RepresentsMarking c flown w
    → units_to_come d flying ≤ units_to_come c flown
unfolding units_to_come
through_to_come o c flown d flying w t rep =
    let is = ap (λ (e : CollectorState). units_to_come e flying) t.rest in
    let may = markable c flown w rep in
    let marks = exposed_no_more o (joined c.heap flown) c.stack c.lists (joined d.heap flying) d.stack may.invariant
    (t.marking may) in
    let shape = through_shape o c flown d flying t in
    let others = ap (λ (s : Shape). grouping_left s c.edges c.run + steps_left s.states) shape in
    let clearing = ap (λ (s : Shape). clearing_left s c.run) shape in
    omega (arith, is, marks, others, clearing)

module _ (c : CollectorState) (flown : ℕ → Option Bits) (command : GraphCmd) (result : Result Reply CmdFault)
    (d : CollectorState) (flying : ℕ → Option Bits) (steps : CommandSteps c flown command result d flying)
    (were : AreEntries c.heap.shape.weak) (parallel : AreParallel (weak_of c.heap)) (w : World) (ok : IsValid w)
    (rep : RepresentsMarking c flown w) where
  exposed : units_to_come steps.third flying ≤ units_to_come c flown
  exposed =
      let wide = widened_to_come c steps.wide flown steps.widens in
      let first = through_to_come steps.plan.overwritten steps.wide flown steps.first steps.first_flown w
      steps.old_through (wide_stands c flown command result d flying steps w ok rep) in
      let second = through_to_come steps.plan.wrapped steps.first steps.first_flown steps.second steps.second_flown w
      steps.target_through (first_stands c flown command result d flying steps w ok rep) in
      let third = through_to_come (handed_by steps.plan.change) steps.second steps.second_flown steps.third flying w
      steps.handed_through (second_stands c flown command result d flying steps w ok rep) in
      omega (arith, wide, first, second, third)

  raises : (k : Collection) → w.collection ≡ Some k → (r : Result Reply CmdFault) → result ≡ r
      → RaisesBy w k command r (units_to_come c flown) (units_to_come d flying)
  raises k at (Ok answer) is =
      let rises = rises_ok c flown command result d flying steps w ok rep answer is k at were parallel in
      let limit = limit_rises w.graph k.zones k.tally command (woken_by w.graph command) in
      omega (arith, exposed, rises, limit)
  raises k at (Err why) is =
      let heap = subst (λ (r : Result Reply CmdFault). OnErr r (d.heap ≡ steps.third.heap)) is steps.err in
      let same = steps.rest ∙ ap (λ (h : HeapState). record steps.third { heap = h }) heap in
      let still = ap (λ (e : CollectorState). units_to_come e flying) same in
      omega (arith, exposed, still)

  -- of the collection that runs
  pub raises_marking : (k : Collection) → w.collection ≡ Some k
      → RaisesBy w k command result (units_to_come c flown) (units_to_come d flying)
  raises_marking k at = raises k at result refl

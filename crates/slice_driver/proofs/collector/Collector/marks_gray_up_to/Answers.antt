use Rattle.std.proofs.Common.{◌∙◌, ◌≤◌, List, sym, ap, subst, slice_get, arith}
use Rattle.gz_names.specs.declared.zone_sets.ZoneSet.{ZoneSet}
use Rattle.heap_core.specs.Shape.{Shape}
use Rattle.marker.specs.GrayBits.{AreGraying}
use Rattle.slice_driver.proofs.marking.AtGroupEnd.{first_busy}
use Rattle.slice_driver.proofs.marking.Units.{last_quiet, more_quiet, quiet_marking}
use Rattle.slice_driver.proofs.collector.Collector.marks_gray_up_to.Goals as goal

pub marks_group-requires-clause-sound : goal.marks_group-requires-clause-sound
marks_group-requires-clause-sound g c = quiet_marking c.loop-count.count _ _ _ _ c.loop-count.invariant.did
    c.requires.sound

pub returns-then-not-marks_group-clause-done : goal.returns-then-not-marks_group-clause-done
returns-then-not-marks_group-clause-done g c =
    last_quiet _ _ _ _ _ _ _ c.loop-count.invariant.did c.if-not-marks_group.ensures.tries.done.0

pub loop-count-preserved : goal.loop-count-preserved
loop-count-preserved g c = record {
  did = more_quiet _ _ _ _ _ _ _ c.loop-count.invariant.did c.if-not-marks_group.ensures.tries.done.0;
  busy = first_busy _ c.in-Some.group _ _ _ _ c.loop-count.invariant.did c.loop-count.invariant.current
      c.if-not-marks_group.ensures.tries.done.1 c.loop-count.invariant.busy;
  begun = subst (λ (s : Shape). AreGraying s c.in-Some.group.bits) (sym c.if-not-marks_group.ensures.tries.shape)
      c.loop-count.invariant.begun;
  current = ap (λ (groups : List ZoneSet). slice_get groups 0) c.if-not-marks_group.ensures.tries.groups
      ∙ c.loop-count.invariant.current;
  steps = (let before = c.loop-count.invariant.steps in
      let more = c.if-not-marks_group.ensures.steps in omega (arith, before, more));
  origin = c.if-not-marks_group.ensures.origin ∙ c.loop-count.invariant.origin;
}

pub returns-then-not-marks_group-clause-steps : goal.returns-then-not-marks_group-clause-steps
returns-then-not-marks_group-clause-steps g c =
    let before = c.loop-count.invariant.steps in
    let none = c.if-not-marks_group.ensures.steps in
    omega (arith, before, none)

pub returns-clause-steps : goal.returns-clause-steps
returns-clause-steps g c =
    let before = c.loop-count.invariant.steps in
    let ended : c.loop-count.count ≤ c.args.limit = omega arith in
    omega (arith, before, ended)

pub returns-clause-ended : goal.returns-clause-ended
returns-clause-ended g c = λ done.
    let none = c.loop-count.invariant.busy done in
    omega (arith, none)

use Rattle.std.proofs.Common.{[], sym, ap, subst, arith}
use Rattle.heap_core.specs.Heap.{joined}
use Rattle.barriers.specs.Colours.{grays_outside}
use Rattle.slice_driver.specs.Collector.{CollectorState}
use Rattle.slice_driver.specs.Quiet.{IsFormed}
use Rattle.slice_driver.specs.Working.{HasBegun}
use Rattle.slice_driver.proofs.marking.MarkingUnits.{still_black_done, still_goes, still_group_done}
use Rattle.slice_driver.proofs.marking.MarkingUnits.{still_marking}
use Rattle.slice_driver.proofs.marking.AtGroupEnd.{still_on}
use Rattle.slice_driver.proofs.marking.Units.{many_quietly, none_looked, none_rests, not_both, one_quiet}
use Rattle.slice_driver.proofs.collector.Collector.some_quiet_units.Goals as goal

pub returns-then-marks_black-clause-done : goal.returns-then-marks_black-clause-done
returns-then-marks_black-clause-done g c = one_quiet _ _ _ _ c.if-marks_black.ensures.done.0

pub looks_up_to-requires-clause-sound : goal.looks_up_to-requires-clause-sound
looks_up_to-requires-clause-sound g c =
    let old = c.args.self.now in
    let flown = g.F.Flight.bits c.args.flight.now in
    let still = c.if-marks_black.ensures.done.0 in
    let f1 = g.F.Flight.bits c.marks_black.new.flight in (
      f1,
      still_marking old flown c.marks_black.new.self f1 still c.requires.sound,
      still_black_done old flown c.marks_black.new.self f1 still c.if-marks_black.ensures.done.1,
    )

pub returns-then-is_grouping-clause-done : goal.returns-then-is_grouping-clause-done
returns-then-is_grouping-clause-done g c =
    let old = c.args.self.now in
    let flown = g.F.Flight.bits c.args.flight.now in
    let still = c.if-marks_black.ensures.done.0 in
    let black = c.if-marks_black.ensures.done.1 in
    let f1 = g.F.Flight.bits c.marks_black.new.flight in
    many_quietly old flown c.requires.sound c.marks_black.new.self f1 still black c.looks_up_to.result
    c.looks_up_to.new.self f1
    (c.looks_up_to.ensures.done f1 (still_marking old flown c.marks_black.new.self f1 still c.requires.sound)
    (still_black_done old flown c.marks_black.new.self f1 still black))

pub returns-then-is_grouping-clause-rests : goal.returns-then-is_grouping-clause-rests
returns-then-is_grouping-clause-rests g c = λ is.
    let old = c.args.self.now in
    let flown = g.F.Flight.bits c.args.flight.now in
    let still = c.if-marks_black.ensures.done.0 in
    let black = c.if-marks_black.ensures.done.1 in
    let f1 = g.F.Flight.bits c.marks_black.new.flight in
    none_looked old flown c.requires.sound c.marks_black.new.self f1 still black c.looks_up_to.result
    c.looks_up_to.new.self c.if-is_grouping.ensures
    (c.looks_up_to.ensures.done f1 (still_marking old flown c.marks_black.new.self f1 still c.requires.sound)
    (still_black_done old flown c.marks_black.new.self f1 still black))
    (let some = c.requires.some in c.looks_up_to.ensures.looked (omega (arith, is, some))) is

pub returns-then-begins_zone-clause-done : goal.returns-then-begins_zone-clause-done
returns-then-begins_zone-clause-done g c =
    let old = c.args.self.now in
    let flown = g.F.Flight.bits c.args.flight.now in
    let still = c.if-marks_black.ensures.done.0 in
    let f1 = g.F.Flight.bits c.marks_black.new.flight in
    one_quiet _ _ _ _ (still_goes old flown c.marks_black.new.self f1 [] c.begins_zone.new.self f1 still
    (c.if-begins_zone.ensures.begins.0 f1 (still_marking old flown c.marks_black.new.self f1 still c.requires.sound)))

pub marks_gray_up_to-requires-clause-sound : goal.marks_gray_up_to-requires-clause-sound
marks_gray_up_to-requires-clause-sound g c =
    let old = c.args.self.now in
    let flown = g.F.Flight.bits c.args.flight.now in
    let f1 = g.F.Flight.bits c.marks_black.new.flight in
    let still = still_on old flown c.marks_black.new.self f1 c.begins_zone.new.self c.if-marks_black.ensures.done.0
    c.if-begins_zone.ensures.begins.1 in
    still_marking old flown c.begins_zone.new.self f1 still c.requires.sound

pub returns-clause-done : goal.returns-clause-done
returns-clause-done g c =
    let old = c.args.self.now in
    let flown = g.F.Flight.bits c.args.flight.now in
    let f1 = g.F.Flight.bits c.marks_black.new.flight in
    let still = still_on old flown c.marks_black.new.self f1 c.begins_zone.new.self c.if-marks_black.ensures.done.0
    c.if-begins_zone.ensures.begins.1 in
    many_quietly old flown c.requires.sound c.begins_zone.new.self f1 still c.if-marks_black.ensures.done.1
    c.marks_gray_up_to.result c.marks_gray_up_to.new.self (g.F.Flight.bits c.marks_gray_up_to.new.flight)
    c.marks_gray_up_to.ensures.done

pub returns-clause-rests : goal.returns-clause-rests
returns-clause-rests g c = λ is.
    let old = c.args.self.now in
    let flown = g.F.Flight.bits c.args.flight.now in
    let f1 = g.F.Flight.bits c.marks_black.new.flight in
    let still = still_on old flown c.marks_black.new.self f1 c.begins_zone.new.self c.if-marks_black.ensures.done.0
    c.if-begins_zone.ensures.begins.1 in
    none_rests old flown c.requires.sound c.begins_zone.new.self f1 still c.if-marks_black.ensures.done.1
    c.marks_gray_up_to.result c.marks_gray_up_to.new.self (g.F.Flight.bits c.marks_gray_up_to.new.flight)
    (subst IsFormed (sym c.if-begins_zone.ensures.begins.1) c.if-is_grouping.ensures)
    (subst HasBegun (sym c.if-begins_zone.ensures.begins.1) c.if-begins_zone.ensures.begins.0)
    c.marks_gray_up_to.ensures.done
    (let some = c.requires.some in c.marks_gray_up_to.ensures.rests (omega (arith, is, some))) is

pub returns-then-marks_black-clause-steps : goal.returns-then-marks_black-clause-steps
returns-then-marks_black-clause-steps g c = c.if-marks_black.ensures.steps

pub returns-then-is_grouping-clause-steps : goal.returns-then-is_grouping-clause-steps
returns-then-is_grouping-clause-steps g c =
    let none = c.if-marks_black.ensures.steps in
    let looked = c.looks_up_to.ensures.steps in
    let grays = ap (λ (x : CollectorState). grays_outside (joined x.heap (g.F.Flight.bits c.marks_black.new.flight)))
    c.looks_up_to.ensures.edges in
    omega (arith, none, looked, grays)

pub returns-then-begins_zone-clause-steps : goal.returns-then-begins_zone-clause-steps
returns-then-begins_zone-clause-steps g c =
    let none = c.if-marks_black.ensures.steps in
    let grays = c.if-begins_zone.ensures.grays (g.F.Flight.bits c.marks_black.new.flight) in
    omega (arith, none, grays)

pub returns-clause-steps : goal.returns-clause-steps
returns-clause-steps g c =
    let none = c.if-marks_black.ensures.steps in
    let grays = c.if-begins_zone.ensures.grays (g.F.Flight.bits c.marks_black.new.flight) in
    let more = c.marks_gray_up_to.ensures.steps in
    omega (arith, none, grays, more)

pub returns-then-marks_black-clause-resting : goal.returns-then-marks_black-clause-resting
returns-then-marks_black-clause-resting g c = λ rests. absurd (c.if-marks_black.ensures.done.1 rests.black)

pub returns-then-is_grouping-clause-resting : goal.returns-then-is_grouping-clause-resting
returns-then-is_grouping-clause-resting g c = λ rests. absurd (not_both c.marks_black.new.self c.if-is_grouping.ensures
    (subst IsFormed (sym c.if-marks_black.ensures.done.0.same) rests.formed))

pub returns-then-begins_zone-clause-resting : goal.returns-then-begins_zone-clause-resting
returns-then-begins_zone-clause-resting g c = λ rests. absurd (c.if-begins_zone.ensures.begins.1
    (subst HasBegun (sym c.if-marks_black.ensures.done.0.same) rests.begun))

pub returns-clause-resting : goal.returns-clause-resting
returns-clause-resting g c = λ rests. c.marks_gray_up_to.ensures.ended
    (still_group_done c.args.self.now (g.F.Flight.bits c.args.flight.now) c.begins_zone.new.self
    (g.F.Flight.bits c.marks_black.new.flight)
    (still_on c.args.self.now (g.F.Flight.bits c.args.flight.now) c.marks_black.new.self
    (g.F.Flight.bits c.marks_black.new.flight) c.begins_zone.new.self c.if-marks_black.ensures.done.0
    c.if-begins_zone.ensures.begins.1) rests.group)

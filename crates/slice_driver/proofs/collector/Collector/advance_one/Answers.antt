use Rattle.std.proofs.Common.{◌≡◌, ◌∙◌, true, false, Some, None, refl, sym, ap, subst}
use Rattle.sweeping.specs.ArenasOut.{flying_after, outs_after}
use Rattle.slice_driver.specs.Advances.{Advances}
use Rattle.slice_driver.specs.declared.advance.Step.{Step}
use Rattle.slice_driver.specs.declared.collector.Phase.{Phase}
use Rattle.slice_driver.specs.Collector.{CollectorState, IsKept, WaitsToGroup, run_of}
use Rattle.slice_driver.specs.Quiet.{IsFormed, IsStarted}
use Rattle.slice_driver.specs.Working.{IsGrouping}
use Rattle.slice_driver.proofs.abstraction.Phases.{none_formed, none_started, sound_marking}
use Rattle.slice_driver.proofs.clearing.AtStart.{none_runs, start_at}
use Rattle.slice_driver.proofs.marking.AtGroupEnd.{formed_rests, ready}
use Rattle.slice_driver.proofs.marking.UnitSteps.{ending_done, grouping_advances, starting_advances}
use Rattle.slice_driver.proofs.collector.Collector.advance_one.Given.{Over}
use Rattle.slice_driver.proofs.collector.Collector.advance_one.Goals as goal
use Rattle.slice_driver.proofs.collector.Collector.advance_one.Goals.{In-Grouped, In-Grouping, In-Preparing}

starts : (g : Over) (c : In-Preparing g) → c.args.self.now.run
    ≡ Some (record { zones = c.in-Preparing.zones; formed = false; clearing = Some c.in-Preparing.uncleared })
starts g c = ap (λ (x : CollectorState). x.run) (sym c.self.view_is) ∙ ap run_of c.in-Preparing.is

groups : (g : Over) (c : In-Grouping g) → c.args.self.now.run
    ≡ Some (record { zones = c.in-Grouping.zones; formed = false; clearing = None })
groups g c = ap (λ (x : CollectorState). x.run) (sym c.self.view_is) ∙ ap run_of c.in-Grouping.is

formed : (g : Over) (c : In-Grouped g) → IsFormed c.args.self.now
formed g c = (
  record { zones = c.in-Grouped.zones; formed = true; clearing = None },
  ap (λ (x : CollectorState). x.run) (sym c.self.view_is) ∙ ap run_of c.in-Grouped.is,
  refl,
)

abbrev grouping : (g : Over) (c : In-Grouping g) → IsGrouping c.args.self.now
grouping g c = (record { zones = c.in-Grouping.zones; formed = false; clearing = None }, groups g c, refl, refl)

pub returns-in-Idle-clause-done : goal.returns-in-Idle-clause-done
returns-in-Idle-clause-done g c = absurd (none_runs c.args.self.now.run
    (ap (λ (x : CollectorState). x.run) (sym c.self.view_is) ∙ ap run_of c.in-Idle.is) c.requires.running)

pub start_marking-requires-clause-sound : goal.start_marking-requires-clause-sound
start_marking-requires-clause-sound g c = (c.requires.rests.0, c.requires.rests.1)

pub start_marking-requires-clause-start : goal.start_marking-requires-clause-start
start_marking-requires-clause-start g c =
    let at = (goal.at.start_marking-requires-clause-start g c).In-Preparing in (
      start_at c.args.self.now c.in-Preparing.zones c.in-Preparing.uncleared
          (starts g at) c.requires.rests.2.cleared,
      refl,
    )

pub group_step-requires-clause-sound : goal.group_step-requires-clause-sound
group_step-requires-clause-sound g c =
    let at = (goal.at.group_step-requires-clause-sound g c).In-Grouping in
    let flown = c.requires.rests.0 in (
      flown,
      sound_marking c.args.self.now flown
          (λ w. none_started c.args.self.now flown w ((grouping g at).0, (grouping g at).1, (grouping g at).3))
          c.requires.rests.1,
    )

pub group_step-requires-clause-grouping : goal.group_step-requires-clause-grouping
group_step-requires-clause-grouping g c = groups g (goal.at.group_step-requires-clause-grouping g c).In-Grouping

pub group_step-requires-clause-left : goal.group_step-requires-clause-left
group_step-requires-clause-left g c =
    let waits : WaitsToGroup c.self.inside.edges c.in-Grouping.zones c.in-Grouping.ungrouped =
    subst (λ (p : Phase). IsKept c.self.inside.heap.shape c.self.inside.edges c.self.inside.order p) c.in-Grouping.is
    c.self.invariant in
    subst (λ (x : CollectorState). WaitsToGroup x.edges c.in-Grouping.zones c.in-Grouping.ungrouped) c.self.view_is
    waits

pub group_step-requires-clause-looked : goal.group_step-requires-clause-looked
group_step-requires-clause-looked g c =
    c.requires.rests.2.looked (grouping g (goal.at.group_step-requires-clause-looked g c).In-Grouping)

pub end_group_into-requires-clause-sound : goal.end_group_into-requires-clause-sound
end_group_into-requires-clause-sound g c =
    let at = (goal.at.end_group_into-requires-clause-sound g c).In-Grouped in
    let flown = c.requires.rests.0 in (
      flown,
      sound_marking c.args.self.now flown (λ w. none_formed c.args.self.now flown w (formed g at)) c.requires.rests.1,
    )

pub end_group_into-requires-clause-ready : goal.end_group_into-requires-clause-ready
end_group_into-requires-clause-ready g c =
    let at = (goal.at.end_group_into-requires-clause-ready g c).In-Grouped in
    let flown = c.requires.rests.0 in
    ready c.args.self.now flown
    (sound_marking c.args.self.now flown (λ w. none_formed c.args.self.now flown w (formed g at)) c.requires.rests.1)
    (formed_rests c.args.self.now flown c.requires.rests.2 (formed g at)) c.requires.none_out c.groups_law.ensures

pub returns-in_ok-start_marking-in-Preparing-clause-done : goal.returns-in_ok-start_marking-in-Preparing-clause-done
returns-in_ok-start_marking-in-Preparing-clause-done g c =
    let now = c.args.self.now in
    let begun = c.start_marking.new.self in
    let at = (goal.at.returns-in_ok-start_marking-in-Preparing-clause-done g c).In-Preparing in
    let start = start_at now c.in-Preparing.zones c.in-Preparing.uncleared (starts g at) c.requires.rests.2.cleared in
    λ flown outs sound rests are.
    subst (λ (x : Step). Advances 1 now flown c.args.report.now x begun (flying_after x.handed flown)
    (outs_after x.handed outs) c.start_marking.new.report) (sym c.one.ensures)
    (starting_advances now begun flown sound rests c.requires.none_out outs are c.args.report.now
    c.start_marking.new.report start c.in-Preparing.zones (c.in_ok-start_marking-in-Preparing.ensures.done flown sound)
    c.in_ok-start_marking-in-Preparing.ensures.told)

pub returns-in-Grouping-clause-done : goal.returns-in-Grouping-clause-done
returns-in-Grouping-clause-done g c =
    let now = c.args.self.now in
    let after = c.group_step.new.self in
    let at = (goal.at.returns-in-Grouping-clause-done g c).In-Grouping in
    let started : IsStarted now = ((grouping g at).0, (grouping g at).1, (grouping g at).3) in
    λ flown outs sound rests are.
    subst (λ (x : Step). Advances 1 now flown c.args.report.now x after (flying_after x.handed flown)
    (outs_after x.handed outs) c.group_step.new.report) (sym c.one-in-Grouping.ensures)
    (grouping_advances now after flown sound rests c.requires.none_out outs are c.args.report.now
    c.group_step.new.report started c.group_step.result c.group_step.ensures)

pub returns-in-Grouped-clause-done : goal.returns-in-Grouped-clause-done
returns-in-Grouped-clause-done g c =
    let at = (goal.at.returns-in-Grouped-clause-done g c).In-Grouped in
    ending_done c.end_group_into.result c.args.self.now c.end_group_into.new.self c.args.report.now
    c.end_group_into.new.report c.requires.none_out (formed g at) c.end_group_into.ensures.made
    c.end_group_into.ensures.ledger c.end_group_into.ensures.entries c.end_group_into.ensures.done
    c.end_group_into.ensures.step

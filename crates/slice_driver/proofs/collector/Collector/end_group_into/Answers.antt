use Rattle.std.proofs.Common.{◌≡◌, ◌<◌, ℕ, Bool, Option, None, Some, false, List, length, if◌then◌else◌, sym, ap}
use Rattle.std.proofs.Common.{Contains, refl, rules, subst, ◌∙◌}
use Rattle.gz_names.specs.declared.names.Name.{Name}
use Rattle.gz_names.specs.declared.numbers.Place.{Place}
use Rattle.gz_names.specs.declared.replies.Report.{Report}
use Rattle.gz_names.specs.declared.replies.Report.TheVariants as report
use Rattle.gz_names.specs.declared.zone_sets.ZoneSet.{ZoneSet}
use Rattle.cell_bits.specs.declared.bits.Bits.{Bits}
use Rattle.cell_bits.specs.declared.jobs.Job.{Job}
use Rattle.colour_defs.specs.Ends.{Lists}
use Rattle.heap_core.specs.Shape.{IsPresent, name_at, out_of}
use Rattle.mark_stack.specs.Stack.{Piles}
use Rattle.heap_core.specs.Heap.{HeapState, without_delayed}
use Rattle.barriers.specs.Pending.{pending}
use Rattle.heap_core.specs.Sweeping.{handed}
use Rattle.barriers.specs.Colours.{IsGray}
use Rattle.slice_driver.specs.Advancing.{EndsSweeping}
use Rattle.slice_driver.specs.Collector.{CollectorState, IsKept}
use Rattle.slice_driver.specs.GroupEnd.{IsGrayHere}
use Rattle.slice_driver.specs.HandingOut.{HandsOut}
use Rattle.slice_driver.specs.Told.{IsTold}
use Rattle.slice_driver.specs.Units.{AreJobs, DoesUnit, EndsColoured, HandsJobs, IsSoundMarking, flying_after, jobs_at}
use Rattle.slice_driver.specs.Units.{reports_of}
use Rattle.slice_driver.specs.declared.collector.Phase.{Phase}
use Rattle.slice_driver.specs.declared.collector.Phase.TheVariants as phase
use Rattle.slice_driver.specs.Left.{units_left}
use Rattle.slice_driver.specs.UnitsToCome.{units_to_come}
use Rattle.slice_driver.specs.contracts.collector.Collector.{the_view}
use Rattle.slice_driver.proofs.measure.FewerEnded.{ending_lowers, ending_to_come}
use Rattle.slice_driver.proofs.group_end.EndReady.{IsReadyHere, die_with_owners, ends_coloured, gray_present}
use Rattle.slice_driver.proofs.group_end.EndReady.{ready_here, sized_here}
use Rattle.slice_driver.proofs.group_end.Ending.{HandsGroup}
use Rattle.slice_driver.proofs.group_end.GraysHere.{grays_here}
use Rattle.slice_driver.proofs.taking_in.GroupEnding.{ends_group}
use Rattle.slice_driver.proofs.group_end.Laws.{jobs_flown}
use Rattle.slice_driver.proofs.group_end.JobsHanded.{hands_jobs}
use Rattle.slice_driver.proofs.taking_in.Kept.{more_left}
use Rattle.slice_driver.proofs.marking.Views.{ends_seen, ended_pending, grays_seen, handed_pending, hands_seen}
use Rattle.slice_driver.proofs.marking.Views.{told_seen}
use Rattle.slice_driver.proofs.collector.Collector.end_group_into.Goals as goal
use Rattle.slice_driver.proofs.collector.Collector.end_group_into.Goals.{then-finished, else-finished}

pub gray_names_in-requires-clause-sized : goal.gray_names_in-requires-clause-sized
gray_names_in-requires-clause-sized c =
    let kept = c.requires.ready.2.kept in
    subst (λ (x : CollectorState). length x.heap.colours ≡ length x.heap.shape.arenas) (sym c.self.view_is)
    (sized_here c.args.self.now c.requires.sound.0 kept c.requires.sound.1)

pub gray_names_in-requires-clause-present : goal.gray_names_in-requires-clause-present
gray_names_in-requires-clause-present c =
    let kept = c.requires.ready.2.kept in
    subst (λ (x : CollectorState). (p : Place) → IsGray x.heap p → IsPresent x.heap.shape p) (sym c.self.view_is)
    (gray_present c.args.self.now c.requires.sound.0 kept c.requires.sound.1)

pub told_names_in-requires-clause-sized : goal.told_names_in-requires-clause-sized
told_names_in-requires-clause-sized c =
    subst (λ (x : CollectorState). length x.heap.colours ≡ length x.heap.shape.arenas) (sym c.self.view_is)
    (sized_here c.args.self.now c.requires.sound.0 c.requires.ready.2.kept c.requires.sound.1)

pub told_names_in-requires-clause-present : goal.told_names_in-requires-clause-present
told_names_in-requires-clause-present c =
    subst (λ (x : CollectorState). (p : Place) → Contains x.heap.weak_names.watched p → IsPresent x.heap.shape p)
    (sym c.self.view_is) c.requires.sound.1.represents.placed.lies.weak_are.watched_held

pub told_names_in-requires-clause-apart : goal.told_names_in-requires-clause-apart
told_names_in-requires-clause-apart c =
    subst (λ (x : CollectorState). (p q : Place) (y : Name) → name_at x.heap.shape p ≡ Some y
    → name_at x.heap.shape q ≡ Some y → p ≡ q) (sym c.self.view_is)
    c.requires.sound.1.represents.placed.lies.shown.apart

pub hand_out_group-requires-clause-sized : goal.hand_out_group-requires-clause-sized
hand_out_group-requires-clause-sized c =
    let kept = c.requires.ready.2.kept in
    subst (λ (x : CollectorState). length x.heap.colours ≡ length x.heap.shape.arenas) (sym c.self.view_is)
    (sized_here c.args.self.now c.requires.sound.0 kept c.requires.sound.1)

pub hand_out_group-requires-clause-owners : goal.hand_out_group-requires-clause-owners
hand_out_group-requires-clause-owners c =
    let v : CollectorState = the_view c.self.inside in
    let is : v ≡ c.args.self.now = c.self.view_is in
    let here : IsReadyHere v c.in-Some.group = ready_here v c.args.self.now is c.requires.ready.0 c.requires.ready.1
    c.requires.ready.2 c.in-Some.group (sym c.current.ensures ∙ c.in-Some.is) in
    let die = die_with_owners v c.requires.sound.0 here.ready.kept
    (subst (λ (x : CollectorState). IsSoundMarking x c.requires.sound.0) (sym is) c.requires.sound.1) c.in-Some.group
    here.rest here.ready in
    record { present = die.present; owned = die.owned }

pub invariant_of-self-else-finished : goal.invariant_of-self-else-finished
invariant_of-self-else-finished c = go c.self.inside.phase c.if-finished.ensures c.self.invariant
  where
    go : (p : Phase)
        → EndsSweeping c.hand_out_group.new.heap c.advance.new.self false c.end_sweeping-finished.new.heap
        → IsKept c.self.inside.heap.shape c.self.inside.edges c.self.inside.order p
        → IsKept c.end_sweeping-finished.new.heap.shape c.self.inside.edges c.advance.new.self p
    go phase.Idle ends kept = tt
    go (phase.Preparing zones uncleared) ends kept = tt
    go (phase.Grouping zones ungrouped) ends kept = kept
    go (phase.Grouped zones) ends kept = λ empty none. more_left c.hand_out_group.new.heap c.advance.new.self
        c.end_sweeping-finished.new.heap ends empty none

pub returns-clause-done : goal.returns-clause-done
returns-clause-done c =
    let v : CollectorState = the_view c.self.inside in
    let old : CollectorState = c.args.self.now in
    let is : v ≡ old = c.self.view_is in
    let group : ZoneSet = c.in-Some.group in
    let here : IsReadyHere v group = ready_here v old is c.requires.ready.0 c.requires.ready.1
    c.requires.ready.2 group (sym c.current.ensures ∙ c.in-Some.is) in
    let sound : IsSoundMarking v c.requires.sound.0 =
    subst (λ (x : CollectorState). IsSoundMarking x c.requires.sound.0) (sym is) c.requires.sound.1 in
    let jobs : Option (List Job) = c.in_ok-handed.handed in
    let h : HeapState = c.self.inside.heap in
    let m : HeapState = c.hand_out_group.new.heap in
    let k : HeapState = c.end_sweeping-finished.new.heap in
    let over : Bool = c.end_sweeping-finished.result in
    let grays : List Name = c.in_ok-grays.grays in
    let told : List Name = c.in_ok-told.told in
    let said : Option Report = Some (report.Ended group grays told) in
    let behind : c.advance.new.self ≡ here.rest = c.advance.ensures ∙ here.behind in
    let ends : EndsSweeping m here.rest over k = subst (λ (gs : List ZoneSet). EndsSweeping m gs over k) behind
    c.end_sweeping-finished.ensures in
    let handed_out : HandsOut h group jobs m = c.in_ok-handed.ensures.ok in
    let out : HandsOut (without_delayed h) group jobs (without_delayed m) = hands_seen h group jobs m handed_out in
    let on : HandsGroup v (without_delayed m) = record {
      group = group;
      rest = here.rest;
      ready = here.ready;
      jobs = jobs;
      out = out;
    } in
    let ends_here : EndsSweeping (without_delayed m) here.rest over (without_delayed k) =
    ends_seen m here.rest over k ends in
    let piles : Piles = pending k c.self.inside.stack in
    let piles_are : v.stack ≡ piles = handed_pending h group jobs m handed_out c.self.inside.stack
    ∙ ended_pending m here.rest over k ends c.self.inside.stack in
    let listed : Lists (IsGrayHere v.heap group) grays =
    grays_seen h group grays
    (grays_here h group here.ready.small grays sound.represents.placed.lies.whole
    sound.represents.placed.lies.shown.apart
    (gray_present v c.requires.sound.0 here.ready.kept sound) c.in_ok-grays.ensures.moved
    c.in_ok-grays.ensures.sorted) in
    let lost : Lists (IsTold v.heap group.bits) told = told_seen h group.bits told c.in_ok-told.ensures in
    let after : Piles → List ZoneSet → Bool → CollectorState =
    λ p gs b. record v { heap = without_delayed k; stack = p; groups = gs; run = if b then None else v.run } in
    let moved : after v.stack here.rest over ≡ after piles c.advance.new.self over =
    ap (λ (gs : List ZoneSet). after v.stack gs over) (sym behind)
    ∙ ap (λ (p : Piles). after p c.advance.new.self over) piles_are in
    let new : CollectorState = c.if-finished.self in
    let new_is : after v.stack here.rest over ≡ new = moved ∙ elim c.if-finished.branch [
      | then-finished w ↦ ap (after piles c.advance.new.self) w.if-finished.true ∙ sym w.self-is
      | else-finished w ↦ ap (after piles c.advance.new.self) w.if-finished.false ∙ sym w.self-is
    ] in
    let heap_is : new.heap ≡ without_delayed k = elim c.if-finished.branch [
      | then-finished w ↦ ap (λ (x : CollectorState). x.heap) w.self-is
      | else-finished w ↦ ap (λ (x : CollectorState). x.heap) w.self-is
    ] in
    let arenas : k.shape.arenas ≡ handed group.bits h.shape.arenas h.colours =
    ap (λ (x : HeapState). x.shape.arenas) ends.rest ∙ (ap (λ (x : HeapState). x.shape.arenas) handed_out.goes.rest
    ∙ ap (λ (x : HeapState). x.shape.arenas) handed_out.drops.rest) in
    let colours : k.colours ≡ h.colours = ap (λ (x : HeapState). x.colours) ends.rest
    ∙ (ap (λ (x : HeapState). x.colours) handed_out.goes.rest
    ∙ ap (λ (x : HeapState). x.colours) handed_out.drops.rest) in
    let kept_here : (a : ℕ) → out_of h.shape a ≡ None =
    subst (λ (x : CollectorState). (a : ℕ) → out_of x.heap.shape a ≡ None) (sym is) c.requires.ready.2.kept in
    let sized : length h.colours ≡ length h.shape.arenas =
    subst (λ (x : CollectorState). length x.heap.colours ≡ length x.heap.shape.arenas) (sym is)
    (sized_here old c.requires.sound.0 c.requires.ready.2.kept c.requires.sound.1) in
    record {
      done = λ flown.
          subst (λ (x : CollectorState). DoesUnit x flown (reports_of said over) new (flying_after jobs flown)) is
          (subst (λ (x : CollectorState). DoesUnit v flown (reports_of said over) x (flying_after jobs flown)) new_is
          (ends_group v (without_delayed m) on (record {
            grays = grays;
            told = told;
            grays_are = listed;
            told_are = lost;
          }) (without_delayed k) flown over ends_here));
      handed_are = subst (λ (x : CollectorState). AreJobs jobs (jobs_at said x.heap)) is handed_out.jobs_are;
      jobs = subst (λ (x : HeapState). HandsJobs jobs old.heap.shape x.shape) (sym heap_is)
          (subst (λ (x : CollectorState). HandsJobs jobs x.heap.shape k.shape) is
          (hands_jobs h.shape k.shape group.bits h.shape.arenas h.colours jobs arenas handed_out.jobs_are
          (jobs_flown h k group.bits sized kept_here arenas)));
      coloured = λ flown. subst (λ (bs : List Bits). EndsColoured said old flown bs)
          (sym (ap (λ (x : HeapState). x.colours) heap_is ∙ colours))
          (subst (λ (x : CollectorState). EndsColoured said x flown h.colours) is
          (ends_coloured v flown group here.rest here.ready));
      ended = refl;
      left = λ flown sound_then.
          subst (λ (x : CollectorState). units_left new (flying_after jobs flown) < units_left x flown) is
          (subst (λ (x : CollectorState). units_left x (flying_after jobs flown) < units_left v flown) new_is
          (ending_lowers v (without_delayed m) on flown
          (subst (λ (x : CollectorState). IsSoundMarking x flown) (sym is) sound_then) (without_delayed k) over
          ends_here));
      to_come = λ flown sound_then.
          subst (λ (x : CollectorState). units_to_come new (flying_after jobs flown) < units_to_come x flown) is
          (subst (λ (x : CollectorState). units_to_come x (flying_after jobs flown) < units_to_come v flown) new_is
          (ending_to_come v (without_delayed m) on flown
          (subst (λ (x : CollectorState). IsSoundMarking x flown) (sym is) sound_then) (without_delayed k) over
          ends_here));
      finished = search rules;
    }

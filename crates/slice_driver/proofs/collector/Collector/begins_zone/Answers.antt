use Rattle.std.proofs.Common.{◌≡◌, Some, [], slice_get, refl, sym, subst, ◌∙◌}
use Rattle.gz_names.specs.Zones.{HasZone}
use Rattle.gz_names.specs.declared.zone_sets.ZoneSet.{ZoneSet}
use Rattle.mark_stack.specs.Stack.{Piles}
use Rattle.weak_maps.specs.WeakMaps.{AreParallel}
use Rattle.heap_core.specs.Heap.{HeapState, joined, weak_of, without_delayed}
use Rattle.barriers.specs.Pending.{pending}
use Rattle.barriers.specs.Colours.{grays_outside}
use Rattle.slice_driver.specs.Collector.{CollectorState, heap_with}
use Rattle.slice_driver.specs.Quiet.{IsFormed}
use Rattle.slice_driver.specs.Units.{IsSoundMarking}
use Rattle.slice_driver.specs.Working.{GoesOn, HasBegun}
use Rattle.slice_driver.specs.contracts.collector.Collector.{the_view}
use Rattle.slice_driver.proofs.abstraction.Named.{some_one}
use Rattle.slice_driver.proofs.marking.ZoneSteps.{all_begun, current_is, not_begun, zone_goes}
use Rattle.slice_driver.proofs.marking.ZoneSteps.{zone_grays}
use Rattle.slice_driver.proofs.marking.MarkingSteps.{own_sized}
use Rattle.slice_driver.proofs.marking.Views.{queued_seen, zone_pending, zone_seen}
use Rattle.slice_driver.proofs.collector.Collector.begins_zone.Goals as goal

pub returns-in_default-first-clause-begins : goal.returns-in_default-first-clause-begins
returns-in_default-first-clause-begins c =
    let v : CollectorState = the_view c.self.inside in
    let is : v ≡ c.args.self.now = c.self.view_is in
    let flown = c.requires.sound.0 in
    let sound : IsSoundMarking v flown = subst (λ (x : CollectorState). IsSoundMarking x flown)
    (sym is) c.requires.sound.1 in
    let formed : IsFormed v = subst (λ (x : CollectorState). IsFormed x) (sym is) c.requires.formed in
    let at : slice_get v.groups 0 ≡ Some c.in-Some.group = sym c.current.ensures ∙ c.in-Some.is in
    let begun : HasBegun v =
    λ g e. all_begun v flown sound formed g e
    (λ z h found. c.in_default-first.ensures.none z
    ((c.intersection.ensures z).1 (
      subst (λ (y : ZoneSet). HasZone y.bits z) (some_one _ _ (sym e ∙ at)) h,
      (c.in_state-waiting.ensures z).1 found,
    ))) in
    (subst (λ (x : CollectorState). HasBegun x) is begun, refl)

pub queue_black_maps-requires-clause-sized : goal.queue_black_maps-requires-clause-sized
queue_black_maps-requires-clause-sized c =
    let v : CollectorState = the_view c.self.inside in
    own_sized v.heap c.requires.sound.0 v.stack
    (subst (λ (x : CollectorState). IsSoundMarking x c.requires.sound.0) (sym c.self.view_is)
    c.requires.sound.1).represents.coloured.marks

pub queue_black_maps-requires-clause-shape : goal.queue_black_maps-requires-clause-shape
queue_black_maps-requires-clause-shape c =
    (subst (λ (x : CollectorState). IsSoundMarking x c.requires.sound.0) (sym c.self.view_is)
    c.requires.sound.1).represents.coloured.marks.holds.colours.shape

pub queue_black_maps-requires-clause-homes : goal.queue_black_maps-requires-clause-homes
queue_black_maps-requires-clause-homes c =
    (subst (λ (x : CollectorState). IsSoundMarking x c.requires.sound.0) (sym c.self.view_is)
    c.requires.sound.1).represents.placed.homes

pub returns-clause-begins : goal.returns-clause-begins
returns-clause-begins c =
    let v : CollectorState = the_view c.self.inside in
    let is : v ≡ c.args.self.now = c.self.view_is in
    let formed : IsFormed v = subst (λ (x : CollectorState). IsFormed x) (sym is) c.requires.formed in
    let at : slice_get v.groups 0 ≡ Some c.in-Some.group = sym c.current.ensures ∙ c.in-Some.is in
    let zone = c.in-Some-first.zone in
    let both = (c.intersection.ensures zone).0 c.in-Some-first.ensures.some in
    let found = (c.in_state-waiting.ensures zone).0 both.1 in
    let h : HeapState = c.self.inside.heap in
    let q : HeapState = c.queue_black_maps.new.heap in
    let n : HeapState = c.advance.new.self in
    let rest = c.queue_black_maps.ensures.rest in
    let queued = c.queue_black_maps.ensures.queued in
    let parallel = subst (λ (x : CollectorState). AreParallel (weak_of x.heap))
    (sym is) c.entries_law.ensures.parallel in
    let d : CollectorState = record v { heap = without_delayed n; stack = pending n c.self.inside.stack } in
    let waits : HasBegun v → ⊥ = λ begun. not_begun v c.in-Some.group zone at both.0 found begun in (
      λ f s. subst (λ (x : CollectorState). IsSoundMarking x f → GoesOn x f [] d f) is
          (subst (λ (p : Piles). IsSoundMarking v f → GoesOn v f [] (record v { heap = without_delayed n; stack = p })
          f)
          (zone_pending h zone q rest queued n found c.advance.ensures c.self.inside.stack)
          (zone_goes v zone formed (current_is v.groups c.in-Some.group zone at both.0) found q.looks
          (queued_seen h zone q rest queued) parallel (without_delayed n)
          (zone_seen h zone q rest queued n found c.advance.ensures) f)) s,
      subst (λ (x : CollectorState). HasBegun x → ⊥) is waits,
    )

pub returns-clause-grays : goal.returns-clause-grays
returns-clause-grays c =
    let v : CollectorState = the_view c.self.inside in
    let formed : IsFormed v = subst (λ (x : CollectorState). IsFormed x) (sym c.self.view_is) c.requires.formed in
    let at : slice_get v.groups 0 ≡ Some c.in-Some.group = sym c.current.ensures ∙ c.in-Some.is in
    let zone = c.in-Some-first.zone in
    let both = (c.intersection.ensures zone).0 c.in-Some-first.ensures.some in
    let found = (c.in_state-waiting.ensures zone).0 both.1 in
    let h : HeapState = c.self.inside.heap in
    let q : HeapState = c.queue_black_maps.new.heap in
    let rest = c.queue_black_maps.ensures.rest in
    let queued = c.queue_black_maps.ensures.queued in
    let parallel = subst (λ (x : CollectorState). AreParallel (weak_of x.heap)) (sym c.self.view_is)
    c.entries_law.ensures.parallel in
    λ flown. subst (λ (x : CollectorState). grays_outside (joined c.advance.new.self flown)
    ≡ grays_outside (heap_with x flown)) c.self.view_is
    (zone_grays v zone formed (current_is v.groups c.in-Some.group zone at both.0) found q.looks
    (queued_seen h zone q rest queued) parallel (without_delayed c.advance.new.self)
    (zone_seen h zone q rest queued c.advance.new.self found c.advance.ensures) flown)

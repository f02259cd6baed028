use Rattle.std.proofs.Common.{◌≡◌, ◌<◌, ℕ, Some, None, IsSome, refl, rules, sym, subst}
use Rattle.heap_core.specs.Heap.{without_delayed}
use Rattle.heap_core.specs.Shape.{out_of}
use Rattle.barriers.specs.Pending.{pending}
use Rattle.slice_driver.specs.Collector.{CollectorState}
use Rattle.slice_driver.specs.Resets.{GivesUp}
use Rattle.slice_driver.specs.Units.{IsSound}
use Rattle.slice_driver.specs.Working.{HasGroups}
use Rattle.slice_driver.specs.contracts.collector.Collector.{the_view}
use Rattle.slice_driver.proofs.resetting.GivingUp.{AreStopping, gives_up}
use Rattle.slice_driver.proofs.resetting.StopSteps.{are_stopping, given_up, may_drain, may_follow, sized_then}
use Rattle.slice_driver.proofs.collector.Collector.give_up.Goals as goal

pub blacken_all-requires-clause-sized : goal.blacken_all-requires-clause-sized
blacken_all-requires-clause-sized g c =
    let v : CollectorState = the_view c.self.inside in
    let flown = g.F.Flight.bits c.args.flight.now in
    let s : IsSound v flown = subst (λ (x : CollectorState). IsSound x flown) (sym c.self.view_is) c.requires.sound in
    let running : IsSome v.run = subst (λ (x : CollectorState). IsSome x.run) (sym c.self.view_is) c.requires.running in
    let kept : (a : ℕ) → out_of v.heap.shape a ≡ None =
    subst (λ (x : CollectorState). (a : ℕ) → out_of x.heap.shape a ≡ None) (sym c.self.view_is)
    c.requires.none_out in
    let fits : c.union-stopped.result.bits < 18446744073709551616 = search rules in
    let are : AreStopping v.heap.shape c.union-stopped.result = are_stopping v.heap.shape c.marking.result
    c.preparing.result c.union-stopped.result c.marking.ensures c.preparing.ensures c.union-stopped.ensures in
    sized_then v flown s running kept c.union-stopped.result fits are c.forget_waiting.new.self c.stop.new.self
    c.forget_waiting.ensures.rest c.forget_waiting.ensures.none c.zones.result c.zones.ensures c.stop.ensures.rest
    c.stop.ensures.stopped c.stop.ensures.others c.stop.ensures.count

pub follow_all-requires : goal.follow_all-requires
follow_all-requires g c =
    let v : CollectorState = the_view c.self.inside in
    let flown = g.F.Flight.bits c.args.flight.now in
    let s : IsSound v flown = subst (λ (x : CollectorState). IsSound x flown) (sym c.self.view_is) c.requires.sound in
    let running : IsSome v.run = subst (λ (x : CollectorState). IsSome x.run) (sym c.self.view_is) c.requires.running in
    let kept : (a : ℕ) → out_of v.heap.shape a ≡ None =
    subst (λ (x : CollectorState). (a : ℕ) → out_of x.heap.shape a ≡ None) (sym c.self.view_is)
    c.requires.none_out in
    let fits : c.union-stopped.result.bits < 18446744073709551616 = search rules in
    let are : AreStopping v.heap.shape c.union-stopped.result = are_stopping v.heap.shape c.marking.result
    c.preparing.result c.union-stopped.result c.marking.ensures c.preparing.ensures c.union-stopped.ensures in
    let counted = subst (λ (x : CollectorState). x.heap.ledger ≡ Some g.L.Ledger.name) (sym c.self.view_is)
    c.requires.counted in
    may_follow v flown s running kept c.union-stopped.result fits are c.forget_waiting.new.self c.stop.new.self
    c.forget_waiting.ensures.rest c.forget_waiting.ensures.none c.zones.result c.zones.ensures c.stop.ensures.rest
    c.stop.ensures.stopped c.stop.ensures.others c.stop.ensures.count c.blacken_all.new.heap c.blacken_all.ensures
    g.L.Ledger.name counted c.clear.new.self c.clear.ensures

pub drain-requires : goal.drain-requires
drain-requires g c =
    let v : CollectorState = the_view c.self.inside in
    let flown = g.F.Flight.bits c.args.flight.now in
    let s : IsSound v flown = subst (λ (x : CollectorState). IsSound x flown) (sym c.self.view_is) c.requires.sound in
    let running : IsSome v.run = subst (λ (x : CollectorState). IsSome x.run) (sym c.self.view_is) c.requires.running in
    let kept : (a : ℕ) → out_of v.heap.shape a ≡ None =
    subst (λ (x : CollectorState). (a : ℕ) → out_of x.heap.shape a ≡ None) (sym c.self.view_is)
    c.requires.none_out in
    let fits : c.union-stopped.result.bits < 18446744073709551616 = search rules in
    let are : AreStopping v.heap.shape c.union-stopped.result = are_stopping v.heap.shape c.marking.result
    c.preparing.result c.union-stopped.result c.marking.ensures c.preparing.ensures c.union-stopped.ensures in
    let counted = subst (λ (x : CollectorState). x.heap.ledger ≡ Some g.L.Ledger.name) (sym c.self.view_is)
    c.requires.counted in
    may_drain v flown s running kept c.union-stopped.result fits are c.forget_waiting.new.self c.stop.new.self
    c.forget_waiting.ensures.rest c.forget_waiting.ensures.none c.zones.result c.zones.ensures c.stop.ensures.rest
    c.stop.ensures.stopped c.stop.ensures.others c.stop.ensures.count c.blacken_all.new.heap c.blacken_all.ensures
    g.L.Ledger.name counted c.clear.new.self c.clear.ensures g.F.Flight.bits g.F.Flight.origin c.args.flight.now refl
    c.follow_all.new.heap c.follow_all.new.flight c.follow_all.new.stack c.follow_all.ensures

pub returns-clause-done : goal.returns-clause-done
returns-clause-done g c =
    let v : CollectorState = the_view c.self.inside in
    let flown = g.F.Flight.bits c.args.flight.now in
    let s : IsSound v flown = subst (λ (x : CollectorState). IsSound x flown) (sym c.self.view_is) c.requires.sound in
    let running : IsSome v.run = subst (λ (x : CollectorState). IsSome x.run) (sym c.self.view_is) c.requires.running in
    let kept : (a : ℕ) → out_of v.heap.shape a ≡ None =
    subst (λ (x : CollectorState). (a : ℕ) → out_of x.heap.shape a ≡ None) (sym c.self.view_is)
    c.requires.none_out in
    let groups : HasGroups v = subst (λ (x : CollectorState). HasGroups x) (sym c.self.view_is) c.groups_law.ensures in
    let stopped = c.union-stopped.result in
    let fits : c.union-stopped.result.bits < 18446744073709551616 = search rules in
    let are : AreStopping v.heap.shape stopped = are_stopping v.heap.shape c.marking.result
    c.preparing.result stopped c.marking.ensures c.preparing.ensures c.union-stopped.ensures in
    let counted = subst (λ (x : CollectorState). x.heap.ledger ≡ Some g.L.Ledger.name) (sym c.self.view_is)
    c.requires.counted in
    let flying = g.F.Flight.bits c.drain.new.flight in
    let d : CollectorState = record {
      heap = without_delayed c.drain.new.heap;
      stack = pending c.drain.new.heap c.drain.new.stack;
      lists = c.clear-2.new.self;
      edges = v.edges;
      groups = c.clear-3.new.self;
      run = None;
    } in
    subst (λ (x : CollectorState). GivesUp x flown stopped d flying) c.self.view_is
    (gives_up v flown stopped c.blacken_all.new.heap d flying s running groups kept fits are
    (given_up v flown s running kept stopped fits are c.forget_waiting.new.self c.stop.new.self
    c.forget_waiting.ensures.rest c.forget_waiting.ensures.none c.zones.result c.zones.ensures c.stop.ensures.rest
    c.stop.ensures.stopped c.stop.ensures.others c.stop.ensures.count c.blacken_all.new.heap c.blacken_all.ensures
    g.L.Ledger.name counted c.clear.new.self c.clear.ensures g.F.Flight.bits g.F.Flight.origin c.args.flight.now refl
    c.follow_all.new.heap c.follow_all.new.flight c.follow_all.new.stack c.follow_all.ensures c.follow_all.new.steps
    c.drain.new.heap c.drain.new.flight c.drain.new.stack c.drain.new.steps c.drain.ensures d refl refl
    c.clear-2.ensures refl))

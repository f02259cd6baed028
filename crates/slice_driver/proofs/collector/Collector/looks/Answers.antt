use Rattle.std.proofs.Common.{◌∙◌, sym, ap, subst}
use Rattle.slice_driver.specs.Collector.{CollectorState}
use Rattle.slice_driver.specs.Units.{IsSoundMarking}
use Rattle.slice_driver.specs.Working.{IsGrouping, LooksOrAll}
use Rattle.slice_driver.specs.contracts.collector.Collector.{the_view}
use Rattle.slice_driver.proofs.marking.GroupingSteps.{delegated, early, kept_same, look_tried, none_out, sized}
use Rattle.slice_driver.proofs.marking.GroupingSteps.{wrappers}
use Rattle.slice_driver.proofs.marking.Views.{looks_seen}
use Rattle.slice_driver.proofs.collector.Collector.looks.Goals as goal

pub edge_unit-requires-clause-kept : goal.edge_unit-requires-clause-kept
edge_unit-requires-clause-kept g c =
    let v : CollectorState = the_view c.self.inside in
    none_out v c.requires.sound.0
    (subst (λ (x : CollectorState). IsSoundMarking x c.requires.sound.0) (sym c.self.view_is) c.requires.sound.1)
    (subst (λ (x : CollectorState). IsGrouping x) (sym c.self.view_is) c.requires.grouping)

pub edge_unit-requires-clause-sized : goal.edge_unit-requires-clause-sized
edge_unit-requires-clause-sized g c =
    let v : CollectorState = the_view c.self.inside in
    sized v c.requires.sound.0
    (subst (λ (x : CollectorState). IsSoundMarking x c.requires.sound.0) (sym c.self.view_is) c.requires.sound.1)
    (subst (λ (x : CollectorState). IsGrouping x) (sym c.self.view_is) c.requires.grouping)

pub edge_unit-requires-clause-wrappers : goal.edge_unit-requires-clause-wrappers
edge_unit-requires-clause-wrappers g c =
    let v : CollectorState = the_view c.self.inside in
    wrappers v c.requires.sound.0
    (subst (λ (x : CollectorState). IsSoundMarking x c.requires.sound.0) (sym c.self.view_is) c.requires.sound.1)
    (subst (λ (x : CollectorState). IsGrouping x) (sym c.self.view_is) c.requires.grouping)

pub edge_unit-requires-clause-early : goal.edge_unit-requires-clause-early
edge_unit-requires-clause-early g c =
    let v : CollectorState = the_view c.self.inside in
    early v c.requires.sound.0
    (subst (λ (x : CollectorState). IsSoundMarking x c.requires.sound.0) (sym c.self.view_is) c.requires.sound.1)
    (subst (λ (x : CollectorState). IsGrouping x) (sym c.self.view_is) c.requires.grouping)

pub edge_unit-requires-clause-delegated : goal.edge_unit-requires-clause-delegated
edge_unit-requires-clause-delegated g c =
    let v : CollectorState = the_view c.self.inside in
    delegated v c.requires.sound.0
    (subst (λ (x : CollectorState). IsSoundMarking x c.requires.sound.0) (sym c.self.view_is) c.requires.sound.1)
    (subst (λ (x : CollectorState). IsGrouping x) (sym c.self.view_is) c.requires.grouping)

pub edge_unit-requires-clause-counted : goal.edge_unit-requires-clause-counted
edge_unit-requires-clause-counted g c = ap (λ (x : CollectorState). x.heap.ledger) c.self.view_is ∙ c.requires.counted

pub invariant_of-self : goal.invariant_of-self
invariant_of-self g c = kept_same c.self.inside.heap.shape c.self.inside.edges c.edge_unit.new.self c.self.inside.order
    c.self.inside.phase c.edge_unit.ensures.stepped c.self.invariant

pub returns-clause-looks : goal.returns-clause-looks
returns-clause-looks g c =
    let v : CollectorState = the_view c.self.inside in
    let edges = c.edge_unit.new.self in
    let grouping : IsGrouping v = subst (λ (x : CollectorState). IsGrouping x) (sym c.self.view_is) c.requires.grouping
    in
    subst (λ (x : CollectorState). LooksOrAll c.edge_unit.result x (record v { edges = edges })) c.self.view_is
    (look_tried v edges c.edge_unit.result grouping
    (looks_seen c.self.inside.heap c.self.inside.edges c.edge_unit.result edges c.edge_unit.ensures.looked)
    c.edge_unit.ensures.zones c.edge_unit.ensures.stepped)

pub returns-clause-edges : goal.returns-clause-edges
returns-clause-edges g c = ap (λ (x : CollectorState). record x { edges = c.edge_unit.new.self }) c.self.view_is

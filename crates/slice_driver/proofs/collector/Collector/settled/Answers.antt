use Rattle.std.proofs.Common.{◌≡◌, ◌↔◌, ◌<◌, ℕ, IsTrue, false, subst, rules}
use Rattle.heap_core.specs.Shape.{is_marking_state, is_prepared, state_in}
use Rattle.slice_driver.specs.Collector.{CollectorState}
use Rattle.slice_driver.proofs.abstraction.WorldRuns.{none_marking, none_preparing, states_settled, world_settled}
use Rattle.slice_driver.specs.contracts.collector.Collector.{the_view}
use Rattle.slice_driver.proofs.collector.Collector.settled.Goals as goal

-- no zone is marking, and none is being prepared
abbrev Rests : CollectorState → Type 0
Rests x = (z : ℕ) → (is_marking_state (state_in x.heap.shape z) ≡ false) × (is_prepared x.heap.shape z ≡ false)

pub returns-then-is_empty-clause-states : goal.returns-then-is_empty-clause-states
returns-then-is_empty-clause-states c =
    let v : CollectorState = the_view c.self.inside in
    let few : c.marking.result.bits < 18446744073709551616 = search rules in
    let fits : c.preparing.result.bits < 18446744073709551616 = search rules in
    let marks = none_marking v.heap.shape c.marking.result.bits few c.marking.ensures in
    let prepares = none_preparing v.heap.shape c.preparing.result.bits fits c.preparing.ensures in
    let here : IsTrue c.is_empty-then-is_empty.result ↔ Rests v = (
      λ t z. (
        marks.0 (c.is_empty.ensures.0 c.if-is_empty.true) z,
        prepares.0 (c.is_empty-then-is_empty.ensures.0 t) z,
      ),
      λ all. c.is_empty-then-is_empty.ensures.1 (prepares.1 (λ z. (all z).1)),
    ) in
    subst (λ (x : CollectorState). IsTrue c.is_empty-then-is_empty.result ↔ Rests x) c.self.view_is here

pub returns-else-is_empty-clause-states : goal.returns-else-is_empty-clause-states
returns-else-is_empty-clause-states c =
    let v : CollectorState = the_view c.self.inside in
    let few : c.marking.result.bits < 18446744073709551616 = search rules in
    let marks = none_marking v.heap.shape c.marking.result.bits few c.marking.ensures in
    let not = c.if-is_empty.false in
    let here : IsTrue c.is_empty.result ↔ Rests v = (
      λ t. absurd (cc (t, not)),
      λ all. c.is_empty.ensures.1 (marks.1 (λ z. (all z).0)),
    ) in
    subst (λ (x : CollectorState). IsTrue c.is_empty.result ↔ Rests x) c.self.view_is here

pub returns-then-is_empty-clause-worlds : goal.returns-then-is_empty-clause-worlds
returns-then-is_empty-clause-worlds c = λ flown w rep.
    let states = returns-then-is_empty-clause-states c in (
      λ t. world_settled c.args.self.now flown w rep (λ z. ((states.0 t) z).0) (λ z. ((states.0 t) z).1),
      λ settled. states.1 (states_settled c.args.self.now flown w rep settled),
    )

pub returns-else-is_empty-clause-worlds : goal.returns-else-is_empty-clause-worlds
returns-else-is_empty-clause-worlds c = λ flown w rep.
    let states = returns-else-is_empty-clause-states c in (
      λ t. world_settled c.args.self.now flown w rep (λ z. ((states.0 t) z).0) (λ z. ((states.0 t) z).1),
      λ settled. states.1 (states_settled c.args.self.now flown w rep settled),
    )

use Rattle.std.proofs.Common.{◌∙◌, Option, refl, sym, ap, subst}
use Rattle.gz_names.specs.declared.numbers.Place.{Place}
use Rattle.heap_core.specs.Shape.{IsPresent}
use Rattle.barriers.specs.Spreading.{Covers}
use Rattle.slice_driver.specs.Collector.{CollectorState}
use Rattle.slice_driver.specs.Steps.{GoesThrough}
use Rattle.slice_driver.specs.contracts.collector.Collector.{the_view}
use Rattle.slice_driver.proofs.commanding.Commanding.{MayGoThrough, goes_through}
use Rattle.slice_driver.proofs.collector.Collector.expose.Goals as goal

-- src/commands.rt:80:5
pub returns-in-Some-clause-through : goal.returns-in-Some-clause-through
returns-in-Some-clause-through g c =
    let v : CollectorState = the_view c.self.inside in
    let d : CollectorState = the_view (record c.self.inside { heap = c.expose.new.heap; stack = c.expose.new.stack }) in
    let flown = g.F.Flight.bits c.args.flight.now in
    let flying = g.F.Flight.bits c.expose.new.flight in
    let counted = ap (λ (e : CollectorState). e.heap.ledger) c.self.view_is ∙ c.requires.counted in
    let covers : Covers v.heap.shape flown =
    subst (λ (e : CollectorState). Covers e.heap.shape flown) (sym c.self.view_is) c.requires.covers in
    let present : IsPresent v.heap.shape c.in-Some.place =
    subst (λ (e : CollectorState). IsPresent e.heap.shape c.in-Some.place) (sym c.self.view_is)
    (c.requires.present c.in-Some.place c.in-Some.is) in
    let phase : MayGoThrough v flown =
    subst (λ (e : CollectorState). MayGoThrough e flown) (sym c.self.view_is) c.requires.phase in
    subst (λ (e : CollectorState). GoesThrough c.args.place e flown d flying) c.self.view_is
    (subst (λ (o : Option Place). GoesThrough o v flown d flying) (sym c.in-Some.is)
    (goes_through c.in-Some.place v flown d flying refl refl covers
    (λ m. (
    let done = c.expose.ensures.marking (record {
      counted = counted;
      none_prepared = m.none_prepared;
      covers = covers;
      present = present;
      invariant = m.invariant;
    }) in
    (done.exposes, done.covers)))
    (λ p. (
    let done = c.expose.ensures.prepared (record {
      counted = counted;
      prepared = p.prepared;
      present = present;
      invariant = p.invariant;
    }) in
    (done.0.exposes, ap g.F.Flight.bits done.1)))
    phase))

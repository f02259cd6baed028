use Rattle.std.proofs.Common.{◌∙◌, List, Contains, ap, arith, sym, subst}
use Rattle.std.proofs.lemmas.List.{take_all}
use Rattle.std.proofs.lemmas.List.Elements.{All-contains}
use Rattle.gz_names.specs.declared.numbers.Place.{Place}
use Rattle.heap_core.specs.Heap.{HeapState, joined}
use Rattle.heap_core.specs.Shape.{IsPresent, Shape}
use Rattle.barriers.specs.Pending.{pending}
use Rattle.mark_ahead.proofs.TurnedSome.{TurnedSome, one_turned, take_more}
use Rattle.mark_ahead.proofs.ahead.turn_all.Goals as goal

pub turn-requires-clause-marks : goal.turn-requires-clause-marks
turn-requires-clause-marks g c =
    let t = c.loop-place.invariant.turned c.requires.holds.0 c.requires.holds.1 in
    record { covers = c.loop-place.invariant.covers; colours = t.holds.colours; piles = t.holds.piles }

pub turn-requires-clause-present : goal.turn-requires-clause-present
turn-requires-clause-present g c =
    let t = c.loop-place.invariant.turned c.requires.holds.0 c.requires.holds.1 in
    subst (λ (s : Shape). IsPresent s c.place-item.result)
    (sym (ap (λ (z : HeapState). z.shape) t.grows.spreads.blackens.rest))
    (All-contains (IsPresent c.args.heap.now.shape) c.args.places.now c.place-item.result c.requires.present
    (c.loop-place.place-index, c.loop-place-test.true, sym c.place-item.is))

pub loop-place-preserved : goal.loop-place-preserved
loop-place-preserved g c = record {
  turned = λ followed holds. subst (λ (xs : List Place). TurnedSome followed xs
      (joined c.args.heap.now (g.F.Flight.bits c.args.flight.now)) (pending c.args.heap.now c.args.stack.now)
      (joined c.turn.new.heap (g.F.Flight.bits c.turn.new.flight)) (pending c.turn.new.heap c.turn.new.stack))
      (sym (take_more c.args.places.now c.loop-place.place-index c.place-item.result c.loop-place-test.true
      c.place-item.is))
      (one_turned followed _ _ _ _ _ c.place-item.result _ _ (c.loop-place.invariant.turned followed holds)
      c.turn.ensures.turns);
  covers = c.turn.ensures.covers;
  origin = c.turn.ensures.origin ∙ c.loop-place.invariant.origin;
}

pub returns-clause-follows : goal.returns-clause-follows
returns-clause-follows g c = λ followed holds.
    let all = take_all c.loop-place.place-index c.args.places.now (omega (arith, c.loop-place-test.false)) in
    let t = subst (λ (xs : List Place). TurnedSome followed xs
    (joined c.args.heap.now (g.F.Flight.bits c.args.flight.now)) (pending c.args.heap.now c.args.stack.now)
    (joined c.loop-place.heap (g.F.Flight.bits c.loop-place.flight)) (pending c.loop-place.heap c.loop-place.stack))
    all (c.loop-place.invariant.turned followed holds) in
    record {
      holds = t.holds;
      grows = t.grows;
      covers = c.loop-place.invariant.covers;
      origin = c.loop-place.invariant.origin;
    }

pub returns-clause-black : goal.returns-clause-black
returns-clause-black g c =
    let all = take_all c.loop-place.place-index c.args.places.now (omega (arith, c.loop-place-test.false)) in
    let t = c.loop-place.invariant.turned c.requires.holds.0 c.requires.holds.1 in
    λ x has. t.black x (subst (λ (xs : List Place). Contains xs x) (sym all) has)

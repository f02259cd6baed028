use Rattle.std.proofs.Common.{◌≡◌, ◌∙◌, [], List, ap, arith, length, refl}
use Rattle.gz_names.specs.declared.numbers.Place.{Place}
use Rattle.mark_stack.specs.Stack.{Piles}
use Rattle.heap_core.specs.Heap.{HeapState, without_delayed}
use Rattle.barriers.specs.Colours.{left}
use Rattle.barriers.specs.Pending.{pending}
use Rattle.barriers.proofs.LeftOut.{EffectLeftOut, drained_left_out, effect_left_out, left_out_walk}
use Rattle.barriers.proofs.LeftOut.{taken_left_out}
use Rattle.barriers.proofs.Spreading.{spreads_none}
use Rattle.barriers.proofs.Walks.{Drains, drain_smaller, drain_step, drains_same}
use Rattle.barriers.proofs.left_out.expose_left_out.Given.{Over}
use Rattle.barriers.proofs.left_out.expose_left_out.Goals as goal
use Rattle.barriers.proofs.left_out.expose_left_out.Goals.{After-next_pending, After-turn}

-- the cell turned black, if its colour counts
effect : (g : Over) (c : After-turn g) → EffectLeftOut (without_delayed c.args.heap.now)
    (pending c.args.heap.now c.args.stack.now) c.args.place (without_delayed c.turn.new.heap)
    (pending c.turn.new.heap c.turn.new.stack)
effect g c = effect_left_out _ _ _ _ _ c.requires.invariant.holds.colours c.turn.ensures

-- a woken cell was taken
taken : (g : Over) (c : After-next_pending g) → Drains (left_out_walk []) (without_delayed c.turn.new.heap)
    (pending c.turn.new.heap c.turn.new.stack) c.args.steps.now (without_delayed c.next_pending.new.heap)
    (pending c.loop-woken.heap c.loop-woken.stack) c.loop-woken.steps
taken g c = drains_same (left_out_walk []) _ _ _ _ _ _ _ _ c.loop-woken.invariant
    (ap (λ (z : HeapState). without_delayed z) c.next_pending.ensures.rest) refl

pub turn-requires-clause-colours : goal.turn-requires-clause-colours
turn-requires-clause-colours g c = c.requires.invariant.holds.colours

pub loop-woken-init : goal.loop-woken-init
loop-woken-init g c =
    let ef = effect g (goal.at.loop-woken-init g c).After-turn in
    let w = left_out_walk [] in
    record {
      holds = ef.holds [] c.requires.invariant.holds;
      spreads = spreads_none (w.MayTurn (without_delayed c.turn.new.heap)) (without_delayed c.turn.new.heap)
          (pending c.turn.new.heap c.turn.new.stack);
      steps = omega arith;
    }

pub follow-requires-clause-counted : goal.follow-requires-clause-counted
follow-requires-clause-counted g c =
    let t = taken g (goal.at.follow-requires-clause-counted g c).After-next_pending in
    let ef = effect g (goal.at.follow-requires-clause-counted g c).After-turn in
    ap (λ (z : HeapState). z.ledger) t.spreads.blackens.rest
    ∙ (ap (λ (z : HeapState). z.ledger) ef.grows.spreads.blackens.rest ∙ c.requires.counted)

pub follow-requires-clause-black : goal.follow-requires-clause-black
follow-requires-clause-black g c =
    let t = taken g (goal.at.follow-requires-clause-black g c).After-next_pending in
    (taken_left_out _ _ _ _ t.holds c.in-Some.ensures.some).black

pub follow-requires-clause-counts : goal.follow-requires-clause-counts
follow-requires-clause-counts g c =
    let t = taken g (goal.at.follow-requires-clause-counts g c).After-next_pending in
    (taken_left_out _ _ _ _ t.holds c.in-Some.ensures.some).counts

pub follow-requires-clause-holds : goal.follow-requires-clause-holds
follow-requires-clause-holds g c =
    let t = taken g (goal.at.follow-requires-clause-holds g c).After-next_pending in
    (taken_left_out _ _ _ _ t.holds c.in-Some.ensures.some).holds

pub loop-woken-preserved : goal.loop-woken-preserved
loop-woken-preserved g c =
    let t = taken g (goal.at.loop-woken-preserved g c).After-next_pending in
    drain_step (left_out_walk []) _ _ _ _ _ _ _ _ _ _ _ t c.in-Some.ensures.some c.follow.ensures.step.grows
    c.follow.ensures.step.holds c.follow.ensures.few

pub loop-woken-smaller : goal.loop-woken-smaller
loop-woken-smaller g c =
    let same : left c.next_pending.new.heap ≡ left c.loop-woken.heap = ap left c.next_pending.ensures.rest in
    let less = drain_smaller _ _ _ _ _ _ _ c.in-Some.ensures.some c.follow.ensures.step.grows in
    omega (arith, less, same)

pub returns : goal.returns
returns g c =
    let none = c.in_default.ensures.none in
    let ef = effect g (goal.at.returns g c).After-turn in
    let same = ap (λ (z : HeapState). without_delayed z) c.next_pending.ensures.rest in
    let waits = ap (λ (z : HeapState). pending z c.next_pending.new.stack) none.1
    ∙ ap (λ (s : Piles). pending c.loop-woken.heap s) none.2 in
    let done = drains_same (left_out_walk []) _ _ _ _ _ _ _ _ c.loop-woken.invariant same waits in
    let idle = ap (λ (ps : Piles). ps.wake) c.requires.invariant.empty in
    record {
      exposes = drained_left_out _ _ c.args.place _ _ _ _ _ _ ef done (ap (λ (ps : Piles). ps.wake) waits ∙ none.0);
      steps = omega (arith, done.steps, ef.grows.spreads.grays, ap (λ (ps : List Place). length ps) idle);
    }

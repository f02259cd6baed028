use Rattle.std.proofs.Common.{◌≡◌, ◌∙◌, ◌<◌, ◌↔◌, [], ℕ, All, List, Contains, ap, arith, length, subst, sym}
use Rattle.std.proofs.lemmas.List.{length-map}
use Rattle.gz_names.specs.declared.numbers.Place.{Place}
use Rattle.cell_bits.specs.declared.bits.Bits.{Bits}
use Rattle.heap_core.specs.Heap.{HeapState, joined}
use Rattle.heap_core.specs.Shape.{IsPresent}
use Rattle.barriers.specs.Following.{FollowDone, FollowsWhile}
use Rattle.barriers.specs.Pending.{pending}
use Rattle.mark_ahead.specs.Ahead.{IsMarkedBlack, StartsAll, TakesWords}
use Rattle.mark_ahead.proofs.AllFollowed.{Exposed}
use Rattle.mark_ahead.proofs.MarkedAhead.{Moments, Steps, all_followed, cells_present, grays_fewer, may_drain}
use Rattle.mark_ahead.proofs.MarkedAhead.{outside_present, own_sized}
use Rattle.mark_ahead.proofs.ahead.mark_ahead.Given.{Over}
use Rattle.mark_ahead.proofs.ahead.mark_ahead.Goals as goal
use Rattle.mark_ahead.proofs.ahead.mark_ahead.Goals.{After-start_pending, After-turn_all}

-- what lies outside turned black
followed : (g : Over) (c : After-turn_all g) → FollowDone g.F.Flight.bits g.F.Flight.origin
    (Contains c.deref-2.result.now) [] c.args.heap.now c.args.flight.now c.args.stack.now c.turn_all.new.heap
    c.turn_all.new.flight c.turn_all.new.stack
followed g c = subst (λ (z : HeapState). FollowsWhile g.F.Flight.bits g.F.Flight.origin (Contains c.deref-2.result.now)
    z c.args.flight.now c.args.stack.now c.turn_all.new.heap c.turn_all.new.flight c.turn_all.new.stack)
    c.mark_uncounted.ensures.same c.turn_all.ensures.follows [] c.requires.invariant.holds

abbrev moments : (g : Over) (c : After-start_pending g) → Moments
moments g c = record {
  first = c.in_ok-words.words.items;
  last = c.in_ok-last.last.items;
  from = c.deref.result.now;
  won = c.in_ok-last.ensures.found.won;
  listed = c.in_ok-last.marked.won.items;
  outside = c.in_ok-last.marked.outside.items;
  h = c.args.heap.now;
  f = g.F.Flight.bits c.args.flight.now;
  p = c.args.stack.now;
  k = c.turn_all.new.heap;
  g = g.F.Flight.bits c.turn_all.new.flight;
  q = c.turn_all.new.stack;
  l = c.take_words.new.heap;
  m = c.start_all.new.heap;
  n = c.start_pending.new.heap;
  u = c.start_pending.new.stack;
}

steps : (g : Over) (c : After-start_pending g) → FollowDone g.F.Flight.bits g.F.Flight.origin
    (Contains c.deref-2.result.now) [] c.args.heap.now c.args.flight.now c.args.stack.now c.turn_all.new.heap
    c.turn_all.new.flight c.turn_all.new.stack → Steps (moments g c)
steps g c did = record {
  invariant = c.requires.invariant;
  covers = c.requires.covers;
  whole = c.requires.whole;
  some = c.if-not-has_pending.ensures;
  cells = subst (λ (xs : List Place). (x : Place) → Contains xs x ↔ ((x.1 < 64) × IsMarkedBlack c.args.heap.now x))
      (sym c.deref.ensures.value) c.in_ok-from.ensures;
  words = c.in_ok-words.ensures;
  marked = c.in_ok-last.ensures.found.blackened;
  listed_won = c.in_ok-last.ensures.found.listed_won;
  exposed = subst (λ (xs : List Place). Exposed xs (joined c.args.heap.now (g.F.Flight.bits c.args.flight.now))
      (pending c.args.heap.now c.args.stack.now) (joined c.turn_all.new.heap (g.F.Flight.bits c.turn_all.new.flight))
      (pending c.turn_all.new.heap c.turn_all.new.stack)) c.deref-2.ensures.value (record {
        holds = did.holds;
        grows = did.grows;
        black = c.turn_all.ensures.black;
      });
  still_covers = did.covers;
  takes = subst (λ (ws : List ℕ). TakesWords ws c.turn_all.new.heap c.take_words.new.heap) c.deref-3.ensures.value
      c.take_words.ensures;
  looks = c.start_all.ensures.rest;
  starts = subst (λ (xs : List Place). StartsAll c.take_words.new.heap xs c.take_words.new.heap.looks
      c.start_all.new.heap.looks) c.deref-4.ensures.value c.start_all.ensures.starts;
  pops = c.start_pending.ensures;
}

pub black_cells-requires : goal.black_cells-requires
black_cells-requires g c = own_sized c.args.heap.now (g.F.Flight.bits c.args.flight.now)
    (pending c.args.heap.now c.args.stack.now) c.requires.invariant.holds

pub black_words-requires : goal.black_words-requires
black_words-requires g c = own_sized c.args.heap.now (g.F.Flight.bits c.args.flight.now)
    (pending c.args.heap.now c.args.stack.now) c.requires.invariant.holds

pub mark_uncounted-requires-clause-present : goal.mark_uncounted-requires-clause-present
mark_uncounted-requires-clause-present g c = cells_present c.args.heap.now (g.F.Flight.bits c.args.flight.now)
    (pending c.args.heap.now c.args.stack.now) c.requires.invariant c.requires.covers c.deref.result.now
    (subst (λ (xs : List Place). (x : Place) → Contains xs x ↔ ((x.1 < 64) × IsMarkedBlack c.args.heap.now x))
    (sym c.deref.ensures.value) c.in_ok-from.ensures)

pub mark_uncounted-requires-clause-words : goal.mark_uncounted-requires-clause-words
mark_uncounted-requires-clause-words g c = ap length c.in_ok-words.ensures
    ∙ length-map c.args.heap.now.colours (λ (bits : Bits). bits.black)
    ∙ own_sized c.args.heap.now (g.F.Flight.bits c.args.flight.now) (pending c.args.heap.now c.args.stack.now)
    c.requires.invariant.holds

pub turn_all-requires-clause-present : goal.turn_all-requires-clause-present
turn_all-requires-clause-present g c =
    let s = c.args.heap.now.shape in
    let all = outside_present s c.requires.invariant.holds.colours.shape.targets c.in_ok-words.words.items
    c.in_ok-last.last.items c.deref.result.now c.in_ok-last.ensures.found.won c.in_ok-last.marked.outside.items
    c.in_ok-last.ensures.found.blackened in
    subst (λ (z : HeapState). All (IsPresent z.shape) c.deref-2.result.now) (sym c.mark_uncounted.ensures.same)
    (subst (λ (xs : List Place). All (IsPresent s) xs) (sym c.deref-2.ensures.value) all)

pub take_words-requires-clause-sized : goal.take_words-requires-clause-sized
take_words-requires-clause-sized g c =
    let p = (goal.at.take_words-requires-clause-sized g c).After-turn_all in
    own_sized c.turn_all.new.heap (g.F.Flight.bits c.turn_all.new.flight)
    (pending c.turn_all.new.heap c.turn_all.new.stack) (followed g p).holds

pub take_words-requires-clause-words : goal.take_words-requires-clause-words
take_words-requires-clause-words g c =
    let p = (goal.at.take_words-requires-clause-words g c).After-turn_all in
    let same : length c.turn_all.new.heap.shape.arenas ≡ length c.args.heap.now.shape.arenas =
    ap (λ (z : HeapState). length z.shape.arenas) (followed g p).grows.spreads.blackens.rest in
    ap length c.deref-3.ensures.value ∙ c.in_ok-last.ensures.found.blackened.sized ∙ ap length c.in_ok-words.ensures
    ∙ length-map c.args.heap.now.colours (λ (bits : Bits). bits.black)
    ∙ own_sized c.args.heap.now (g.F.Flight.bits c.args.flight.now) (pending c.args.heap.now c.args.stack.now)
    c.requires.invariant.holds
    ∙ sym same

pub take_words-requires-clause-kept : goal.take_words-requires-clause-kept
take_words-requires-clause-kept g c =
    let p = (goal.at.take_words-requires-clause-kept g c).After-turn_all in
    (followed g p).holds.colours.shape.kept

pub drain-requires : goal.drain-requires
drain-requires g c = may_drain _
    (steps g (goal.at.drain-requires g c).After-start_pending
    (followed g (goal.at.drain-requires g c).After-turn_all)) g.L.Ledger.name c.requires.counted

pub returns-clause-does : goal.returns-clause-does
returns-clause-does g c = λ done. all_followed _
    (steps g (goal.at.returns-clause-does g c).After-start_pending
    (followed g (goal.at.returns-clause-does g c).After-turn_all))
    (joined c.drain.new.heap (g.F.Flight.bits c.drain.new.flight)) (pending c.drain.new.heap c.drain.new.stack)
    c.drain.ensures.spreads c.drain.ensures.invariant

pub returns-clause-steps : goal.returns-clause-steps
returns-clause-steps g c =
    let few = grays_fewer _
    (steps g (goal.at.returns-clause-steps g c).After-start_pending
    (followed g (goal.at.returns-clause-steps g c).After-turn_all)) in
    omega (arith, c.drain.ensures.steps, few)

pub returns-clause-origin : goal.returns-clause-origin
returns-clause-origin g c =
    c.drain.ensures.origin ∙ (followed g (goal.at.returns-clause-origin g c).After-turn_all).origin

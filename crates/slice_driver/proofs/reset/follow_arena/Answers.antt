use Rattle.std.proofs.Common.{◌∙◌, ◌<◌, ◌-◌, ◌++◌, List, ap, arith, bit_and, slice_get, subst}
use Rattle.gz_names.specs.declared.numbers.Place.{Place}
use Rattle.arena_table.specs.Delayed.{places_of}
use Rattle.arena_table.specs.Slots.{at_bits}
use Rattle.arena_table.proofs.AtBits.{at_bits-zero}
use Rattle.heap_core.specs.Heap.{joined}
use Rattle.barriers.specs.Colours.{IsBlack}
use Rattle.barriers.specs.Following.{FollowDone}
use Rattle.barriers.specs.Reached.{Reached}
use Rattle.slice_driver.specs.Resets.{cells_of}
use Rattle.slice_driver.proofs.resetting.Followed.{FollowsOn, first_in, follows_next, follows_none, later_in}
use Rattle.slice_driver.proofs.resetting.Followed.{may_follow}
use Rattle.slice_driver.proofs.resetting.Followed.{next_place, slot_below, word_cells}
use Rattle.slice_driver.proofs.reset.follow_arena.Goals.{in-Some, in_default}
use Rattle.slice_driver.proofs.reset.follow_arena.Goals as goal

pub loop-left-init : goal.loop-left-init
loop-left-init g c = λ rest may.
    subst (λ (xs : List Place). FollowsOn g.F.Flight.bits g.F.Flight.origin xs (xs ++ rest) c.args.heap.now
    c.args.flight.now c.args.stack.now c.args.heap.now c.args.flight.now c.args.stack.now)
    (word_cells c.args.arena c.alloc_word-left.result (slice_get c.args.heap.now.shape.arenas c.args.arena)
    c.alloc_word-left.ensures)
    (follows_none g.F.Flight.bits g.F.Flight.origin g.L.Ledger.name c.args.heap.now c.args.flight.now c.args.stack.now
    (cells_of c.args.arena (slice_get c.args.heap.now.shape.arenas c.args.arena)) rest may)

pub follow-requires-clause-black : goal.follow-requires-clause-black
follow-requires-clause-black g c =
    let some : 0 < c.loop-left.left = omega (arith, c.loop-left-test.true) in
    let next = next_place c.args.arena c.loop-left.left c.in-Some.place some c.loop-left.auto.left-fits.fits
    c.in-Some.ensures.1 in
    (c.loop-left.invariant c.requires.follow.0 c.requires.follow.1).black c.in-Some.place (first_in _ _ _ next)

pub follow-requires-clause-follow : goal.follow-requires-clause-follow
follow-requires-clause-follow g c =
    let some : 0 < c.loop-left.left = omega (arith, c.loop-left-test.true) in
    let less = at_bits (bit_and c.loop-left.left (c.loop-left.left - 1)) (places_of c.args.arena) in
    let next = next_place c.args.arena c.loop-left.left c.in-Some.place some c.loop-left.auto.left-fits.fits
    c.in-Some.ensures.1 in (
      less ++ c.requires.follow.0,
      may_follow g.F.Flight.bits g.F.Flight.origin g.L.Ledger.name c.args.heap.now c.args.flight.now c.args.stack.now
          (at_bits c.loop-left.left (places_of c.args.arena)) _ c.loop-left.heap c.loop-left.flight c.loop-left.stack
          (c.loop-left.invariant c.requires.follow.0 c.requires.follow.1) c.in-Some.place _
          (ap (λ (xs : List Place). xs ++ c.requires.follow.0) next) c.requires.follow.1.counted
          c.requires.follow.1.outside,
    )

pub loop-left-preserved : goal.loop-left-preserved
loop-left-preserved g c = λ rest may.
    let some : 0 < c.loop-left.left = omega (arith, c.loop-left-test.true) in
    let less = at_bits (bit_and c.loop-left.left (c.loop-left.left - 1)) (places_of c.args.arena) in
    let on = c.loop-left.invariant rest may in
    elim c.match-new.branch [
      | in-Some w ↦ (
          let next = next_place c.args.arena c.loop-left.left w.in-Some.place some c.loop-left.auto.left-fits.fits
          w.in-Some.ensures.1 in
          rw (w.heap-is, w.stack-is, w.flight-is)
          (follows_next g.F.Flight.bits g.F.Flight.origin g.L.Ledger.name c.args.heap.now c.args.flight.now
          c.args.stack.now (at_bits c.loop-left.left (places_of c.args.arena)) _ c.loop-left.heap c.loop-left.flight
          c.loop-left.stack on w.follow.new.heap w.follow.new.flight w.follow.new.stack less (less ++ rest)
          (w.follow.ensures.follows (less ++ rest)
          (may_follow g.F.Flight.bits g.F.Flight.origin g.L.Ledger.name c.args.heap.now c.args.flight.now
          c.args.stack.now (at_bits c.loop-left.left (places_of c.args.arena)) _ c.loop-left.heap c.loop-left.flight
          c.loop-left.stack on w.in-Some.place _ (ap (λ (xs : List Place). xs ++ rest) next) may.counted may.outside))
          (later_in _ _ _ next)))
      | in_default w ↦ absurd (w.in_default.ensures
          (slot_below c.loop-left.left some c.loop-left.auto.left-fits.fits))
    ]

pub returns : goal.returns
returns g c = record {
  follows = λ rest may.
      subst (λ (xs : List Place). FollowDone g.F.Flight.bits g.F.Flight.origin
      (Reached c.args.heap.now.shape (IsBlack (joined c.args.heap.now (g.F.Flight.bits c.args.flight.now))))
      (xs ++ rest) c.args.heap.now c.args.flight.now c.args.stack.now c.loop-left.heap c.loop-left.flight
      c.loop-left.stack)
      (ap (λ n. at_bits n (places_of c.args.arena)) c.loop-left-test.false ∙ at_bits-zero (places_of c.args.arena))
      (c.loop-left.invariant rest may).done;
}

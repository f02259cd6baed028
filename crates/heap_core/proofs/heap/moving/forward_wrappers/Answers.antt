use Rattle.std.proofs.Common.{◌≡◌, Some, sym, arith}
use Rattle.heap_core.specs.Moving.{listed_at}
use Rattle.heap_core.proofs.Forwarded.{IsListedBefore, before-end, before-more, forwards-fewer, forwards-none}
use Rattle.heap_core.proofs.Forwarded.{forwards-one, forwards-then, may-forward, none-before, within-list}
use Rattle.heap_core.proofs.heap.moving.forward_wrappers.Goals as goal

pub loop-wrapper-init : goal.loop-wrapper-init
loop-wrapper-init c = record {
  before = omega arith;
  forwards = forwards-none (IsListedBefore c.args.wrappers.now c.args.zone 0) c.args.moves.now c.args.arenas.now
      (none-before c.args.wrappers.now c.args.zone);
}

pub forward-requires-clause-cell : goal.forward-requires-clause-cell
forward-requires-clause-cell c =
    (may-forward (IsListedBefore c.args.wrappers.now c.args.zone c.loop-wrapper.cursor) c.args.moves.now
    c.args.wrappers.now c.args.arenas.now c.loop-wrapper.arenas c.loop-wrapper.invariant.forwards
    c.requires).standing c.args.zone c.loop-wrapper.cursor c.in-Some.wrapper (sym c.in-Some.ensures.place)

pub forward-requires-clause-goals : goal.forward-requires-clause-goals
forward-requires-clause-goals c =
    (may-forward (IsListedBefore c.args.wrappers.now c.args.zone c.loop-wrapper.cursor) c.args.moves.now
    c.args.wrappers.now c.args.arenas.now c.loop-wrapper.arenas c.loop-wrapper.invariant.forwards
    c.requires).inside

pub loop-wrapper-smaller : goal.loop-wrapper-smaller
loop-wrapper-smaller c =
    omega (
      arith,
      c.in-Some.ensures.cursor,
      within-list c.args.wrappers.now c.args.zone c.loop-wrapper.cursor c.in-Some.wrapper
          (sym c.in-Some.ensures.place),
    )

pub loop-wrapper-preserved : goal.loop-wrapper-preserved
loop-wrapper-preserved c =
    let w = c.args.wrappers.now in
    let zone = c.args.zone in
    let i = c.loop-wrapper.cursor in
    let u = c.in-Some.wrapper in
    let moves = c.args.moves.now in
    let at : listed_at w zone i ≡ Some u = sym c.in-Some.ensures.place in
    record {
      before = omega (arith, c.in-Some.ensures.cursor, within-list w zone i u at);
      forwards = forwards-then (IsListedBefore w zone i) (λ p. p ≡ u) (IsListedBefore w zone c.next_of.new.cursor)
          moves c.args.arenas.now c.loop-wrapper.arenas c.forward.new.self (record {
            clear = c.requires.clear;
            first = c.loop-wrapper.invariant.forwards;
            last = forwards-one moves c.loop-wrapper.arenas c.forward.new.self u c.forward.ensures.state
                c.forward.ensures.cells;
            either = before-more w zone i c.next_of.new.cursor u at c.in-Some.ensures.cursor;
          });
    }

pub returns : goal.returns
returns c = forwards-fewer (IsListedBefore c.args.wrappers.now c.args.zone c.loop-wrapper.cursor) _ c.args.moves.now
    c.args.arenas.now c.loop-wrapper.arenas c.loop-wrapper.invariant.forwards
    (before-end c.args.wrappers.now c.args.zone c.loop-wrapper.cursor (sym c.in_default.ensures.place))

use Rattle.std.proofs.Common.{◌≡◌, ◌+◌, refl, sym, subst, arith}
use Rattle.heap_core.specs.Moving.{Forwards, IsListedIn, LeadsInto}
use Rattle.heap_core.proofs.Forwarded.{LeadsFromBelow, below-all, below-more, below-skip, forwards-fewer, forwards-none}
use Rattle.heap_core.proofs.Forwarded.{forwards-then, may-forward, none-below}
use Rattle.heap_core.proofs.heap.moving.forward_targets.Goals as goal
use Rattle.heap_core.proofs.heap.moving.forward_targets.Goals.{in-Some, in_default}

pub loop-index-init : goal.loop-index-init
loop-index-init c = record {
  forwards = forwards-none (LeadsFromBelow c.args.wrappers.now c.args.noted.now c.args.zone 0) c.args.moves.now
      c.args.arenas.now (none-below c.args.wrappers.now c.args.noted.now c.args.zone);
}

pub forward_wrappers-requires : goal.forward_wrappers-requires
forward_wrappers-requires c =
    may-forward (LeadsFromBelow c.args.wrappers.now c.args.noted.now c.args.zone c.loop-index.index) c.args.moves.now
    c.args.wrappers.now c.args.arenas.now c.loop-index.arenas c.loop-index.invariant.forwards c.requires

pub loop-index-preserved : goal.loop-index-preserved
loop-index-preserved c =
    let ws = c.args.wrappers.now in
    let noted = c.args.noted.now in
    let zone = c.args.zone in
    let moves = c.args.moves.now in
    let i = c.loop-index.index in
    let old = c.args.arenas.now in
    let mid = c.loop-index.arenas in
    let was = c.loop-index.invariant.forwards in
    elim c.match-source_at.branch [
      | in-Some w ↦ record {
        forwards = subst (Forwards (LeadsFromBelow ws noted zone (i + 1)) moves old) (sym w.arenas-is)
            (forwards-then (LeadsFromBelow ws noted zone i) (IsListedIn ws i) (LeadsFromBelow ws noted zone (i + 1))
            moves old mid w.forward_wrappers.new.arenas (record {
              clear = c.requires.clear;
              first = was;
              last = subst (λ z. Forwards (IsListedIn ws z) moves mid w.forward_wrappers.new.arenas)
                  w.in-Some.ensures.some w.forward_wrappers.ensures;
              either = below-more ws noted zone i (i + 1) refl;
            }));
      }
      | in_default w ↦ record {
        forwards = subst (Forwards (LeadsFromBelow ws noted zone (i + 1)) moves old) (sym w.arenas-is)
            (forwards-fewer (LeadsFromBelow ws noted zone i) (LeadsFromBelow ws noted zone (i + 1)) moves old mid was
            (below-skip ws noted zone i (i + 1) refl w.in_default.ensures.none));
      }
    ]

pub returns : goal.returns
returns c =
    let ended : c.loop-index.index ≡ 64 = omega arith in
    forwards-fewer (LeadsFromBelow c.args.wrappers.now c.args.noted.now c.args.zone c.loop-index.index)
    (LeadsInto c.args.wrappers.now c.args.noted.now c.args.zone) c.args.moves.now c.args.arenas.now
    c.loop-index.arenas c.loop-index.invariant.forwards
    (below-all c.args.wrappers.now c.args.noted.now c.args.zone c.loop-index.index (omega (arith, ended)))

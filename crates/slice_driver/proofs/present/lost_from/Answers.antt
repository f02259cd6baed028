use Rattle.std.proofs.Common.{◌≡◌, ◌+◌, ℕ, length, subst, sum_by, take, arith}
use Rattle.slice_driver.specs.Present.{present_in_arena}
use Rattle.slice_driver.proofs.taking_in.PresentCells.{counts_all, counts_on, held_of, none_lost}
use Rattle.slice_driver.proofs.present.lost_from.Goals as goal

pub loop-arena-init : goal.loop-arena-init
loop-arena-init c =
    let none = none_lost c.args.heap.now.shape.arenas c.args.first c.requires.whole c.requires.below in
    record { counted = omega (arith, none); few = omega arith }

pub loop-arena-preserved : goal.loop-arena-preserved
loop-arena-preserved c =
    let so = c.loop-arena.invariant in
    let few = c.lost_in-lost.ensures.few in
    let less = c.loop-arena-test.true in
    record {
      counted = counts_on c.args.heap.now.shape.arenas c.loop-arena.arena c.loop-arena.lost c.lost_in-lost.result
          (omega (arith, less, c.arenas-arena-end.ensures)) c.lost_in-lost.ensures.lost so.counted;
      few = omega (arith, so.few, few);
    }

pub returns : goal.returns
returns c =
    let arenas = c.args.heap.now.shape.arenas in
    let all : c.loop-arena.arena ≡ length arenas = omega
    (arith, c.arenas-arena-end.ensures, c.loop-arena.auto.arena-end, c.loop-arena-test.false, c.requires.first) in
    counts_all arenas c.loop-arena.lost (subst
    (λ (n : ℕ). sum_by held_of (take n arenas) ≡ c.loop-arena.lost + sum_by present_in_arena
    (take n arenas)) all c.loop-arena.invariant.counted)

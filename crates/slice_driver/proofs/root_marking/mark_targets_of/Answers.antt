use Rattle.std.proofs.Common.{sym, subst, arith, ◌≡◌, Some}
use Rattle.zone_edges.specs.Looks.{wrapper_at}
use Rattle.zone_edges.proofs.Looking.{within_list}
use Rattle.heap_core.specs.Heap.{without_delayed}
use Rattle.barriers.specs.Pending.{pending}
use Rattle.slice_driver.specs.RootMarking.{IsTargetBefore, Marks}
use Rattle.slice_driver.proofs.beginning.MarkedRoots.{stands_still, target_all, target_step, wrapper_still, zone_still}
use Rattle.slice_driver.proofs.root_marking.mark_targets_of.Goals as goal

pub mark_target-requires-clause-wrapper : goal.mark_target-requires-clause-wrapper
mark_target-requires-clause-wrapper g c = (
  c.args.zone,
  wrapper_still _ _ _ _ _ _ c.loop-wrapper.invariant.marks _ _ _ c.requires.wrappers
      c.in-Some.ensures.apart (sym c.in-Some.ensures.place),
)

pub loop-wrapper-smaller : goal.loop-wrapper-smaller
loop-wrapper-smaller g c =
    let at : wrapper_at c.args.heap.now.shape c.args.zone c.loop-wrapper.cursor ≡ Some c.in-Some.wrapper =
    stands_still _ _ _ _ _ _ c.loop-wrapper.invariant.marks _ _ _ (sym c.in-Some.ensures.place) in
    omega (
      arith,
      c.in-Some.ensures.cursor,
      within_list c.args.heap.now.shape c.args.zone c.loop-wrapper.cursor c.in-Some.wrapper at,
    )

pub loop-wrapper-preserved : goal.loop-wrapper-preserved
loop-wrapper-preserved g c =
    let m = c.loop-wrapper.invariant.marks in
    let at = sym c.in-Some.ensures.place in
    record {
      marks = subst (λ n. Marks (IsTargetBefore (without_delayed c.args.heap.now) c.args.zone n) c.args.zones
          (without_delayed c.args.heap.now) (pending c.args.heap.now c.args.stack.now)
          (without_delayed c.mark_target.new.heap)
          (pending c.mark_target.new.heap c.mark_target.new.stack)) (sym c.in-Some.ensures.cursor)
          (target_step _ _ _ _ c.requires.other _ _ _ _ _ _ (stands_still _ _ _ _ _ _ m _ _ _ at)
          (zone_still _ _ _ _ _ _ m _ _ _ c.requires.wrappers c.in-Some.ensures.apart at) m c.mark_target.ensures);
    }

pub returns : goal.returns
returns g c =
    let m = c.loop-wrapper.invariant.marks in
    target_all _ _ _ _ _ _ _ (stands_still _ _ _ _ _ _ m _ _ _ (sym c.in_default.ensures.place)) m

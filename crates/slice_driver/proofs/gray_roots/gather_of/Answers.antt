use Rattle.std.proofs.Common.{sym, subst, arith}
use Rattle.zone_edges.proofs.Looking.{stands_in, within_list}
use Rattle.slice_driver.specs.GrayRoots.{Gathers, IsGrayBefore}
use Rattle.slice_driver.proofs.beginning.GatheredRoots.{gray_all, gray_at, gray_step}
use Rattle.slice_driver.proofs.gray_roots.gather_of.Goals as goal

pub gather_wrapper-requires-clause-wrapper : goal.gather_wrapper-requires-clause-wrapper
gather_wrapper-requires-clause-wrapper g c = (
  c.args.zone,
  stands_in c.args.heap.now.shape c.args.zone c.loop-wrapper.cursor c.in-Some.wrapper
      c.requires.gather.wrappers c.in-Some.ensures.apart (sym c.in-Some.ensures.place),
)

pub loop-wrapper-smaller : goal.loop-wrapper-smaller
loop-wrapper-smaller g c =
    omega (
      arith,
      c.in-Some.ensures.cursor,
      within_list c.args.heap.now.shape c.args.zone c.loop-wrapper.cursor c.in-Some.wrapper
          (sym c.in-Some.ensures.place),
    )

pub loop-wrapper-preserved : goal.loop-wrapper-preserved
loop-wrapper-preserved g c =
    let h = c.args.heap.now in
    let zone = c.args.zone in
    let i = c.loop-wrapper.cursor in
    let u = c.in-Some.wrapper in
    let old = c.args.found.now.items in
    let mid = c.loop-wrapper.found.items in
    let new = c.gather_wrapper.new.found.items in
    let at = sym c.in-Some.ensures.place in
    record {
      before = omega (arith, c.in-Some.ensures.cursor, within_list h.shape zone i u at);
      few = (let was = c.loop-wrapper.invariant.few in let more = c.in_ok-gather_wrapper.ensures.few in omega
          (arith, was, more, c.in-Some.ensures.cursor));
      gathered = subst (λ n. Gathers (IsGrayBefore h c.args.zones zone n) old new) (sym c.in-Some.ensures.cursor)
          (gray_step h c.args.zones zone i old mid new c.loop-wrapper.invariant.gathered
          (gray_at h c.args.zones zone i u at
          (stands_in h.shape zone i u c.requires.gather.wrappers c.in-Some.ensures.apart at).zone_is mid new
          c.in_ok-gather_wrapper.ensures.gathered));
    }

pub returns-clause-gathered : goal.returns-clause-gathered
returns-clause-gathered g c = gray_all c.args.heap.now c.args.zones c.args.zone c.loop-wrapper.cursor
    c.args.found.now.items c.loop-wrapper.found.items (sym c.in_default.ensures.place) c.loop-wrapper.invariant.gathered

pub returns-clause-few : goal.returns-clause-few
returns-clause-few g c =
    let before = c.loop-wrapper.invariant.before in
    let few = c.loop-wrapper.invariant.few in
    omega (arith, before, few)

use Rattle.std.proofs.Common.{◌≡◌, ◌≤◌, length, arith, ap, subst, sym, ◌+◌}
use Rattle.wrappers.specs.WrapperMaps.{list_of}
use Rattle.slice_driver.specs.GrayRoots.{Gathers, IsGrayAmong, IsGrayOf}
use Rattle.slice_driver.specs.ListedWrappers.{is_outside, listed_below}
use Rattle.slice_driver.proofs.beginning.GatheredRoots.{among_skip, among_step, listed_more, listed_one}
use Rattle.slice_driver.proofs.gray_roots.gather_wrappers.Goals as goal
use Rattle.slice_driver.proofs.gray_roots.gather_wrappers.Goals.{in-Some+in_ok-gather_of, in_default}

pub loop-index-preserved : goal.loop-index-preserved
loop-index-preserved g c =
    let h = c.args.heap.now in
    let i = c.loop-index.index in
    let old = c.args.found.now.items in
    let mid = c.loop-index.found.items in
    elim c.match-source_at.branch [
      | in-Some+in_ok-gather_of w ↦
          let other = w.in-Some.ensures.some in
          let new = w.gather_of.new.found.items in
          record {
            few = (let was = c.loop-index.invariant.few in
                let more = subst (λ z. length new ≤ length mid + length (list_of h.shape.wrappers z)) other.0
                w.in_ok-gather_of.ensures.few in
                let one = listed_one h.shape c.args.zones i (omega arith) other.1 in
                let is = ap (λ v. length v.items) w.found-is in
                omega (arith, was, more, one, is));
            gathered = subst (λ v. Gathers (IsGrayAmong h c.args.zones (i + 1)) old v.items) (sym w.found-is)
                (among_step h c.args.zones i old mid new other.1 c.loop-index.invariant.gathered
                (subst (λ z. Gathers (IsGrayOf h c.args.zones z) mid new) other.0 w.in_ok-gather_of.ensures.gathered));
          }
      | in_default w ↦ record {
        few = (let was = c.loop-index.invariant.few in let is = ap (λ v. length v.items) w.found-is in
            let more = listed_more h.shape (is_outside c.args.zones) i in omega (arith, was, is, more));
        gathered = subst (λ v. Gathers (IsGrayAmong h c.args.zones (i + 1)) old v.items) (sym w.found-is)
            (among_skip h c.args.zones i old mid w.in_default.ensures.none c.loop-index.invariant.gathered);
      }
    ]

pub returns-clause-gathered : goal.returns-clause-gathered
returns-clause-gathered g c =
    let h = c.args.heap.now in
    let ended : c.loop-index.index ≡ length h.shape.states = omega arith in
    subst (λ n. Gathers (IsGrayAmong h c.args.zones n) c.args.found.now.items c.loop-index.found.items) ended
    c.loop-index.invariant.gathered

pub returns-clause-few : goal.returns-clause-few
returns-clause-few g c =
    let h = c.args.heap.now in
    let ended : c.loop-index.index ≡ length h.shape.states = omega arith in
    subst (λ n. length c.loop-index.found.items
    ≤ length c.args.found.now.items + listed_below h.shape (is_outside c.args.zones) n) ended
    c.loop-index.invariant.few

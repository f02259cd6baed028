use Rattle.std.proofs.Common.{arith, ◌≡◌, ◌≤◌, ◌-◌, ◌+◌, ℕ, slice_index_or, Some, None, ap, subst, sym, ◌∙◌}
use Rattle.colour_defs.proofs.Lists.{get_contains}
use Rattle.heap_core.specs.Heap.{without_delayed}
use Rattle.heap_core.specs.Shape.{IsPresent, Shape}
use Rattle.barriers.specs.Pending.{pending}
use Rattle.slice_driver.specs.RootMarking.{IsHeldBefore, Marks}
use Rattle.slice_driver.proofs.beginning.MarkedRoots.{held_all, held_first, held_skip, held_step, marks_seen}
use Rattle.slice_driver.proofs.beginning.MarkedRoots.{shape_still}
use Rattle.slice_driver.proofs.root_marking.mark_registers.Goals as goal
use Rattle.slice_driver.proofs.root_marking.mark_registers.Goals.{in-Some, in-Some-pinned, in_default}
use Rattle.slice_driver.proofs.root_marking.mark_registers.Goals.{in_default-pinned}

pub loop-index-init : goal.loop-index-init
loop-index-init c = record { marks = held_first _ _ _ }

pub mark_root-requires-clause-present : goal.mark_root-requires-clause-present
mark_root-requires-clause-present c =
    let h = c.args.heap.now.shape in
    let i = c.loop-index.index in
    let place = c.in-Some.place in
    let same = shape_still _ _ _ _ _ _ c.loop-index.invariant.marks in
    let at : slice_index_or h.regs i None ≡ Some place =
    subst (λ (s : Shape). slice_index_or s.regs i None ≡ Some place) same (sym c.in-Some.ensures) in
    subst (λ (s : Shape). IsPresent s place) (sym same) (c.requires.held place (get_contains h.regs i place at))

pub loop-index-preserved : goal.loop-index-preserved
loop-index-preserved c =
    let i = c.loop-index.index in
    let m = c.loop-index.invariant.marks in
    let same = shape_still _ _ _ _ _ _ m in
    elim c.match-held_in.branch [
      | in-Some w ↦ record {
        marks = marks_seen _ _ _ _ _ _ _ _ w.heap-is w.stack-is
            (held_step _ _ _ i w.in-Some.place _ _ _ _
            (subst (λ (s : Shape). slice_index_or s.regs i None ≡ Some w.in-Some.place) same (sym w.in-Some.ensures)) m
            w.mark_root.ensures);
      }
      | in_default w ↦ record {
        marks = marks_seen _ _ _ _ _ _ _ _ w.heap-is w.stack-is
            (held_skip _ _ _ i _ _
            (subst (λ (s : Shape). slice_index_or s.regs i None ≡ None) same (sym w.in_default.ensures)) m);
      }
    ]

-- after the registers come the pinned roots
pub loop-root-init : goal.loop-root-init
loop-root-init c =
    let ended : c.loop-index.index ≡ 16 + 0 = omega (arith, c.loop-index.auto.index-end, c.loop-index-test.false) in
    record {
      marks = subst (λ (n : ℕ). Marks (IsHeldBefore c.args.heap.now.shape n) c.args.zones
          (without_delayed c.args.heap.now) (pending c.args.heap.now c.args.stack.now)
          (without_delayed c.loop-index.heap) (pending c.loop-index.heap c.loop-index.stack)) ended
          c.loop-index.invariant.marks;
    }

pub mark_root-requires-in-Some-pinned-clause-present : goal.mark_root-requires-in-Some-pinned-clause-present
mark_root-requires-in-Some-pinned-clause-present c =
    let h = c.args.heap.now.shape in
    let i = 16 + c.loop-root.root in
    let place = c.in-Some-pinned.place in
    let same = shape_still _ _ _ _ _ _ c.loop-root.invariant.marks in
    let at : slice_index_or h.regs i None ≡ Some place =
    subst (λ (s : Shape). slice_index_or s.regs i None ≡ Some place) same (sym c.in-Some-pinned.ensures) in
    subst (λ (s : Shape). IsPresent s place) (sym same) (c.requires.held place (get_contains h.regs i place at))

pub loop-root-preserved : goal.loop-root-preserved
loop-root-preserved c =
    let i = 16 + c.loop-root.root in
    let m = c.loop-root.invariant.marks in
    let same = shape_still _ _ _ _ _ _ m in
    let next : i + 1 ≡ 16 + (c.loop-root.root + 1) = omega arith in
    let after = c.match-pinned in
    let on : Marks (IsHeldBefore c.args.heap.now.shape (i + 1)) c.args.zones (without_delayed c.args.heap.now)
    (pending c.args.heap.now c.args.stack.now) (without_delayed after.heap) (pending after.heap after.stack) =
    elim after.branch [
      | in-Some-pinned w ↦ marks_seen _ _ _ _ _ _ _ _ w.heap-is w.stack-is
          (held_step _ _ _ i w.in-Some-pinned.place _ _ _ _
          (subst (λ (s : Shape). slice_index_or s.regs i None ≡ Some w.in-Some-pinned.place) same
          (sym w.in-Some-pinned.ensures)) m w.mark_root-in-Some-pinned.ensures)
      | in_default-pinned w ↦ marks_seen _ _ _ _ _ _ _ _ w.heap-is w.stack-is
          (held_skip _ _ _ i _ _
          (subst (λ (s : Shape). slice_index_or s.regs i None ≡ None) same (sym w.in_default-pinned.ensures)) m)
    ] in
    record {
      marks = subst (λ (n : ℕ). Marks (IsHeldBefore c.args.heap.now.shape n) c.args.zones
          (without_delayed c.args.heap.now) (pending c.args.heap.now c.args.stack.now) (without_delayed after.heap)
          (pending after.heap after.stack)) next on;
    }

-- behind the last pinned root nothing is held
pub returns : goal.returns
returns c =
    let h = c.args.heap.now.shape in
    let end = c.pinned_end-root-end.result in
    let same = shape_still _ _ _ _ _ _ c.loop-index.invariant.marks in
    let none : (i : ℕ) → 16 + c.loop-root.root ≤ i → slice_index_or h.regs i None ≡ None =
    λ i le.
    let past : end ≤ i - 16 = omega (arith, le, c.loop-root.auto.root-end, c.loop-root-test.false) in
    let is : 16 + (i - 16) ≡ i = omega (arith, le) in
    let behind : slice_index_or c.loop-index.heap.shape.regs (16 + (i - 16)) None ≡ None =
    c.pinned_end-root-end.ensures (i - 16) past in
    subst (λ (s : Shape). slice_index_or s.regs i None ≡ None) same
    (ap (λ (n : ℕ). slice_index_or c.loop-index.heap.shape.regs n None) (sym is) ∙ behind) in
    held_all _ _ _ (16 + c.loop-root.root) _ _ none c.loop-root.invariant.marks

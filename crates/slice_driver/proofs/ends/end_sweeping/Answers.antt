use Rattle.std.proofs.Common.{◌≡◌, ℕ, true, false, None, Some, Option, IsSome, is_some, sym, ap, ◌∙◌, IfSome, IfNone}
use Rattle.heap_core.specs.Shape.{Shape, out_of}
use Rattle.slice_driver.proofs.taking_in.FirstOut.{is_none}
use Rattle.slice_driver.proofs.taking_in.EndSweeping.{still_out, group_left, none_left, first_none, not_first}
use Rattle.slice_driver.proofs.ends.end_sweeping.Goals as goal

-- an arena is out, or none is
found_out : (h : Shape) (r : Option ℕ) → IfSome r (λ a. IsSome (out_of h a)) → is_some r ≡ true
    → (a : ℕ) × IsSome (out_of h a)
found_out h None s e = absurd (cc e)
found_out h (Some a) s e = (a, s)

found_none : (r : Option ℕ) (P : Type 0) → IfNone r P → is_some r ≡ false → P
found_none None P n e = n
found_none (Some a) P n e = absurd (cc e)

pub returns-then-is_some : goal.returns-then-is_some
returns-then-is_some c =
    let found = found_out c.args.heap.now.shape c.first_out.result c.first_out.ensures.out
    (sym c.is_some.ensures ∙ c.if-is_some.true) in
    still_out c.args.heap.now c.args.order.now found.0 found.1

pub returns-then-is_some-2 : goal.returns-then-is_some-2
returns-then-is_some-2 c =
    let none = found_none c.first_out.result ((a : ℕ) → out_of c.args.heap.now.shape a ≡ None) c.first_out.ensures.none
    (sym c.is_some.ensures ∙ c.if-is_some.false) in
    group_left c.args.heap.now c.advance_all.new.heap c.args.order.now c.in_state.result.bits none c.in_state.ensures
    c.advance_all.ensures
    (not_first c.args.order.now (ap is_some (sym c.current.ensures) ∙ sym c.is_some-2.ensures
    ∙ c.if-is_some-2.true))

pub returns : goal.returns
returns c =
    let none = found_none c.first_out.result ((a : ℕ) → out_of c.args.heap.now.shape a ≡ None) c.first_out.ensures.none
    (sym c.is_some.ensures ∙ c.if-is_some.false) in
    none_left c.args.heap.now c.advance_all.new.heap c.args.order.now c.in_state.result.bits none c.in_state.ensures
    c.advance_all.ensures c.advance_all-2.new.heap c.in_state-2.result.bits
    (first_none c.args.order.now
    (is_none _ (ap is_some (sym c.current.ensures) ∙ sym c.is_some-2.ensures ∙ c.if-is_some-2.false)))
    c.in_state-2.ensures c.advance_all-2.ensures

-- What a plan says of the change that is made by it.
use Rattle.std.proofs.Common.{◌≡◌, ◌+◌, ℕ, Option, Ok, IsSome, is_some, if◌then◌else◌, sym, ap, subst, ◌∙◌, arith}
use Rattle.gz_names.specs.declared.commands.GraphCmd.{GraphCmd}
use Rattle.gz_names.specs.declared.replies.Reply.{Reply}
use Rattle.heap_core.specs.declared.plans.Change.{Change}
use Rattle.heap_core.specs.declared.plans.Change.TheVariants as change
use Rattle.heap_core.specs.declared.plans.Plan.{Plan}
use Rattle.heap_core.specs.Shape.{Shape}
use Rattle.heap_core.specs.Heap.{HeapState, with_marks}
use Rattle.heap_core.specs.Peeks.{cells_made}
use Rattle.heap_core.specs.Plans.{ChangesBy, IsPlanIn, IsPlanOf, MayWant, handed_by, made_by, overwritten_by}

abbrev made_of : HeapState → ℕ
made_of h = h.made

abbrev one_if_made : Change → ℕ
one_if_made ch = if is_some (made_by ch) then 1 else 0

-- a change makes one cell or none
made-by_change : (old new : HeapState) (ch : Change) (answer : Reply) → ChangesBy old ch answer new
    → new.made ≡ old.made + one_if_made ch
made-by_change old new change.Zone answer by = let n = ap made_of by.0 in omega (arith, n)
made-by_change old new (change.Comp z) answer by = let n = ap made_of by.0 in omega (arith, n)
made-by_change old new (change.Cell r z c k) answer by = let n = ap made_of by.0.rest ∙ ap made_of by.0.makes.rest in
    omega (arith, n)
made-by_change old new (change.Wrapper r z c t) answer by = let n = ap made_of by.0.rest
    ∙ (ap made_of by.0.makes.rest ∙ ap made_of by.0.makes.makes.rest) in omega (arith, n)
made-by_change old new (change.Register r v named) answer by = let n = ap made_of by.0 in omega (arith, n)
made-by_change old new (change.Slot g v) answer by = let n = ap made_of by.0 in omega (arith, n)
made-by_change old new (change.Field p f v) answer by = let n = ap made_of by.0.rest in omega (arith, n)
made-by_change old new (change.Put m k v) answer by = let n = ap made_of by.0.rest in omega (arith, n)
made-by_change old new (change.Del m k) answer by = let n = ap made_of by.0.rest in omega (arith, n)

-- a change that hands a cell out wants no memory, nor does one that overwrites or removes something
pub handed-wants : (s : Shape) (ch : Change) → IsSome (handed_by ch) → MayWant s ch → ⊥
handed-wants s change.Zone some may = absurd (cc some)
handed-wants s (change.Comp z) some may = absurd (cc some)
handed-wants s (change.Cell r z c k) some may = absurd (cc some)
handed-wants s (change.Wrapper r z c t) some may = absurd (cc some)
handed-wants s (change.Register r v named) some may = may
handed-wants s (change.Slot g v) some may = may
handed-wants s (change.Field p f v) some may = may
handed-wants s (change.Put m k v) some may = absurd (cc some)
handed-wants s (change.Del m k) some may = may

pub overwritten-wants : (s : Shape) (ch : Change) → IsSome (overwritten_by s ch) → MayWant s ch → ⊥
overwritten-wants s change.Zone some may = absurd (cc some)
overwritten-wants s (change.Comp z) some may = absurd (cc some)
overwritten-wants s (change.Cell r z c k) some may = absurd (cc some)
overwritten-wants s (change.Wrapper r z c t) some may = absurd (cc some)
overwritten-wants s (change.Register r v named) some may = may
overwritten-wants s (change.Slot g v) some may = may
overwritten-wants s (change.Field p f v) some may = may
overwritten-wants s (change.Put m k v) some may = absurd (cc (may, some))
overwritten-wants s (change.Del m k) some may = may

-- a change that makes a cell may want some
pub making-wants : (s : Shape) (ch : Change) → IsSome (made_by ch) → MayWant s ch
making-wants s change.Zone some = tt
making-wants s (change.Comp z) some = tt
making-wants s (change.Cell r z c k) some = tt
making-wants s (change.Wrapper r z c t) some = tt
making-wants s (change.Register r v named) some = absurd (cc some)
making-wants s (change.Slot g v) some = absurd (cc some)
making-wants s (change.Field p f v) some = absurd (cc some)
making-wants s (change.Put m k v) some = absurd (cc some)
making-wants s (change.Del m k) some = absurd (cc some)

module _ (h : HeapState) (c : GraphCmd) (plan : Plan) (is : IsPlanIn h c plan) where
  pub made-cells : (answer : Reply) (new : HeapState) → ChangesBy h plan.change answer new
      → new.made ≡ h.made + cells_made h c (Ok answer)
  made-cells answer new by = made-by_change h new plan.change answer by
      ∙ ap (λ (o : Option ℕ). h.made + (if is_some o then 1 else 0)) is.made

-- at the heap itself, and at one that differs in colours and delayed cells alone
pub planned-here : (h : HeapState) (c : GraphCmd) (plan : Plan) → IsPlanOf h c plan → IsPlanIn h c plan
planned-here h c plan is = is h.colours h.delayed

pub planned-at : (h k : HeapState) (c : GraphCmd) (plan : Plan) → k ≡ with_marks h k.colours k.delayed
    → IsPlanOf h c plan
    → IsPlanIn k c plan
planned-at h k c plan same is = subst (λ (z : HeapState). IsPlanIn z c plan) (sym same) (is k.colours k.delayed)

-- What waits for marking zones alone.
use Rattle.std.proofs.Common.{◌≡◌, ◌≢◌, ◌<◌, ◌∷◌, [], ℕ, suc, List, Option, None, Some, length, slice_get}
use Rattle.std.proofs.Common.{Contains, inl, inr, refl, sym, ap, ◌∙◌, subst, arith}
use Rattle.std.proofs.lemmas.Option.{slice_get_cases, slice_get_within}
use Rattle.gz_names.specs.declared.numbers.Place.{Place}
use Rattle.gz_names.specs.declared.replies.Reply.{Reply}
use Rattle.weak_maps.specs.WeakMaps.{AreParallel, Carries, HasLooked, LooksState, NoneLeft, PutsLeft, WeakMapsState}
use Rattle.weak_maps.specs.WeakMaps.{WeakTableState, looks_with, value_of}
use Rattle.weak_maps.specs.declared.delegates.Delegate.{Delegate}
use Rattle.weak_maps.specs.declared.colours.MarkColour.{MarkColour}
use Rattle.weak_maps.specs.declared.colours.MarkColour.TheVariants as mark
use Rattle.heap_core.specs.declared.plans.Change.{Change}
use Rattle.heap_core.specs.declared.plans.Change.TheVariants as change
use Rattle.zones.specs.declared.states.State.TheVariants as state
use Rattle.colour_defs.proofs.Lists.{contains_head}
use Rattle.heap_core.specs.Shape.{state_in, zone_of}
use Rattle.heap_core.specs.Heap.{HeapState, weak_of}
use Rattle.heap_core.specs.Plans.{ChangesBy}
use Rattle.mark_stack.specs.Stack.{Piles}
use Rattle.gray_lists.specs.Incoming.{Incoming, list_at, list_of, waiting_count}
use Rattle.std.proofs.Common.{sum_by}
use Rattle.std.proofs.lemmas.List.Sums.{sum_by-cons}
use Rattle.weak_maps.specs.declared.entries.WeakEntry.{WeakEntry}
use Rattle.slice_driver.specs.Represents.{NothingLeft, WaitsWhileMarking}
use Rattle.slice_driver.proofs.basics.LeftLooks.{none_more}

pub none_in_it : {X : Type 0} (xs : List X) → ((x : X) → Contains xs x → ⊥) → xs ≡ []
none_in_it [] none = refl
none_in_it (x ∷ xs) none = absurd (none x (contains_head x xs))

-- where no zone takes gray, the gray pile is empty
pub none_piled : (h : HeapState) (p : Piles) (lists : Incoming) → WaitsWhileMarking h p lists
    → ((z : ℕ) → state_in h.shape z ≢ state.MarkBlackAndGray) → p.gray ≡ []
none_piled h p lists waits none = none_in_it p.gray (λ x has. none (zone_of h.shape x) (waits.piled x has))

-- entries and rows went, and the others are to be looked at as they were
there : {X : Type 0} (xs : List X) (n : ℕ) → n < length xs → (x : X) × (slice_get xs n ≡ Some x)
there xs n lt = elim (slice_get_cases xs n).1 [
  | inl some ↦ (some.0, some.2)
  | inr none ↦ absurd (omega (arith, lt, none.0))
]

pub none_carried : (c : MarkColour) (old new : WeakMapsState) → Carries old new → AreParallel new
    → NoneLeft c old.looks → NoneLeft c new.looks
none_carried c old new carries parallel none = (
  λ n. (
    λ at. (
        let lt = slice_get_within new.looks.by_map n (Some c) at in
        let stands = there new.table.entries n (omega (arith, lt, parallel.0)) in
        let from = carries.from n stands.0 stands.1 in
        (none.0 from.0).0 (sym from.2 ∙ at)),
    λ at. (
        let lt = slice_get_within new.looks.by_key n (Some c) at in
        let stands = there new.table.entries n (omega (arith, lt, parallel.1)) in
        let from = carries.from n stands.0 stands.1 in
        (none.0 from.0).1 (sym from.3 ∙ at)),
  ),
  λ n at. (
      let lt = slice_get_within new.looks.by_delegate n (Some c) at in
      let stands = there new.table.delegates.rows n (omega (arith, lt, parallel.2)) in
      let from = carries.from_row n stands.0 stands.1 in
      none.1 from.0 (sym from.2 ∙ at)),
)

none_put : (c : MarkColour) (was : Option Place) (delegate : Option Delegate) (old new : LooksState)
    → PutsLeft was delegate old new → NoneLeft c old → NoneLeft c new
none_put c (Some v) delegate old new same none = subst (λ (l : LooksState). NoneLeft c l) (sym same) none
none_put c None delegate old new more none = subst (λ (l : LooksState). NoneLeft c l) (sym more) (
  λ n. (λ at. (none.0 n).0 (none_more c old.by_map n at), λ at. (none.0 n).1 (none_more c old.by_key n at)),
  rows delegate,
)
  where
    rows : (d : Option Delegate) (n : ℕ) → slice_get (looks_with old.by_delegate d) n ≢ Some (Some c)
    rows None n at = none.1 n at
    rows (Some d) n at = none.1 n (none_more c old.by_delegate n at)

nothing_same : (old new : LooksState) → new ≡ old → NothingLeft old → NothingLeft new
nothing_same old new same nothing = subst (λ (l : LooksState). NothingLeft l) (sym same) nothing

-- so no command leaves anything
pub nothing_changed : (h k : HeapState) (ch : Change) (answer : Reply) → ChangesBy h ch answer k → NothingLeft h.looks
    → NothingLeft k.looks
nothing_changed h k change.Zone answer by nothing =
    nothing_same h.looks k.looks (ap (λ (z : HeapState). z.looks) by.0) nothing
nothing_changed h k (change.Comp n) answer by nothing =
    nothing_same h.looks k.looks (ap (λ (z : HeapState). z.looks) by.0) nothing
nothing_changed h k (change.Cell r n d e) answer by nothing =
    nothing_same h.looks k.looks
    (ap (λ (z : HeapState). z.looks) by.0.rest ∙ ap (λ (z : HeapState). z.looks) by.0.makes.rest) nothing
nothing_changed h k (change.Wrapper r n d t) answer by nothing =
    nothing_same h.looks k.looks
    (ap (λ (z : HeapState). z.looks) by.0.rest ∙ ap (λ (z : HeapState). z.looks) by.0.makes.rest
    ∙ ap (λ (z : HeapState). z.looks) by.0.makes.makes.rest) nothing
nothing_changed h k (change.Register r v named) answer by nothing =
    nothing_same h.looks k.looks (ap (λ (z : HeapState). z.looks) by.0) nothing
nothing_changed h k (change.Slot g v) answer by nothing =
    nothing_same h.looks k.looks (ap (λ (z : HeapState). z.looks) by.0) nothing
nothing_changed h k (change.Field p f v) answer by nothing =
    nothing_same h.looks k.looks (ap (λ (z : HeapState). z.looks) by.0.rest) nothing
nothing_changed h k (change.Put m n v) answer by nothing = (
  none_put mark.Gray (value_of h.shape.weak m n) _ h.looks k.looks by.0.left nothing.0,
  none_put mark.Black (value_of h.shape.weak m n) _ h.looks k.looks by.0.left nothing.1,
)
nothing_changed h k (change.Del m n) answer by nothing = (
  none_carried mark.Gray (weak_of h) (weak_of k) by.0.carries by.0.parallel nothing.0,
  none_carried mark.Black (weak_of h) (weak_of k) by.0.carries by.0.parallel nothing.1,
)

-- an entry that was looked at was to be looked at
pub looked_one : (c : MarkColour) (handed : WeakEntry) (weak : WeakTableState) (old new : LooksState)
    → HasLooked c handed weak old new → NothingLeft old → ⊥
looked_one c handed weak old new looked nothing = elim looked.looked [
  | inl (was, _) ↦ ((none c).0 looked.number).0 was
  | inr (inl (was, _)) ↦ ((none c).0 looked.number).1 was
  | inr (inr (n, row, was, _)) ↦ (none c).1 n was
]
  where
    none : (c : MarkColour) → NoneLeft c old
    none mark.Gray = nothing.0
    none mark.Black = nothing.1

-- where all lists are empty, nothing waits
all_empty : (lists : List (List Place)) → ((c : ℕ) → list_at lists c ≡ []) → sum_by length lists ≡ 0
all_empty [] none = refl
all_empty (xs ∷ lists) none =
    omega (
      arith,
      sum_by-cons (λ (ys : List Place). length ys) xs lists,
      all_empty lists (λ c. none (suc c)),
      ap (λ (ys : List Place). length ys) (none 0),
    )

pub none_waiting : (lists : Incoming) → ((c : ℕ) → list_of lists c ≡ []) → waiting_count lists ≡ 0
none_waiting lists none = all_empty lists.lists none

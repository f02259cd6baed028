-- While a collection is being prepared, what is to come of it is what is still to be cleared.
use Rattle.std.proofs.Common.{◌≡◌, ◌<◌, ◌≤◌, ◌+◌, ◌-◌, ◌&&◌, ◌||◌, ℕ, zero, suc, Bool, true, false, List, [], ◌∷◌}
use Rattle.std.proofs.Common.{Option, is_some, inl, inr, refl, sym, ap, ◌∙◌, arith, slice_get, sum_by}
use Rattle.std.proofs.lemmas.List.Sums.{sum_by-cons}
use Rattle.std.specs.Prelude.{if◌then◌else◌}
use Rattle.gz_names.specs.declared.numbers.Place.{Place}
use Rattle.cell_bits.specs.declared.bits.Bits.{Bits}
use Rattle.zones.specs.declared.states.State.{State}
use Rattle.zones.specs.declared.states.State.TheVariants as state
use Rattle.weak_maps.specs.declared.entries.WeakEntry.{WeakEntry}
use Rattle.colour_defs.specs.World.{World}
use Rattle.gray_lists.specs.Incoming.{Incoming, list_of as waiting_for}
use Rattle.mark_stack.specs.Stack.{Piles}
use Rattle.barriers.specs.PendingLive.{buffer_of}
use Rattle.heap_core.specs.Shape.{Shape, is_marking_state, is_owned, name_at, state_in, state_of, state_or, zone_of}
use Rattle.heap_core.specs.Heap.{HeapState, colour_of}
use Rattle.barriers.specs.Scans.{black_scans, black_turns, gray_scans}
use Rattle.zone_edges.specs.Looks.{left_to_look}
use Rattle.marker.specs.UnitsToCome.{is_black_only, map_starts, row_starts, scans, starts_of, units_at}
use Rattle.slice_driver.specs.Collector.{CollectorState, heap_with}
use Rattle.slice_driver.specs.Remaining.{clearing_left, grouping_left, owned_from, steps_left, steps_of}
use Rattle.slice_driver.specs.Remaining.{ungrouped_below}
use Rattle.slice_driver.specs.Represents.{NothingLeft, RepresentsPreparing}
use Rattle.slice_driver.specs.UnitsToCome.{is_wrapper_named, marking_to_come, notes, present_places, units_to_come}
use Rattle.slice_driver.proofs.abstraction.Waits.{none_waiting}
use Rattle.slice_driver.proofs.measure.FewUnits.{none_buffered}
use Rattle.slice_driver.proofs.measure.FewerEntries.{none_now}
use Rattle.slice_driver.proofs.taking_in.Runs.{has_zone_or_not}

sum_none : {X : Type 0} (f : X → ℕ) (xs : List X) → ((x : X) → f x ≡ 0) → sum_by f xs ≡ 0
sum_none f [] none = refl
sum_none f (x ∷ xs) none =
    let here = none x in
    let rest = sum_none f xs none in
    let both = sum_by-cons f x xs in
    omega (arith, here, rest, both)

no_steps : (xs : List State) → ((z : ℕ) → steps_of (state_or (slice_get xs z)) ≡ 0) → steps_left xs ≡ 0
no_steps [] none = refl
no_steps (x ∷ xs) none =
    let here = none 0 in
    let rest = no_steps xs (λ z. none (suc z)) in
    omega (arith, here, rest)

-- the next arena that is owned is as far on as those before it are not
pub owned_next : (s : Shape) (w k from n rest : ℕ)
    → ((o : ℕ) → from ≤ o → o < from + k → is_owned s w o ≡ false) → is_owned s w (from + k) ≡ true
    → n ≡ k + suc rest → owned_from s w from n ≡ 1 + owned_from s w (suc (from + k)) rest
unfolding owned_from
owned_next s w zero from zero rest none here e = absurd (omega (arith, e))
owned_next s w zero from (suc n) rest none here e =
    let same : n ≡ rest = omega (arith, e) in
    let at : from + 0 ≡ from = omega arith in
    let one : ◌≡◌ {A = ℕ} (if is_owned s w from then 1 else 0) 1 = ap (λ (b : Bool). if b then 1 else 0)
    (ap (is_owned s w) (sym at) ∙ here) in
    let more : owned_from s w (suc from) n ≡ owned_from s w (suc (from + 0)) rest =
    ap (λ (f : ℕ). owned_from s w (suc f) n) (sym at) ∙ ap (λ (m : ℕ). owned_from s w (suc (from + 0)) m) same in
    omega (arith, one, more)
owned_next s w (suc k) from zero rest none here e = absurd (omega (arith, e))
owned_next s w (suc k) from (suc n) rest none here e =
    let at : suc from + k ≡ from + suc k = omega arith in
    let none_here : ◌≡◌ {A = ℕ} (if is_owned s w from then 1 else 0) 0 = ap (λ (b : Bool). if b then 1 else 0)
    (none from (omega arith) (omega arith)) in
    let on = owned_next s w k (suc from) n rest (λ o ge lt. none o (omega (arith, ge)) (omega (arith, lt)))
    (ap (is_owned s w) at ∙ here) (omega (arith, e)) in
    let tail : owned_from s w (suc (suc from + k)) rest ≡ owned_from s w (suc (from + suc k)) rest =
    ap (λ (f : ℕ). owned_from s w (suc f) rest) at in
    omega (arith, none_here, on, tail)

pub owned_none : (s : Shape) (w from n : ℕ) → ((o : ℕ) → from ≤ o → o < from + n → is_owned s w o ≡ false)
    → owned_from s w from n ≡ 0
unfolding owned_from
owned_none s w from zero none = refl
owned_none s w from (suc n) none =
    let here : ◌≡◌ {A = ℕ} (if is_owned s w from then 1 else 0) 0 = ap (λ (b : Bool). if b then 1 else 0)
    (none from (omega arith) (omega arith)) in
    let rest = owned_none s w (suc from) n (λ o ge lt. none o (omega (arith, ge)) (omega (arith, lt))) in
    omega (arith, here, rest)

either : (p q : Bool) → q ≡ true → (p || q) ≡ true
either true q e = refl
either false q e = e

-- no zone is marking, and nothing waits for one
pub record NothingMarks (h : HeapState) (lists : Incoming) : Type 0 where
  pub off : (z : ℕ) → is_marking_state (state_in h.shape z) ≡ false
  pub looks : NothingLeft h.looks
  pub buffered : (z : ℕ) → buffer_of h z ≡ []
  pub incoming : (n : ℕ) → waiting_for lists n ≡ []

not_black_only : (s : State) → is_marking_state s ≡ false → is_black_only s ≡ false
not_black_only state.NoGC off = refl
not_black_only state.Prepare off = refl
not_black_only state.MarkBlackOnly off = absurd (cc off)
not_black_only state.MarkBlackAndGray off = absurd (cc off)
not_black_only state.Sweep off = refl
not_black_only state.Finished off = refl

no_step : (s : State) → is_marking_state s ≡ false → steps_of s ≡ 0
no_step state.NoGC off = refl
no_step state.Prepare off = refl
no_step state.MarkBlackOnly off = absurd (cc off)
no_step state.MarkBlackAndGray off = absurd (cc off)
no_step state.Sweep off = refl
no_step state.Finished off = refl

-- so no unit of marking is to come, and no step
module _ (h : HeapState) (p : Piles) (lists : Incoming) (none : NothingMarks h lists) where
  no_scans : (x : Place) → scans h p x ≡ 0
  no_scans x = ap (λ (b : Bool). if b then black_scans h p x + gray_scans h p x else 0)
      (none.off (zone_of h.shape x))

  no_map_starts : (x : Place) → map_starts h p x ≡ 0
  no_map_starts x =
      let scanned = no_scans x in
      let more = ap (λ (b : Bool). if b then 1 - black_turns (colour_of h x) else 0)
      (not_black_only (state_of h.shape x) (none.off (zone_of h.shape x))) in
      omega (arith, scanned, more)

  no_starts : (e : WeakEntry) → starts_of h p e ≡ 0
  no_starts e =
      let map = no_map_starts e.map in
      let key = no_scans e.key in
      omega (arith, map, key)

  no_notes : (x : Place) → notes h p x ≡ 0
  no_notes x = ap (λ (b : Bool). if b && is_wrapper_named (name_at h.shape x) then gray_scans h p x else 0)
      (none.off (zone_of h.shape x))

  pub none_marking : marking_to_come h p lists ≡ 0
  unfolding units_at
  none_marking =
      let cells = sum_none (scans h p) (present_places h.shape) no_scans in
      let entries = sum_none (starts_of h p) h.shape.weak.entries no_starts in
      let rows = sum_none (row_starts h p) h.shape.weak.delegates.rows (λ row. no_scans row.target) in
      let noted = sum_none (notes h p) (present_places h.shape) no_notes in
      let looks = none_now h.looks none.looks.0 none.looks.1 in
      let waiting = none_waiting lists none.incoming in
      let buffers = none_buffered h.buffers none.buffered in
      omega (arith, cells, entries, rows, noted, looks, waiting, buffers)

  pub none_steps : steps_left h.shape.states ≡ 0
  none_steps = no_steps h.shape.states (λ z. no_step (state_in h.shape z) (none.off z))

module _ (c : CollectorState) (flown : ℕ → Option Bits) (w : World) (rep : RepresentsPreparing c flown w) where
  abbrev h : HeapState
  h = heap_with c flown

  -- a zone is in no collection, or is being prepared
  nothing_marks : NothingMarks h c.lists
  nothing_marks = record {
    off = λ z. elim (has_zone_or_not rep.run.zones.bits z) [
      | inl has ↦ ap is_marking_state (rep.phase.inside z has)
      | inr out ↦ ap is_marking_state (rep.phase.outside z out)
    ];
    looks = rep.cleared.waits.looks;
    buffered = rep.cleared.waits.buffered;
    incoming = rep.cleared.waits.incoming;
  }

  none_grouping : grouping_left c.heap.shape c.edges c.run ≡ 0
  none_grouping = ap (grouping_left c.heap.shape c.edges) rep.run_is
      ∙ ap (λ (b : Bool). if b then 0 else left_to_look c.heap.shape c.edges
      + ungrouped_below c.edges 64)
      (either rep.run.formed (is_some rep.run.clearing) (ap is_some rep.clearing))

  -- what is to come is what is still to be cleared
  pub to_come_is : units_to_come c flown ≡ clearing_left c.heap.shape c.run
  unfolding units_to_come
  to_come_is =
      let marking = none_marking h c.stack c.lists nothing_marks in
      let grouping = none_grouping in
      let steps = none_steps h c.stack c.lists nothing_marks in
      omega (arith, marking, grouping, steps)

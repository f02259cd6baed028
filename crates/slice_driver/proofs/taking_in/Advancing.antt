-- Zones that go on to their next states one after another.
use Rattle.std.proofs.Common.{◌≡◌, ◌≢◌, ◌↔◌, ℕ, length, length-set, refl, sym, ap, subst, ◌∙◌, inl, inr}
use Rattle.std.proofs.Common.{Option, Some, None, slice_get, slice_set, IsSomeAnd}
use Rattle.std.proofs.lemmas.Bool.{cases_eq}
use Rattle.std.proofs.lemmas.Option.{slice_get_within}
use Rattle.gray_lists.proofs.Reading.{slice_get-set_same, slice_get-set_other}
use Rattle.gz_names.specs.Zones.{HasZone}
use Rattle.zones.specs.States.{next_state}
use Rattle.zones.specs.declared.states.State.{State}
use Rattle.heap_core.specs.Shape.{state_in, state_or}
use Rattle.heap_core.specs.Heap.{HeapState}

-- the zones of a word went on but for those that are left, and nothing else changed
pub record HasAdvanced (word left : ℕ) (h k : HeapState) : Type 0 where
  pub rest : k ≡ record h { shape = record h.shape { states = k.shape.states } }
  pub count : length k.shape.states ≡ length h.shape.states
  pub within : (z : ℕ) → HasZone left z → HasZone word z
  pub gone_on : (z : ℕ) → HasZone word z → (HasZone left z → ⊥) → state_in k.shape z ≡ next_state (state_in h.shape z)
  pub waiting : (z : ℕ) → HasZone left z → state_in k.shape z ≡ state_in h.shape z
  pub others : (z : ℕ) → (HasZone word z → ⊥) → state_in k.shape z ≡ state_in h.shape z

-- one that is left goes on
module _ (word left i : ℕ) (h k : HeapState) (was : HasAdvanced word left h k) (is_left : HasZone left i) (fewer : ℕ)
    (without : (z : ℕ) → HasZone fewer z ↔ (HasZone left z × (z ≢ i))) where
  module _ (s : State) (found : slice_get k.shape.states i ≡ Some s) where
    abbrev next : HeapState
    next = record k { shape = record k.shape { states = slice_set k.shape.states i (next_state s) } }

    now : state_in next.shape i ≡ next_state s
    now = ap state_or (slice_get-set_same k.shape.states i (next_state s) (slice_get_within k.shape.states i s found))

    elsewhere : (z : ℕ) → z ≢ i → state_in next.shape z ≡ state_in k.shape z
    elsewhere z ne = ap state_or (slice_get-set_other k.shape.states i z (next_state s) ne)

    state_was : state_in h.shape i ≡ s
    state_was = sym (was.waiting i is_left) ∙ ap state_or found

    pub advances : HasAdvanced word fewer h next
    advances = record {
      rest = ap (λ (l : HeapState).
          record l { shape = record l.shape { states = slice_set k.shape.states i (next_state s) } }) was.rest;
      count = length-set k.shape.states i (next_state s) ∙ was.count;
      within = λ z has. was.within z ((without z).0 has).0;
      gone_on = λ z has done. elim (cases_eq z i) [
        | inl is ↦ ap (state_in next.shape) is
            ∙ (now ∙ (ap next_state (sym state_was) ∙ ap (λ y. next_state (state_in h.shape y)) (sym is)))
        | inr ne ↦ elsewhere z ne ∙ was.gone_on z has (λ there. done ((without z).1 (there, ne)))
      ];
      waiting = λ z has. elsewhere z ((without z).0 has).1 ∙ was.waiting z ((without z).0 has).0;
      others = λ z n. elsewhere z (λ e. n (was.within z (subst (λ y. HasZone left y) (sym e) is_left)))
          ∙ was.others z n;
    }

  pub advanced_next : (l : HeapState)
      → IsSomeAnd (slice_get k.shape.states i)
      (λ s. l ≡ record k { shape = record k.shape { states = slice_set k.shape.states i (next_state s) } })
      → HasAdvanced word fewer h l
  advanced_next l ok = go (slice_get k.shape.states i) refl ok
    where
      go : (o : Option State) → slice_get k.shape.states i ≡ o
          → IsSomeAnd o (λ s. l
          ≡ record k { shape = record k.shape { states = slice_set k.shape.states i (next_state s) } })
          → HasAdvanced word fewer h l
      go None at none = absurd none
      go (Some s) at is = subst (λ x. HasAdvanced word fewer h x) (sym is) (advances s at)

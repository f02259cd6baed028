-- Zones that were swept are finished, and a collection is over.
use Rattle.std.proofs.Common.{◌≡◌, ◌≢◌, ◌↔◌, ℕ, true, false, Option, None, Some, IsSome, is_some, List, [], ◌∷◌}
use Rattle.std.proofs.Common.{slice_get, refl, sym, ap, ◌∙◌}
use Rattle.gz_names.specs.Zones.{HasZone}
use Rattle.gz_names.specs.declared.zone_sets.ZoneSet.{ZoneSet}
use Rattle.cell_bits.specs.declared.bits.Bits.{Bits}
use Rattle.zones.specs.declared.states.State.{State}
use Rattle.zones.specs.declared.states.State.TheVariants as state
use Rattle.zones.specs.States.{next_state}
use Rattle.heap_core.specs.Shape.{out_of, state_in, state_or}
use Rattle.heap_core.specs.Heap.{HeapState}
use Rattle.slice_driver.specs.Advancing.{Advances, EndsSweeping, after_end}
use Rattle.slice_driver.specs.Sweeping.{after_sweep}

-- exactly the zones in a state
abbrev pub AreInState : HeapState → State → ℕ → Type 0
AreInState h t word = (z : ℕ) → HasZone word z ↔ (slice_get h.shape.states z ≡ Some t)

state_there : (states : List State) (z : ℕ) (t : State) → t ≢ state.NoGC → state_or (slice_get states z) ≡ t
    → slice_get states z ≡ Some t
state_there states z t ne e = go (slice_get states z) refl e
  where
    go : (o : Option State) → slice_get states z ≡ o → state_or o ≡ t → slice_get states z ≡ Some t
    go None f e = absurd (ne (sym e))
    go (Some s) f e = f ∙ ap (λ x. Some x) e

module _ (h k : HeapState) (t : State) (word : ℕ) (are : AreInState h t word) (goes : Advances h word k)
    (ne : t ≢ state.NoGC) where
  went : (z : ℕ) → state_in h.shape z ≡ t → state_in k.shape z ≡ next_state t
  went z e = goes.gone_on z ((are z).1 (state_there h.shape.states z t ne e)) ∙ ap next_state e

  stayed : (z : ℕ) (s : State) → state_in h.shape z ≡ s → s ≢ t → state_in k.shape z ≡ s
  stayed z s e other = goes.others z (λ has. other (sym e ∙ ap state_or ((are z).0 has))) ∙ e

pub sweep_ends : (h k : HeapState) (word : ℕ) → AreInState h state.Sweep word → Advances h word k → (z : ℕ)
    → state_in k.shape z ≡ after_sweep (state_in h.shape z)
sweep_ends h k word are goes z = go (state_in h.shape z) refl
  where
    go : (t : State) → state_in h.shape z ≡ t → state_in k.shape z ≡ after_sweep t
    go state.NoGC e = stayed h k state.Sweep word are goes (λ q. cc q) z state.NoGC e (λ q. cc q)
    go state.Prepare e = stayed h k state.Sweep word are goes (λ q. cc q) z state.Prepare e (λ q. cc q)
    go state.MarkBlackOnly e = stayed h k state.Sweep word are goes (λ q. cc q) z state.MarkBlackOnly e (λ q. cc q)
    go state.MarkBlackAndGray e = stayed h k state.Sweep word are goes (λ q. cc q) z state.MarkBlackAndGray e
        (λ q. cc q)
    go state.Sweep e = went h k state.Sweep word are goes (λ q. cc q) z e
    go state.Finished e = stayed h k state.Sweep word are goes (λ q. cc q) z state.Finished e (λ q. cc q)

pub all_ends : (h k m : HeapState) (word : ℕ) → ((z : ℕ) → state_in k.shape z ≡ after_sweep (state_in h.shape z))
    → AreInState k state.Finished word → Advances k word m → (z : ℕ)
    → state_in m.shape z ≡ after_end (state_in h.shape z)
all_ends h k m word swept are goes z = go (state_in h.shape z) refl
  where
    was : (t : State) → state_in h.shape z ≡ t → state_in k.shape z ≡ after_sweep t
    was t e = swept z ∙ ap after_sweep e

    go : (t : State) → state_in h.shape z ≡ t → state_in m.shape z ≡ after_end t
    go state.NoGC e = stayed k m state.Finished word are goes (λ q. cc q) z state.NoGC (was state.NoGC e) (λ q. cc q)
    go state.Prepare e = stayed k m state.Finished word are goes (λ q. cc q) z state.Prepare (was state.Prepare e)
        (λ q. cc q)
    go state.MarkBlackOnly e = stayed k m state.Finished word are goes (λ q. cc q) z state.MarkBlackOnly
        (was state.MarkBlackOnly e) (λ q. cc q)
    go state.MarkBlackAndGray e = stayed k m state.Finished word are goes (λ q. cc q) z state.MarkBlackAndGray
        (was state.MarkBlackAndGray e) (λ q. cc q)
    go state.Sweep e = went k m state.Finished word are goes (λ q. cc q) z (was state.Sweep e)
    go state.Finished e = went k m state.Finished word are goes (λ q. cc q) z (was state.Finished e)

some_out : (o : Option Bits) → IsSome o → o ≡ None → ⊥
some_out None s e = cc s
some_out (Some b) s e = cc e

-- an arena is out still
pub still_out : (h : HeapState) (groups : List ZoneSet) (a : ℕ) → IsSome (out_of h.shape a)
    → EndsSweeping h groups false h
still_out h groups a out = record {
  rest = refl;
  sized = refl;
  still = λ b some. (refl, λ z. refl);
  swept = λ none over. absurd (some_out (out_of h.shape a) out (none a));
  ended = λ over. absurd (cc over);
}

module _ (h k : HeapState) (groups : List ZoneSet) (word : ℕ) (none : (a : ℕ) → out_of h.shape a ≡ None)
    (are : AreInState h state.Sweep word) (goes : Advances h word k) where
  -- a group is left
  pub group_left : (groups ≡ [] → ⊥) → EndsSweeping h groups false k
  group_left left = record {
    rest = goes.rest;
    sized = goes.sized;
    still = λ b some. absurd (some_out (out_of h.shape b) some (none b));
    swept = λ n over. (left, sweep_ends h k word are goes);
    ended = λ over. absurd (cc over);
  }

  -- none is
  pub none_left : (m : HeapState) (more : ℕ) → groups ≡ [] → AreInState k state.Finished more → Advances k more m
      → EndsSweeping h groups true m
  none_left m more empty those goes' = record {
    rest = goes'.rest ∙ ap (λ (l : HeapState). record l { shape = record l.shape { states = m.shape.states } })
        goes.rest;
    sized = goes'.sized ∙ goes.sized;
    still = λ b some. absurd (some_out (out_of h.shape b) some (none b));
    swept = λ n over. absurd (cc over);
    ended = λ over. (empty, none, all_ends h k m more (sweep_ends h k word are goes) those goes');
  }

pub first_none : (groups : List ZoneSet) → slice_get groups 0 ≡ None → groups ≡ []
first_none [] e = refl
first_none (g ∷ gs) e = absurd (cc e)

pub not_first : (groups : List ZoneSet) → is_some (slice_get groups 0) ≡ true → groups ≡ [] → ⊥
not_first [] e n = cc e
not_first (g ∷ gs) e n = cc n

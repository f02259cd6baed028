-- The arenas whose zones are marking.
use Rattle.std.proofs.Common.{◌≡◌, ◌↔◌, ℕ, ◌+◌, ◌<◌, Bool, true, false, List, [], ◌∷◌, ◌++◌, length, Option, Some, None}
use Rattle.std.proofs.Common.{IsSomeAnd, inl, inr, refl, sym, ap, ◌∙◌, subst, arith, slice_get, nat_lt, if◌then◌else◌}
use Rattle.std.proofs.Common.{lt→ltb}
use lib.Dec.{T}
use Rattle.std.proofs.lemmas.Option.{slice_get_cases}
use mathlib.Core.Logic.{dite}
use native.Mathlib.Decide.{ℕ_discrete}
use Rattle.gz_names.specs.Zones.{HasZone}
use Rattle.zones.specs.States.{IsMarking}
use Rattle.zones.specs.declared.states.State.{State}
use Rattle.zones.specs.declared.states.State.TheVariants as state
use Rattle.weak_maps.proofs.Reading.{slice_get-push_at, slice_get-push_before}
use Rattle.heap_core.specs.Shape.{ArenaShape, is_marking, is_marking_state, owner_in, owner_of, state_in}
use Rattle.heap_core.specs.Shape.{state_or, zone_in}
use Rattle.heap_core.specs.Heap.{HeapState}
use Rattle.par_mark.specs.Heaps.{AreMarking, KnowsMarking}

marks : (o : Option State) → IsSomeAnd o IsMarking → is_marking_state (state_or o) ≡ true
marks None is = absurd is
marks (Some found) (inl e) = ap is_marking_state e
marks (Some found) (inr e) = ap is_marking_state e

marked : (o : Option State) → is_marking_state (state_or o) ≡ true → IsSomeAnd o IsMarking
marked None on = absurd (cc on)
marked (Some state.NoGC) on = absurd (cc on)
marked (Some state.Prepare) on = absurd (cc on)
marked (Some state.MarkBlackOnly) on = inl refl
marked (Some state.MarkBlackAndGray) on = inr refl
marked (Some state.Sweep) on = absurd (cc on)
marked (Some state.Finished) on = absurd (cc on)

below : (word z : ℕ) → HasZone word z → z < 64
unfolding HasZone
below word z has = has.0

-- of whom the owner is known, and who has none
owner_is : (zone z : ℕ) (b : Bool) → Some zone ≡ (if b then Some z else None) → z ≡ zone
owner_is zone z true e = cc e
owner_is zone z false e = absurd (cc e)

no_owner : (z : ℕ) (b : Bool) → None ≡ (if b then Some z else None) → b ≡ false
no_owner z true e = absurd (cc e)
no_owner z false e = refl

module _ (h : HeapState) (word : ℕ) (are : AreMarking h word) where
  zone_marking : (z : ℕ) (r : Bool) → ((r ≡ true) ↔ HasZone word z) → is_marking_state (state_in h.shape z) ≡ r
  zone_marking z true is = marks (slice_get h.shape.states z) ((are z).0 (is.0 refl))
  zone_marking z false is = go (is_marking_state (state_in h.shape z)) refl
    where
      go : (b : Bool) → is_marking_state (state_in h.shape z) ≡ b → is_marking_state (state_in h.shape z) ≡ false
      go false e = e
      go true e = absurd (let on = is.1 ((are z).1 (marked (slice_get h.shape.states z) e)) in cc on)

  pub owned : (a slot zone : ℕ) (r : Bool) → Some zone ≡ owner_of h.shape a → ((r ≡ true) ↔ HasZone word zone)
      → is_marking h.shape (a, slot) ≡ r
  owned a slot zone r e is = go (slice_get h.shape.arenas a) refl
    where
      go : (o : Option ArenaShape) → slice_get h.shape.arenas a ≡ o → is_marking h.shape (a, slot) ≡ r
      go None at = absurd (let none = e ∙ ap owner_in at in cc none)
      go (Some arena) at = ap (λ (o : Option ArenaShape). is_marking_state (state_in h.shape (zone_in o))) at
          ∙ ap (λ (z : ℕ). is_marking_state (state_in h.shape z))
          (owner_is zone arena.zone (nat_lt arena.zone 64) (e ∙ ap owner_in at))
          ∙ zone_marking zone r is

  pub unowned : (a slot : ℕ) → a < length h.shape.arenas → None ≡ owner_of h.shape a
      → is_marking h.shape (a, slot) ≡ false
  unowned a slot made e = elim ((slice_get_cases h.shape.arenas a).1) [
    | inl found ↦ (
        let arena = found.0 in
        let at = found.2 in
        let past = no_owner arena.zone (nat_lt arena.zone 64) (e ∙ ap owner_in at) in
        ap (λ (o : Option ArenaShape). is_marking_state (state_in h.shape (zone_in o))) at
        ∙ zone_marking arena.zone false
        ((λ t. absurd (cc t)), (λ has. absurd (subst T past (lt→ltb arena.zone 64 (below word arena.zone has)))))
        )
    | inr none ↦ absurd (omega (arith, none.0))
  ]

-- one arena more
pub knows_more : (h : HeapState) (n : ℕ) (marking : List Bool) (r : Bool) → KnowsMarking h n marking
    → length marking ≡ n → ((slot : ℕ) → is_marking h.shape (n, slot) ≡ r)
    → KnowsMarking h (n + 1) (marking ++ r ∷ [])
knows_more h n marking r knows same is a slot lt = dite (ℕ_discrete a n)
    (λ e. ap (slice_get (marking ++ r ∷ [])) (e ∙ sym same) ∙ slice_get-push_at marking r
    ∙ ap (λ (b : Bool). Some b) (sym (is slot)) ∙ ap (λ (x : ℕ). Some (is_marking h.shape (x, slot))) (sym e))
    (λ ne. slice_get-push_before marking a r (omega arith) ∙ knows a slot (omega arith))

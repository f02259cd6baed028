use Rattle.std.proofs.Common.{◌≡◌, false, true, ℕ, IfNone, IfSome, MatchBool, None, Option, Some, ap, is_some, refl}
use Rattle.std.proofs.Common.{subst, sym}
use Rattle.gz_names.specs.Zones.{HasZone}
use Rattle.zones.specs.declared.states.State.{State}
use Rattle.zones.specs.declared.states.State.TheVariants as state
use Rattle.heap_core.specs.Shape.{is_prepare_state, is_prepared, state_or}
use Rattle.heap_core.proofs.heap.Heap.is_preparing.Goals as goal

-- a zone in another state is not being prepared
other_state : (o : Option State) → (o ≡ Some state.Prepare → ⊥) → is_prepare_state (state_or o) ≡ false
other_state None other = refl
other_state (Some state.NoGC) other = refl
other_state (Some state.Prepare) other = absurd (other refl)
other_state (Some state.MarkBlackOnly) other = refl
other_state (Some state.MarkBlackAndGray) other = refl
other_state (Some state.Sweep) other = refl
other_state (Some state.Finished) other = refl

pub returns : goal.returns
returns c = subst (λ b. MatchBool b ((z : ℕ) × (is_prepared c.args.self.now.shape z ≡ true))
    ((z : ℕ) → is_prepared c.args.self.now.shape z ≡ false)) (sym c.is_some.ensures)
    (by c.first.result c.first.ensures.some c.first.ensures.none)
  where
    by : (o : Option ℕ) → IfSome o (λ z. HasZone c.preparing-zones.result.bits z)
        → IfNone o ((z : ℕ) → HasZone c.preparing-zones.result.bits z → ⊥)
        → MatchBool (is_some o) ((z : ℕ) × (is_prepared c.args.self.now.shape z ≡ true))
        ((z : ℕ) → is_prepared c.args.self.now.shape z ≡ false)
    by (Some z) some none = (z, ap (λ o. is_prepare_state (state_or o)) ((c.preparing-zones.ensures z).0 some))
    by None some none = λ z. other_state _ (λ is. none z ((c.preparing-zones.ensures z).1 is))

-- Whether a collection is over.
use Rattle.std.proofs.Common.{◌≡◌, ◌⊎◌, inl, inr, ℕ, List, [], ◌∷◌, Some, None, refl}
use Rattle.judge.specs.Stages as judged
use Rattle.judge.specs.Stages.{Shown, Stage, collecting, idle, preparing}

-- whether it is over
over_of_stage : (s : Shown) (u : Stage) (out : List ℕ) → s.stage ≡ u → s.out ≡ out
    → judged.IsOver s ⊎ (judged.IsOver s → ⊥)
over_of_stage s idle out e f = inr (λ o. cc (e, o.ended))
over_of_stage s (preparing z) out e f = inr (λ o. cc (e, o.ended))
over_of_stage s (collecting z m None) out e f = inr (λ o. cc (e, o.ended))
over_of_stage s (collecting z m (Some (g ∷ gs))) out e f = inr (λ o. cc (e, o.ended))
over_of_stage s (collecting z m (Some [])) [] e f =
    inl (record { zones = z; marking = m; ended = e; none_out = f })
over_of_stage s (collecting z m (Some [])) (a ∷ more) e f = inr (λ o. cc (f, o.none_out))

pub over_or : (s : Shown) → judged.IsOver s ⊎ (judged.IsOver s → ⊥)
over_or s = over_of_stage s s.stage s.out refl refl

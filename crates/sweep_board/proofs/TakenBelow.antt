-- Arenas taken in ascending order.
use Rattle.std.proofs.Common.{◌≡◌, ◌≢◌, ℕ, ◌+◌, ◌||◌, Bool, eqb, [], ◌∷◌, ap, ◌∙◌, arith, eq-eqb, ne_eqb}
use Rattle.std.specs.List.{list_any}
use mathlib.Core.Logic.{dite}
use native.Mathlib.Decide.{ℕ_discrete}
use Rattle.sweep_board.specs.declared.view.View.{View}
use Rattle.sweep_board.specs.Views.{HasTakenBelow}

pub taken_below-none : (v : View) → v.taken ≡ [] → HasTakenBelow v 0
taken_below-none v none =
    record { taken = λ i lt. absurd (omega arith); out = λ i le. ap (list_any (λ t. eqb t i)) none }

pub taken_below-more : (v w : View) (n : ℕ) → HasTakenBelow v n → w.taken ≡ n ∷ v.taken → HasTakenBelow w (n + 1)
taken_below-more v w n was e = record {
  taken = λ i lt. dite (ℕ_discrete n i)
      (λ same. ap (list_any (λ t. eqb t i)) e ∙ ap (λ (b : Bool). b || list_any (λ t. eqb t i) v.taken)
      (eq-eqb n i same))
      (λ ne. other i ne ∙ was.taken i (omega arith));
  out = λ i le. other i (λ same. omega arith) ∙ was.out i (omega arith);
} where
  other : (i : ℕ) → n ≢ i → list_any (λ t. eqb t i) w.taken ≡ list_any (λ t. eqb t i) v.taken
  other i ne = ap (list_any (λ t. eqb t i)) e ∙ ap (λ (b : Bool). b || list_any (λ t. eqb t i) v.taken) (ne_eqb n i ne)

-- it rests on what was taken alone
pub taken_below-same : (v w : View) (n : ℕ) → HasTakenBelow v n → w.taken ≡ v.taken → HasTakenBelow w n
taken_below-same v w n was e =
    record {
      taken = λ i lt. ap (list_any (λ t. eqb t i)) e ∙ was.taken i lt;
      out = λ i le. ap (list_any (λ t. eqb t i)) e ∙ was.out i le;
    }

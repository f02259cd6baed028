-- Edges of black cells after marking.
use Rattle.std.proofs.Common.{◌≡◌, ◌⊎◌, inl, inr, ⊎_elim, Bool, true, false, refl, arith, Contains}
use Rattle.std.proofs.lemmas.List.Elements.{All-contains_itself}
use mathlib.Core.Logic.{dite}
use native.Mathlib.Decide.{ℕ_discrete}
use Rattle.std.specs.Int.{bit_at}
use Rattle.std.proofs.lemmas.Nat.Bits.{bit_at-lt}
use Rattle.mark_words.specs.Rule.{bit_of}
use Rattle.mark_ahead.specs.Blackening.{Reached, near, far}
use Rattle.par_mark.specs.Closed.{ClosesUp}
use Rattle.mark_ahead.proofs.Members.{from_times}

either : (b : Bool) → (b ≡ true) ⊎ (b ≡ false)
either true = inl refl
either false = inr refl

pub closes_up : ClosesUp
closes_up edge marking first last from won outside m old x y lx ly on l =
    let Goal : Type 0 = (bit_of last y ≡ 1) ⊎ Contains outside y in
    let from_white : Reached edge marking first from x → bit_of first x ≡ 0 → Goal = λ r z. ⊎_elim
    (λ t. inl ((m.black y ly).1 (inr (far r z l t))))
    (λ f. let e = m.turned x lx in inr ((m.outside_is y).1
    (f, (x, inr (from_times (Contains won) won x (All-contains_itself won) (omega arith)), l))))
    (either (marking y)) in
    let from_start : Contains from x → Goal = λ c. ⊎_elim
    (λ t. inl ((m.black y ly).1 (inr (near c l t))))
    (λ f. inr ((m.outside_is y).1 (f, (x, inl c, l))))
    (either (marking y)) in
    let from_black : bit_of first x ≡ 1 → Goal = λ b. ⊎_elim (λ e. inl ((m.black y ly).1 (inl e))) from_start
    (old x y b l) in
    let lt = bit_at-lt (Rattle.std.specs.List.slice_index first x.0) x.1 in
    ⊎_elim from_black (λ r. dite (ℕ_discrete (bit_of first x) 0) (from_white r) (λ ne. from_black (omega arith)))
    ((m.black x lx).0 on)

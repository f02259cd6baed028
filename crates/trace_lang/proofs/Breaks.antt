-- Texts that go on with a space.
use Rattle.std.proofs.Common.{◌≡◌, ℕ, List, ◌∷◌, ◌++◌, refl, sym, subst}
use Rattle.trace_lang.specs.Words.{IsBreak}

pub break_of : (word tail : List ℕ) → word ≡ 32 ∷ tail → IsBreak word
break_of word tail e = subst IsBreak (sym e) refl

pub break_append : (word tail rest : List ℕ) → word ≡ 32 ∷ tail → IsBreak (word ++ rest)
break_append word tail rest e = subst (λ w. IsBreak (w ++ rest)) (sym e) refl

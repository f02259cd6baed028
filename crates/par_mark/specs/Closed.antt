-- Edges of black cells after marking.
use Rattle.std.specs.Prelude.{◌≡◌, ℕ, ◌<◌, ◌⊎◌, Bool, List, length, Option, Contains}
use Rattle.mark_words.specs.Rule.{bit_of}
use Rattle.mark_ahead.specs.Edges.{Leads}
use Rattle.mark_ahead.specs.Blackening.{HasBlackened}

-- each edge of a black cell leads to a black one, unless marking begins from that cell
abbrev pub IsClosedBut : (ℕ × ℕ → ℕ → Option (ℕ × ℕ)) → List ℕ → List (ℕ × ℕ) → Type 0
IsClosedBut edge words from = (x y : ℕ × ℕ) → bit_of words x ≡ 1 → Leads edge x y → (bit_of words y ≡ 1)
    ⊎ Contains from x

-- if that held before marking, each edge of a black cell leads afterwards to a black one, or to one of those outside
abbrev pub ClosesUp : Type 0
ClosesUp = (edge : ℕ × ℕ → ℕ → Option (ℕ × ℕ)) (marking : ℕ × ℕ → Bool) (first last : List ℕ)
    (from won outside : List (ℕ × ℕ))
    → HasBlackened edge marking first from last won outside → IsClosedBut edge first from
    → (x y : ℕ × ℕ) → x.0 < length first → y.0 < length first → bit_of last x ≡ 1 → Leads edge x y
    → (bit_of last y ≡ 1) ⊎ Contains outside y

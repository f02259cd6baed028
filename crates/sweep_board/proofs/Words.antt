-- Laws of `|` on words.
use Rattle.std.proofs.Common.{◌≡◌, ℕ, sym, ap, ◌∙◌, arith, bit_or, max}
use Rattle.std.specs.Int.{bit_at}
use Rattle.std.proofs.lemmas.Nat.Bits.{bit_at_or, same_from_bits}

max_assoc : (a b c : ℕ) → max (max a b) c ≡ max a (max b c)
max_assoc a b c = omega arith

pub or_assoc : (a b c : ℕ) → bit_or (bit_or a b) c ≡ bit_or a (bit_or b c)
or_assoc a b c = same_from_bits _ _ (λ i.
    bit_at_or (bit_or a b) c i ∙ ap (λ (n : ℕ). max n (bit_at c i)) (bit_at_or a b i)
    ∙ max_assoc (bit_at a i) (bit_at b i) (bit_at c i)
    ∙ sym (bit_at_or a (bit_or b c) i ∙ ap (λ (n : ℕ). max (bit_at a i) n) (bit_at_or b c i)))

-- a mask within gob changes nothing beside gob
pub or_within : (black mask gob : ℕ) → bit_or mask gob ≡ gob → bit_or (bit_or black mask) gob ≡ bit_or black gob
or_within black mask gob within = or_assoc black mask gob ∙ ap (bit_or black) within

-- two masks within gob lie within it together
pub both_within : (m n gob : ℕ) → bit_or m gob ≡ gob → bit_or n gob ≡ gob → bit_or (bit_or m n) gob ≡ gob
both_within m n gob a b = or_assoc m n gob ∙ ap (bit_or m) b ∙ a

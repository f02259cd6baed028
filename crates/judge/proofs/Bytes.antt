-- Bytes without one of them.
use Rattle.std.proofs.Common.{◌≡◌, ◌≢◌, ℕ, zero, suc, ◌+◌, ◌<◌, List, [], ◌∷◌, ◌++◌, drop, length, get_or, take, arith}
use Rattle.std.proofs.Common.{add-one, ap, refl, sym, ◌∙◌}
use Rattle.judge.specs.Lines.{Lacks}

lacks_more-suc : (b : ℕ) (xs : List ℕ) (i : ℕ) → i < length xs → Lacks b (take i xs) → get_or xs i 0 ≢ b
    → Lacks b (take (suc i) xs)
lacks_more-suc b [] i lt none other = absurd (omega arith)
lacks_more-suc b (x ∷ xs) zero lt none other = (other, tt)
lacks_more-suc b (x ∷ xs) (suc i) lt none other = (none.0, lacks_more-suc b xs i (omega arith) none.1 other)

-- one byte more that is another one
pub lacks_more : (b : ℕ) (xs : List ℕ) (i : ℕ) → i < length xs → Lacks b (take i xs) → get_or xs i 0 ≢ b
    → Lacks b (take (i + 1) xs)
lacks_more b xs i lt none other = rw add-one (lacks_more-suc b xs i lt none other)

pub lacks_both : (b : ℕ) (xs ys : List ℕ) → Lacks b xs → Lacks b ys → Lacks b (xs ++ ys)
lacks_both b [] ys p q = q
lacks_both b (x ∷ xs) ys p q = (p.0, lacks_both b xs ys p.1 q)

pub lacks_not : (b : ℕ) (xs ys : List ℕ) → Lacks b (xs ++ b ∷ ys) → ⊥
lacks_not b [] ys p = p.0 refl
lacks_not b (x ∷ xs) ys p = lacks_not b xs ys p.1

-- there is one first place of a byte
pub one_place : (b : ℕ) (xs ys us vs : List ℕ) → Lacks b xs → Lacks b us → xs ++ b ∷ ys ≡ us ++ b ∷ vs
    → (xs ≡ us) × (ys ≡ vs)
one_place b [] ys [] vs p q e = (refl, ap (λ t. drop 1 t) e)
one_place b [] ys (u ∷ us) vs p q e = absurd (q.0 (ap (λ t. get_or t 0 0) (sym e)))
one_place b (x ∷ xs) ys [] vs p q e = absurd (p.0 (ap (λ t. get_or t 0 0) e))
one_place b (x ∷ xs) ys (u ∷ us) vs p q e =
    let r = one_place b xs ys us vs p.1 q.1 (ap (λ t. drop 1 t) e) in
    (ap (λ t. x ∷ t) r.0 ∙ ap (λ t. t ∷ us) (ap (λ t. get_or t 0 0) e), r.1)

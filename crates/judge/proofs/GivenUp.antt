-- Arenas that are given up.
use Rattle.std.proofs.Common.{◌≡◌, ◌∙◌, ◌⊎◌, inl, inr, ℕ, zero, suc, ◌+◌, ◌<◌, ◌≤◌, Bool, true, false, ◌||◌, cond, List}
use Rattle.std.proofs.Common.{[], ◌∷◌, length, set, Option, None, refl, sym, ap, arith, eqb, eqb-true, eq-eqb}
use Rattle.std.specs.List.{list_any}
use Rattle.colour_defs.specs.Compaction.{given_up_from}
use Rattle.judge.specs.Slots.{owners_of}
use Rattle.judge.specs.declared.arenas.Arena.{Arena}

-- none is given up
pub given_none : (n : ℕ) (os : List (Option ℕ)) → given_up_from n os [] ≡ os
given_none n [] = refl
given_none n (o ∷ os) = ap (λ rest. o ∷ rest) (given_none (n + 1) os)

apart : (n m : ℕ) → (n ≡ m → ⊥) → list_any (eqb n) (m ∷ []) ≡ false
apart n m ne = go (eqb n m) refl
  where
    go : (b : Bool) → eqb n m ≡ b → (b || false) ≡ false
    go true e = absurd (ne (eqb-true n m e))
    go false e = refl

-- one that is not there is given up
pub given_elsewhere : (n : ℕ) (os : List (Option ℕ)) (m : ℕ) → (m < n) ⊎ (n + length os ≤ m)
    → given_up_from n os (m ∷ []) ≡ os
given_elsewhere n [] m off = refl
given_elsewhere n (o ∷ os) m off =
    ap (λ b. cond b None o ∷ given_up_from (n + 1) os (m ∷ [])) (apart n m (ne off))
    ∙ ap (λ rest. o ∷ rest) (given_elsewhere (n + 1) os m (on off))
  where
    ne : (m < n) ⊎ (n + length (o ∷ os) ≤ m) → n ≡ m → ⊥
    ne (inl less) e = omega (arith, less, e)
    ne (inr most) e = omega (arith, most, e)

    on : (m < n) ⊎ (n + length (o ∷ os) ≤ m) → (m < n + 1) ⊎ (n + 1 + length os ≤ m)
    on (inl less) = inl (omega (arith, less))
    on (inr most) = inr (omega (arith, most))

-- one that is there is given up
pub given_set : (n k m : ℕ) (arenas : List Arena) (now : Arena) → m ≡ n + k → now.owner ≡ None
    → owners_of (set arenas k now) ≡ given_up_from n (owners_of arenas) (m ∷ [])
given_set n k m [] now at none = refl
given_set n zero m (a ∷ arenas) now at none =
    ap (λ o. o ∷ owners_of arenas) (none ∙ ap (λ b. cond b None a.owner) (sym here))
    ∙ ap (λ rest. cond (list_any (eqb n) (m ∷ [])) None a.owner ∷ rest)
    (sym (given_elsewhere (n + 1) (owners_of arenas) m (inl (omega (arith, at)))))
  where
    here : list_any (eqb n) (m ∷ []) ≡ true
    here = ap (λ b. b || false) (eq-eqb n m (omega (arith, at)))
given_set n (suc k) m (a ∷ arenas) now at none =
    ap (λ rest. a.owner ∷ rest) (given_set (n + 1) k m arenas now (omega (arith, at)) none)
    ∙ ap (λ b. cond b None a.owner ∷ given_up_from (n + 1) (owners_of arenas) (m ∷ []))
    (sym (apart n m (λ e. omega (arith, e, at))))

-- one is given up, and then others
pub given_more : (n : ℕ) (os : List (Option ℕ)) (m : ℕ) (ms : List ℕ)
    → given_up_from n (given_up_from n os (m ∷ [])) ms ≡ given_up_from n os (m ∷ ms)
given_more n [] m ms = refl
given_more n (o ∷ os) m ms =
    ap (λ p. p ∷ given_up_from (n + 1) (given_up_from (n + 1) os (m ∷ [])) ms) (by (eqb n m) (list_any (eqb n) ms))
    ∙ ap (λ rest. cond (eqb n m || list_any (eqb n) ms) None o ∷ rest) (given_more (n + 1) os m ms)
  where
    by : (a b : Bool) → cond b None (cond (a || false) None o) ≡ cond (a || b) None o
    by true true = refl
    by true false = refl
    by false true = refl
    by false false = refl

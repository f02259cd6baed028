-- Sums over views and over places.
use Rattle.std.proofs.Common.{◌≡◌, ◌≢◌, ℕ, zero, suc, ◌+◌, ◌<◌, ◌≤◌, ◌&&◌, Bool, true, false, eqb, List, [], ◌∷◌, ◌++◌}
use Rattle.std.proofs.Common.{set, sym, refl, ap, ◌∙◌, subst, arith, eq-eqb, ne_eqb}
use mathlib.Core.Logic.{dite}
use mathlib.Core.Option.{some, some-injective, some-ne-none}
use native.Mathlib.Decide.{ℕ_discrete}
use lib.ListN.{get_elem?}
use Rattle.mark_words.specs.Sums.{weight, weigh, only, total}

module _ {V : Type 0} (f : V → ℕ) where
  -- the total after a change of one view
  pub total-set : (views : List V) (id : ℕ) (v w : V) → get_elem? views id ≡ some v
      → total f (set views id w) + f v ≡ total f views + f w
  total-set [] id v w e = absurd (some-ne-none v (sym e))
  total-set (x ∷ xs) zero v w e = let is : f x ≡ f v = ap f (some-injective x v e) in omega arith
  total-set (x ∷ xs) (suc id) v w e = let r = total-set xs id v w e in omega arith

  pub total-snoc : (views : List V) (v : V) → total f (views ++ v ∷ []) ≡ total f views + f v
  total-snoc [] v = omega arith
  total-snoc (x ∷ xs) v = let r = total-snoc xs v in omega arith

  -- no view has more than all
  pub total-at : (views : List V) (id : ℕ) (v : V) → get_elem? views id ≡ some v → f v ≤ total f views
  total-at [] id v e = absurd (some-ne-none v (sym e))
  total-at (x ∷ xs) zero v e = let is : f x ≡ f v = ap f (some-injective x v e) in omega arith
  total-at (x ∷ xs) (suc id) v e = let r = total-at xs id v e in omega arith

  -- two views have no more than all
  pub total-two : (views : List V) (a b : ℕ) (v u : V) → a ≢ b → get_elem? views a ≡ some v
      → get_elem? views b ≡ some u → f v + f u ≤ total f views
  total-two [] a b v u n e d = absurd (some-ne-none v (sym e))
  total-two (x ∷ xs) zero zero v u n e d = absurd (n refl)
  total-two (x ∷ xs) zero (suc b) v u n e d = let is : f x ≡ f v = ap f (some-injective x v e) in
      let r = total-at xs b u d in omega arith
  total-two (x ∷ xs) (suc a) zero v u n e d = let is : f x ≡ f u = ap f (some-injective x u d) in
      let r = total-at xs a v e in omega arith
  total-two (x ∷ xs) (suc a) (suc b) v u n e d = let r = total-two xs a b v u (λ same. n (ap suc same)) e d in
      omega arith

-- where a view has all parts, and views without parts count for nothing, it counts for all
module _ {V : Type 0} (parts f : V → ℕ) where
  abbrev Idle : List V → Type 0
  Idle views = (id : ℕ) (v : V) → get_elem? views id ≡ some v → parts v ≡ 0 → f v ≡ 0

  total-none : (views : List V) → Idle views → total parts views ≡ 0 → total f views ≡ 0
  total-none [] idle e = refl
  total-none (x ∷ xs) idle e = let r = total-none xs (λ id v. idle (suc id) v) (omega arith) in
      let h = idle 0 x refl (omega arith) in omega arith

  pub total-alone : (views : List V) (id : ℕ) (v : V) → Idle views → get_elem? views id ≡ some v
      → total parts views ≡ parts v → total f views ≡ f v
  total-alone [] id v idle e all = absurd (some-ne-none v (sym e))
  total-alone (x ∷ xs) zero v idle e all =
      let is : f x ≡ f v = ap f (some-injective x v e) in
      let parts_is : parts x ≡ parts v = ap parts (some-injective x v e) in
      let r = total-none xs (λ id u. idle (suc id) u) (omega arith) in omega arith
  total-alone (x ∷ xs) (suc id) v idle e all =
      let most = total-at parts xs id v e in
      let r = total-alone xs id v (λ j u. idle (suc j) u) e (omega arith) in
      let h = idle 0 x refl (omega arith) in omega arith

-- some view counts where the total does
module _ {V : Type 0} (f : V → ℕ) where
  pub some_counts : (views : List V) → 0 < total f views → (id : ℕ) × (v : V) × (get_elem? views id ≡ some v)
      × (0 < f v)
  some_counts [] lt = absurd (omega arith)
  some_counts (x ∷ xs) lt = dite (ℕ_discrete (f x) 0)
      (λ none. let r = some_counts xs (omega arith) in (suc r.0, r.1, r.2, r.3))
      (λ some'. (0, x, refl, omega arith))

module _ (h : ℕ × ℕ → ℕ) where
  pub weigh-append : (ps qs : List (ℕ × ℕ)) → weigh h (ps ++ qs) ≡ weigh h ps + weigh h qs
  weigh-append [] qs = omega arith
  weigh-append (p ∷ ps) qs = let r = weigh-append ps qs in omega arith

  pub weigh-snoc : (ps : List (ℕ × ℕ)) (p : ℕ × ℕ) → weigh h (ps ++ p ∷ []) ≡ weigh h ps + h p
  weigh-snoc [] p = omega arith
  weigh-snoc (q ∷ ps) p = let r = weigh-snoc ps p in omega arith

-- a place is itself, and no other
pub only-same : (p : ℕ × ℕ) → only p p ≡ 1
only-same p = subst (λ (b : Bool). weight (b && eqb p.1 p.1) ≡ 1) (sym (eq-eqb p.0 p.0 refl))
    (ap weight (eq-eqb p.1 p.1 refl))

pub only-arena : (p q : ℕ × ℕ) → q.0 ≢ p.0 → only p q ≡ 0
only-arena p q n = ap (λ (b : Bool). weight (b && eqb q.1 p.1)) (ne_eqb q.0 p.0 n)

and_false : (b : Bool) → (b && false) ≡ false
and_false true = refl
and_false false = refl

pub only-slot : (p q : ℕ × ℕ) → q.1 ≢ p.1 → only p q ≡ 0
only-slot p q n = ap (λ (b : Bool). weight (eqb q.0 p.0 && b)) (ne_eqb q.1 p.1 n) ∙ ap weight (and_false (eqb q.0 p.0))

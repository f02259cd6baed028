-- The starts of a closure: the same names, told in two ways.
use Rattle.std.proofs.Common.{◌≡◌, ◌↔◌, ◌⊎◌, inl, inr, ℕ, ◌+◌, ◌<◌, List, [], Option, Some, Contains, subst, arith}
use Rattle.std.proofs.lemmas.Bool.Decides.{eqb_tells}
use Rattle.gz_names.specs.declared.names.Name.{Name}
use Rattle.colour_defs.specs.Graph.{GraphState}
use Rattle.colour_defs.specs.Closure.{Closure, from, along, weak, delegate}
use Rattle.colour_defs.specs.Ends.{Lists}
use Rattle.colour_defs.proofs.Lists.{nothing_in_none}

pub closure_more : (g : GraphState) (P Q : Name → Type 0) → ((x : Name) → P x → Q x) → (x : Name) → Closure g P x
    → Closure g Q x
closure_more g P Q f x (from s) = from (f x s)
closure_more g P Q f x (along h e) = along (closure_more g P Q f _ h) e
closure_more g P Q f x (weak e m k) = weak e (closure_more g P Q f _ m) (closure_more g P Q f _ k)
closure_more g P Q f x (delegate e m t) = delegate e (closure_more g P Q f _ m) (closure_more g P Q f _ t)

pub lists_alike : (g : GraphState) (P Q : Name → Type 0) → ((x : Name) → P x ↔ Q x) → (xs : List Name)
    → Lists (Closure g P) xs → Lists (Closure g Q) xs
lists_alike g P Q f xs l = record {
  ascending = l.ascending;
  has = λ x. (
    (λ c. closure_more g P Q (λ y. (f y).0) x ((l.has x).0 c)),
    λ c. (l.has x).1 (closure_more g Q P (λ y. (f y).1) x c),
  );
}

below_cases : (j i : ℕ) → j < i + 1 → (j < i) ⊎ (j ≡ i)
below_cases j i below =
    elim (eqb_tells j i) [ inl same ↦ inr same.1 | inr other ↦ (let ne : j ≡ i → ⊥ = other.1 in inl (omega arith)) ]

-- cells below n, and the next one
pub cells_more : (cell : ℕ → Option Name) (old some all : List Name) (n : ℕ)
    → ((x : Name) → Contains some x ↔ (Contains old x ⊎ ((r : ℕ) × (r < n) × (cell r ≡ Some x))))
    → ((x : Name) → Contains all x ↔ (Contains some x ⊎ (cell n ≡ Some x))) → (x : Name)
    → Contains all x ↔ (Contains old x ⊎ ((r : ℕ) × (r < n + 1) × (cell r ≡ Some x)))
cells_more cell old some all n so more x = (λ c. there ((more x).0 c), λ h. (more x).1 (back h))
  where
    later : Contains old x ⊎ ((r : ℕ) × (r < n) × (cell r ≡ Some x))
        → Contains old x ⊎ ((r : ℕ) × (r < n + 1) × (cell r ≡ Some x))
    later (inl c) = inl c
    later (inr (r, lt, e)) = inr (r, omega (arith, lt), e)

    there : Contains some x ⊎ (cell n ≡ Some x) → Contains old x ⊎ ((r : ℕ) × (r < n + 1) × (cell r ≡ Some x))
    there (inl c) = later ((so x).0 c)
    there (inr e) = inr (n, omega arith, e)

    at : (r : ℕ) → r < n + 1 → cell r ≡ Some x → (r < n) ⊎ (r ≡ n) → Contains some x ⊎ (cell n ≡ Some x)
    at r lt e (inl below) = inl ((so x).1 (inr (r, below, e)))
    at r lt e (inr is) = inr (subst (λ k. cell k ≡ Some x) is e)

    back : Contains old x ⊎ ((r : ℕ) × (r < n + 1) × (cell r ≡ Some x)) → Contains some x ⊎ (cell n ≡ Some x)
    back (inl c) = inl ((so x).1 (inl c))
    back (inr (r, lt, e)) = at r lt e (below_cases r n lt)

-- nothing was there before
pub cells_alone : (P : Name → Type 0) (all : List Name) → ((x : Name) → Contains all x ↔ (Contains [] x ⊎ P x))
    → (x : Name) → Contains all x ↔ P x
cells_alone P all h x = (λ c. drop_none ((h x).0 c), λ p. (h x).1 (inr p))
  where
    drop_none : Contains [] x ⊎ P x → P x
    drop_none (inl c) = absurd (nothing_in_none x c)
    drop_none (inr p) = p

pub cells_both : (P Q : Name → Type 0) (some all : List Name) → ((x : Name) → Contains some x ↔ P x)
    → ((x : Name) → Contains all x ↔ (Contains some x ⊎ Q x)) → (x : Name) → Contains all x ↔ (P x ⊎ Q x)
cells_both P Q some all p q x = (λ c. there ((q x).0 c), λ h. (q x).1 (back h))
  where
    there : Contains some x ⊎ Q x → P x ⊎ Q x
    there (inl c) = inl ((p x).0 c)
    there (inr h) = inr h

    back : P x ⊎ Q x → Contains some x ⊎ Q x
    back (inl h) = inl ((p x).1 h)
    back (inr h) = inr h

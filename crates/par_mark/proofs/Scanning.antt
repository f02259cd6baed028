-- Reading the edges of a cell.
use Rattle.std.proofs.Common.{◌≡◌, ℕ, zero, suc, ◌+◌, ◌<◌, ◌≤◌, List, [], ◌∷◌, ◌++◌, length, Option, Some, None, refl}
use Rattle.std.proofs.Common.{ap, sym, ◌∙◌, arith, append_assoc, append-nil}
use mathlib.Core.Logic.{dite}
use native.Mathlib.Decide.{ℕ_discrete}
use Rattle.mark_words.specs.Sums.{weigh}
use Rattle.mark_ahead.specs.Edges.{held, first_targets}

pub weigh-one : (ps : List (ℕ × ℕ)) → weigh (λ _. 1) ps ≡ length ps
weigh-one [] = refl
weigh-one (p ∷ ps) = let r = weigh-one ps in omega arith

next : (n : ℕ) → suc n ≡ n + 1
next n = omega arith

-- a field that holds something
pub one_more : (field : ℕ → Option (ℕ × ℕ)) (n : ℕ) (old new : List (ℕ × ℕ)) (q : ℕ × ℕ) → field n ≡ Some q
    → new ≡ (old ++ first_targets field n) ++ q ∷ [] → new ≡ old ++ first_targets field (n + 1)
one_more field n old new q e is = is ∙ append_assoc old (first_targets field n) (q ∷ [])
    ∙ ap (λ (o : Option (ℕ × ℕ)). old ++ (first_targets field n ++ held o)) (sym e)
    ∙ ap (λ (m : ℕ). old ++ first_targets field m) (next n)

-- one that holds nothing
pub none_more : (field : ℕ → Option (ℕ × ℕ)) (n : ℕ) (old : List (ℕ × ℕ)) → field n ≡ None
    → old ++ first_targets field n ≡ old ++ first_targets field (n + 1)
none_more field n old e = ap (λ (l : List (ℕ × ℕ)). old ++ l)
    (sym (append-nil (first_targets field n)) ∙ ap (λ (o : Option (ℕ × ℕ)). first_targets field n ++ held o) (sym e))
    ∙ ap (λ (m : ℕ). old ++ first_targets field m) (next n)

-- past the last field there is nothing more
pub all_fields : (field : ℕ → Option (ℕ × ℕ)) (n m : ℕ) → n ≤ m → ((i : ℕ) → n ≤ i → i < m → field i ≡ None)
    → first_targets field n ≡ first_targets field m
all_fields field n zero le past = ap (first_targets field) (let e : n ≡ 0 = omega arith in e)
all_fields field n (suc m) le past = dite (ℕ_discrete n (suc m))
    (λ e. ap (first_targets field) e)
    (λ ne. all_fields field n m (omega arith) (λ i low high. past i low (omega arith))
    ∙ sym (append-nil (first_targets field m))
    ∙ ap (λ (o : Option (ℕ × ℕ)). first_targets field m ++ held o) (sym (past m (omega arith) (omega arith))))

pub nothing : (o : Option (ℕ × ℕ)) → ((q : ℕ × ℕ) → o ≡ Some q → ⊥) → o ≡ None
nothing None none = refl
nothing (Some q) none = absurd (none q refl)

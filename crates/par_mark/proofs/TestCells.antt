-- The graph of the tests.
use Rattle.std.proofs.Common.{◌≡◌, ℕ, ◌<◌, ◌&&◌, Bool, true, false, true≢false, nat_lt, Option, Some, None, refl, sym}
use Rattle.std.proofs.Common.{ap, ◌∙◌, subst, if◌then◌else◌}
use Rattle.std.proofs.lemmas.Bool.{ltb-true, lt-ltb}
use Rattle.par_mark.specs.TestGraphs.{in_grid, inside}

abbrev there : Option (ℕ × ℕ) → Bool
there None = false
there (Some q) = true

abbrev value_or : ℕ × ℕ → Option (ℕ × ℕ) → ℕ × ℕ
value_or d None = d
value_or d (Some q) = q

none_some : (q : ℕ × ℕ) → None ≡ Some q → ⊥
none_some q e = true≢false (sym (ap there e))

some_some : (r q : ℕ × ℕ) → Some r ≡ Some q → r ≡ q
some_some r q e = ap (value_or q) e

pub inside_is : (arenas : ℕ) (o : Option (ℕ × ℕ)) (q : ℕ × ℕ) → o ≡ Some q → q.0 < arenas → q.1 < 64
    → inside arenas o ≡ Some q
inside_is arenas o q e a b = ap (inside arenas) e
    ∙ ap (λ (c : Bool). if c && nat_lt q.1 64 then Some q else None) (lt-ltb q.0 arenas a)
    ∙ ap (λ (c : Bool). if c then Some q else None) (lt-ltb q.1 64 b)

picked : (c : Bool) (r q : ℕ × ℕ) → (if c then Some r else None) ≡ Some q → (c ≡ true) × (r ≡ q)
picked true r q e = (refl, some_some r q e)
picked false r q e = absurd (none_some q e)

both_true : (a b : Bool) → (a && b) ≡ true → (a ≡ true) × (b ≡ true)
both_true true b e = (refl, e)
both_true false b e = absurd (true≢false (sym e))

pub inside_grid : (arenas : ℕ) (o : Option (ℕ × ℕ)) (q : ℕ × ℕ) → inside arenas o ≡ Some q → in_grid arenas q
inside_grid arenas None q e = absurd (none_some q e)
inside_grid arenas (Some r) q e =
    let p = picked (nat_lt r.0 arenas && nat_lt r.1 64) r q e in
    let b = both_true (nat_lt r.0 arenas) (nat_lt r.1 64) p.0 in
    subst (in_grid arenas) p.1 (ltb-true r.0 arenas b.0, ltb-true r.1 64 b.1)

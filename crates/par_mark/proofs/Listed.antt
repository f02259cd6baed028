-- Lists in which no place stands more often than in others, or each as often.
use Rattle.std.proofs.Common.{◌≡◌, ℕ, ◌+◌, ◌<◌, ◌≤◌, List, [], ◌∷◌, ap, arith, All, Contains}
use Rattle.std.proofs.lemmas.List.Elements.{All-weaker, All-contains_itself}
use mathlib.Core.Logic.{dite}
use native.Mathlib.Decide.{ℕ_discrete}
use Rattle.mark_words.specs.Sums.{weigh, only, times}
use Rattle.mark_words.proofs.Counts.{only-same, only-arena, only-slot}
use Rattle.mark_ahead.proofs.Members.{from_times, in_times}

-- what is true of each place of a list is true of each place of one in which no place stands more often
pub listed_by_weight : (R : ℕ × ℕ → Type 0) (ps qs : List (ℕ × ℕ)) → ((h : ℕ × ℕ → ℕ) → weigh h ps ≤ weigh h qs)
    → All R qs → All R ps
listed_by_weight R ps qs less all = All-weaker (Contains ps) R
    (λ p c. from_times R qs p all (let t = in_times ps p c in let l = less (only p) in omega arith)) ps
    (All-contains_itself ps)

-- a place that stands in a list, and the others
others : (p : ℕ × ℕ) (qs : List (ℕ × ℕ)) → 0 < times p qs
    → (rest : List (ℕ × ℕ)) × ((h : ℕ × ℕ → ℕ) → weigh h qs ≡ h p + weigh h rest)
others p [] lt = absurd (omega (arith, lt))
others p (q ∷ qs) lt = dite (ℕ_discrete q.0 p.0)
    (λ e. dite (ℕ_discrete q.1 p.1)
    (λ f. let same : q ≡ p = λ i. (e i, f i) in (qs, λ h. let w = ap h same in omega arith))
    (λ n. let z = only-slot p q n in let r = others p qs (omega arith) in
    (q ∷ r.0, λ h. let w = r.1 h in omega arith)))
    (λ n. let z = only-arena p q n in let r = others p qs (omega arith) in
    (q ∷ r.0, λ h. let w = r.1 h in omega arith))

weighs_nothing : (h : ℕ × ℕ → ℕ) (qs : List (ℕ × ℕ)) → ((q : ℕ × ℕ) → times q qs ≡ 0) → weigh h qs ≡ 0
weighs_nothing h [] none = omega arith
weighs_nothing h (q ∷ qs) none = absurd (let o = only-same q in let n = none q in omega arith)

-- lists in which each place stands as often weigh the same
pub same_weight : (ps qs : List (ℕ × ℕ)) → ((q : ℕ × ℕ) → times q ps ≡ times q qs) → (h : ℕ × ℕ → ℕ)
    → weigh h ps ≡ weigh h qs
same_weight [] qs same h = let n = weighs_nothing h qs (λ q. let s = same q in omega arith) in omega arith
same_weight (p ∷ ps) qs same h =
    let o = only-same p in
    let s = same p in
    let t = others p qs (omega arith) in
    let r = same_weight ps t.0 (λ q. let u = same q in let w = t.1 (only q) in omega arith) h in
    let w = t.1 h in omega arith

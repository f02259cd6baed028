-- What is counted in a list is in it.
use Rattle.std.proofs.Common.{◌≡◌, ℕ, ◌+◌, ◌<◌, ◌≤◌, List, [], ◌∷◌, subst, arith, All, Contains}
use Rattle.std.proofs.lemmas.List.Elements.{All-cons, All-nil, All-head, All-tail, All-weaker, All-contains}
use Rattle.std.proofs.lemmas.List.Elements.{All-contains_itself}
use mathlib.Core.Logic.{dite}
use native.Mathlib.Decide.{ℕ_discrete}
use Rattle.mark_words.specs.Sums.{weigh, only, times}
use Rattle.mark_words.proofs.Counts.{only-same, only-arena, only-slot}

-- what is counted is there
pub from_times : (R : ℕ × ℕ → Type 0) (ps : List (ℕ × ℕ)) (q : ℕ × ℕ) → All R ps → 0 < times q ps → R q
from_times R [] q all lt = absurd (omega arith)
from_times R (p ∷ ps) q all lt = dite (ℕ_discrete p.0 q.0)
    (λ e. dite (ℕ_discrete p.1 q.1)
    (λ f. let same : p ≡ q = λ i. (e i, f i) in subst R same (All-head R p ps all))
    (λ n. let z = only-slot q p n in from_times R ps q (All-tail R p ps all) (omega arith)))
    (λ n. let z = only-arena q p n in from_times R ps q (All-tail R p ps all) (omega arith))

all_in_sum : (w : ℕ × ℕ → ℕ) (ps : List (ℕ × ℕ)) → All (λ p. w p ≤ weigh w ps) ps
all_in_sum w [] = All-nil (λ (p : ℕ × ℕ). w p ≤ 0)
all_in_sum w (p ∷ ps) = All-cons (λ (q : ℕ × ℕ). w q ≤ w p + weigh w ps) p ps (omega arith)
    (All-weaker (λ (q : ℕ × ℕ). w q ≤ weigh w ps) (λ (q : ℕ × ℕ). w q ≤ w p + weigh w ps) (λ q le. omega arith) ps
    (all_in_sum w ps))

pub in_sum : (w : ℕ × ℕ → ℕ) (ps : List (ℕ × ℕ)) (p : ℕ × ℕ) → Contains ps p → w p ≤ weigh w ps
in_sum w ps p c = All-contains (λ (q : ℕ × ℕ). w q ≤ weigh w ps) ps p (all_in_sum w ps) c

pub times_in : (ps : List (ℕ × ℕ)) (p : ℕ × ℕ) → 0 < times p ps → Contains ps p
times_in ps p lt = from_times (Contains ps) ps p (All-contains_itself ps) lt

pub in_times : (ps : List (ℕ × ℕ)) (p : ℕ × ℕ) → Contains ps p → 0 < times p ps
in_times ps p c = let s = in_sum (only p) ps p c in let o = only-same p in omega arith

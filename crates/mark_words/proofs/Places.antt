-- The places that a mask names, by its bits.
use Rattle.std.proofs.Common.{◌≡◌, ◌≢◌, ℕ, zero, suc, ◌+◌, ◌*◌, ◌%◌, ◌^◌, ◌<◌, ◌≤◌, Bool, if◌then◌else◌}
use Rattle.std.proofs.Common.{List, [], ◌∷◌, ◌++◌}
use Rattle.std.proofs.Common.{sym, refl, ap, ◌∙◌, subst, arith, All, ne_eqb, append-nil}
use Rattle.std.specs.Int.{bit_at}
use Rattle.std.proofs.lemmas.List.Elements.{All-cons, All-nil, All-head, All-tail, All-push}
use Rattle.std.proofs.lemmas.Nat.{one_shl}
use Rattle.std.proofs.lemmas.Nat.Bits.{bit_at-lt, bit_at-pow_other, bit_at-pow_same, bit_at-zero}
use mathlib.Core.Logic.{dite}
use native.Mathlib.Decide.{ℕ_discrete}
use Rattle.mark_words.specs.Sums.{weigh, only, times}
use Rattle.mark_words.specs.Places.{place_if, places_below, places_of}
use Rattle.mark_words.proofs.Counts.{weigh-snoc, only-same, only-arena, only-slot}

-- a slot whose bit is 0, and one whose bit is 1
below-none : (a m n : ℕ) → bit_at m n ≡ 0 → places_below a m (suc n) ≡ places_below a m n
unfolding places_below
below-none a m n e = ap (λ (b : ℕ). places_below a m n ++ place_if a n b) e
    ∙ ap (λ (c : Bool). places_below a m n ++ (if c then (a, n) ∷ [] else [])) (ne_eqb 0 1 (λ o. omega arith))
    ∙ append-nil (places_below a m n)

below-one : (a m n : ℕ) → bit_at m n ≡ 1 → places_below a m (suc n) ≡ places_below a m n ++ (a, n) ∷ []
unfolding places_below
below-one a m n e = ap (λ (b : ℕ). places_below a m n ++ place_if a n b) e

start : (a m : ℕ) → places_below a m 0 ≡ []
unfolding places_below
start a m = refl

bit_cases : {X : Type 0} (m n : ℕ) → (bit_at m n ≡ 0 → X) → (bit_at m n ≡ 1 → X) → X
bit_cases m n none one = let l = bit_at-lt m n in dite (ℕ_discrete (bit_at m n) 0) none (λ ne. one (omega arith))

-- masks with the same bits name the same places
pub below-same : (a m k n : ℕ) → ((i : ℕ) → i < n → bit_at m i ≡ bit_at k i) → places_below a m n ≡ places_below a k n
below-same a m k zero same = start a m ∙ sym (start a k)
below-same a m k (suc n) same =
    let r = below-same a m k n (λ i lt. same i (omega arith)) in
    let s = same n (omega arith) in
    bit_cases m n
    (λ e. below-none a m n e ∙ r ∙ sym (below-none a k n (omega arith)))
    (λ e. below-one a m n e ∙ ap (λ (l : List (ℕ × ℕ)). l ++ (a, n) ∷ []) r ∙ sym (below-one a k n (omega arith)))

pub below-empty : (a m n : ℕ) → ((i : ℕ) → i < n → bit_at m i ≡ 0) → places_below a m n ≡ []
below-empty a m zero none = start a m
below-empty a m (suc n) none = below-none a m n (none n (omega arith))
    ∙ below-empty a m n (λ i lt. none i (omega arith))

pub below-zero : (a n : ℕ) → places_below a 0 n ≡ []
below-zero a n = below-empty a 0 n (λ i lt. bit_at-zero i)

-- what is said of each place of a mask is said by its bits
pub all_below : (P : ℕ × ℕ → Type 0) (a m n : ℕ) → ((i : ℕ) → i < n → bit_at m i ≡ 1 → P (a, i))
    → All P (places_below a m n)
all_below P a m zero each = subst (All P) (sym (start a m)) (All-nil P)
all_below P a m (suc n) each =
    let r = all_below P a m n (λ i lt. each i (omega arith)) in
    bit_cases m n
    (λ e. subst (All P) (sym (below-none a m n e)) r)
    (λ e. subst (All P) (sym (below-one a m n e)) (All-push P (places_below a m n) (a, n) r (each n (omega arith) e)))

pub all_front : (P : ℕ × ℕ → Type 0) (ps : List (ℕ × ℕ)) (p : ℕ × ℕ) → All P (ps ++ p ∷ []) → All P ps × P p
all_front P [] p all = (All-nil P, All-head P p [] all)
all_front P (q ∷ ps) p all = let r = all_front P ps p (All-tail P q (ps ++ p ∷ []) all) in
    (All-cons P q ps (All-head P q (ps ++ p ∷ []) all) r.0, r.1)

pub each_below : (P : ℕ × ℕ → Type 0) (a m n : ℕ) → All P (places_below a m n) → (i : ℕ) → i < n → bit_at m i ≡ 1
    → P (a, i)
each_below P a m zero all i lt e = absurd (omega arith)
each_below P a m (suc n) all i lt e = bit_cases m n
    (λ none. each_below P a m n (subst (All P) (below-none a m n none) all) i
    (let ne : i ≢ n = λ f. (let g : bit_at m i ≡ bit_at m n = ap (bit_at m) f in omega arith) in omega arith) e)
    (λ one. let b = all_front P (places_below a m n) (a, n) (subst (All P) (below-one a m n one) all) in
    dite (ℕ_discrete i n)
    (λ f. subst (λ (k : ℕ). P (a, k)) (sym f) b.1)
    (λ ne. each_below P a m n b.0 i (omega arith) e))

-- how often a place is named
pub times-past : (a m n i : ℕ) → n ≤ i → times (a, i) (places_below a m n) ≡ 0
times-past a m zero i le = ap (times (a, i)) (start a m)
times-past a m (suc n) i le =
    let r = times-past a m n i (omega arith) in
    let s = weigh-snoc (only (a, i)) (places_below a m n) (a, n) in
    let z = only-slot (a, i) (a, n) (λ f. omega arith) in
    bit_cases m n
    (λ e. ap (times (a, i)) (below-none a m n e) ∙ r)
    (λ e. let t = ap (times (a, i)) (below-one a m n e) in omega arith)

pub times-inside : (a m n i : ℕ) → i < n → times (a, i) (places_below a m n) ≡ bit_at m i
times-inside a m zero i lt = absurd (omega arith)
times-inside a m (suc n) i lt =
    let s = weigh-snoc (only (a, i)) (places_below a m n) (a, n) in
    dite (ℕ_discrete i n)
    (λ same. let p = times-past a m n i (omega arith) in
    let o : only (a, i) (a, n) ≡ 1 = ap (λ (k : ℕ). only (a, i) (a, k)) (sym same) ∙ only-same (a, i) in
    let b : bit_at m i ≡ bit_at m n = ap (bit_at m) same in bit_cases m n
    (λ e. let t = ap (times (a, i)) (below-none a m n e) in omega arith)
    (λ e. let t = ap (times (a, i)) (below-one a m n e) in omega arith))
    (λ ne. let r = times-inside a m n i (omega arith) in let z = only-slot (a, i) (a, n) (λ f. ne (sym f)) in
    bit_cases m n
    (λ e. ap (times (a, i)) (below-none a m n e) ∙ r)
    (λ e. let t = ap (times (a, i)) (below-one a m n e) in omega arith))

pub times-away : (a m n : ℕ) (p : ℕ × ℕ) → p.0 ≢ a → times p (places_below a m n) ≡ 0
times-away a m zero p ne = ap (times p) (start a m)
times-away a m (suc n) p ne =
    let r = times-away a m n p ne in
    let s = weigh-snoc (only p) (places_below a m n) (a, n) in
    let z = only-arena p (a, n) (λ f. ne (sym f)) in
    bit_cases m n
    (λ e. ap (times p) (below-none a m n e) ∙ r)
    (λ e. let t = ap (times p) (below-one a m n e) in omega arith)

-- a mask within another names no place that the other does not
pub weigh-within : (h : ℕ × ℕ → ℕ) (a k m n : ℕ) → ((i : ℕ) → i < n → bit_at k i ≤ bit_at m i)
    → weigh h (places_below a k n) ≤ weigh h (places_below a m n)
weigh-within h a k m zero within = let s = ap (weigh h) (start a k) in let t = ap (weigh h) (start a m) in omega arith
weigh-within h a k m (suc n) within =
    let r = weigh-within h a k m n (λ i lt. within i (omega arith)) in
    let w = within n (omega arith) in
    let x = weigh-snoc h (places_below a k n) (a, n) in
    let y = weigh-snoc h (places_below a m n) (a, n) in
    bit_cases m n
    (λ e. let s = ap (weigh h) (below-none a k n (omega arith)) in let t = ap (weigh h) (below-none a m n e) in
    omega arith)
    (λ e. let t = ap (weigh h) (below-one a m n e) in bit_cases k n
    (λ f. let s = ap (weigh h) (below-none a k n f) in omega arith)
    (λ f. let s = ap (weigh h) (below-one a k n f) in omega arith))

-- one slot more
pub weigh-added : (h : ℕ × ℕ → ℕ) (a k m s n : ℕ) → s < n → bit_at k s ≡ 0 → bit_at m s ≡ 1
    → ((i : ℕ) → i ≢ s → bit_at m i ≡ bit_at k i)
    → weigh h (places_below a m n) ≡ weigh h (places_below a k n) + h (a, s)
weigh-added h a k m s zero lt none one others = absurd (omega arith)
weigh-added h a k m s (suc n) lt none one others =
    let x = weigh-snoc h (places_below a k n) (a, n) in
    let y = weigh-snoc h (places_below a m n) (a, n) in
    dite (ℕ_discrete s n)
    (λ same. let b : bit_at k n ≡ 0 = ap (bit_at k) (sym same) ∙ none in
    let c : bit_at m n ≡ 1 = ap (bit_at m) (sym same) ∙ one in
    let u = ap (weigh h) (below-none a k n b) in let v = ap (weigh h) (below-one a m n c) in
    let w = ap (weigh h) (below-same a m k n (λ i lt'. others i (omega arith))) in
    let z : h (a, s) ≡ h (a, n) = ap (λ (i : ℕ). h (a, i)) same in omega arith)
    (λ ne. let r = weigh-added h a k m s n (omega arith) none one others in
    let o = others n (λ f. ne (sym f)) in bit_cases k n
    (λ e. let u = ap (weigh h) (below-none a k n e) in let v = ap (weigh h) (below-none a m n (omega arith)) in
    omega arith)
    (λ e. let u = ap (weigh h) (below-one a k n e) in let v = ap (weigh h) (below-one a m n (omega arith)) in
    omega arith))

-- the place of the lowest bit comes first
pub below-lowest : (a w v t n : ℕ) → t < n → bit_at w t ≡ 1 → bit_at v t ≡ 0
    → ((i : ℕ) → i < t → bit_at w i ≡ 0) → ((i : ℕ) → i ≢ t → bit_at v i ≡ bit_at w i)
    → places_below a w n ≡ (a, t) ∷ places_below a v n
below-lowest a w v t zero lt one gone low others = absurd (omega arith)
below-lowest a w v t (suc n) lt one gone low others = dite (ℕ_discrete t n)
    (λ same. below-one a w n (ap (bit_at w) (sym same) ∙ one)
    ∙ ap (λ (l : List (ℕ × ℕ)). l ++ (a, n) ∷ []) (below-empty a w n (λ i l. low i (omega arith)))
    ∙ (λ i. (a, sym same i) ∷ []) ∙ ap (λ (l : List (ℕ × ℕ)). (a, t) ∷ l)
    (sym (below-empty a v n (λ i l. others i (omega arith) ∙ low i (omega arith)))
    ∙ sym (below-none a v n (ap (bit_at v) (sym same) ∙ gone))))
    (λ ne. let r = below-lowest a w v t n (omega arith) one gone low others in
    let o = others n (λ f. ne (sym f)) in bit_cases w n
    (λ e. below-none a w n e ∙ r ∙ ap (λ (l : List (ℕ × ℕ)). (a, t) ∷ l) (sym (below-none a v n (omega arith))))
    (λ e. below-one a w n e ∙ ap (λ (l : List (ℕ × ℕ)). l ++ (a, n) ∷ []) r
    ∙ ap (λ (l : List (ℕ × ℕ)). (a, t) ∷ l) (sym (below-one a v n (omega arith)))))

-- the mask of one slot
pub one_place : (p : ℕ × ℕ) → p.1 < 64 → places_of p.0 (1 * 2 ^ p.1 % 2 ^ 64) ≡ p ∷ []
one_place p low =
    let e : 1 * 2 ^ p.1 % 2 ^ 64 ≡ 2 ^ p.1 = one_shl p.1 64 low in
    ap (places_of p.0) e
    ∙ below-lowest p.0 (2 ^ p.1) 0 p.1 64 low (bit_at-pow_same p.1) (bit_at-zero p.1)
    (λ i less. bit_at-pow_other p.1 i (λ same. omega (arith, same, less)))
    (λ i ne. bit_at-zero i ∙ sym (bit_at-pow_other p.1 i ne))
    ∙ ap (λ (l : List (ℕ × ℕ)). p ∷ l) (below-zero p.0 64)

-- Moves, and the arenas that they leave.
use Rattle.std.proofs.Common.{◌≡◌, ◌≢◌, ◌⊎◌, ◌+◌, ◌-◌, ◌*◌, ◌/◌, ◌%◌, ◌^◌, ◌<◌, ◌≤◌, ◌==◌, ◌&&◌, ℕ, zero, suc, Bool}
use Rattle.std.proofs.Common.{true, false, if◌then◌else◌, List, [], ◌∷◌, ◌++◌, length, get_or, set, Option, Some, None}
use Rattle.std.proofs.Common.{IsSomeAnd, All, AllPairs, Any, Contains, slice_get, bit_and, bit_or, inl, inr, refl, sym}
use Rattle.std.proofs.Common.{ap, ◌∙◌}
use Rattle.std.proofs.Common.{subst, eq-eqb, eqb-true, ne_eqb, arith, MatchOption, MatchResult, Result, Ok, Err}
use Rattle.std.specs.Int.{bit_at}
use Rattle.std.specs.List.Sorted.{IsNonDecreasingBy, IsBinarySearchResult, IsSearchInRange}
use Rattle.std.specs.Ordering.{nat_cmp, ordering_index}
use Rattle.std.proofs.lemmas.Bool.Decides.{nat_tests}
use Rattle.std.proofs.lemmas.Cmp.{ranked}
use Rattle.std.specs.Int.Count.{ones-ones}
use Rattle.std.specs.Int.Bits.{or_shifted_r}
use Rattle.std.specs.Int.RustNames.{count_ones}
use Rattle.std.proofs.Math.Nat.{mul-add-mod_self_right}
use Rattle.std.proofs.lemmas.Bool.{false≢true, cases_eq, cases_lt}
use Rattle.std.proofs.lemmas.List.{length_push, get_or_default}
use Rattle.std.proofs.lemmas.List.Elements.{All-nil, All-cons, All-head, All-tail, Contains-get_or}
use Rattle.std.proofs.lemmas.List.Elements.{Contains-push_cases}
use Rattle.std.proofs.lemmas.List.Kept.{AllPairs-cons}
use Rattle.std.proofs.lemmas.List.Quantifiers.{all_pairs_push}
use Rattle.std.proofs.lemmas.Nat.{pow_pos, pow-add, pow_below, shr_split, mod_below, mod-mul-add, ones_cat, or_lt}
use Rattle.std.proofs.lemmas.Nat.Bits.{and_pow, bit_at-lt, bit_at_or, bit_at-pow_same, bit_at-pow_other, bit_at_above}
use Rattle.std.proofs.lemmas.Nat.Bits.{bit_at_cat_low}
use Rattle.std.proofs.lemmas.Nat.Bits.{same_from_bits_below}
use Rattle.std.proofs.lemmas.Option.{none-some, same_Some, slice_get_within, get_or_from_slice_get}
use Rattle.gz_names.specs.declared.moves.Leaving.{Leaving}
use Rattle.gz_names.specs.declared.moves.Move.{Move}
use Rattle.gz_names.specs.declared.numbers.Place.{Place}
use Rattle.gz_names.specs.Moves.{is_same, IsBefore, LeaveBefore, AreInOrder, moved, IsLeft, leaves, number_of}
use Rattle.gz_names.specs.Moves.{with_slot, GoApart}
use Rattle.gz_names.specs.Moves.{left_at, with_left, AreOutOf, IsOutOf, EndsAt, Ascend, AreKept}

-- places that are one, and places that are not
pub same-true : (p : Place) → is_same p p ≡ true
same-true p = ap (λ b. b && (p.1 == p.1)) (eq-eqb p.0 p.0 refl) ∙ eq-eqb p.1 p.1 refl

pub same-apart : (p q : Place) → p ≢ q → is_same p q ≡ false
same-apart p q apart = elim (cases_eq p.0 q.0) [
  | inl a ↦ ap (λ b. b && (p.1 == q.1)) (eq-eqb p.0 q.0 a) ∙ ne_eqb p.1 q.1
      (λ s. apart (ap (λ x. (x, p.1)) a ∙ ap (λ x. (q.0, x)) s))
  | inr ne ↦ ap (λ b. b && (p.1 == q.1)) (ne_eqb p.0 q.0 ne)
]

pub same-places : (p q : Place) → is_same p q ≡ true → p ≡ q
same-places p q is = elim (cases_eq p.0 q.0) [
  | inl a ↦ elim (cases_eq p.1 q.1) [
    | inl s ↦ ap (λ x. (x, p.1)) a ∙ ap (λ x. (q.0, x)) s
    | inr ne ↦ absurd (false≢true (sym (same-apart p q (λ e. ne (ap (λ (x : Place). x.1) e))) ∙ is))
  ]
  | inr ne ↦ absurd (false≢true (sym (same-apart p q (λ e. ne (ap (λ (x : Place). x.0) e))) ∙ is))
]

pub before-apart : (p q : Place) → IsBefore p q → p ≢ q
before-apart p q before same = elim before [
  | inl lt ↦ (let e = ap (λ (x : Place). x.0) same in omega (arith, e, lt))
  | inr b ↦ (let e = ap (λ (x : Place). x.1) same in omega (arith, e, b.1))
]

-- what holds of an element that is there
pub found : {X : Type 0} (o : Option X) (P : X → Type 0) → IsSomeAnd o P → (x : X) × (o ≡ Some x) × P x
found None P is = absurd is
found (Some x) P is = (x, refl, is)

pub contained : {X : Type 0} (xs : List X) (k : ℕ) (x : X) → slice_get xs k ≡ Some x → Contains xs x
contained xs k x at = (k, slice_get_within xs k x at, get_or_from_slice_get xs k x x at)

-- where the cell of a place goes, by the move that leaves it
pub moved-at : (ms : List Move) (k : ℕ) (m : Move) → AreInOrder ms → slice_get ms k ≡ Some m → moved ms m.from ≡ m.to
moved-at [] k m up at = absurd (none-some m at)
moved-at (n ∷ ms) zero m up at =
    let e : n ≡ m = same_Some n m at in
    subst (λ (x : Move). moved (n ∷ ms) x.from ≡ x.to) e
    (ap (λ b. if b then n.to else moved ms n.from) (same-true n.from))
moved-at (n ∷ ms) (suc k) m up at =
    let lt = slice_get_within ms k m at in
    let before : IsBefore n.from m.from = subst (λ (x : Move). IsBefore n.from x.from)
    (get_or_from_slice_get ms k m m at)
    (up 0 (suc k) m (omega arith) (omega (arith, lt))) in
    ap (λ b. if b then n.to else moved ms m.from) (same-apart n.from m.from (before-apart n.from m.from before))
    ∙ moved-at ms k m (λ i j d less within. up (suc i) (suc j) d (omega (arith, less)) (omega (arith, within))) at

-- and of a place that is not left
pub moved-stays : (ms : List Move) (p : Place) → (IsLeft ms p → ⊥) → moved ms p ≡ p
moved-stays [] p none = refl
moved-stays (m ∷ ms) p none =
    ap (λ b. if b then m.to else moved ms p)
    (same-apart m.from p (λ e. none (m, (0, omega arith, refl), e)))
    ∙ moved-stays ms p (λ l. none (l.0, (suc l.1.0, (let lt = l.1.1 in omega (arith, lt)), l.1.2), l.2))

-- a place is left by a move, or it is not
abbrev pub Went : List Move → Place → Type 0
Went ms p = (k : ℕ) × (m : Move) × (slice_get ms k ≡ Some m) × (m.from ≡ p) × (moved ms p ≡ m.to)

abbrev pub Stayed : List Move → Place → Type 0
Stayed ms p = (moved ms p ≡ p) × (IsLeft ms p → ⊥)

pub moved-cases : (ms : List Move) (p : Place) → Went ms p ⊎ Stayed ms p
moved-cases [] p = inr (refl, λ l. (let lt = l.1.1 in omega (arith, lt)))
moved-cases (m ∷ ms) p = by (is_same m.from p) refl (moved-cases ms p)
  where
    by : (b : Bool) → is_same m.from p ≡ b → Went ms p ⊎ Stayed ms p → Went (m ∷ ms) p ⊎ Stayed (m ∷ ms) p
    by true is rest = inl (0, m, refl, same-places m.from p is, ap (λ b. if b then m.to else moved ms p) is)
    by false is (inl r) = inl (suc r.0, r.1, r.2, r.3, ap (λ b. if b then m.to else moved ms p) is ∙ r.4)
    by false is (inr r) = inr (ap (λ b. if b then m.to else moved ms p) is ∙ r.0, none)
      where
        none : IsLeft (m ∷ ms) p → ⊥
        none (n, (zero, lt, e), from) =
            false≢true (sym is ∙ subst (λ q. is_same m.from q ≡ true) (ap (λ (x : Move). x.from) e ∙ from)
            (same-true m.from))
        none (n, (suc k, lt, e), from) = r.1 (n, (k, omega (arith, lt), e), from)

-- moves to one place are one
pub same-goal : (ms : List Move) → AllPairs (λ (m n : Move). m.to ≢ n.to) ms → (i k : ℕ) (m n : Move)
    → slice_get ms i ≡ Some m → slice_get ms k ≡ Some n → m.to ≡ n.to → m ≡ n
same-goal ms apart i k m n at there same = elim (cases_eq i k) [
  | inl e ↦ same_Some m n (sym at ∙ ap (slice_get ms) e ∙ there)
  | inr ne ↦ elim (cases_lt i k) [
    | inl before ↦ absurd (apart i k m before (slice_get_within ms k n there)
        (ap (λ (x : Move). x.to) (get_or_from_slice_get ms i m m at) ∙ same
        ∙ sym (ap (λ (x : Move). x.to) (get_or_from_slice_get ms k n m there))))
    | inr after ↦ absurd (apart k i m (omega (arith, after, ne)) (slice_get_within ms i m at)
        (ap (λ (x : Move). x.to) (get_or_from_slice_get ms k n m there) ∙ sym same
        ∙ sym (ap (λ (x : Move). x.to) (get_or_from_slice_get ms i m m at))))
  ]
]

-- what is held at two places does not come to one
pub moved-apart : (holds : Place → Type 0) (ms : List Move) → GoApart holds ms → (p q : Place) → holds p → holds q
    → moved ms p ≡ moved ms q → p ≡ q
moved-apart holds ms goes p q at there same = by (moved-cases ms p) (moved-cases ms q)
  where
    by : Went ms p ⊎ Stayed ms p → Went ms q ⊎ Stayed ms q → p ≡ q
    by (inl a) (inl b) =
        sym a.3 ∙ ap (λ (x : Move). x.from) (same-goal ms goes.apart a.0 b.0 a.1 b.1 a.2 b.2 (sym a.4 ∙ same ∙ b.4)) ∙
        b.3
    by (inl a) (inr b) = absurd (goes.free q there (a.1, contained ms a.0 a.1 a.2, sym a.4 ∙ same ∙ b.0))
    by (inr a) (inl b) = absurd (goes.free p at (b.1, contained ms b.0 b.1 b.2, sym b.4 ∙ sym same ∙ a.0))
    by (inr a) (inr b) = sym a.0 ∙ same ∙ b.0

-- a slot more, of a word whose slots are all before it
module _ (s k : ℕ) (wide : s < 2 ^ 64) (in_word : k < 64) (below : (j : ℕ) → j < 64 → (bit_at s j == 1) ≡ true → j < k)
  where
    unset : (j : ℕ) → j < 64 → k ≤ j → bit_at s j ≡ 0
    unset j lt after = elim (cases_eq (bit_at s j) 1) [
      | inl one ↦ (let before = below j lt (eq-eqb (bit_at s j) 1 one) in absurd (omega (arith, before, after)))
      | inr ne ↦ (let digit = bit_at-lt s j in omega (arith, digit, ne))
    ]

    cut : s ≡ s % 2 ^ k
    cut =
        let small = mod_below s (2 ^ k) (pow_pos k) in
        let whole : s / 2 ^ k * 2 ^ k + s % 2 ^ k ≡ s = shr_split s k in
        let less : s % 2 ^ k ≤ s = omega (arith, whole) in
        same_from_bits_below 64 s (s % 2 ^ k) wide (omega (arith, less, wide)) (λ j lt. elim (cases_lt j k) [
          | inl before ↦ ap (λ n. bit_at n j) (sym whole) ∙ bit_at_cat_low (s / 2 ^ k) k (s % 2 ^ k) j before
          | inr after ↦ unset j lt after ∙ sym (bit_at_above (s % 2 ^ k) k j small after)
        ])

    small : s < 2 ^ k
    small = subst (λ n. n < 2 ^ k) (sym cut) (mod_below s (2 ^ k) (pow_pos k))

    joined : bit_or s (2 ^ k) ≡ 1 * 2 ^ k + s
    joined =
        let once : 2 ^ k ≡ 1 * 2 ^ k = omega arith in
        ap (bit_or s) once ∙ or_shifted_r 1 k s small

    pub ones-more : count_ones (bit_or s (2 ^ k)) ≡ suc (count_ones s)
    ones-more =
        let parts = ap count_ones joined ∙ ones_cat k 1 s small in
        let one : count_ones 1 ≡ 1 = ones-ones 1 in
        omega (arith, parts, one)

    pub rank-kept : (j : ℕ) → j ≤ k → bit_or s (2 ^ k) % 2 ^ j ≡ s % 2 ^ j
    rank-kept j le =
        let parts : 1 * 2 ^ k ≡ 2 ^ (k - j) * 2 ^ j =
        (let once : 1 * 2 ^ k ≡ 2 ^ k = omega arith in
        let sum : k ≡ (k - j) + j = omega (arith, le) in
        once ∙ ap (λ n. 2 ^ n) sum ∙ pow-add 2 (k - j) j) in
        ap (λ n. n % 2 ^ j) (joined ∙ ap (λ n. n + s) parts) ∙ mul-add-mod_self_right (2 ^ (k - j)) (2 ^ j) s

    pub rank-last : bit_or s (2 ^ k) % 2 ^ k ≡ s
    rank-last = rank-kept k (omega arith) ∙ sym cut

-- which slots of a word are left, with one more
pub slot-kept : (s k j : ℕ) → (bit_at s j == 1) ≡ true → (bit_at (bit_or s (2 ^ k)) j == 1) ≡ true
slot-kept s k j is =
    let one = eqb-true (bit_at s j) 1 is in
    let both = bit_at_or s (2 ^ k) j in
    let digit = bit_at-lt (2 ^ k) j in
    eq-eqb (bit_at (bit_or s (2 ^ k)) j) 1 (omega (arith, one, both, digit))

pub slot-more : (s k : ℕ) → (bit_at (bit_or s (2 ^ k)) k == 1) ≡ true
slot-more s k =
    let one = bit_at-pow_same k in
    let both = bit_at_or s (2 ^ k) k in
    let digit = bit_at-lt s k in
    eq-eqb (bit_at (bit_or s (2 ^ k)) k) 1 (omega (arith, one, both, digit))

slot-other : (s k j : ℕ) → j ≢ k → (bit_at (bit_or s (2 ^ k)) j == 1) ≡ true → (bit_at s j == 1) ≡ true
slot-other s k j ne is =
    let one = eqb-true (bit_at (bit_or s (2 ^ k)) j) 1 is in
    let both = bit_at_or s (2 ^ k) j in
    let none = bit_at-pow_other k j ne in
    eq-eqb (bit_at s j) 1 (omega (arith, one, both, none))

slot-one : (k : ℕ) → (bit_at (2 ^ k) k == 1) ≡ true
slot-one k = eq-eqb (bit_at (2 ^ k) k) 1 (bit_at-pow_same k)

slot-alone : (k j : ℕ) → (bit_at (2 ^ k) j == 1) ≡ true → j ≡ k
slot-alone k j is = elim (cases_eq j k) [
  | inl e ↦ e
  | inr ne ↦ (let one = eqb-true (bit_at (2 ^ k) j) 1 is in let none = bit_at-pow_other k j ne in absurd
      (omega (arith, one, none)))
]

-- a bit of a word, as the code looks at it
pub bit-none : (s k m : ℕ) → m ≡ 2 ^ k → bit_and s m ≡ 0 → (bit_at s k == 1) ≡ false
bit-none s k m is none = ne_eqb (bit_at s k) 1 (λ one.
    (let whole = and_pow s k in
    let same = ap (bit_and s) is in
    let part = ap (λ b. b * 2 ^ k) one in
    let some = pow_pos k in
    omega (arith, whole, same, part, none, some)))

pub bit-some : (s k m : ℕ) → m ≡ 2 ^ k → bit_and s m ≢ 0 → (bit_at s k == 1) ≡ true
bit-some s k m is some = elim (cases_eq (bit_at s k) 1) [
  | inl one ↦ eq-eqb (bit_at s k) 1 one
  | inr ne ↦ (let digit = bit_at-lt s k in
      let zero : bit_at s k ≡ 0 = omega (arith, digit, ne) in
      let part = ap (λ b. b * 2 ^ k) zero in
      absurd (some (ap (bit_and s) is ∙ and_pow s k ∙ part ∙ omega arith)))
]

-- one element more
get-more : {X : Type 0} (xs : List X) (y : X) (k : ℕ) (P : X → Type 0) → IsSomeAnd (slice_get xs k) P
    → IsSomeAnd (slice_get (xs ++ y ∷ []) k) P
get-more [] y k P is = absurd is
get-more (x ∷ xs) y zero P is = is
get-more (x ∷ xs) y (suc k) P is = get-more xs y k P is

get-last : {X : Type 0} (xs : List X) (y : X) → slice_get (xs ++ y ∷ []) (length xs) ≡ Some y
get-last [] y = refl
get-last (x ∷ xs) y = get-last xs y

-- what holds of each arena that is left, with one place more
all-left : (P Q : Leaving → Type 0) (arenas : List Leaving) (p : Place) (n : ℕ) → EndsAt arenas n → All P arenas
    → ((a : Leaving) → P a → Q a)
    → ((a : Leaving) → P a → a.arena ≡ p.0 → a.first + count_ones a.slots ≡ n → Q (with_slot a p.1))
    → Q (left_at p n) → All Q (with_left arenas p n)
unfolding with_left EndsAt
all-left P Q [] p n ends all other last new = All-cons Q (left_at p n) [] new (All-nil Q)
all-left P Q (a ∷ []) p n ends all other last new = by (a.arena == p.0) refl
  where
    here : P a
    here = All-head P a [] all

    by : (b : Bool) → (a.arena == p.0) ≡ b → All Q (if b then with_slot a p.1 ∷ [] else a ∷ left_at p n ∷ [])
    by true is = All-cons Q (with_slot a p.1) [] (last a here (eqb-true a.arena p.0 is) ends) (All-nil Q)
    by false is = All-cons Q a (left_at p n ∷ []) (other a here) (All-cons Q (left_at p n) [] new (All-nil Q))
all-left P Q (a ∷ (b ∷ arenas)) p n ends all other last new =
    All-cons Q a (with_left (b ∷ arenas) p n) (other a (All-head P a (b ∷ arenas) all))
    (all-left P Q (b ∷ arenas) p n ends (All-tail P a (b ∷ arenas) all) other last new)

one-left : (p : Place) (n : ℕ) → n + count_ones (2 ^ p.1) ≡ suc n
one-left p n =
    let parts : count_ones (1 * 2 ^ p.1 + 0) ≡ count_ones 1 + count_ones 0 = ones_cat p.1 1 0 (pow_pos p.1) in
    let same : 2 ^ p.1 ≡ 1 * 2 ^ p.1 + 0 = omega arith in
    let whole = ap count_ones same ∙ parts in
    let one : count_ones 1 ≡ 1 = ones-ones 1 in
    let none : count_ones 0 ≡ 0 = ones-ones 0 in
    omega (arith, whole, one, none)

ends-left : (P : Leaving → Type 0) (arenas : List Leaving) (p : Place) (n : ℕ) → EndsAt arenas n → All P arenas
    → ((a : Leaving) → P a → a.arena ≡ p.0 → a.first + count_ones a.slots ≡ n
    → a.first + count_ones (with_slot a p.1).slots ≡ suc n)
    → EndsAt (with_left arenas p n) (suc n)
unfolding with_left EndsAt
ends-left P [] p n ends all last = one-left p n
ends-left P (a ∷ []) p n ends all last = by (a.arena == p.0) refl
  where
    by : (b : Bool) → (a.arena == p.0) ≡ b → EndsAt (if b then with_slot a p.1 ∷ [] else a ∷ left_at p n ∷ []) (suc n)
    by true is = last a (All-head P a [] all) (eqb-true a.arena p.0 is) ends
    by false is = one-left p n
ends-left P (a ∷ (b ∷ [])) p n ends all last = by (b.arena == p.0)
    (ends-left P (b ∷ []) p n ends (All-tail P a (b ∷ []) all) last)
  where
    by : (t : Bool) → EndsAt (if t then with_slot b p.1 ∷ [] else b ∷ left_at p n ∷ []) (suc n)
        → EndsAt (a ∷ (if t then with_slot b p.1 ∷ [] else b ∷ left_at p n ∷ [])) (suc n)
    by true e = e
    by false e = e
ends-left P (a ∷ (b ∷ (c ∷ arenas))) p n ends all last =
    ends-left P (b ∷ (c ∷ arenas)) p n ends (All-tail P a (b ∷ (c ∷ arenas)) all) last

abbrev IsLower : Leaving → Leaving → Type 0
IsLower a b = a.arena < b.arena

any-first : (P : Leaving → Type 0) (a : Leaving) (arenas : List Leaving) → P a → Any P (a ∷ arenas)
any-first P a arenas is = (0, a, omega arith, refl, is)

any-later : (P : Leaving → Type 0) (a : Leaving) (arenas : List Leaving) → Any P arenas → Any P (a ∷ arenas)
any-later P a arenas is = (suc is.0, is.1, (let lt = is.2 in omega (arith, lt)), is.3, is.4)

-- an arena that is left stays so
any-left : (P : Leaving → Type 0) (arenas : List Leaving) (p : Place) (n : ℕ)
    → ((a : Leaving) → P a → P (with_slot a p.1)) → Any P arenas → Any P (with_left arenas p n)
unfolding with_left
any-left P [] p n more is = (let lt = is.2 in absurd (omega (arith, lt)))
any-left P (a ∷ []) p n more (zero, x, lt, e, is) = by (a.arena == p.0)
  where
    here : P a
    here = subst P (sym e) is

    by : (b : Bool) → Any P (if b then with_slot a p.1 ∷ [] else a ∷ left_at p n ∷ [])
    by true = any-first P (with_slot a p.1) [] (more a here)
    by false = any-first P a (left_at p n ∷ []) here
any-left P (a ∷ []) p n more (suc k, x, lt, e, is) = absurd (omega (arith, lt))
any-left P (a ∷ (b ∷ arenas)) p n more (zero, x, lt, e, is) = any-first P a (with_left (b ∷ arenas) p n)
    (subst P (sym e) is)
any-left P (a ∷ (b ∷ arenas)) p n more (suc k, x, lt, e, is) =
    any-later P a (with_left (b ∷ arenas) p n)
    (any-left P (b ∷ arenas) p n more (k, x, (omega (arith, lt)), e, is))

-- and the arena of the place that is left now is one of them
any-new : (P : Leaving → Type 0) (arenas : List Leaving) (p : Place) (n : ℕ)
    → ((a : Leaving) → a.arena ≡ p.0 → P (with_slot a p.1)) → P (left_at p n) → Any P (with_left arenas p n)
unfolding with_left
any-new P [] p n same new = any-first P (left_at p n) [] new
any-new P (a ∷ []) p n same new = by (a.arena == p.0) refl
  where
    by : (b : Bool) → (a.arena == p.0) ≡ b → Any P (if b then with_slot a p.1 ∷ [] else a ∷ left_at p n ∷ [])
    by true is = any-first P (with_slot a p.1) [] (same a (eqb-true a.arena p.0 is))
    by false is = any-later P a (left_at p n ∷ []) (any-first P (left_at p n) [] new)
any-new P (a ∷ (b ∷ arenas)) p n same new =
    any-later P a (with_left (b ∷ arenas) p n) (any-new P (b ∷ arenas) p n same new)

lower-left : (arenas : List Leaving) (p : Place) (n : ℕ) → EndsAt arenas n → AllPairs IsLower arenas
    → All (λ a. a.arena ≤ p.0) arenas → AllPairs IsLower (with_left arenas p n)
unfolding with_left EndsAt
lower-left [] p n ends up low = AllPairs-cons IsLower (left_at p n) [] (All-nil (IsLower (left_at p n))) up
lower-left (a ∷ []) p n ends up low = by (a.arena == p.0) refl
  where
    alone : (x : Leaving) → AllPairs IsLower (x ∷ [])
    alone x i j d less within = absurd (omega (arith, less, within))

    by : (b : Bool) → (a.arena == p.0) ≡ b
        → AllPairs IsLower (if b then with_slot a p.1 ∷ [] else a ∷ left_at p n ∷ [])
    by true is = alone (with_slot a p.1)
    by false is =
        let most : a.arena ≤ p.0 = All-head (λ x. x.arena ≤ p.0) a [] low in
        let ne : a.arena ≢ p.0 = λ e. false≢true (sym is ∙ eq-eqb a.arena p.0 e) in
        AllPairs-cons IsLower a (left_at p n ∷ [])
        (All-cons (IsLower a) (left_at p n) [] (omega (arith, most, ne)) (All-nil (IsLower a))) (alone (left_at p n))
lower-left (a ∷ (b ∷ arenas)) p n ends up low =
    let rest = All-tail (λ x. x.arena ≤ p.0) a (b ∷ arenas) low in
    let most : b.arena ≤ p.0 = All-head (λ x. x.arena ≤ p.0) b arenas rest in
    let first : a.arena < b.arena = up 0 1 a (omega arith) (omega arith) in
    AllPairs-cons IsLower a (with_left (b ∷ arenas) p n)
    (all-left (IsLower a) (IsLower a) (b ∷ arenas) p n ends
    (λ k d lt. up 0 (suc k) d (omega arith) (omega (arith, lt))) (λ x is. is) (λ x is same end. is)
    (omega (arith, most, first)))
    (lower-left (b ∷ arenas) p n ends (λ i j d less within. up (suc i) (suc j) d (omega (arith, less))
    (omega (arith, within)))
    rest)

-- a place that is left behind all others
module _ (ms : List Move) (step : Move) (behind : LeaveBefore ms step.from) (in_word : step.from.1 < 64) where
  out-move : (a : Leaving) → AreOutOf ms a → (j : ℕ) → j < 64 → leaves a j ≡ true → IsBefore (a.arena, j) step.from
  out-move a outs j lt is =
      let there = found (slice_get ms (number_of a j)) (λ m. m.from ≡ (a.arena, j)) (outs.at j lt is) in
      subst (λ q. IsBefore q step.from) there.2 (behind there.0 (contained ms (number_of a j) there.0 there.1))

  out-more : (a : Leaving) → AreOutOf ms a → AreOutOf (ms ++ step ∷ []) a
  out-more a outs = record {
    fits = outs.fits;
    some = outs.some;
    at = λ j lt is. get-more ms step (number_of a j) (λ m. m.from ≡ (a.arena, j)) (outs.at j lt is);
  }

  out-last : (a : Leaving) (n : ℕ) → n ≡ length ms → a.arena ≡ step.from.0
      → IsSomeAnd (slice_get (ms ++ step ∷ []) n) (λ m. m.from ≡ (a.arena, step.from.1))
  out-last a n is same =
      let end : slice_get (ms ++ step ∷ []) n ≡ Some step = ap (slice_get (ms ++ step ∷ [])) is ∙ get-last ms step in
      subst (λ o. IsSomeAnd o (λ m. m.from ≡ (a.arena, step.from.1))) (sym end) (ap (λ x. (x, step.from.1)) (sym same))

  out-same : (a : Leaving) → AreOutOf ms a → a.arena ≡ step.from.0 → a.first + count_ones a.slots ≡ length ms
      → AreOutOf (ms ++ step ∷ []) (with_slot a step.from.1)
  out-same a outs same end = record {
    fits = or_lt 64 a.slots (2 ^ step.from.1) outs.fits (pow_below step.from.1 64 in_word);
    some = (step.from.1, in_word, slot-more a.slots step.from.1);
    at = at;
  } where
    below : (j : ℕ) → j < 64 → (bit_at a.slots j == 1) ≡ true → j < step.from.1
    below j lt is = elim (out-move a outs j lt is) [
      | inl lower ↦ (let l : a.arena < step.from.0 = lower in absurd (omega (arith, l, same)))
      | inr before ↦ before.1
    ]

    at : (j : ℕ) → j < 64 → leaves (with_slot a step.from.1) j ≡ true
        → IsSomeAnd (slice_get (ms ++ step ∷ []) (number_of (with_slot a step.from.1) j)) (λ m. m.from ≡ (a.arena, j))
    at j lt is = elim (cases_eq j step.from.1) [
      | inl e ↦ subst (λ i. IsSomeAnd (slice_get (ms ++ step ∷ []) (number_of (with_slot a step.from.1) i))
          (λ m. m.from ≡ (a.arena, i)))
          (sym e) (out-last a (number_of (with_slot a step.from.1) step.from.1)
          (ap (λ w. a.first + count_ones w) (rank-last a.slots step.from.1 outs.fits in_word below) ∙ end) same)
      | inr ne ↦ (let old = slot-other a.slots step.from.1 j ne is in
          let less = below j lt old in
          subst (λ n. IsSomeAnd (slice_get (ms ++ step ∷ []) n) (λ m. m.from ≡ (a.arena, j)))
          (ap (λ w. a.first + count_ones w) (sym (rank-kept a.slots step.from.1 outs.fits in_word below j
          (omega (arith, less)))))
          (get-more ms step (number_of a j) (λ m. m.from ≡ (a.arena, j)) (outs.at j lt old)))
    ]

  out-new : AreOutOf (ms ++ step ∷ []) (left_at step.from (length ms))
  out-new = record {
    fits = pow_below step.from.1 64 in_word;
    some = (step.from.1, in_word, slot-one step.from.1);
    at = at;
  } where
    none-before : 2 ^ step.from.1 % 2 ^ step.from.1 ≡ 0
    none-before =
        let once : 2 ^ step.from.1 ≡ 1 * 2 ^ step.from.1 + 0 = omega arith in
        ap (λ n. n % 2 ^ step.from.1) once ∙ mod-mul-add 1 (2 ^ step.from.1) 0 (pow_pos step.from.1)

    at : (j : ℕ) → j < 64 → leaves (left_at step.from (length ms)) j ≡ true
        → IsSomeAnd (slice_get (ms ++ step ∷ []) (number_of (left_at step.from (length ms)) j))
        (λ m. m.from ≡ (step.from.0, j))
    at j lt is =
        let none : count_ones 0 ≡ 0 = ones-ones 0 in
        let here : length ms + count_ones (2 ^ step.from.1 % 2 ^ step.from.1) ≡ length ms =
        ap (λ w. length ms + count_ones w) none-before ∙ omega (arith, none) in
        subst (λ i. IsSomeAnd (slice_get (ms ++ step ∷ []) (number_of (left_at step.from (length ms)) i))
        (λ m. m.from ≡ (step.from.0, i)))
        (sym (slot-alone step.from.1 j is))
        (out-last (left_at step.from (length ms)) (number_of (left_at step.from (length ms)) step.from.1) here refl)

  pub AreKept-push : (arenas : List Leaving) → AreKept ms arenas
      → AreKept (ms ++ step ∷ []) (with_left arenas step.from (length ms))
  AreKept-push arenas kept = record {
    in_order = all_pairs_push (λ m n. IsBefore m.from n.from) ms step kept.in_order
        (λ k d lt. behind (get_or ms k d) (Contains-get_or ms k d lt));
    ascending = lower-left arenas step.from (length ms) kept.ends kept.ascending
        (λ k d lt. most (get_or arenas k d) (kept.outs k d lt));
    outs = all-left (AreOutOf ms) (AreOutOf (ms ++ step ∷ [])) arenas step.from (length ms) kept.ends kept.outs
        out-more out-same out-new;
    every = λ m has. elim (Contains-push_cases ms step m has) [
      | inl old ↦ any-left (IsOut m.from) arenas step.from (length ms)
          (λ a is. (is.0, slot-kept a.slots step.from.1 m.from.1 is.1)) (kept.every m old)
      | inr new ↦ subst (λ (x : Move). IsOutOf (with_left arenas step.from (length ms)) x.from) new
          (any-new (IsOut step.from) arenas step.from (length ms) (λ a is. (is, slot-more a.slots step.from.1))
          (refl, slot-one step.from.1))
    ];
    ends = subst (EndsAt (with_left arenas step.from (length ms))) long
        (ends-left (AreOutOf ms) arenas step.from (length ms) kept.ends kept.outs last);
  } where
    long : suc (length ms) ≡ length (ms ++ step ∷ [])
    long = (let more = length_push ms step in omega (arith, more))

    IsOut : Place → Leaving → Type 0
    IsOut p a = (a.arena ≡ p.0) × (leaves a p.1 ≡ true)

    most : (a : Leaving) → AreOutOf ms a → a.arena ≤ step.from.0
    most a outs = elim (out-move a outs outs.some.0 outs.some.1 outs.some.2) [
      | inl lower ↦ (let l : a.arena < step.from.0 = lower in omega (arith, l))
      | inr before ↦ (let e : a.arena ≡ step.from.0 = before.0 in omega (arith, e))
    ]

    last : (a : Leaving) → AreOutOf ms a → a.arena ≡ step.from.0 → a.first + count_ones a.slots ≡ length ms
        → a.first + count_ones (bit_or a.slots (2 ^ step.from.1)) ≡ suc (length ms)
    last a outs same end =
        let more = ones-more a.slots step.from.1 outs.fits in_word (λ j lt is. elim (out-move a outs j lt is) [
          | inl lower ↦ (let l : a.arena < step.from.0 = lower in absurd (omega (arith, l, same)))
          | inr before ↦ before.1
        ]) in
        omega (arith, more, end)

-- a binary search by the arena finds it, or no arena that is left is it
pub searched : (arenas : List Leaving) → AllPairs IsLower arenas → (arena : ℕ) (r : Result ℕ ℕ)
    → IsSearchInRange r (length arenas) → IsBinarySearchResult (λ a. nat_cmp a.arena arena) arenas r
    → MatchResult r (λ k. (k < length arenas) × ((d : Leaving) → (get_or arenas k d).arena ≡ arena))
    (λ k. All (λ a. a.arena ≢ arena) arenas)
searched arenas up arena (Ok k) in_range equal = (
  in_range,
  λ d. ranked (get_or arenas k d).arena arena _
      (sym (equal d)),
)
searched arenas up arena (Err k) in_range parted = λ i d lt same.
    let rise : IsNonDecreasingBy (λ a. ordering_index (nat_cmp a.arena arena)) arenas = λ m n e le within.
    (let ordered : (get_or arenas m e).arena ≤ (get_or arenas n e).arena = elim (cases_eq m n) [
      | inl one ↦ (let one' = ap (λ x. (get_or arenas x e).arena) one in omega (arith, one'))
      | inr ne ↦ (let b : (get_or arenas m e).arena < (get_or arenas n e).arena = up m n e (omega (arith, le, ne))
          within in omega (arith, b))
    ] in
    grind (arith, nat_tests, ordered)) in
    let parts = parted rise in
    elim (cases_lt i k) [
      | inl before ↦ (let lower : (get_or arenas i d).arena < arena = ranked _ arena _
          (sym (parts.0 i d (omega arith) before)) in
          omega (arith, lower, same))
      | inr after ↦ (let higher : arena < (get_or arenas i d).arena = ranked _ arena _ (sym (parts.1 i d after lt)) in
          omega (arith, higher, same))
    ]

-- the moves out of a place's arena stand at this index of those that are left
pub record IsArenaOf (arenas : List Leaving) (p : Place) (k : ℕ) (a : Leaving) : Type 0 where
  pub within : k < length arenas
  pub is : get_or arenas k a ≡ a
  pub same : a.arena ≡ p.0

-- the move that leaves a place, by the arenas
module _ (ms : List Move) (arenas : List Leaving) (kept : AreKept ms arenas) (p : Place) where
  pub not-left : All (λ a. a.arena ≢ p.0) arenas → IsLeft ms p → ⊥
  not-left none (m, has, from) =
      let out = kept.every m has in
      let here = subst (λ q. IsOutOf arenas q) from out in
      none here.0 here.1 here.2 (subst (λ (a : Leaving). a.arena ≡ p.0) (sym here.3) here.4.0)

  module _ (k : ℕ) (a : Leaving) (at : IsArenaOf arenas p k a) where
    only : IsLeft ms p → leaves a p.1 ≡ true
    only (m, has, from) =
        let here = subst (λ q. IsOutOf arenas q) from (kept.every m has) in
        let other : get_or arenas here.0 a ≡ here.1 = get_or_default arenas here.0 a here.1 here.2 ∙ here.3 in
        let arena : (get_or arenas here.0 a).arena ≡ (get_or arenas k a).arena =
        ap (λ (x : Leaving). x.arena) other ∙ here.4.0 ∙ sym at.same ∙ sym (ap (λ (x : Leaving). x.arena) at.is) in
        let one : here.0 ≡ k = elim (cases_eq here.0 k) [
          | inl e ↦ e
          | inr ne ↦ elim (cases_lt here.0 k) [
            | inl before ↦ (let l : (get_or arenas here.0 a).arena < (get_or arenas k a).arena =
                kept.ascending here.0 k a before at.within in absurd (omega (arith, l, arena)))
            | inr after ↦ (let l : (get_or arenas k a).arena < (get_or arenas here.0 a).arena =
                kept.ascending k here.0 a (omega (arith, after, ne)) here.2 in absurd (omega (arith, l, arena)))
          ]
        ] in
        subst (λ (x : Leaving). leaves x p.1 ≡ true) (sym other ∙ ap (λ n. get_or arenas n a) one ∙ at.is) here.4.1

    outs : AreOutOf ms a
    outs = subst (AreOutOf ms) at.is (kept.outs k a at.within)

    pub its-move : p.1 < 64 → leaves a p.1 ≡ true → IsSomeAnd (slice_get ms (number_of a p.1)) (λ m. m.from ≡ p)
    its-move slot set = subst (λ n. IsSomeAnd (slice_get ms (number_of a p.1)) (λ m. m.from ≡ (n, p.1))) at.same
        (outs.at p.1 slot set)

    pub number-fits : p.1 < 64 → leaves a p.1 ≡ true → number_of a p.1 < length ms
    number-fits slot set =
        let m = found (slice_get ms (number_of a p.1)) (λ m. m.from ≡ p) (its-move slot set) in
        slice_get_within ms (number_of a p.1) m.0 m.1

    pub number-found : p.1 < 64 → (r : Option ℕ) → r ≡ (if leaves a p.1 then Some (number_of a p.1) else None)
        → MatchOption r (IsLeft ms p → ⊥) (λ number. IsSomeAnd (slice_get ms number) (λ m. m.from ≡ p))
    number-found slot r e = by (leaves a p.1) refl
      where
        by : (b : Bool) → leaves a p.1 ≡ b
            → MatchOption r (IsLeft ms p → ⊥) (λ number. IsSomeAnd (slice_get ms number) (λ m. m.from ≡ p))
        by true set = subst (λ o. MatchOption o (IsLeft ms p → ⊥)
            (λ number. IsSomeAnd (slice_get ms number) (λ m. m.from ≡ p)))
            (sym (e ∙ ap (λ b. if b then Some (number_of a p.1) else None) set)) (its-move slot set)
        by false set = subst (λ o. MatchOption o (IsLeft ms p → ⊥)
            (λ number. IsSomeAnd (slice_get ms number) (λ m. m.from ≡ p)))
            (sym (e ∙ ap (λ b. if b then Some (number_of a p.1) else None) set)) (λ l. false≢true (sym set ∙ only l))

-- the arenas after a place more, as the code makes them
pub left-set : (arenas : List Leaving) (p : Place) (n k : ℕ) (a : Leaving) → length arenas ≡ suc k → get_or arenas k a
    ≡ a
    → a.arena ≡ p.0 → set arenas k (with_slot a p.1) ≡ with_left arenas p n
unfolding with_left
left-set [] p n k a long is same = absurd (omega (arith, long))
left-set (x ∷ []) p n zero a long is same =
    ap (λ y. with_slot y p.1 ∷ []) (sym is)
    ∙ sym (ap (λ b. if b then with_slot x p.1 ∷ [] else x ∷ left_at p n ∷ [])
    (eq-eqb x.arena p.0 (ap (λ (y : Leaving). y.arena) is ∙ same)))
left-set (x ∷ []) p n (suc k) a long is same = absurd (omega (arith, long))
left-set (x ∷ (y ∷ arenas)) p n zero a long is same = absurd (omega (arith, long))
left-set (x ∷ (y ∷ arenas)) p n (suc k) a long is same =
    ap (λ ys. x ∷ ys) (left-set (y ∷ arenas) p n k a (omega (arith, long)) is same)

pub left-pushed : (arenas : List Leaving) (p : Place) (n : ℕ)
    → ((k : ℕ) → length arenas ≡ suc k → (d : Leaving) → (get_or arenas k d).arena ≢ p.0)
    → arenas ++ left_at p n ∷ [] ≡ with_left arenas p n
unfolding with_left
left-pushed [] p n other = refl
left-pushed (x ∷ []) p n other =
    sym (ap (λ b. if b then with_slot x p.1 ∷ [] else x ∷ left_at p n ∷ []) (ne_eqb x.arena p.0 (other 0 refl x)))
left-pushed (x ∷ (y ∷ arenas)) p n other =
    ap (λ ys. x ∷ ys) (left-pushed (y ∷ arenas) p n (λ k long d. other (suc k) (ap suc long) d))

-- no moves, and no arenas that are left
pub AreKept-nil : AreKept [] []
unfolding EndsAt
AreKept-nil = record {
  in_order = λ i j d less within. absurd (omega (arith, less, within));
  ascending = λ i j d less within. absurd (omega (arith, less, within));
  outs = All-nil (AreOutOf []);
  every = λ m has. (let lt = has.1 in absurd (omega (arith, lt)));
  ends = tt;
}

-- an arena that comes before the first of those that ascend, or behind the last, is none of them
pub outside : (arenas : List Leaving) (first last : Leaving) (arena : ℕ) → Ascend arenas
    → slice_get arenas 0 ≡ Some first → slice_get arenas (length arenas - 1) ≡ Some last
    → (arena < first.arena) ⊎ (last.arena < arena) → All (λ (a : Leaving). a.arena ≢ arena) arenas
outside arenas first last arena up front back (inl before) k d within same =
    let lowest = ap (λ (a : Leaving). a.arena) (get_or_from_slice_get arenas 0 first d front) in
    elim (cases_lt 0 k) [
      | inl later ↦ (let less = up 0 k d later within in absurd (omega (arith, lowest, before, less, same)))
      | inr here ↦ (let zeroth : k ≡ 0 = omega (arith, here) in
          let there = ap (λ i. (get_or arenas i d).arena) zeroth in
          absurd (omega (arith, lowest, before, there, same)))
    ]
outside arenas first last arena up front back (inr behind) k d within same =
    let end = length arenas - 1 in
    let highest = ap (λ (a : Leaving). a.arena) (get_or_from_slice_get arenas end last d back) in
    elim (cases_lt k end) [
      | inl earlier ↦ (let less = up k end d earlier (omega (arith, within)) in
          absurd (omega (arith, highest, behind, less, same)))
      | inr here ↦ (let at_end : k ≡ length arenas - 1 = omega (arith, here, within) in
          let there = ap (λ i. (get_or arenas i d).arena) at_end in
          absurd (omega (arith, highest, behind, there, same)))
    ]

-- The zones of a word in order.
use Rattle.std.proofs.Common.{◌≡◌, ◌≢◌, ℕ, ◌+◌, ◌-◌, ◌/◌, ◌%◌, ◌^◌, ◌<◌, ◌≤◌, ◌⊎◌, ◌↔◌, inl, inr}
use Rattle.std.proofs.Common.{zero, suc, List, [], ◌∷◌, ◌++◌}
use Rattle.std.proofs.Common.{refl, ap, sym, subst, append_assoc, ◌∙◌, arith, Bool, true, false, if◌then◌else◌}
use Rattle.std.specs.Prelude.{◌==◌}
use Rattle.std.specs.Int.{bit_at}
use Rattle.std.proofs.lemmas.Bool.{eqb-true, eqb-false, cases_lt}
use Rattle.std.proofs.lemmas.List.{append-nil}
use Rattle.std.proofs.lemmas.Nat.{shr-shr}
use Rattle.std.proofs.lemmas.Nat.Bits.{bit_at-lt, bit_at_above, same_from_bits_below}
use Rattle.gz_names.proofs.Words.{HasZone-below}
use Rattle.gz_names.specs.Zones.{HasZone, zones_from}
use Rattle.trace_lang.specs.Words.{IsBreak, number_word, number_words}

has_by_bit : (w n : ℕ) → n < 64 → (bit_at w n == 1) ≡ true → HasZone w n
unfolding HasZone
has_by_bit w n h e = (h, eqb-true (bit_at w n) 1 e)

none_by_bit : (w n : ℕ) → (bit_at w n == 1) ≡ false → HasZone w n → ⊥
unfolding HasZone
none_by_bit w n e h = eqb-false (bit_at w n) 1 e h.1

-- a word has a zone or not
pub has_or_not : (w n : ℕ) → n < 64 → HasZone w n ⊎ (HasZone w n → ⊥)
has_or_not w n h = go (bit_at w n == 1) refl where
  go : (t : Bool) → (bit_at w n == 1) ≡ t → HasZone w n ⊎ (HasZone w n → ⊥)
  go true e = inl (has_by_bit w n h e)
  go false e = inr (none_by_bit w n e)

-- the first of the zones from the n-th on is there, or not
pub zones_from-has : (w n count : ℕ) → HasZone w n → zones_from w n (suc count) ≡ n ∷ zones_from w (n + 1) count
unfolding HasZone zones_from
zones_from-has w n count h = rw h.1 refl

pub zones_from-lacks : (w n count : ℕ) → n < 64 → (HasZone w n → ⊥)
    → zones_from w n (suc count) ≡ zones_from w (n + 1) count
unfolding zones_from
zones_from-lacks w n count l h = go (bit_at w n == 1) refl where
  go : (t : Bool) → (bit_at w n == 1) ≡ t
      → (if t then n ∷ zones_from w (n + 1) count else zones_from w (n + 1) count) ≡ zones_from w (n + 1) count
  go true e = absurd (h (has_by_bit w n l e))
  go false e = refl

pub zones_from-nil : (w n : ℕ) → zones_from w n 0 ≡ []
unfolding zones_from
zones_from-nil w n = refl

-- zones below a place, and from it on
pub zones_from-split : (w n a b c m : ℕ) → c ≡ a + b → m ≡ n + a → n + a ≤ 64
    → zones_from w n c ≡ zones_from w n a ++ zones_from w m b
zones_from-split w n zero b c m e f l =
    let same_count : c ≡ b = omega (arith, e) in
    let same_first : n ≡ m = omega (arith, f) in
    ap (λ k. zones_from w n k) same_count ∙ ap (λ k. zones_from w k b) same_first ∙ ap
    (λ t. t ++ zones_from w m b) (sym (zones_from-nil w n))
zones_from-split w n (suc a) b zero m e f l = absurd (omega (arith, e))
zones_from-split w n (suc a) b (suc c) m e f l =
    let rest = zones_from-split w (n + 1) a b c m (omega (arith, e)) (omega (arith, f)) (omega arith) in
    elim (has_or_not w n (omega arith)) [
      | inl h ↦ zones_from-has w n c h ∙ ap (λ t. n ∷ t) rest ∙ ap
          (λ t. t ++ zones_from w m b) (sym (zones_from-has w n a h))
      | inr h ↦ zones_from-lacks w n c (omega arith) h ∙ rest ∙ ap
          (λ t. t ++ zones_from w m b) (sym (zones_from-lacks w n a (omega arith) h))
    ]

pub zones_from-none : (w n count : ℕ) → n + count ≤ 64 → ((z : ℕ) → n ≤ z → z < n + count → HasZone w z → ⊥)
    → zones_from w n count ≡ []
zones_from-none w n zero l none = zones_from-nil w n
zones_from-none w n (suc count) l none =
    zones_from-lacks w n count (omega arith) (none n (omega arith) (omega arith))
    ∙ zones_from-none w (n + 1) count (omega arith) (λ z a b. none z (omega arith) (omega arith))

pub zones_from-same : (v w n count : ℕ) → n + count ≤ 64 → ((z : ℕ) → n ≤ z → z < n + count → HasZone v z ↔ HasZone w z)
    → zones_from v n count ≡ zones_from w n count
zones_from-same v w n zero l same = zones_from-nil v n ∙ sym (zones_from-nil w n)
zones_from-same v w n (suc count) l same =
    let rest = zones_from-same v w (n + 1) count (omega arith) (λ z a b. same z (omega arith) (omega arith)) in
    let here = same n (omega arith) (omega arith) in
    elim (has_or_not v n (omega arith)) [
      | inl h ↦ zones_from-has v n count h ∙ ap (λ t. n ∷ t) rest ∙ sym (zones_from-has w n count (here.0 h))
      | inr h ↦ zones_from-lacks v n count (omega arith) h ∙ rest ∙ sym (zones_from-lacks w n count (omega arith)
          (λ k. h (here.1 k)))
    ]

-- the lowest zone from the n-th on
pub record IsNext (w n count zone : ℕ) : Type 0 where
  pub from : n ≤ zone
  pub below : zone < n + count
  pub has : HasZone w zone
  pub none_between : (z : ℕ) → n ≤ z → z < zone → HasZone w z → ⊥
  pub first : zones_from w n count ≡ zone ∷ zones_from w (zone + 1) (n + count - (zone + 1))

next_here : (w n count : ℕ) → HasZone w n → IsNext w n (suc count) n
next_here w n count h =
    let rest : count ≡ n + suc count - (n + 1) = omega arith in
    record {
      from = omega arith;
      below = omega arith;
      has = h;
      none_between = λ z a b. absurd (omega arith);
      first
          = zones_from-has w n count h ∙ ap (λ k. n ∷ zones_from w (n + 1) k) rest;
    }

next_later : (w n count zone : ℕ) → n < 64 → (HasZone w n → ⊥) → IsNext w (n + 1) count zone
    → IsNext w n (suc count) zone
next_later w n count zone l h p =
    let rest : n + 1 + count - (zone + 1) ≡ n + suc count - (zone + 1) = omega arith in
    record {
      from = omega (arith, p.from);
      below = omega (arith, p.below);
      has = p.has;
      none_between = λ z a b k. elim (cases_lt n z) [
        | inl m ↦ p.none_between z (omega arith) b k
        | inr m ↦ (let same : z ≡ n = omega arith in h (subst (HasZone w) same k))
      ];
      first = zones_from-lacks w n count l h ∙ p.first ∙ ap (λ k. zone ∷ zones_from w (zone + 1) k) rest;
    }

pub next_zone : (w n count : ℕ) → n + count ≤ 64 → (zones_from w n count ≡ []) ⊎ ((zone : ℕ) × IsNext w n count zone)
next_zone w n zero l = inl (zones_from-nil w n)
next_zone w n (suc count) l = elim (has_or_not w n (omega arith)) [
  | inl h ↦ inr (n, next_here w n count h)
  | inr h ↦ elim (next_zone w (n + 1) count (omega arith)) [
    | inl e ↦ inl (zones_from-lacks w n count (omega arith) h ∙ e)
    | inr p ↦ inr (p.0, next_later w n count p.0 (omega arith) h p.1)
  ]
]

pub none_from : (w n count z : ℕ) → n + count ≤ 64 → zones_from w n count ≡ [] → n ≤ z → z < n + count → HasZone w z → ⊥
none_from w n zero z l e a b h = absurd (omega arith)
none_from w n (suc count) z l e a b h = elim (has_or_not w n (omega arith)) [
  | inl k ↦ (let other : n ∷ zones_from w (n + 1) count ≡ [] = sym (zones_from-has w n count k) ∙ e in cc other)
  | inr k ↦ elim (cases_lt n z) [
    | inl m ↦ none_from w (n + 1) count z (omega arith) (sym (zones_from-lacks w n count (omega arith) k) ∙ e)
        (omega arith) (omega arith) h
    | inr m ↦ (let same : z ≡ n = omega arith in k (subst (HasZone w) same h))
  ]
]

-- words with the same zones are one
pub same_zones : (v w : ℕ) → v < 2 ^ 64 → w < 2 ^ 64 → ((z : ℕ) → z < 64 → HasZone v z ↔ HasZone w z) → v ≡ w
unfolding HasZone
same_zones v w a b same = same_from_bits_below 64 v w a b (λ z l. (
    let p = bit_at-lt v z in
    let q = bit_at-lt w z in
    let s = same z l in
    elim (cases_lt 0 (bit_at v z)) [
      | inl h ↦ (let one : bit_at v z ≡ 1 = omega arith in one ∙ sym (s.0 (l, one)).1)
      | inr h ↦ elim (cases_lt 0 (bit_at w z)) [
        | inl k ↦ (let one : bit_at w z ≡ 1 = omega arith in (s.1 (l, one)).1 ∙ sym one)
        | inr k ↦ omega arith
      ]
    ]
    ))

-- so far the text lists the zones of the word, which are all below the next
pub record Listed (text : List ℕ) (word next : ℕ) (rest : List ℕ) : Type 0 where
  pub fits : word < 2 ^ 64
  pub below : (z : ℕ) → HasZone word z → z < next
  pub text_is : text ≡ number_words (zones_from word 0 next) ++ rest

-- another word that the text lists has the same zones so far, and goes on with the rest
pub record Follows (word other next : ℕ) (rest : List ℕ) : Type 0 where
  pub same : (z : ℕ) → z < next → HasZone word z ↔ HasZone other z
  pub rest_is : rest ≡ number_words (zones_from other next (64 - next))

-- numbers behind spaces
pub number_words-append : (xs ys : List ℕ) → number_words (xs ++ ys) ≡ number_words xs ++ number_words ys
number_words-append [] ys = refl
number_words-append (x ∷ xs) ys =
    ap (λ t. number_word x ++ t) (number_words-append xs ys)
    ∙ sym (append_assoc (number_word x) (number_words xs) (number_words ys))

pub number_words-break : (xs : List ℕ) → IsBreak (number_words xs)
number_words-break [] = tt
number_words-break (x ∷ xs) = refl

-- the zones below a place, none for a while, and one that is there
pub zones_below-next : (w from z : ℕ) → from ≤ z → HasZone w z → ((y : ℕ) → from ≤ y → y < z → HasZone w y → ⊥)
    → number_words (zones_from w 0 (z + 1)) ≡ number_words (zones_from w 0 from) ++ number_word z
zones_below-next w from z le h none =
    let below = HasZone-below w z h in
    let gap : zones_from w from (z - from) ≡ [] =
    zones_from-none w from (z - from) (omega arith) (λ y ge lt. none y ge (omega arith)) in
    let front : zones_from w 0 z ≡ zones_from w 0 from =
    zones_from-split w 0 from (z - from) z from (omega arith) (omega arith) (omega arith)
    ∙ ap (λ t. zones_from w 0 from ++ t) gap ∙ append-nil (zones_from w 0 from) in
    let one : zones_from w z 1 ≡ z ∷ [] = zones_from-has w z 0 h ∙ ap (λ t. z ∷ t) (zones_from-nil w (z + 1)) in
    ap number_words (zones_from-split w 0 z 1 (z + 1) z refl (omega arith) (omega arith)
    ∙ ap (λ t. t ++ zones_from w z 1) front ∙ ap (λ t. zones_from w 0 from ++ t) one)
    ∙ number_words-append (zones_from w 0 from) (z ∷ [])
    ∙ ap (λ t. number_words (zones_from w 0 from) ++ t) (append-nil (number_word z))

-- where there are none from a place on, the zones are those below it
pub zones_below-all : (w from : ℕ) → from ≤ 64 → ((y : ℕ) → from ≤ y → HasZone w y → ⊥)
    → zones_from w 0 from ≡ zones_from w 0 64
zones_below-all w from le none =
    let rest : zones_from w from (64 - from) ≡ [] =
    zones_from-none w from (64 - from) (omega arith) (λ y ge lt. none y ge) in
    sym (zones_from-split w 0 from (64 - from) 64 from (omega arith) (omega arith) (omega arith)
    ∙ ap (λ t. zones_from w 0 from ++ t) rest ∙ append-nil (zones_from w 0 from))

shifted : (w a k : ℕ) → bit_at (w / 2 ^ a) k ≡ bit_at w (a + k)
shifted w a k = ap (λ v. v % 2) (shr-shr w a k)

-- the zones of a word that was shifted down are those from a place on
pub zone_from-shifted : (w a k : ℕ) → w < 2 ^ 64 → HasZone (w / 2 ^ a) k → HasZone w (a + k)
unfolding HasZone
zone_from-shifted w a k fits h =
    let one : bit_at w (a + k) ≡ 1 = sym (shifted w a k) ∙ h.1 in
    elim (cases_lt (a + k) 64) [
      | inl l ↦ (l, one)
      | inr g ↦ absurd (let none : bit_at w (a + k) ≡ 0 = bit_at_above w 64 (a + k) fits g in omega arith)
    ]

pub zone_shifted : (w a z : ℕ) → a ≤ z → HasZone w z → HasZone (w / 2 ^ a) (z - a)
unfolding HasZone
zone_shifted w a z le h = (omega (arith, h.0), shifted w a (z - a) ∙ ap (bit_at w) (omega arith) ∙ h.1)

-- the next zone is added
pub listed_more : (text : List ℕ) (word next zone new : ℕ) (rest others : List ℕ) → Listed text word next rest
    → next ≤ zone → zone < 64 → rest ≡ number_word zone ++ others → new < 2 ^ 64
    → ((z : ℕ) → HasZone new z ↔ (HasZone word z ⊎ (z ≡ zone))) → Listed text new (zone + 1) others
listed_more text word next zone new rest others l from small r fits added =
    let before : zones_from new 0 next ≡ zones_from word 0 next =
    zones_from-same new word 0 next (omega arith)
    (λ z a b. (
      λ h. elim ((added z).0 h) [ inl k ↦ k | inr e ↦ absurd (omega (arith, e, b)) ],
      λ h. (added z).1
          (inl h),
    )) in
    let none : zones_from new next (zone - next) ≡ [] =
    zones_from-none new next (zone - next) (omega arith)
    (λ z a b h. elim ((added z).0 h) [ inl k ↦ omega (arith, l.below z k) | inr e ↦ omega (arith, e, b) ]) in
    let last : zones_from new zone 1 ≡ zone ∷ [] =
    zones_from-has new zone 0 ((added zone).1 (inr refl)) ∙ ap (λ t. zone ∷ t) (zones_from-nil new (zone + 1)) in
    let tail : zones_from new next (zone + 1 - next) ≡ zone ∷ [] =
    zones_from-split new next (zone - next) 1 (zone + 1 - next) zone (omega arith) (omega arith) (omega arith)
    ∙ ap (λ t. t ++ zones_from new zone 1) none ∙ last in
    let all : zones_from new 0 (zone + 1) ≡ zones_from word 0 next ++ zone ∷ [] =
    zones_from-split new 0 next (zone + 1 - next) (zone + 1) next (omega arith) (omega arith) (omega arith)
    ∙ ap (λ t. t ++ zones_from new next (zone + 1 - next)) before ∙ ap (λ t. zones_from word 0 next ++ t) tail in
    record {
      fits = fits;
      below = λ z h. elim ((added z).0 h) [ inl k ↦ omega (arith, l.below z k) | inr e ↦ omega (arith, e) ];
      text_is = l.text_is
          ∙ ap (λ t. number_words (zones_from word 0 next) ++ t) r
          ∙ sym (append_assoc (number_words (zones_from word 0 next)) (number_word zone) others)
          ∙ ap (λ t. t ++ others) (ap (λ t. number_words (zones_from word 0 next) ++ t)
          (sym (append-nil (number_word zone))) ∙ sym (number_words-append (zones_from word 0 next) (zone ∷ []))
          ∙ ap number_words (sym all));
    }

-- a rest that is not empty begins with the lowest of the zones to come
pub record Begins (other next : ℕ) (rest : List ℕ) : Type 0 where
  pub zone : ℕ
  pub is_next : IsNext other next (64 - next) zone
  pub rest_is : rest ≡ number_word zone ++ number_words (zones_from other (zone + 1) (64 - (zone + 1)))

pub begins : (word other next : ℕ) (rest : List ℕ) → Follows word other next rest → next ≤ 64 → rest ≢ []
    → Begins other next rest
begins word other next rest f l some = elim (next_zone other next (64 - next) (omega arith)) [
  | inl e ↦ absurd (some (f.rest_is ∙ ap number_words e))
  | inr p ↦ (
      let count : next + (64 - next) - (p.0 + 1) ≡ 64 - (p.0 + 1) = omega arith in
      record {
        zone = p.0;
        is_next = p.1;
        rest_is = f.rest_is ∙ ap number_words p.1.first ∙ ap
            (λ k. number_word p.0 ++ number_words (zones_from other (p.0 + 1) k)) count;
      }
      )
]

pub follows_first : (word other : ℕ) (text : List ℕ) → ((z : ℕ) → HasZone word z → ⊥)
    → text ≡ number_words (zones_from other 0 64) → Follows word other 0 text
follows_first word other text none e = record { same = λ z l. absurd (omega arith); rest_is = e }

pub listed_first : (word : ℕ) (text : List ℕ) → word ≡ 0 → ((z : ℕ) → HasZone word z → ⊥) → Listed text word 0 text
listed_first word text e none =
    record {
      fits = omega (arith, e);
      below = λ z h. absurd (none z h);
      text_is = ap
          (λ t. number_words t ++ text) (sym (zones_from-nil word 0));
    }

pub follows_more : (text : List ℕ) (word other next zone new : ℕ) (rest others : List ℕ) → Listed text word next rest
    → Follows word other next rest → next ≤ zone → zone < 64 → rest ≢ []
    → ((x : ℕ) (r : List ℕ) → next ≤ x → x < 64 → IsBreak r → rest ≡ number_word x ++ r → (zone ≡ x) × (others ≡ r))
    → ((z : ℕ) → HasZone new z ↔ (HasZone word z ⊎ (z ≡ zone))) → Follows new other (zone + 1) others
follows_more text word other next zone new rest others l f from small some exact added =
    let b = begins word other next rest f (omega arith) some in
    let q =
    exact b.zone (number_words (zones_from other (b.zone + 1) (64 - (b.zone + 1)))) b.is_next.from
    (omega (arith, b.is_next.below)) (number_words-break _) b.rest_is in
    let is : b.zone ≡ zone = sym q.0 in
    record {
      same = λ z a. elim (cases_lt z next) [
        | inl m ↦ (
          λ h. elim ((added z).0 h) [ inl k ↦ (f.same z m).0 k | inr e ↦ absurd (omega (arith, e)) ],
          λ h. (added z).1 (inl ((f.same z m).1 h)),
        )
        | inr m ↦ elim (cases_lt z zone) [
          | inl n ↦ (
            λ h. elim ((added z).0 h) [
              | inl k ↦ absurd (omega (arith, l.below z k))
              | inr e ↦ absurd (omega (arith, e))
            ],
            λ h. absurd (b.is_next.none_between z m (omega (arith, is)) h),
          )
          | inr n ↦ (
              let same : z ≡ zone = omega arith in
              (λ h. subst (HasZone other) (is ∙ sym same) b.is_next.has, λ h. (added z).1 (inr same))
              )
        ]
      ];
      rest_is = q.1 ∙ ap (λ k. number_words (zones_from other (k + 1) (64 - (k + 1)))) is;
    }

-- where the text is at its end, no zone is to come
no_zones : (xs : List ℕ) → [] ≡ number_words xs → xs ≡ []
no_zones [] e = refl
no_zones (x ∷ xs) e = absurd (cc e)

pub follows_all : (text : List ℕ) (word other next : ℕ) (rest : List ℕ) → Listed text word next rest
    → Follows word other next rest → next ≤ 64 → rest ≡ [] → other < 2 ^ 64 → word ≡ other
follows_all text word other next rest l f m e fits = same_zones word other l.fits fits (λ z a. elim (cases_lt z next) [
  | inl b ↦ f.same z b
  | inr b ↦ (
    λ h. absurd (omega (arith, l.below z h)),
    λ h. absurd (none_from other next (64 - next) z (omega arith) (no_zones _ (sym e ∙ f.rest_is)) b (omega arith) h),
  )
])

pub listed_all : (text : List ℕ) (word next : ℕ) (rest : List ℕ) → Listed text word next rest → next ≤ 64 → rest ≡ []
    → text ≡ number_words (zones_from word 0 64)
listed_all text word next rest l m e =
    let none = zones_from-none word next (64 - next) (omega arith) (λ z a b h. absurd (omega (arith, l.below z h))) in
    let all : zones_from word 0 64 ≡ zones_from word 0 next =
    zones_from-split word 0 next (64 - next) 64 next (omega arith) (omega arith) (omega arith)
    ∙ ap (λ t. zones_from word 0 next ++ t) none ∙ append-nil (zones_from word 0 next) in
    l.text_is ∙ ap (λ t. number_words (zones_from word 0 next) ++ t) e
    ∙ append-nil (number_words (zones_from word 0 next)) ∙ ap number_words (sym all)

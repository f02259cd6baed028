-- The set of compartments for which wrappers wait.
use Rattle.std.proofs.Common.{◌≡◌, ◌≢◌, ◌<◌, ◌≤◌, ◌+◌, ◌*◌, ◌/◌, ◌%◌, ◌^◌, ◌-◌, ◌⊎◌, ◌↔◌, inl, inr, ℕ, zero, suc, List}
use Rattle.std.proofs.Common.{[], ◌∷◌, Option, Some, None, length, set, get_or, get_or-set_same, get_or-set_other}
use Rattle.std.proofs.Common.{replicate, refl, IfSome, IfNone, sym, ◌∙◌, ap, subst, arith, bit_and, bit_or}
use Rattle.std.proofs.lemmas.List.{get_or-replicate, get_or_past, length-map, length-replicate}
use Rattle.std.proofs.lemmas.Bool.{cases_eq, cases_lt}
use Rattle.std.proofs.lemmas.Nat.{le_or_l, le_or_r}
use Rattle.std.specs.Int.{bit_at}
use Rattle.std.proofs.lemmas.Nat.Bits.{bit_at-lt, bit_at_and, bit_at_mask_below, bit_at_mask_inside, ones_shl}
use Rattle.gz_names.specs.Zones.{HasZone}
use Rattle.gz_names.proofs.Words.{HasZone-none}
use Rattle.gz_names.specs.declared.numbers.Place.{Place}
use Rattle.gray_lists.specs.Incoming.{list_at}
use Rattle.gray_lists.specs.CompSets.{HasComp, AreHeaded, IsEnd}
use Rattle.gray_lists.specs.Nodes.{lists_of, walk, Chain, Links}
use Rattle.gray_lists.specs.declared.nodes.Node.{Node}
use Rattle.gray_lists.proofs.Noting.{list_at-headless}

-- a compartment's bit is that of no other compartment
pub comp_parts : (c k : ℕ) → c / 64 ≡ k / 64 → c % 64 ≡ k % 64 → c ≡ k
comp_parts c k e f = omega arith

-- a compartment more, and one less
pub HasComp-more : (words : List ℕ) (k word : ℕ) → k / 64 < length words
    → ((b : ℕ) → HasZone word b ↔ (HasZone (get_or words (k / 64) 0) b ⊎ (b ≡ k % 64))) → (c : ℕ)
    → HasComp (set words (k / 64) word) c ↔ (HasComp words c ⊎ (c ≡ k))
HasComp-more words k word h is c = elim (cases_eq (c / 64) (k / 64)) [
  | inl e ↦ (
      let here : get_or (set words (k / 64) word) (c / 64) 0 ≡ word = ap (λ n. get_or (set words (k / 64) word) n 0) e
      ∙ get_or-set_same words (k / 64) word 0 h in
      let there : get_or words (c / 64) 0 ≡ get_or words (k / 64) 0 = ap (λ n. get_or words n 0) e in (
        λ x. elim ((is (c % 64)).0 (subst (λ v. HasZone v (c % 64)) here x)) [
          | inl old ↦ inl (subst (λ v. HasZone v (c % 64)) (sym there) old)
          | inr same ↦ inr (comp_parts c k e same)
        ],
        λ x. subst (λ v. HasZone v (c % 64)) (sym here) ((is (c % 64)).1 (elim x [
          | inl old ↦ inl (subst (λ v. HasZone v (c % 64)) there old)
          | inr same ↦ inr (ap (λ n. n % 64) same)
        ])),
      ))
  | inr n ↦ (
      let other : get_or (set words (k / 64) word) (c / 64) 0 ≡ get_or words (c / 64) 0 =
      get_or-set_other words (k / 64) (c / 64) word 0 n in (
        λ x. inl (subst (λ v. HasZone v (c % 64)) other x),
        λ x. elim x [
          | inl old ↦ subst (λ v. HasZone v (c % 64)) (sym other) old
          | inr same ↦ absurd (n (ap (λ m. m / 64) same))
        ],
      ))
]

-- no compartment has a bit past the words
pub HasComp-past : (words : List ℕ) (c : ℕ) → length words ≡ 4 → 256 ≤ c → HasComp words c → ⊥
HasComp-past words c h far x =
    HasZone-none (c % 64) (subst (λ v. HasZone v (c % 64)) (get_or_past words (c / 64) 0 (omega arith)) x)

-- nor is it where no word has a bit
pub HasComp-zeros : (words : List ℕ) (c : ℕ) → length words ≡ 4
    → bit_or (bit_or (bit_or (get_or words 0 0) (get_or words 1 0)) (get_or words 2 0)) (get_or words 3 0) ≡ 0
    → HasComp words c → ⊥
HasComp-zeros words c long none x =
    HasZone-none (c % 64) (subst (λ v. HasZone v (c % 64)) (zeros (c / 64)) x)
  where
    two : ℕ
    two = bit_or (get_or words 0 0) (get_or words 1 0)

    three : ℕ
    three = bit_or two (get_or words 2 0)

    zeros : (n : ℕ) → get_or words n 0 ≡ 0
    zeros zero = (let a = le_or_l (get_or words 0 0) (get_or words 1 0) in let b = le_or_l two (get_or words 2 0) in
        let d = le_or_l three (get_or words 3 0) in omega (arith, none))
    zeros (suc zero) = (let a = le_or_r (get_or words 0 0) (get_or words 1 0) in
        let b = le_or_l two (get_or words 2 0) in let d = le_or_l three (get_or words 3 0) in omega (arith, none))
    zeros (suc (suc zero)) = (let b = le_or_r two (get_or words 2 0) in
        let d = le_or_l three (get_or words 3 0) in omega (arith, none))
    zeros (suc (suc (suc zero))) = (let d = le_or_r three (get_or words 3 0) in omega (arith, none))
    zeros (suc (suc (suc (suc n)))) = get_or_past words (suc (suc (suc (suc n)))) 0 (omega (arith, long))

-- no compartment is in a set whose words are 0
pub HasComp-empty : (c : ℕ) → HasComp (0 ∷ 0 ∷ 0 ∷ 0 ∷ []) c → ⊥
HasComp-empty c x = HasZone-none (c % 64) (subst (λ v. HasZone v (c % 64)) (zeros (c / 64)) x)
  where
    zeros : (n : ℕ) → get_or {A = ℕ} (0 ∷ 0 ∷ 0 ∷ 0 ∷ []) n 0 ≡ 0
    zeros zero = refl
    zeros (suc zero) = refl
    zeros (suc (suc zero)) = refl
    zeros (suc (suc (suc zero))) = refl
    zeros (suc (suc (suc (suc n)))) = refl

-- the compartment of a bit
pub HasComp-at : (words : List ℕ) (w bit : ℕ) → bit < 64 → HasZone (get_or words w 0) bit → HasComp words (64 * w + bit)
HasComp-at words w bit h x =
    let a : (64 * w + bit) / 64 ≡ w = omega arith in
    let b : (64 * w + bit) % 64 ≡ bit = omega arith in
    subst (λ n. HasZone (get_or words ((64 * w + bit) / 64) 0) n) (sym b)
    (subst (λ n. HasZone (get_or words n 0) bit) (sym a) x)

-- no compartment up to a bit of a word, where none is below a number of that word, and no bit from there on
pub HasComp-none : (words : List ℕ) (from at bit : ℕ) → ((n : ℕ) → from ≤ n → n < at → HasComp words n → ⊥)
    → ((b : ℕ) → at % 64 ≤ b → b < bit → HasZone (get_or words (at / 64) 0) b → ⊥) → bit ≤ 64 → (n : ℕ) → from ≤ n
    → n < 64 * (at / 64) + bit → HasComp words n → ⊥
HasComp-none words from at bit below here most n le lt x = elim (cases_lt n at) [
  | inl old ↦ below n le old x
  | inr new ↦ (
      let same : n / 64 ≡ at / 64 = omega arith in
      here (n % 64) (omega arith) (omega arith) (subst (λ w. HasZone (get_or words w 0) (n % 64)) same x))
]

-- the bits from a number on
pub HasZone-from : (word from b : ℕ) → from < 64
    → HasZone (bit_and word (18446744073709551615 * 2 ^ from % 18446744073709551616)) b ↔ (HasZone word b × (from ≤ b))
unfolding HasZone
HasZone-from word from b h =
    let mask : 18446744073709551615 * 2 ^ from % 18446744073709551616 ≡ 2 ^ 64 - 2 ^ from =
    ones_shl 64 from (omega arith) in
    let e : bit_at (bit_and word (18446744073709551615 * 2 ^ from % 18446744073709551616)) b ≡ _ =
    ap (λ m. bit_at (bit_and word m) b) mask ∙ bit_at_and word (2 ^ 64 - 2 ^ from) b in
    let p = bit_at-lt word b in
    elim (cases_lt b from) [
      | inl lt ↦ (let none : bit_at (2 ^ 64 - 2 ^ from) b ≡ 0 = bit_at_mask_below from 64 b lt in (
        λ x. absurd (let one : bit_at (bit_and word (18446744073709551615 * 2 ^ from % 18446744073709551616)) b ≡ 1 =
            x.1 in omega arith),
        λ x. absurd (let le : from ≤ b = x.1 in omega arith),
      ))
      | inr le ↦ (
        λ x. (let all : bit_at (2 ^ 64 - 2 ^ from) b ≡ 1 = bit_at_mask_inside from 64 b le x.0 in
            let one : bit_at (bit_and word (18446744073709551615 * 2 ^ from % 18446744073709551616)) b ≡ 1 = x.1 in
            ((x.0, omega arith), le)),
        λ x. (let all : bit_at (2 ^ 64 - 2 ^ from) b ≡ 1 = bit_at_mask_inside from 64 b le x.0.0 in
            let one : bit_at word b ≡ 1 = x.0.1 in
            (x.0.0, omega arith)),
      )
    ]

-- no list has a first wrapper
pub AreHeaded-none : (words : List ℕ) → ((c : ℕ) → HasComp words c → ⊥) → AreHeaded (replicate 256 None) words
AreHeaded-none words none c = (
  λ h. absurd (none c h),
  λ some. absurd (some (elim (cases_lt c 256) [
    | inl h ↦ get_or-replicate {A = Option ℕ} 256 c None None h
    | inr h ↦ get_or_past (replicate 256 None) c None (omega (arith, length-replicate {A = Option ℕ} 256 None))
  ])),
)

-- a list has a first wrapper now
pub AreHeaded-more : (heads : List (Option ℕ)) (words news : List ℕ) (k at : ℕ) → k < length heads
    → AreHeaded heads words → ((c : ℕ) → HasComp news c ↔ (HasComp words c ⊎ (c ≡ k)))
    → AreHeaded (set heads k (Some at)) news
AreHeaded-more heads words news k at h old new c = elim (cases_eq c k) [
  | inl e ↦ (
      let here : get_or (set heads k (Some at)) c None ≡ Some at = ap (λ n. get_or (set heads k (Some at)) n None) e
      ∙ get_or-set_same heads k (Some at) None h in
      (λ _ none. cc (here, none), λ _. (new c).1 (inr e)))
  | inr n ↦ (
      let other : get_or (set heads k (Some at)) c None ≡ get_or heads c None =
      get_or-set_other heads k c (Some at) None n in (
        λ x none. elim ((new c).0 x) [ inl was ↦ (old c).0 was (sym other ∙ none) | inr e ↦ absurd (n e) ],
        λ some. (new c).1 (inl ((old c).1 (λ none. some (other ∙ none)))),
      ))
]

-- a list still has one
pub AreHeaded-same : (heads : List (Option ℕ)) (words : List ℕ) (k i : ℕ) (next : Option ℕ) → k < length heads
    → get_or heads k None ≡ Some i → next ≢ None → AreHeaded heads words → AreHeaded (set heads k next) words
AreHeaded-same heads words k i next h was some old c = elim (cases_eq c k) [
  | inl e ↦ (
      let here : get_or (set heads k next) c None ≡ next = ap (λ n. get_or (set heads k next) n None) e
      ∙ get_or-set_same heads k next None h in
      let before : get_or heads c None ≡ Some i = ap (λ n. get_or heads n None) e ∙ was in
      (λ _ none. some (sym here ∙ none), λ _. (old c).1 (λ none. cc (before, none))))
  | inr n ↦ (
      let other : get_or (set heads k next) c None ≡ get_or heads c None = get_or-set_other heads k c next None n in
      (λ x none. (old c).0 x (sym other ∙ none), λ x. (old c).1 (λ none. x (other ∙ none))))
]

-- a list has none any more
pub AreHeaded-less : (heads : List (Option ℕ)) (words news : List ℕ) (k : ℕ) (next : Option ℕ) → k < length heads
    → next ≡ None → AreHeaded heads words → ((c : ℕ) → HasComp news c ↔ (HasComp words c × (c ≢ k)))
    → AreHeaded (set heads k next) news
AreHeaded-less heads words news k next h gone old new c = elim (cases_eq c k) [
  | inl e ↦ (
      let here : get_or (set heads k next) c None ≡ next = ap (λ n. get_or (set heads k next) n None) e
      ∙ get_or-set_same heads k next None h in
      (λ x _. ((new c).0 x).1 e, λ some. absurd (some (here ∙ gone))))
  | inr n ↦ (
      let other : get_or (set heads k next) c None ≡ get_or heads c None = get_or-set_other heads k c next None n in (
        λ x none. (old c).0 ((new c).0 x).0 (sym other ∙ none),
        λ x. (new c).1 ((old c).1 (λ none. x (other ∙ none)), n),
      ))
]

-- a list's first wrapper was taken
pub AreHeaded-taken : (heads : List (Option ℕ)) (words news : List ℕ) (k i : ℕ) (next : Option ℕ) → k < length heads
    → get_or heads k None ≡ Some i → AreHeaded heads words → IfSome next (λ _. news ≡ words)
    → IfNone next ((c : ℕ) → HasComp news c ↔ (HasComp words c × (c ≢ k))) → AreHeaded (set heads k next) news
AreHeaded-taken heads words news k i None h was old some none = AreHeaded-less heads words news k None h refl old none
AreHeaded-taken heads words news k i (Some j) h was old some none =
    subst (λ ws. AreHeaded (set heads k (Some j)) ws) (sym some)
    (AreHeaded-same heads words k i (Some j) h was (λ e. cc e) old)

-- a wrapper waits exactly for the compartments of the set
pub headed-waits : (nodes : List Node) (heads : List (Option ℕ)) (free : Option ℕ) (lists : List (List Place))
    (spare : List Place) (words : List ℕ) (c : ℕ) → Links nodes heads free lists spare → AreHeaded heads words
    → HasComp words c → list_at lists c ≢ []
headed-waits nodes heads free lists spare words c links headed has empty = (headed c).0 has (elim (cases_lt c 256) [
  | inl lt ↦ subst (λ ws. Chain nodes links.standing c (get_or heads c None) ws) empty (links.waits c lt)
  | inr le ↦ (let made = links.heads_made in get_or_past heads c None (omega arith))
])

pub headless-empty : (nodes : List Node) (heads : List (Option ℕ)) (words : List ℕ) (c : ℕ) → AreHeaded heads words
    → (HasComp words c → ⊥) → list_at (lists_of nodes heads) c ≡ []
headless-empty nodes heads words c headed none = go (get_or heads c None) refl
  where
    go : (o : Option ℕ) → get_or heads c None ≡ o → list_at (lists_of nodes heads) c ≡ []
    go (Some i) e = absurd (none ((headed c).1 (λ n. cc (e, n))))
    go None e = elim (cases_lt c (length heads)) [
      | inl lt ↦ list_at-headless nodes heads c lt e
      | inr le ↦ (let same = length-map heads (walk nodes (length nodes)) in get_or_past (lists_of nodes heads) c []
          (omega arith))
    ]

-- a wrapper more stands first, whether the list had one or not
pub AreHeaded-noted : (heads : List (Option ℕ)) (words news : List ℕ) (k at : ℕ) (first : Option ℕ) → k < length heads
    → get_or heads k None ≡ first → AreHeaded heads words → IfSome first (λ _. news ≡ words)
    → IfNone first ((c : ℕ) → HasComp news c ↔ (HasComp words c ⊎ (c ≡ k))) → AreHeaded (set heads k (Some at)) news
AreHeaded-noted heads words news k at None h is old same more = AreHeaded-more heads words news k at h old more
AreHeaded-noted heads words news k at (Some i) h is old same more =
    subst (λ (ws : List ℕ). AreHeaded (set heads k (Some at)) ws) (sym same)
    (AreHeaded-same heads words k i (Some at) h is (λ none. cc none) old)

-- a number is above each compartment of a set that has none
pub IsEnd-none : (words : List ℕ) → ((c : ℕ) → HasComp words c → ⊥) → IsEnd words 0
IsEnd-none words none = (omega arith, λ c has. absurd (none c has))

-- No wrapper stands on two lists, or on one twice: after one is noted, and after one is taken.
use Rattle.std.proofs.Common.{◌≡◌, ◌<◌, ◌⊎◌, inl, inr, ℕ, zero, suc, List, [], ◌∷◌, length, set, get_or-set_same}
use Rattle.std.proofs.Common.{get_or-set_other, replicate, refl, sym, ◌∙◌, arith}
use Rattle.std.proofs.lemmas.List.{get_or-replicate, get_or_past, length-replicate}
use Rattle.std.proofs.lemmas.Bool.{cases_eq, cases_lt}
use Rattle.std.specs.List.{Contains}
use Rattle.gz_names.specs.declared.numbers.Place.{Place}
use Rattle.gray_lists.specs.Incoming.{list_at, IsOnce, AreApart}

pub Contains-cases : {X : Type 0} (x y : X) (xs : List X) → Contains (x ∷ xs) y → (x ≡ y) ⊎ Contains xs y
Contains-cases x y xs (zero, h, e) = inl e
Contains-cases x y xs (suc k, h, e) = inr (k, omega arith, e)

pub Contains-first : {X : Type 0} (x : X) (xs : List X) → Contains (x ∷ xs) x
Contains-first x xs = (zero, omega arith, refl)

pub Contains-later : {X : Type 0} (x y : X) (xs : List X) → Contains xs y → Contains (x ∷ xs) y
Contains-later x y xs (k, h, e) = (suc k, omega arith, e)

pub Contains-none : {X : Type 0} (x : X) → Contains [] x → ⊥
Contains-none x (k, h, e) = absurd (omega arith)

-- a list is longer by a wrapper that is on none
pub AreApart-noted : (lists : List (List Place)) (c : ℕ) (w : Place) → c < length lists
    → ((b : ℕ) → Contains (list_at lists b) w → ⊥) → AreApart lists → AreApart (set lists c (w ∷ list_at lists c))
AreApart-noted lists c w h new apart =
    let more : List Place = w ∷ list_at lists c in
    let here : list_at (set lists c more) c ≡ more = get_or-set_same lists c more [] h in
    let old : (b : ℕ) (v : Place) → Contains (list_at (set lists c more) b) v → (Contains (list_at lists b) v)
    ⊎ ((w ≡ v) × (b ≡ c)) = λ b v in_it. elim (cases_eq b c) [
      | inl e ↦ elim (Contains-cases w v (list_at lists c) (rw (e, here) at in_it)) [
        | inl same ↦ inr (same, e)
        | inr later ↦ inl (rw e later)
      ]
      | inr n ↦ inl (rw (get_or-set_other lists c b more [] n) at in_it)
    ] in
    record {
      once = λ b. elim (cases_eq b c) [
        | inl e ↦ rw (e, here) (new c, apart.once c)
        | inr n ↦ rw (get_or-set_other lists c b more [] n) (apart.once b)
      ];
      one_list = λ a b v in_a in_b. elim (old a v in_a) [
        | inl va ↦ elim (old b v in_b) [
          | inl vb ↦ apart.one_list a b v va vb
          | inr vb ↦ absurd (new a (rw vb.0 va))
        ]
        | inr va ↦ elim (old b v in_b) [
          | inl vb ↦ absurd (new b (rw va.0 vb))
          | inr vb ↦ va.1 ∙ sym vb.1
        ]
      ];
    }

-- a list without its first wrapper
pub AreApart-taken : (lists : List (List Place)) (c : ℕ) (w : Place) (rest : List Place) → c < length lists
    → list_at lists c ≡ w ∷ rest → AreApart lists → AreApart (set lists c rest)
    × ((b : ℕ) → Contains (list_at (set lists c rest) b) w → ⊥)
AreApart-taken lists c w rest h was apart =
    let here : list_at (set lists c rest) c ≡ rest = get_or-set_same lists c rest [] h in
    let all : IsOnce (w ∷ rest) = rw was at (apart.once c) in
    let old : (b : ℕ) (v : Place) → Contains (list_at (set lists c rest) b) v → Contains (list_at lists b) v =
    λ b v in_it. elim (cases_eq b c) [
      | inl e ↦ rw (e, was) (Contains-later w v rest (rw (e, here) at in_it))
      | inr n ↦ (rw (get_or-set_other lists c b rest [] n) at in_it)
    ] in
    let first : Contains (list_at lists c) w = rw was (Contains-first w rest) in (
      record {
        once = λ b. elim (cases_eq b c) [
          | inl e ↦ rw (e, here) all.1
          | inr n ↦ rw (get_or-set_other lists c b rest [] n) (apart.once b)
        ];
        one_list = λ a b v in_a in_b. apart.one_list a b v (old a v in_a) (old b v in_b);
      },
      λ b in_it. elim (cases_eq b c) [
        | inl e ↦ all.0 (rw (e, here) at in_it)
        | inr n ↦ absurd (n (apart.one_list b c w (old b w in_it) first))
      ],
    )

list_at-none : (c : ℕ) → list_at (replicate 256 []) c ≡ []
list_at-none c = elim (cases_lt c 256) [
  | inl h ↦ get_or-replicate {A = List Place} 256 c [] [] h
  | inr h ↦ get_or_past (replicate 256 []) c [] (omega (arith, length-replicate {A = List Place} 256 []))
]

pub AreApart-none : AreApart (replicate 256 [])
AreApart-none = record {
  once = λ c. rw (list_at-none c) tt;
  one_list = λ b c w in_b in_c. absurd (Contains-none w (rw (list_at-none b) at in_b));
}

-- Where a wrapper is found.
use Rattle.std.proofs.Common.{◌≡◌, ◌≢◌, ◌<◌, ◌⊎◌, inl, inr, ℕ, zero, suc, Bool, true, false, cond, List, [], ◌∷◌}
use Rattle.std.proofs.Common.{length, get_or, Option, Some, None, IfSome, IfNone, Contains, slice_get, refl, sym, ◌∙◌}
use Rattle.std.proofs.Common.{AllPairs, ap, subst, arith}
use Rattle.std.proofs.lemmas.List.{get_or_default}
use Rattle.std.proofs.lemmas.List.Elements.{Contains-get_or, Contains-append_right}
use Rattle.std.proofs.lemmas.Bool.{cases_order, false≢true}
use Rattle.std.proofs.lemmas.Bool.Decides.{nat_tests}
use Rattle.std.proofs.lemmas.Option.{slice_get-get_or}
use Rattle.std.specs.Map.{lookup}
use Rattle.gz_names.specs.declared.numbers.Place.{Place}
use Rattle.gz_names.specs.declared.numbers.ZoneNo.{ZoneNo}
use Rattle.wrappers.specs.WrapperMaps.{list_at, is_key, first_of, place_at, AreAtHome, AreApart, AreSound}
use Rattle.wrappers.specs.declared.wrapper_maps.WrapperKey.{WrapperKey}

pub Contains-head : {X : Type 0} (x : X) (xs : List X) → Contains (x ∷ xs) x
Contains-head x xs = Contains-get_or (x ∷ xs) 0 x (omega arith)

pub Contains-tail : {X : Type 0} (y : X) (xs : List X) (x : X) → Contains xs x → Contains (y ∷ xs) x
Contains-tail y xs x h = Contains-append_right (y ∷ []) xs x h

-- the first is met, or the rest has it
pub Contains-cases : {X : Type 0} (y : X) (xs : List X) (x : X) → Contains (y ∷ xs) x → (y ≡ x) ⊎ Contains xs x
Contains-cases y xs x (zero, h, e) = inl e
Contains-cases y xs x (suc k, h, e) = inr (k, omega arith, e)

-- a key that passes is the one that is looked for
pub is_key-true : (c t : ℕ) (k : WrapperKey) → is_key c t k ≡ true → k ≡ record { comp = c; target = t }
is_key-true c t k e =
    let p : k.comp ≡ c = grind (arith, nat_tests) in
    let q : k.target ≡ t = grind (arith, nat_tests) in λ j. record { comp = p j; target = q j }

pub is_key-self : (c t : ℕ) → is_key c t (record { comp = c; target = t }) ≡ true
is_key-self c t = grind (arith, nat_tests)

is_key-other : (c t : ℕ) (k : WrapperKey) → k.comp ≢ c → is_key c t k ≡ false
is_key-other c t k n = grind (arith, nat_tests)

-- in a list without the compartment nothing is found
pub lookup-absent : (es : List (WrapperKey × Place)) (c t : ℕ)
    → ((e : WrapperKey × Place) → Contains es e → e.0.comp ≡ c → ⊥) → lookup (is_key c t) es ≡ None
lookup-absent [] c t h = refl
lookup-absent (e ∷ es) c t h =
    let other = is_key-other c t e.0 (h e (Contains-head e es)) in
    let rest = lookup-absent es c t (λ d k. h d (Contains-tail e es d k)) in
    ap (λ b. cond b (Some e.1) (lookup (is_key c t) es)) other ∙ rest

pub place_at-absent : (lists : List (List (WrapperKey × Place))) (c t : ℕ)
    → ((z : ℕ) (e : WrapperKey × Place) → Contains (list_at lists z) e → e.0.comp ≡ c → ⊥) → place_at lists c t ≡ None
place_at-absent [] c t h = refl
place_at-absent (es ∷ lists) c t h =
    ap (λ o. first_of o (place_at lists c t)) (lookup-absent es c t (h 0)) ∙ place_at-absent lists c t (λ z. h (suc z))

first_of-none : (o : Option Place) → first_of o None ≡ o
first_of-none (Some p) = refl
first_of-none None = refl

-- where all wrappers of a compartment are in one zone's list, that list is the one to look in
pub place_at-home : (lists : List (List (WrapperKey × Place))) (home c t : ℕ)
    → ((z : ℕ) (e : WrapperKey × Place) → Contains (list_at lists z) e → e.0.comp ≡ c → z ≡ home)
    → place_at lists c t ≡ lookup (is_key c t) (list_at lists home)
place_at-home [] home c t h = refl
place_at-home (es ∷ lists) zero c t h =
    ap (first_of (lookup (is_key c t) es))
    (place_at-absent lists c t (λ z e k f. (let same : suc z ≡ 0 = h (suc z) e k f in omega arith)))
    ∙ first_of-none _
place_at-home (es ∷ lists) (suc home) c t h =
    ap (λ o. first_of o (place_at lists c t))
    (lookup-absent es c t (λ e k f. (let same : 0 ≡ suc home = h 0 e k f in omega arith)))
    ∙ place_at-home lists home c t (λ z e k f. (let same : suc z ≡ suc home = h (suc z) e k f in omega arith))

-- what is found is an entry
pub lookup-Contains : (es : List (WrapperKey × Place)) (c t : ℕ)
    → IfSome (lookup (is_key c t) es) (λ p. Contains es (record { comp = c; target = t }, p))
lookup-Contains [] c t = tt
lookup-Contains (e ∷ es) c t = by (is_key c t e.0) refl (lookup-Contains es c t)
  where
    by : (b : Bool) → is_key c t e.0 ≡ b
        → IfSome (lookup (is_key c t) es) (λ p. Contains es (record { comp = c; target = t }, p))
        → IfSome (cond b (Some e.1) (lookup (is_key c t) es))
        (λ p. Contains (e ∷ es) (record { comp = c; target = t }, p))
    by true f rest = subst (λ k. Contains (e ∷ es) (k, e.1)) (is_key-true c t e.0 f) (Contains-head e es)
    by false f rest = later (lookup (is_key c t) es) rest
      where
        later : (o : Option Place) → IfSome o (λ p. Contains es (record { comp = c; target = t }, p))
            → IfSome o (λ p. Contains (e ∷ es) (record { comp = c; target = t }, p))
        later None h = tt
        later (Some p) h = Contains-tail e es _ h

-- where nothing is found there is no entry
pub lookup-none : (es : List (WrapperKey × Place)) (c t : ℕ) (p : Place) → lookup (is_key c t) es ≡ None
    → Contains es (record { comp = c; target = t }, p) → ⊥
lookup-none [] c t p e h = omega (arith, h.1)
lookup-none (d ∷ es) c t p e h = by (is_key c t d.0) refl e (lookup-none es c t p)
  where
    by : (b : Bool) → is_key c t d.0 ≡ b → cond b (Some d.1) (lookup (is_key c t) es) ≡ None
        → (lookup (is_key c t) es ≡ None → Contains es (record { comp = c; target = t }, p) → ⊥) → ⊥
    by true f none rest = cc
    by false f none rest = elim (Contains-cases d es _ h) [
      | inl same ↦ false≢true (sym f ∙ (ap (λ (x : WrapperKey × Place). is_key c t x.0) same ∙ is_key-self c t))
      | inr there ↦ rest none there
    ]

-- in the list of a compartment's zone is all that is to be found of it
pub only_home : (lists : List (List (WrapperKey × Place))) (homes : List (Option ZoneNo)) (c home : ℕ)
    → AreAtHome lists homes → slice_get homes c ≡ Some (Some home) → (z : ℕ) (e : WrapperKey × Place)
    → Contains (list_at lists z) e → e.0.comp ≡ c → z ≡ home
only_home lists homes c home h at z e there same =
    let here = sym (ap (slice_get homes) same) ∙ h z e there in cc

pub nowhere : (lists : List (List (WrapperKey × Place))) (homes : List (Option ZoneNo)) (c : ℕ) → AreAtHome lists homes
    → slice_get homes c ≡ Some None → (z : ℕ) (e : WrapperKey × Place) → Contains (list_at lists z) e → e.0.comp ≡ c → ⊥
nowhere lists homes c h at z e there same =
    let here = sym (ap (slice_get homes) same) ∙ h z e there in cc

pub found_at : (lists : List (List (WrapperKey × Place))) (home c t : ℕ) (r : Option Place)
    → r ≡ lookup (is_key c t) (list_at lists home)
    → IfSome r (λ p. (z : ℕ) × Contains (list_at lists z) (record { comp = c; target = t }, p))
found_at lists home c t None e = tt
found_at lists home c t (Some p) e = (
  home,
  subst (λ (o : Option Place).
      IfSome o (λ q. Contains (list_at lists home) (record { comp = c; target = t }, q))) (sym e)
      (lookup-Contains (list_at lists home) c t),
)

pub none_at : (lists : List (List (WrapperKey × Place))) (home c t : ℕ) (r : Option Place)
    → r ≡ lookup (is_key c t) (list_at lists home)
    → ((z : ℕ) (e : WrapperKey × Place) → Contains (list_at lists z) e → e.0.comp ≡ c → z ≡ home)
    → IfNone r ((z : ℕ) (p : Place) → Contains (list_at lists z) (record { comp = c; target = t }, p) → ⊥)
none_at lists home c t (Some p) e one = tt
none_at lists home c t None e one =
    λ z p there. lookup-none (list_at lists home) c t p (sym e)
    (subst (λ (y : ℕ). Contains (list_at lists y) (record { comp = c; target = t }, p)) (one z _ there refl) there)

pub slice_get-read : {X : Type 0} (xs : List X) (i : ℕ) (d x : X) → i < length xs → get_or xs i d ≡ x
    → slice_get xs i ≡ Some x
slice_get-read xs i d x h e = slice_get-get_or xs i d h ∙ ap (λ y. Some y) e

-- what callers may rely on
pub AreApart-from_sound : (lists : List (List (WrapperKey × Place))) (homes : List (Option ZoneNo))
    → AreSound lists homes → AreApart lists
AreApart-from_sound lists homes h = record {
  distinct = h.distinct;
  one_zone = λ y z d e first second same.
      let here = sym (h.at_home y d first) ∙ (ap (slice_get homes) same ∙ h.at_home z e second) in cc;
}

-- two entries of a list with one key have one place
one-place : (es : List (WrapperKey × Place)) (d e : WrapperKey × Place)
    → AllPairs (λ (x y : WrapperKey × Place). x.0 ≢ y.0) es → Contains es d → Contains es e → d.0 ≡ e.0 → d.1 ≡ e.1
one-place es d e apart (i, below, here) (j, within, there) same = elim (cases_order i j) [
  | inl one ↦ ap (λ (x : WrapperKey × Place). x.1)
      (sym here ∙ get_or_default es i d e below ∙ ap (λ (k : ℕ). get_or es k e) one ∙ there)
  | inr two ↦ elim two [
    | inl lt ↦ absurd (apart i j d lt within (ap (λ (x : WrapperKey × Place). x.0) here ∙ same
        ∙ ap (λ (x : WrapperKey × Place). x.0) (sym there ∙ get_or_default es j e d within)))
    | inr gt ↦ absurd (apart j i d gt below
        (ap (λ (x : WrapperKey × Place). x.0) (get_or_default es j d e within ∙ there) ∙ sym same
        ∙ ap (λ (x : WrapperKey × Place). x.0) (sym here)))
  ]
]

-- an entry's place is found under its key
pub found-there : (lists : List (List (WrapperKey × Place))) (z : ℕ) (e : WrapperKey × Place) → AreApart lists
    → Contains (list_at lists z) e → place_at lists e.0.comp e.0.target ≡ Some e.1
found-there lists z e apart there =
    place_at-home lists z e.0.comp e.0.target (λ y d m k. apart.one_zone y z d e m there k)
    ∙ go (lookup (is_key e.0.comp e.0.target) (list_at lists z)) refl
    (lookup-Contains (list_at lists z) e.0.comp e.0.target)
  where
    go : (o : Option Place) → lookup (is_key e.0.comp e.0.target) (list_at lists z) ≡ o
        → IfSome o (λ p. Contains (list_at lists z) (record { comp = e.0.comp; target = e.0.target }, p)) → o ≡ Some e.1
    go None none found = absurd (lookup-none (list_at lists z) e.0.comp e.0.target e.1 none there)
    go (Some p) is found =
        ap (λ (q : Place). Some q) (one-place (list_at lists z) (e.0, p) e (apart.distinct z) found there refl)

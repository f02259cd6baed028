-- Wrapper maps without their dead wrappers.
use Rattle.std.proofs.Common.{◌≡◌, ◌≢◌, ◌==◌, ℕ, Bool, true, false, not, cond, inl, inr, refl, sym, ap, ◌∙◌, subst}
use Rattle.std.proofs.Common.{Option, None, Some, IfSome, List, [], ◌∷◌, AllPairs, Contains, get_or, slice_get}
use Rattle.std.specs.List.{filter}
use Rattle.std.specs.Map.{lookup}
use Rattle.std.proofs.lemmas.Bool.{cases_order}
use Rattle.std.proofs.lemmas.List.{get_or_default}
use Rattle.gz_names.specs.declared.numbers.CompNo.{CompNo}
use Rattle.gz_names.specs.declared.numbers.Place.{Place}
use Rattle.wrappers.specs.WrapperMaps.{AreApart, WrappersState, is_key, list_of, place_of, without_dead}
use Rattle.wrappers.specs.declared.wrapper_maps.WrapperKey.{WrapperKey}
use Rattle.wrappers.proofs.Finding.{lookup-Contains, lookup-none, place_at-absent, place_at-home}
use Rattle.colour_defs.proofs.Lists.{contains_cases, contains_head, contains_tail, nothing_in_none}

-- a list by a test
pub filter_has : {X : Type 0} (test : X → Bool) (xs : List X) (x : X) → Contains (filter test xs) x
    → Contains xs x × (test x ≡ true)
filter_has test [] x c = absurd (nothing_in_none x c)
filter_has {X} test (y ∷ xs) x c = go (λ k. filter_has test xs x k) (test y) refl c
  where
    go : (Contains (filter test xs) x → Contains xs x × (test x ≡ true)) → (t : Bool) → test y ≡ t
        → Contains (cond t (y ∷ filter test xs) (filter test xs)) x → Contains (y ∷ xs) x × (test x ≡ true)
    go rest true t c = elim (contains_cases y (filter test xs) x c) [
      | inl e ↦ (subst (λ z. Contains (y ∷ xs) z) e (contains_head y xs), sym (ap test e) ∙ t)
      | inr tail ↦ (let r = rest tail in (contains_tail y xs x r.0, r.1))
    ]
    go rest false t c = (let r = rest c in (contains_tail y xs x r.0, r.1))

pub has_filter : {X : Type 0} (test : X → Bool) (xs : List X) (x : X) → Contains xs x → test x ≡ true
    → Contains (filter test xs) x
has_filter test [] x c t = absurd (nothing_in_none x c)
has_filter test (y ∷ xs) x c t = elim (contains_cases y xs x c) [
  | inl e ↦ head (test y) (ap test e ∙ t) e
  | inr tail ↦ rest (test y) (has_filter test xs x tail t)
]
  where
    head : (b : Bool) → b ≡ true → y ≡ x → Contains (cond b (y ∷ filter test xs) (filter test xs)) x
    head true is e = subst (λ z. Contains (y ∷ filter test xs) z) e (contains_head y (filter test xs))
    head false is e = absurd (cc is)

    rest : (b : Bool) → Contains (filter test xs) x → Contains (cond b (y ∷ filter test xs) (filter test xs)) x
    rest true k = contains_tail y (filter test xs) x k
    rest false k = k

-- two entries of a list with one key have one place
one_place : (es : List (WrapperKey × Place)) (d e : WrapperKey × Place)
    → AllPairs (λ (x y : WrapperKey × Place). x.0 ≢ y.0) es → Contains es d → Contains es e → d.0 ≡ e.0 → d.1 ≡ e.1
one_place es d e apart (i, below, here) (j, within, there) same = elim (cases_order i j) [
  | inl one ↦ ap (λ (x : WrapperKey × Place). x.1)
      (sym here ∙ get_or_default es i d e below ∙ ap (λ (k : ℕ). get_or es k e) one ∙ there)
  | inr two ↦ elim two [
    | inl lt ↦ absurd (apart i j d lt within (ap (λ (x : WrapperKey × Place). x.0) here ∙ same
        ∙ ap (λ (x : WrapperKey × Place). x.0) (sym there ∙ get_or_default es j e d within)))
    | inr gt ↦ absurd (apart j i d gt below
        (ap (λ (x : WrapperKey × Place). x.0) (get_or_default es j d e within ∙ there) ∙ sym same
        ∙ ap (λ (x : WrapperKey × Place). x.0) (sym here)))
  ]
]

-- the wrappers of each zone are of its compartments
abbrev pub AreAtHome : List ℕ → WrappersState → Type 0
AreAtHome comps ws = (z : ℕ) (e : WrapperKey × Place) → Contains (list_of ws z) e → slice_get comps e.0.comp ≡ Some z

module _ (comps : List ℕ) (ws : WrappersState) (home : AreAtHome comps ws) where
  one_home : (c z : ℕ) → slice_get comps c ≡ Some z → (y : ℕ) (e : WrapperKey × Place) → Contains (list_of ws y) e
      → e.0.comp ≡ c → y ≡ z
  one_home c z at y e there same = let here = sym (ap (slice_get comps) same) ∙ home y e there in cc (at, here)

  -- what is found stands in the list of its zone
  pub found_listed : (c : CompNo) (t : ℕ) (p : Place) → place_of ws c.0 t ≡ Some p
      → (z : ℕ) × (slice_get comps c.0 ≡ Some z) × Contains (list_of ws z) (record { comp = c.0; target = t }, p)
  found_listed c t p e = go (slice_get comps c.0) refl
    where
      some : (o : Option Place) (z : ℕ) → o ≡ Some p
          → IfSome o (λ q. Contains (list_of ws z) (record { comp = c.0; target = t }, q))
          → Contains (list_of ws z) (record { comp = c.0; target = t }, p)
      some None z at found = absurd (cc at)
      some (Some q) z at found = let same : q ≡ p = cc at in
          subst (λ r. Contains (list_of ws z) (record { comp = c.0; target = t }, r)) same found

      go : (o : Option ℕ) → slice_get comps c.0 ≡ o → (z : ℕ) × (slice_get comps c.0 ≡ Some z)
          × Contains (list_of ws z) (record { comp = c.0; target = t }, p)
      go None at = absurd (cc (
        e,
        place_at-absent ws.lists c.0 t (λ z d there same. let here = sym (ap (slice_get comps) same)
            ∙ home z d there in cc (at, here)),
      ))
      go (Some z) at = (
        z,
        at,
        some (lookup (is_key c.0 t) (list_of ws z)) z (sym (place_at-home ws.lists z c.0 t (one_home c.0 z at)) ∙ e)
            (lookup-Contains (list_of ws z) c.0 t),
      )

  -- what stands in a list is found, or another entry of its key is
  pub listed_found : (c : CompNo) (t z : ℕ) (p : Place) → Contains (list_of ws z) (record { comp = c.0; target = t }, p)
      → (q : Place) × (place_of ws c.0 t ≡ Some q) × Contains (list_of ws z) (record { comp = c.0; target = t }, q)
  listed_found c t z p there = go (lookup (is_key c.0 t) (list_of ws z)) refl (lookup-Contains (list_of ws z) c.0 t)
    where
      go : (o : Option Place) → lookup (is_key c.0 t) (list_of ws z) ≡ o
          → IfSome o (λ q. Contains (list_of ws z) (record { comp = c.0; target = t }, q))
          → (q : Place) × (place_of ws c.0 t ≡ Some q) × Contains (list_of ws z) (record { comp = c.0; target = t }, q)
      go None none found = absurd (lookup-none (list_of ws z) c.0 t p none there)
      go (Some q) is found = (q, place_at-home ws.lists z c.0 t (one_home c.0 z (home z _ there)) ∙ is, found)

  -- where no key stands twice, what stands in a list is found
  pub listed_is : AreApart ws.lists → (c : CompNo) (t z : ℕ) (p : Place)
      → Contains (list_of ws z) (record { comp = c.0; target = t }, p) → place_of ws c.0 t ≡ Some p
  listed_is apart c t z p there =
      let r = listed_found c t z p there in
      r.1 ∙ ap (λ q. Some q)
      (one_place (list_of ws z) (record { comp = c.0; target = t }, r.0) (record { comp = c.0; target = t }, p)
      (apart.distinct z) r.2 there refl)

-- what is kept of a list
pub kept_has : (bit : ℕ) (dead : Place → Bool) (es : List (WrapperKey × Place)) (e : WrapperKey × Place)
    → Contains (without_dead bit dead es) e → Contains es e × ((bit == 1) ≡ true → dead e.1 ≡ false)
kept_has bit dead es e c = go (bit == 1) c
  where
    not_dead : (b : Bool) → not b ≡ true → b ≡ false
    not_dead true f = absurd (cc f)
    not_dead false f = refl

    go : (t : Bool) → Contains (cond t (filter (λ d. not (dead d.1)) es) es) e
        → Contains es e × (t ≡ true → dead e.1 ≡ false)
    go true c = (let r = filter_has (λ d. not (dead d.1)) es e c in (r.0, λ is. not_dead (dead e.1) r.1))
    go false c = (c, λ is. absurd (cc is))

pub has_kept : (bit : ℕ) (dead : Place → Bool) (es : List (WrapperKey × Place)) (e : WrapperKey × Place) → Contains es e
    → dead e.1 ≡ false → Contains (without_dead bit dead es) e
has_kept bit dead es e c alive = go (bit == 1)
  where
    go : (t : Bool) → Contains (cond t (filter (λ d. not (dead d.1)) es) es) e
    go true = has_filter (λ d. not (dead d.1)) es e c (ap not alive)
    go false = c

-- A wrapper is added.
use Rattle.std.proofs.Common.{◌≡◌, ◌≢◌, ◌<◌, ◌==◌, ◌&&◌, ◌⊎◌, inl, inr, ℕ, zero, suc, Bool, true, false, cond}
use Rattle.std.proofs.Common.{if◌then◌else◌, List, [], ◌∷◌, ◌++◌, length, set, Option, Some, None, Contains, slice_get}
use Rattle.std.proofs.Common.{refl, sym, ◌∙◌, ap, subst, arith, length-set, get_or-set_same, get_or-set_other}
use Rattle.std.proofs.lemmas.List.Elements.{Contains-push_cases, Contains-get_or}
use Rattle.std.proofs.lemmas.List.Quantifiers.{all_pairs_push}
use Rattle.std.proofs.lemmas.Bool.{cases_eq}
use Rattle.std.proofs.lemmas.Bool.Decides.{nat_tests}
use Rattle.std.specs.Map.{lookup}
use Rattle.gz_names.specs.declared.numbers.Place.{Place}
use Rattle.gz_names.specs.declared.numbers.ZoneNo.{ZoneNo}
use Rattle.wrappers.specs.WrapperMaps.{list_at, is_key, first_of, place_at, add_at, AreSound}
use Rattle.wrappers.specs.declared.wrapper_maps.WrapperKey.{WrapperKey}
use Rattle.wrappers.proofs.Finding.{lookup-none, place_at-home}

-- a look-up in a list with one more entry
lookup-push : (es : List (WrapperKey × Place)) (k : WrapperKey) (p : Place) (c t : ℕ)
    → lookup (is_key c t) (es ++ (k, p) ∷ [])
    ≡ first_of (lookup (is_key c t) es) (if is_key c t k then Some p else None)
lookup-push [] k p c t = refl
lookup-push (e ∷ es) k p c t = by (is_key c t e.0) (lookup-push es k p c t)
  where
    by : (b : Bool) → lookup (is_key c t) (es ++ (k, p) ∷ [])
        ≡ first_of (lookup (is_key c t) es) (if is_key c t k then Some p else None)
        → cond b (Some e.1) (lookup (is_key c t) (es ++ (k, p) ∷ []))
        ≡ first_of (cond b (Some e.1) (lookup (is_key c t) es)) (if is_key c t k then Some p else None)
    by true rest = refl
    by false rest = rest

first_of-assoc : (a b d : Option Place) → first_of (first_of a b) d ≡ first_of a (first_of b d)
first_of-assoc (Some p) b d = refl
first_of-assoc None b d = refl

first_of-none : (o : Option Place) → first_of o None ≡ o
first_of-none (Some p) = refl
first_of-none None = refl

-- a wrapper that is added is found under its key alone
place_at-other : (lists : List (List (WrapperKey × Place))) (zone : ℕ) (k : WrapperKey) (p : Place) (c t : ℕ)
    → is_key c t k ≡ false → place_at (add_at lists zone k p) c t ≡ place_at lists c t
place_at-other [] zone k p c t f = refl
place_at-other (es ∷ lists) zero k p c t f =
    ap (λ o. first_of o (place_at lists c t))
    (lookup-push es k p c t
    ∙ (ap (λ b. first_of (lookup (is_key c t) es) (cond b (Some p) None)) f ∙ first_of-none _))
place_at-other (es ∷ lists) (suc zone) k p c t f =
    ap (first_of (lookup (is_key c t) es)) (place_at-other lists zone k p c t f)

none_before : (a b : Option Place) → first_of a b ≡ None → (a ≡ None) × (b ≡ None)
none_before (Some p) b e = absurd (cc)
none_before None b e = (refl, e)

place_at-same : (lists : List (List (WrapperKey × Place))) (zone : ℕ) (k : WrapperKey) (p : Place) (c t : ℕ)
    → zone < length lists → is_key c t k ≡ true → place_at lists c t ≡ None
    → place_at (add_at lists zone k p) c t ≡ Some p
place_at-same [] zone k p c t h f none = absurd (omega arith)
place_at-same (es ∷ lists) zero k p c t h f none =
    let parts = none_before _ _ none in
    ap (λ o. first_of o (place_at lists c t))
    (lookup-push es k p c t
    ∙ (ap (λ b. first_of (lookup (is_key c t) es) (cond b (Some p) None)) f
    ∙ ap (λ o. first_of o (Some p)) parts.0))
place_at-same (es ∷ lists) (suc zone) k p c t h f none =
    let parts = none_before _ _ none in
    ap (λ o. first_of o (place_at (add_at lists zone k p) c t)) parts.0
    ∙ place_at-same lists zone k p c t (omega arith) f parts.1

pub place_at-add : (lists : List (List (WrapperKey × Place))) (zone comp target : ℕ) (p : Place) → zone < length lists
    → place_at lists comp target ≡ None → (c t : ℕ)
    → place_at (add_at lists zone (record { comp = comp; target = target }) p) c t
    ≡ (if (c == comp) && (t == target) then Some p else place_at lists c t)
place_at-add lists zone comp target p h none c t = by ((c == comp) && (t == target)) refl
  where
    by : (b : Bool) → (c == comp) && (t == target) ≡ b
        → place_at (add_at lists zone (record { comp = comp; target = target }) p) c t
        ≡ cond b (Some p) (place_at lists c t)
    by true f =
        let e : c ≡ comp = grind (arith, nat_tests) in
        let g : t ≡ target = grind (arith, nat_tests) in
        place_at-same lists zone (record { comp = comp; target = target }) p c t h f
        (ap (λ x. place_at lists x t) e ∙ (ap (λ x. place_at lists comp x) g ∙ none))
    by false f = place_at-other lists zone (record { comp = comp; target = target }) p c t f

-- what an entry of the lists with one more is
pub entry_cases : (lists : List (List (WrapperKey × Place))) (zone : ℕ) (k : WrapperKey) (p : Place) (z : ℕ)
    (e : WrapperKey × Place) → zone < length lists → Contains (list_at (add_at lists zone k p) z) e
    → Contains (list_at lists z) e ⊎ ((z ≡ zone) × ((k, p) ≡ e))
entry_cases lists zone k p z e h there = elim (cases_eq z zone) [
  | inl f ↦ (let here = subst (λ (y : ℕ). Contains (list_at (add_at lists zone k p) y) e) f there in
      let read = subst (λ (es : List (WrapperKey × Place)). Contains es e)
      (get_or-set_same lists zone (list_at lists zone ++ (k, p) ∷ []) [] h) here in
      elim (Contains-push_cases (list_at lists zone) (k, p) e read) [
        | inl old ↦ inl (subst (λ (y : ℕ). Contains (list_at lists y) e) (sym f) old)
        | inr new ↦ inr (f, new)
      ])
  | inr n ↦ inl (subst (λ (es : List (WrapperKey × Place)). Contains es e)
      (get_or-set_other lists zone z (list_at lists zone ++ (k, p) ∷ []) [] n) there)
]

slice_get-set_same : {X : Type 0} (xs : List X) (i : ℕ) (y : X) → i < length xs → slice_get (set xs i y) i ≡ Some y
slice_get-set_same [] i y h = absurd (omega arith)
slice_get-set_same (x ∷ xs) zero y h = refl
slice_get-set_same (x ∷ xs) (suc i) y h = slice_get-set_same xs i y (omega arith)

slice_get-set_other : {X : Type 0} (xs : List X) (i j : ℕ) (y : X) → j ≢ i → slice_get (set xs i y) j ≡ slice_get xs j
slice_get-set_other [] i j y n = refl
slice_get-set_other (x ∷ xs) zero zero y n = absurd (n refl)
slice_get-set_other (x ∷ xs) zero (suc j) y n = refl
slice_get-set_other (x ∷ xs) (suc i) zero y n = refl
slice_get-set_other (x ∷ xs) (suc i) (suc j) y n = slice_get-set_other xs i j y (λ e. n (omega arith))

-- the entry that is found under a compartment and a target, told of the whole key
found_not : (lists : List (List (WrapperKey × Place))) (homes : List (Option ZoneNo)) (comp target home : ℕ)
    → ((z : ℕ) (e : WrapperKey × Place) → Contains (list_at lists z) e → e.0.comp ≡ comp → z ≡ home)
    → place_at lists comp target ≡ None → (z : ℕ) (e : WrapperKey × Place) → Contains (list_at lists z) e
    → record { comp = comp; target = target } ≡ e.0 → ⊥
found_not lists homes comp target home one none z e there same =
    let k : e.0.comp ≡ comp = ap (λ (x : WrapperKey). x.comp) (sym same) in
    let at : z ≡ home = one z e there k in
    let here = subst (λ (y : ℕ). Contains (list_at lists y) e) at there in
    lookup-none (list_at lists home) comp target e.1 (sym (place_at-home lists home comp target one) ∙ none)
    (subst (λ (x : WrapperKey). Contains (list_at lists home) (x, e.1)) (sym same) here)

-- what always holds, with one wrapper more
pub AreSound-add : (lists : List (List (WrapperKey × Place))) (homes : List (Option ZoneNo)) (zone comp target : ℕ)
    (p : Place) → AreSound lists homes → zone < 64 → comp < 256 → place_at lists comp target ≡ None
    → ((z : ℕ) (e : WrapperKey × Place) → Contains (list_at lists z) e → e.0.comp ≡ comp → z ≡ zone)
    → AreSound (add_at lists zone (record { comp = comp; target = target }) p) (set homes comp (Some zone))
AreSound-add lists homes zone comp target p h zone_fits comp_fits none one = record {
  zones = length-set lists zone _ ∙ h.zones;
  comps = length-set homes comp _ ∙ h.comps;
  at_home = λ z e there.
      elim (entry_cases lists zone (record { comp = comp; target = target }) p z e (rw h.zones zone_fits) there) [
        | inl old ↦ (elim (cases_eq e.0.comp comp) [
          | inl f ↦ rw (f, one z e old f) (slice_get-set_same homes comp (Some zone) (rw h.comps comp_fits))
          | inr n ↦ (slice_get-set_other homes comp e.0.comp (Some zone) n ∙ h.at_home z e old)
        ])
        | inr new ↦ (let k : comp ≡ e.0.comp = ap (λ (x : WrapperKey × Place). x.0.comp) new.1 in
            rw (← k, new.0) (slice_get-set_same homes comp (Some zone) (rw h.comps comp_fits)))
      ];
  distinct = λ z. elim (cases_eq z zone) [
    | inl f ↦ (let key : WrapperKey = record { comp = comp; target = target } in
        let here : list_at (add_at lists zone key p) z ≡ list_at lists zone ++ (key, p) ∷ [] =
        ap (list_at (add_at lists zone key p)) f ∙ get_or-set_same lists zone (list_at lists zone ++ (key, p) ∷ [])
        [] (rw h.zones zone_fits) in
        rw here (all_pairs_push (λ (d e : WrapperKey × Place). d.0 ≢ e.0) (list_at lists zone) (key, p)
        (h.distinct zone) (λ k d less same. found_not lists homes comp target zone one none zone _
        (Contains-get_or (list_at lists zone) k d less) (sym same))))
    | inr n ↦ rw (get_or-set_other lists zone z _ [] n) (h.distinct z)
  ];
}

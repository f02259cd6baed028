-- Finite maps from names to places as lists, and closures within a list.
use Rattle.std.proofs.Common.{◌≡◌, ℕ, inl, inr, List, [], ◌∷◌, Bool, true, false, ◌||◌, ◌&&◌, cond, refl, sym}
use Rattle.std.proofs.Common.{ap, subst, ◌∙◌, Option, Some, None, Contains, is_some, eqb, eq-eqb}
use Rattle.std.specs.FinMap as map
use Rattle.std.specs.List.{list_any}
use Rattle.std.specs.Ordering.{eq_by_cmp}
use Rattle.gz_names.specs.Order.{name_cmp, names_total, same_name}
use Rattle.gz_names.specs.declared.names.Name.{Name}
use Rattle.gz_names.specs.declared.names.Name.TheVariants.{Cell, Wrap}
use Rattle.gz_names.specs.declared.numbers.CompNo.{CompNo}
use Rattle.colour_defs.specs.Graph.{GraphState, value_of}
use Rattle.colour_defs.specs.Closure.{HasEdge, Closure, from, along, weak, delegate}
use Rattle.colour_defs.proofs.Lists.{nothing_in_none, contains_head, contains_tail, contains_cases, both_of}
use Rattle.colour_defs.proofs.Names.{same_name-is, same_name-refl, eq_name-is, eq_name-refl}

-- the two tests of names agree
pub eq_same : (x y : Name) → eq_by_cmp name_cmp x y ≡ same_name x y
eq_same x y = go (same_name x y) (eq_by_cmp name_cmp x y) refl refl
  where
    go : (s e : Bool) → same_name x y ≡ s → eq_by_cmp name_cmp x y ≡ e → e ≡ s
    go true true p q = refl
    go true false p q = let same : x ≡ y = same_name-is x y p in
        cc (eq_name-refl x, ap (λ z. eq_by_cmp name_cmp x z) same, q)
    go false true p q = let same : x ≡ y = eq_name-is x y q in cc (same_name-refl x, ap (λ z. same_name x z) same, p)
    go false false p q = refl

-- places, as a list
abbrev pub place_in : List (Name × (ℕ × ℕ)) → Name → Option (ℕ × ℕ)
place_in [] x = None
place_in (e ∷ es) x = cond (same_name x e.0) (Some e.1) (place_in es x)

abbrev pub Places : map.FinMap name_cmp (ℕ × ℕ) → List (Name × (ℕ × ℕ)) → Type 0
Places m es = (x : Name) → map.get m x ≡ place_in es x

pub places_empty : Places map.empty []
places_empty x = map.get-empty name_cmp x

pub places_insert : (m : map.FinMap name_cmp (ℕ × ℕ)) (es : List (Name × (ℕ × ℕ))) (k : Name) (p : ℕ × ℕ) → Places m es
    → Places (map.insert m k p) ((k, p) ∷ es)
places_insert m es k p h x = map.get-insert names_total m k p x ∙ ap (λ b. cond b (Some p) (map.get m x)) (eq_same x k)
    ∙ ap (λ z. cond (same_name x k) (Some p) z) (h x)

-- a slot that no entry of the list has
abbrev is_slot : ℕ × ℕ → Name × (ℕ × ℕ) → Bool
is_slot p e = eqb e.1.0 p.0 && eqb e.1.1 p.1

pub fresh_slot : (es : List (Name × (ℕ × ℕ))) (p : ℕ × ℕ) → list_any (is_slot p) es ≡ false → (x : Name)
    → place_in es x ≡ Some p → ⊥
fresh_slot [] p none x e = cc e
fresh_slot (e1 ∷ es) p none x e = go (λ f h. fresh_slot es p f x h) (same_name x e1.0) e
  where
    both : e1.1 ≡ p → is_slot p e1 ≡ true
    both q = both_of _ _ (eq-eqb e1.1.0 p.0 (ap (λ z. z.0) q)) (eq-eqb e1.1.1 p.1 (ap (λ z. z.1) q))

    rest : (b : Bool) → (b || list_any (is_slot p) es) ≡ false → list_any (is_slot p) es ≡ false
    rest true f = absurd (cc f)
    rest false f = f

    hit : (b : Bool) → b ≡ true → (b || list_any (is_slot p) es) ≡ false → ⊥
    hit true q f = cc f
    hit false q f = cc q

    go : (list_any (is_slot p) es ≡ false → place_in es x ≡ Some p → ⊥) → (b : Bool)
        → cond b (Some e1.1) (place_in es x) ≡ Some p → ⊥
    go more true h = hit (is_slot p e1) (both (cc h)) none
    go more false h = more (rest (is_slot p e1) none) h

abbrev pub names_of : List (Name × (ℕ × ℕ)) → List Name
names_of [] = []
names_of (e ∷ es) = e.0 ∷ names_of es

pub place_named : (es : List (Name × (ℕ × ℕ))) (x : Name) → is_some (place_in es x) ≡ true → Contains (names_of es) x
place_named [] x e = absurd (cc e)
place_named (e1 ∷ es) x e = go (λ h. place_named es x h) (same_name x e1.0) refl e
  where
    go : (is_some (place_in es x) ≡ true → Contains (names_of es) x) → (b : Bool) → same_name x e1.0 ≡ b
        → is_some (cond b (Some e1.1) (place_in es x)) ≡ true → Contains (e1.0 ∷ names_of es) x
    go more true is h = subst (λ z. Contains (e1.0 ∷ names_of es) z) (sym (same_name-is x e1.0 is))
        (contains_head e1.0 (names_of es))
    go more false is h = contains_tail e1.0 (names_of es) x (more h)

pub single : {X : Type 0} (x y : X) → Contains (x ∷ []) y → x ≡ y
single x y c = elim (contains_cases x [] y c) [ inl e ↦ e | inr t ↦ absurd (nothing_in_none y t) ]

-- what holds of each member of a list
abbrev pub Each : (Name → Type 0) → List Name → Type 0
Each P [] = Unit {0}
Each P (x ∷ xs) = P x × Each P xs

pub each_has : (P : Name → Type 0) (xs : List Name) → Each P xs → (x : Name) → Contains xs x → P x
each_has P [] e x c = absurd (nothing_in_none x c)
each_has P (y ∷ ys) e x c =
    elim (contains_cases y ys x c) [ inl q ↦ subst (λ z. P z) q e.0 | inr t ↦ each_has P ys e.1 x t ]

-- what is reached is in a list that is closed
pub reached_within : (g : GraphState) (start : Name → Type 0) (ks : List Name) → ((x : Name) → start x → Contains ks x)
    → ((x y : Name) → Contains ks x → HasEdge g x y → Contains ks y)
    → ((m k v : Name) → value_of g m k ≡ Some v → Contains ks m → Contains ks k → Contains ks v)
    → ((m v : Name) (c : CompNo) (t : ℕ) → value_of g m (Wrap c t) ≡ Some v → Contains ks m → Contains ks (Cell t)
    → Contains ks (Wrap c t)) → {x : Name} → Closure g start x → Contains ks x
reached_within g start ks s e v d (from h) = s _ h
reached_within g start ks s e v d (along r f) = e _ _ (reached_within g start ks s e v d r) f
reached_within g start ks s e v d (weak at m k) =
    v _ _ _ at (reached_within g start ks s e v d m) (reached_within g start ks s e v d k)
reached_within g start ks s e v d (delegate at m t) =
    d _ _ _ _ at (reached_within g start ks s e v d m) (reached_within g start ks s e v d t)

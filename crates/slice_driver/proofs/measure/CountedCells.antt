-- The present cells of marking zones are as many as the names that are counted, at most: each has a name of its own.
use Rattle.std.proofs.Common.{◌≡◌, ◌⊎◌, ◌+◌, ◌<◌, ◌≤◌, ℕ, zero, suc, Bool, true, false, inl, inr, refl, sym, ap}
use Rattle.std.proofs.Common.{◌∙◌}
use Rattle.std.proofs.Common.{subst, arith, cond, List, [], ◌∷◌, ◌++◌, length, filter, count_by, sum_by, Contains}
use Rattle.std.proofs.Common.{is_some}
use Rattle.std.proofs.Common.{Option, Some}
use Rattle.std.specs.Prelude.{unwrap_or, ⊤}
use Rattle.std.specs.FinMap as places
use Rattle.std.proofs.lemmas.List.Elements.{Contains-append_cases}
use Rattle.std.proofs.lemmas.List.Sums.{sum_by-cons}
use Rattle.std.proofs.lemmas.Map.Views.{Contains-from_any}
use Rattle.std.specs.Ordering.{eq_by_cmp}
use Rattle.gz_names.specs.Order.{name_cmp}
use Rattle.gz_names.specs.declared.names.Name.{Name}
use Rattle.gz_names.specs.declared.names.Name.TheVariants.{Cell}
use Rattle.gz_names.specs.declared.numbers.Place.{Place}
use Rattle.gray_lists.specs.Incoming.{IsOnce}
use Rattle.colour_defs.specs.World.{World}
use Rattle.colour_defs.proofs.Lists.{contains_cases, contains_head, contains_tail}
use Rattle.colour_defs.proofs.Names.{eq_name-is}
use Rattle.heap_core.specs.Shape.{IsPresent, Shape, cell_of, name_at}
use Rattle.heap_core.specs.Heap.{HeapState}
use Rattle.slice_driver.specs.UnitsToCome.{places_below, present_places, slots_of}
use Rattle.slice_driver.specs.Worlds.{LiesIn}
use Rattle.slice_driver.proofs.abstraction.Named.{name_of, some_one}
use Rattle.slice_driver.proofs.group_end.Wrappers.{filter_has}

-- a list without one of its members
record TakesOut {X : Type 0} (f : X → ℕ) (xs : List X) (x : X) : Type 0 where
  rest : List X
  sum : sum_by f xs ≡ f x + sum_by f rest
  others : (z : X) → Contains xs z → (x ≡ z) ⊎ Contains rest z

takes_out : {X : Type 0} (f : X → ℕ) (xs : List X) (x : X) → Contains xs x → TakesOut f xs x
takes_out f [] x c = absurd (omega (arith, c.1))
takes_out f (y ∷ ys) x c = elim (contains_cases y ys x c) [
  | inl is ↦ record {
    rest = ys;
    sum = subst (λ z. sum_by f (y ∷ ys) ≡ f z + sum_by f ys) is (sum_by-cons f y ys);
    others = λ z d. elim (contains_cases y ys z d) [ inl e ↦ inl (sym is ∙ e) | inr later ↦ inr later ];
  }
  | inr later ↦ (let out = takes_out f ys x later in record {
    rest = y ∷ out.rest;
    sum = omega (arith, sum_by-cons f y ys, out.sum, sum_by-cons f y out.rest);
    others = λ z d. elim (contains_cases y ys z d) [
      | inl e ↦ inr (subst (λ w. Contains (y ∷ out.rest) w) e (contains_head y out.rest))
      | inr there ↦ elim (out.others z there)
          [ inl same ↦ inl same | inr still ↦ inr (contains_tail y out.rest z still) ]
    ];
  })
]

-- no two members of a list are matched with the same thing
abbrev pub AreApartBy : {X Y : Type 0} → (Y → X → Type 0) → List Y → Type 0
AreApartBy R [] = ⊤
AreApartBy R (y ∷ ys) = ((z : _) → Contains ys z → (x : _) → R y x → R z x → ⊥) × AreApartBy R ys

-- a sum over members that are matched with different members of another list, and count for no more than those
pub sum_matched : {X Y : Type 0} (f : X → ℕ) (g : Y → ℕ) (R : Y → X → Type 0) (xs : List X) (ys : List Y)
    → AreApartBy R ys → ((y : Y) → Contains ys y → (x : X) × Contains xs x × R y x × (g y ≤ f x))
    → sum_by g ys ≤ sum_by f xs
sum_matched f g R xs [] apart matched = omega arith
sum_matched f g R xs (y ∷ ys) apart matched =
    let here = matched y (contains_head y ys) in
    let out = takes_out f xs here.0 here.1 in
    let rest = sum_matched f g R out.rest ys apart.1
    (λ z c. (let m = matched z (contains_tail y ys z c) in (
      m.0,
      elim (out.others m.0 m.1) [
        | inl same ↦ absurd (apart.0 z c here.0 here.2 (subst (λ x. R z x) (sym same) m.2))
        | inr there ↦ there
      ],
      m.2,
      m.3,
    ))) in
    omega (arith, out.sum, rest, here.3, sum_by-cons g y ys)

-- the members of a list lead to different things
abbrev pub IsApart : {X Y : Type 0} → (Y → X) → List Y → Type 0
IsApart to [] = ⊤
IsApart to (y ∷ ys) = ((z : _) → Contains ys z → to y ≡ to z → ⊥) × IsApart to ys

apart_by : {X Y : Type 0} (to : Y → X) (ys : List Y) → IsApart to ys → AreApartBy (λ y x. to y ≡ x) ys
apart_by to [] apart = tt
apart_by to (y ∷ ys) apart = ((λ z c x e f. apart.0 z c (e ∙ sym f)), apart_by to ys apart.1)

-- a sum over members that lead to different members of another list, and count for no more than those
pub sum_injected : {X Y : Type 0} (f : X → ℕ) (g : Y → ℕ) (to : Y → X) (xs : List X) (ys : List Y) → IsApart to ys
    → ((y : Y) → Contains ys y → Contains xs (to y)) → ((y : Y) → Contains ys y → g y ≤ f (to y))
    → sum_by g ys ≤ sum_by f xs
sum_injected f g to xs ys apart into less =
    sum_matched f g (λ y x. to y ≡ x) xs ys (apart_by to ys apart) (λ y c. (to y, into y c, refl, less y c))

-- places that stand once in a list, and lead to different things
apart_once : {X : Type 0} (to : Place → X) (ys : List Place) → IsOnce ys
    → ((y z : Place) → Contains ys y → Contains ys z → to y ≡ to z → y ≡ z) → IsApart to ys
apart_once to [] once apart = tt
apart_once to (y ∷ ys) once apart = (
  λ z c e. once.0 (subst (λ w. Contains ys w)
      (sym (apart y z (contains_head y ys) (contains_tail y ys z c) e)) c),
  apart_once to ys once.1 (λ w z c d e. apart w z (contains_tail y ys w c) (contains_tail y ys z d) e),
)

-- each place stands once among all places
slots_in : (arena n : ℕ) (p : Place) → Contains (slots_of arena n) p → (p.0 ≡ arena) × (p.1 < n)
unfolding slots_of
slots_in arena zero p c = absurd (omega (arith, c.1))
slots_in arena (suc n) p c = elim (contains_cases (arena, n) (slots_of arena n) p c) [
  | inl is ↦ (let last : n ≡ p.1 = ap (λ (q : Place). q.1) is in
      (sym (ap (λ (q : Place). q.0) is), omega (arith, last)))
  | inr rest ↦ (let low = slots_in arena n p rest in (low.0, omega (arith, low.1)))
]

slots_once : (arena n : ℕ) → IsOnce (slots_of arena n)
unfolding slots_of
slots_once arena zero = tt
slots_once arena (suc n) = (λ c. (let low = slots_in arena n (arena, n) c in omega (arith, low.1)), slots_once arena n)

places_in : (n : ℕ) (p : Place) → Contains (places_below n) p → p.0 < n
unfolding places_below
places_in zero p c = absurd (omega (arith, c.1))
places_in (suc n) p c = elim (Contains-append_cases (slots_of n 64) (places_below n) p c) [
  | inl here ↦ (let is = slots_in n 64 p here in omega (arith, is.0))
  | inr rest ↦ (let low = places_in n p rest in omega (arith, low))
]

once_append : (xs ys : List Place) → IsOnce xs → IsOnce ys
    → ((p : Place) → Contains xs p → Contains ys p → ⊥) → IsOnce (xs ++ ys)
once_append [] ys first second apart = second
once_append (x ∷ xs) ys first second apart = (
  λ c. elim (Contains-append_cases xs ys x c) [
    | inl again ↦ first.0 again
    | inr there ↦ apart x (contains_head x xs) there
  ],
  once_append xs ys first.1 second (λ p c d. apart p (contains_tail x xs p c) d),
)

places_once : (n : ℕ) → IsOnce (places_below n)
unfolding places_below
places_once zero = tt
places_once (suc n) = once_append (slots_of n 64) (places_below n) (slots_once n 64) (places_once n)
    (λ p c d. (let is = slots_in n 64 p c in let low = places_in n p d in omega (arith, is.0, low)))

once_filter : (test : Place → Bool) (xs : List Place) → IsOnce xs → IsOnce (filter test xs)
once_filter test [] once = tt
once_filter test (x ∷ xs) once = go (test x) (once_filter test xs once.1)
  where
    go : (b : Bool) → IsOnce (filter test xs) → IsOnce (cond b (x ∷ filter test xs) (filter test xs))
    go true rest = ((λ c. once.0 (filter_has test xs x c).0), rest)
    go false rest = rest

pub present_once : (s : Shape) → IsOnce (present_places s)
present_once s = once_filter (λ p. is_some (cell_of s p)) (places_below (length s.arenas))
    (places_once (length s.arenas))

pub listed_present : (s : Shape) (p : Place) → Contains (present_places s) p → IsPresent s p
listed_present s p c = (filter_has (λ q. is_some (cell_of s q)) (places_below (length s.arenas)) p c).1

-- so the cells that pass a test are no more than the present names that pass one which holds of their names
module _ (h : HeapState) (w : World) (lies : LiesIn h w) (test : Place → Bool) (counts : Name → Bool)
    (holds : (p : Place) (x : Name) → name_at h.shape p ≡ Some x → test p ≡ true → counts x ≡ true) where
  abbrev name_or : Place → Name
  name_or p = unwrap_or (name_at h.shape p) (Cell 0)

  named : (p : Place) → Contains (present_places h.shape) p → name_at h.shape p ≡ Some (name_or p)
  named p c =
      let name = name_of h.shape p (listed_present h.shape p c) in
      let is : name_or p ≡ name.0 = ap (λ (o : Option Name). unwrap_or o (Cell 0)) name.1 in
      name.1 ∙ ap (λ (x : Name). Some x) (sym is)

  one_place : (p q : Place) → Contains (present_places h.shape) p → Contains (present_places h.shape) q
      → name_or p ≡ name_or q → p ≡ q
  one_place p q c d same =
      let first = (lies.places_are (name_or p) p).1 (named p c) in
      let second = (lies.places_are (name_or q) q).1 (named q d) in
      some_one p q (sym first ∙ (ap (places.get w.places) same ∙ second))

  among : (p : Place) → Contains (present_places h.shape) p → Contains (places.keys w.places) (name_or p)
  among p c =
      let at = (lies.places_are (name_or p) p).1 (named p c) in
      let there : places.contains_key w.places (name_or p) ≡ true = ap (λ (o : Option Place). is_some o) at in
      Contains-from_any {eq = eq_by_cmp name_cmp} (λ x y e. eq_name-is x y e) (name_or p) (places.keys w.places)
      (sym (places.contains_key-keys w.places (name_or p)) ∙ there)

  one_each : (p : Place) → Contains (present_places h.shape) p → cond (test p) 1 0 ≤ cond (counts (name_or p)) 1 0
  one_each p c = go (test p) refl
    where
      go : (b : Bool) → test p ≡ b → cond b 1 0 ≤ cond (counts (name_or p)) 1 0
      go true passes =
          let one : ◌≡◌ {A = ℕ} (cond (counts (name_or p)) 1 0) 1 =
          ap (λ b. cond b 1 0) (holds p (name_or p) (named p c) passes) in
          omega (arith, one)
      go false fails = omega arith

  pub counted_cells : count_by test (present_places h.shape) ≤ count_by counts (places.keys w.places)
  counted_cells =
      sum_injected (λ x. cond (counts x) 1 0) (λ p. cond (test p) 1 0) name_or (places.keys w.places)
      (present_places h.shape) (apart_once name_or (present_places h.shape) (present_once h.shape) one_place) among
      one_each

-- The wrappers on the lists of zones are as many as the names that are counted, at most: each has a name of its own.
use Rattle.std.proofs.Common.{◌≡◌, ◌-◌, ◌*◌, ◌<◌, ◌≤◌, ◌==◌, ℕ, zero, suc, Bool, true, false, inl, inr, refl, sym}
use Rattle.std.proofs.Common.{ap, ◌∙◌, arith, cond, List, [], ◌∷◌, ◌++◌, length, count_by, sum_by}
use Rattle.std.proofs.Common.{Contains, Option, Some, is_some, slice_get, slice_index_or, if◌then◌else◌}
use Rattle.std.specs.FinMap as places
use Rattle.std.specs.Int.{bit_at}
use Rattle.std.specs.Ordering.{eq_by_cmp}
use Rattle.std.proofs.lemmas.List.{length-append}
use Rattle.std.proofs.lemmas.List.Elements.{Contains-append_cases}
use Rattle.std.proofs.lemmas.List.Sums.{sum_by-cons}
use Rattle.std.proofs.lemmas.Map.Views.{Contains-from_any}
use Rattle.std.proofs.lemmas.Nat.Bits.{bit_at-lt}
use Rattle.gz_names.specs.Order.{name_cmp}
use Rattle.gz_names.specs.declared.names.Name.{Name}
use Rattle.gz_names.specs.declared.numbers.Place.{Place}
use Rattle.arena_table.specs.Indexed.{in_zones}
use Rattle.wrappers.specs.WrapperMaps.{AreApart, WrappersState, list_of}
use Rattle.wrappers.proofs.Finding.{found-there}
use Rattle.wrappers.specs.declared.wrapper_maps.WrapperKey.{WrapperKey}
use Rattle.colour_defs.specs.Graph.{zone_of}
use Rattle.colour_defs.specs.World.{World, is_wrapper}
use Rattle.colour_defs.proofs.Lists.{contains_head, contains_tail, nothing_in_none}
use Rattle.colour_defs.proofs.Names.{eq_name-is}
use Rattle.heap_core.specs.Shape.{Shape, name_at}
use Rattle.heap_core.specs.Heap.{HeapState}
use Rattle.zone_edges.specs.Looks.{cursor_of, left_below}
use Rattle.zone_edges.specs.Noted.{Noted}
use Rattle.slice_driver.specs.ListedWrappers.{listed_below}
use Rattle.slice_driver.specs.UnitsToCome.{present_places}
use Rattle.slice_driver.specs.Worlds.{LiesIn}
use Rattle.slice_driver.proofs.abstraction.Named.{named_present, some_one}
use Rattle.slice_driver.proofs.group_end.FewWrappers.{key_name, same_key}
use Rattle.slice_driver.proofs.measure.CountedCells.{IsApart, sum_injected}
use Rattle.slice_driver.proofs.measure.PresentPlaces.{present_listed}

-- a list whose members are pairwise apart, and two such lists without a common one
pub apart_pairs : {X Y : Type 0} (to : Y → X) (ys : List Y)
    → ((i j : ℕ) (d : Y) → i < j → j < length ys → to (slice_index_or ys i d)
    ≡ to (slice_index_or ys j d) → ⊥) → IsApart to ys
apart_pairs to [] apart = tt
apart_pairs to (y ∷ ys) apart = (
  λ z c e. apart 0 (suc c.0) z (omega arith) (omega (arith, c.1)) (e ∙ sym (ap to c.2)),
  apart_pairs to ys (λ i j d lt within. apart (suc i) (suc j) d (omega (arith, lt)) (omega (arith, within))),
)

-- members that lead to different things are different
apart_finer : {X Y Z : Type 0} (to : Y → X) (on : Y → Z) (ys : List Y) → IsApart to ys
    → ((y z : Y) → Contains ys y → Contains ys z → on y ≡ on z → to y ≡ to z) → IsApart on ys
apart_finer to on [] apart finer = tt
apart_finer to on (y ∷ ys) apart finer = (
  λ z c e. apart.0 z c (finer y z (contains_head y ys) (contains_tail y ys z c) e),
  apart_finer to on ys apart.1 (λ w z c d e. finer w z (contains_tail y ys w c) (contains_tail y ys z d) e),
)

apart_append : {X Y : Type 0} (to : Y → X) (xs ys : List Y) → IsApart to xs → IsApart to ys
    → ((x y : Y) → Contains xs x → Contains ys y → to x ≡ to y → ⊥) → IsApart to (xs ++ ys)
apart_append to [] ys first second across = second
apart_append to (x ∷ xs) ys first second across = (
  λ z c e. elim (Contains-append_cases xs ys z c) [
    | inl in_first ↦ first.0 z in_first e
    | inr in_second ↦ across x z (contains_head x xs) in_second e
  ],
  apart_append to xs ys first.1 second (λ y z c d. across y z (contains_tail x xs y c) d),
)

pub each_one : {X : Type 0} (xs : List X) → sum_by (λ x. 1) xs ≡ length xs
each_one [] = refl
each_one (x ∷ xs) = let rest = each_one xs in let both = sum_by-cons (λ y. 1) x xs in omega (arith, rest, both)

-- the wrappers of zones that pass a test, each with its key
module _ (h : HeapState) (w : World) (lies : LiesIn h w) (apart : AreApart h.shape.wrappers.lists) (test : ℕ → Bool)
    (counts : Name → Bool) (holds : (z : ℕ) (x : Name) → test z ≡ true → zone_of w.graph x ≡ Some z
    → is_wrapper x ≡ true → counts x ≡ true) where
  abbrev entry_name : WrapperKey × Place → Name
  entry_name e = key_name e.0

  here : ℕ → List (WrapperKey × Place)
  here z = if test z then list_of h.shape.wrappers z else []

  listed : ℕ → List (WrapperKey × Place)
  listed zero = []
  listed (suc z) = here z ++ listed z

  here_length : (z : ℕ) → length (here z) ≡ (if test z then length (list_of h.shape.wrappers z) else 0)
  unfolding here
  here_length z = go (test z)
    where
      go : (b : Bool) → length (if b then list_of h.shape.wrappers z else [])
          ≡ (if b then length (list_of h.shape.wrappers z) else 0)
      go true = refl
      go false = refl

  listed_length : (n : ℕ) → length (listed n) ≡ listed_below h.shape test n
  unfolding listed listed_below
  listed_length zero = refl
  listed_length (suc z) =
      let both = length-append (here z) (listed z) in
      let rest = listed_length z in
      let first = here_length z in
      omega (arith, both, rest, first)

  in_here : (z : ℕ) (e : WrapperKey × Place) → Contains (here z) e
      → (test z ≡ true) × Contains (list_of h.shape.wrappers z) e
  unfolding here
  in_here z e c = go (test z) refl c
    where
      go : (b : Bool) → test z ≡ b → Contains (if b then list_of h.shape.wrappers z else []) e
          → (test z ≡ true) × Contains (list_of h.shape.wrappers z) e
      go true on there = (on, there)
      go false off there = absurd (nothing_in_none e there)

  in_listed : (n : ℕ) (e : WrapperKey × Place) → Contains (listed n) e
      → (z : ℕ) × (z < n) × (test z ≡ true) × Contains (list_of h.shape.wrappers z) e
  unfolding listed
  in_listed zero e c = absurd (nothing_in_none e c)
  in_listed (suc z) e c = elim (Contains-append_cases (here z) (listed z) e c) [
    | inl at ↦ (let there = in_here z e at in (z, omega arith, there.0, there.1))
    | inr rest ↦ (let low = in_listed z e rest in (low.0, omega (arith, low.1), low.2, low.3))
  ]

  one_zone : (y z : ℕ) (d e : WrapperKey × Place) → Contains (list_of h.shape.wrappers y) d
      → Contains (list_of h.shape.wrappers z) e → entry_name d ≡ entry_name e → y ≡ z
  one_zone y z d e first second same =
      apart.one_zone y z d e first second (ap (λ (k : WrapperKey). k.comp) (same_key d.0 e.0 same))

  here_apart : (z : ℕ) → IsApart entry_name (here z)
  unfolding here
  here_apart z = go (test z)
    where
      go : (b : Bool) → IsApart entry_name (if b then list_of h.shape.wrappers z else [])
      go true = apart_pairs entry_name (list_of h.shape.wrappers z)
          (λ i j d lt within same. apart.distinct z i j d lt within
          (same_key (slice_index_or (list_of h.shape.wrappers z) i d).0
          (slice_index_or (list_of h.shape.wrappers z) j d).0 same))
      go false = tt

  listed_apart : (n : ℕ) → IsApart entry_name (listed n)
  unfolding listed
  listed_apart zero = tt
  listed_apart (suc z) = apart_append entry_name (here z) (listed z) (here_apart z) (listed_apart z)
      (λ d e c f same. (let low = in_listed z e f in
      let is = one_zone z low.0 d e (in_here z d c).1 low.3 same in omega (arith, is, low.1)))

  named : (z : ℕ) (e : WrapperKey × Place) → Contains (list_of h.shape.wrappers z) e
      → name_at h.shape e.1 ≡ Some (entry_name e)
  named z e there = lies.shown.mapped (record { 0 = e.0.comp }) e.0.target e.1
      (found-there h.shape.wrappers.lists z e apart there)

  into : (z : ℕ) (e : WrapperKey × Place) → Contains (list_of h.shape.wrappers z) e
      → Contains (places.keys w.places) (entry_name e)
  into z e there =
      let at = (lies.places_are (entry_name e) e.1).1 (named z e there) in
      let present : places.contains_key w.places (entry_name e) ≡ true = ap (λ (o : Option Place). is_some o) at in
      Contains-from_any {eq = eq_by_cmp name_cmp} (λ x y t. eq_name-is x y t) (entry_name e) (places.keys w.places)
      (sym (places.contains_key-keys w.places (entry_name e)) ∙ present)

  in_zone : (z : ℕ) (e : WrapperKey × Place) → Contains (list_of h.shape.wrappers z) e
      → zone_of w.graph (entry_name e) ≡ Some z
  in_zone z e there =
      ap (λ (cs : List ℕ). slice_get cs e.0.comp)
      (sym lies.part.part.comps ∙ lies.shown.comps_are) ∙ lies.shown.maps_at_home z e there

  pub counted_wrappers : (n : ℕ) → listed_below h.shape test n ≤ count_by counts (places.keys w.places)
  counted_wrappers n =
      let all = sum_injected (λ x. cond (counts x) 1 0) (λ e. 1) entry_name (places.keys w.places) (listed n)
      (listed_apart n)
      (λ e c. (let at = in_listed n e c in into at.0 e at.3))
      (λ e c. (let at = in_listed n e c in
      let one : ◌≡◌ {A = ℕ} (cond (counts (entry_name e)) 1 0) 1 =
      ap (λ b. cond b 1 0) (holds at.0 (entry_name e) at.2 (in_zone at.0 e at.3) refl) in
      omega (arith, one))) in
      let long = each_one (listed n) in
      let same = listed_length n in
      omega (arith, all, long, same)

  -- each stands in a place of its own
  apart_places : (n : ℕ) → IsApart (λ (e : WrapperKey × Place). e.1) (listed n)
  apart_places n = apart_finer entry_name (λ (e : WrapperKey × Place). e.1) (listed n) (listed_apart n)
      (λ d e c f same. (let first = in_listed n d c in
      let second = in_listed n e f in
      some_one _ _ (sym (named first.0 d first.3) ∙ (ap (name_at h.shape) same ∙ named second.0 e second.3))))

  pub few_listed : (n : ℕ) → listed_below h.shape test n ≤ length (present_places h.shape)
  few_listed n =
      let all = sum_injected (λ (p : Place). 1) (λ (e : WrapperKey × Place). 1) (λ (e : WrapperKey × Place). e.1)
      (present_places h.shape) (listed n) (apart_places n)
      (λ e c. (let at = in_listed n e c in present_listed h.shape lies.whole e.1
      (named_present h.shape e.1 (entry_name e) (named at.0 e at.3)))) (λ e c. omega arith) in
      let long = each_one (listed n) in
      let cells = each_one (present_places h.shape) in
      let same = listed_length n in
      omega (arith, all, long, cells, same)

-- no more than all wrappers of the zones are to be looked at
pub left_listed : (s : Shape) (n : Noted) (k : ℕ) → left_below s n k ≤ listed_below s (in_zones n.zones.bits) k
unfolding left_below listed_below
left_listed s n zero = omega arith
left_listed s n (suc z) =
    let rest = left_listed s n z in
    let here = go (bit_at n.zones.bits z) (length (list_of s.wrappers z) - cursor_of n z)
    (length (list_of s.wrappers z)) (bit_at-lt n.zones.bits z) (omega arith) in
    omega (arith, rest, here)
  where
    go : (b m l : ℕ) → b < 2 → m ≤ l → b * m ≤ (if b == 1 then l else 0)
    go zero m l low less = omega arith
    go (suc zero) m l low less = omega (arith, less)
    go (suc (suc b)) m l low less = absurd (omega (arith, low))

-- where the wrappers are as they were
pub listed_same : (s t : Shape) (test : ℕ → Bool) → s.wrappers ≡ t.wrappers → (n : ℕ)
    → listed_below s test n ≡ listed_below t test n
unfolding listed_below
listed_same s t test same zero = refl
listed_same s t test same (suc z) =
    let rest = listed_same s t test same z in
    let here = ap (λ (ws : WrappersState). if test z then length (list_of ws z) else 0) same in
    omega (arith, rest, here)

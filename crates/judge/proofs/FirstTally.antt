-- What the judge counts as marking begins is the first tally of the definitions: both count over the present cells,
-- ascending.
use Rattle.std.proofs.Common.{◌≡◌, ◌⊎◌, ◌↔◌, ◌∙◌, inl, inr, ℕ, Bool, true, false, not, ◌&&◌, ◌||◌, T, List, [], ◌∷◌}
use Rattle.std.proofs.Common.{length, Contains, IsTrue, count_by, is_some, refl, sym, ap, subst}
use Rattle.std.specs.BTreeMap as tree
use Rattle.std.specs.FinMap as map
use Rattle.std.specs.FinMap.Entries.{below_all, is_sorted}
use Rattle.std.specs.Cmp.{eq_by_cmp_equiv, tied_itself}
use Rattle.std.specs.List.{AllByRecursion}
use Rattle.std.specs.List.Sorted.{IsStrictlySortedBy}
use Rattle.std.specs.Map.{keys_of}
use Rattle.std.specs.Ordering.{is_lt, ordering_reverse}
use Rattle.std.proofs.lemmas.Map.Keys.{sorted_head, sorted_tail}
use Rattle.std.proofs.lemmas.Map.Views.{Contains-from_any, list_any-from_Contains}
use Rattle.std.specs.declared.cmp.Ordering.{Ordering}
use Rattle.std.specs.declared.cmp.Ordering.TheVariants.{Less, Equal, Greater}
use Rattle.gz_names.specs.Zones.{zones_in}
use Rattle.gz_names.specs.declared.zone_sets.ZoneSet.{ZoneSet}
use Rattle.gz_names.specs.declared.names.Name.{Name}
use Rattle.gz_names.specs.Order.{name_cmp, names_total}
use Rattle.colour_defs.specs.Ends.{IsAscending}
use Rattle.colour_defs.specs.Graph.{GraphState, is_in_zones}
use Rattle.colour_defs.specs.World.{IsPresent, Preparation, World, first_tally, is_present, is_wrapper}
use Rattle.colour_defs.specs.Units.{Tally, has_delegate_in_zones}
use Rattle.colour_defs.proofs.Lists.{contains_cases, contains_head, contains_tail, nothing_in_none}
use Rattle.colour_defs.proofs.Names.{eq_name-is}
use Rattle.plain_graph.specs.Indexed.{order_of}
use Rattle.judge.specs.Bounds.{IsFirstTally, StandsPrepared, marking_tally}
use Rattle.judge.specs.Cells.{Cells, HasCell}
use Rattle.judge.proofs.Cells.{cell_among, order_is}
use Rattle.judge.proofs.Tallies.{same_test}

-- a name comes before each of these
pub before_it : (x : Name) (ys : List Name) (y : Name) → AllByRecursion (λ z. IsTrue (is_lt (name_cmp x z))) ys
    → Contains ys y → IsTrue (is_lt (name_cmp x y))
before_it x [] y all c = absurd (nothing_in_none y c)
before_it x (z ∷ zs) y all c = elim (contains_cases z zs y c) [
  | inl e ↦ subst (λ n. IsTrue (is_lt (name_cmp x n))) e all.0
  | inr t ↦ before_it x zs y all.1 t
]

pub not_itself : (x y : Name) → x ≡ y → IsTrue (is_lt (name_cmp x y)) → ⊥
not_itself x y e less =
    let at : is_lt (name_cmp x x) ≡ true = subst (λ z. IsTrue (is_lt (name_cmp x z))) (sym e) less in
    cc (at, ap is_lt (tied_itself names_total x))

not_both : (x y : Name) → IsTrue (is_lt (name_cmp x y)) → IsTrue (is_lt (name_cmp y x)) → ⊥
not_both x y a b = go (name_cmp x y) a (ap is_lt (sym (names_total.antisymm y x)) ∙ b)
  where
    go : (o : Ordering) → IsTrue (is_lt o) → IsTrue (is_lt (ordering_reverse o)) → ⊥
    go Less a b = cc b
    go Equal a b = cc a
    go Greater a b = cc a

-- two ascending lists with the same names
record AreAlike (xs ys : List Name) : Type 0 where
  left : IsAscending xs
  right : IsAscending ys
  same : (z : Name) → Contains xs z ↔ Contains ys z

first_same : (x y : Name) (xs ys : List Name) → AreAlike (x ∷ xs) (y ∷ ys) → x ≡ y
first_same x y xs ys alike = go (contains_cases y ys x ((alike.same x).0 (contains_head x xs)))
    (contains_cases x xs y ((alike.same y).1 (contains_head y ys)))
  where
    go : (y ≡ x) ⊎ Contains ys x → (x ≡ y) ⊎ Contains xs y → x ≡ y
    go (inl e) other = sym e
    go (inr c) (inl e) = e
    go (inr c) (inr d) = absurd (not_both x y (before_it x xs y alike.left.0 d) (before_it y ys x alike.right.0 c))

rest_in : (x y z : Name) (xs ys : List Name) → x ≡ y → IsAscending (x ∷ xs) → Contains (y ∷ ys) z → Contains xs z
    → Contains ys z
rest_in x y z xs ys e up c there = elim (contains_cases y ys z c) [
  | inl is ↦ absurd (not_itself x z (e ∙ is) (before_it x xs z up.0 there))
  | inr t ↦ t
]

rest_alike : (x y : Name) (xs ys : List Name) → x ≡ y → AreAlike (x ∷ xs) (y ∷ ys) → AreAlike xs ys
rest_alike x y xs ys e alike = record {
  left = alike.left.1;
  right = alike.right.1;
  same = λ z. (
    λ c. rest_in x y z xs ys e alike.left ((alike.same z).0 (contains_tail x xs z c)) c,
    λ c. rest_in y x z ys xs (sym e) alike.right ((alike.same z).1 (contains_tail y ys z c)) c,
  );
}

same_names : (xs ys : List Name) → AreAlike xs ys → xs ≡ ys
same_names [] [] alike = refl
same_names [] (y ∷ ys) alike = absurd (nothing_in_none y ((alike.same y).1 (contains_head y ys)))
same_names (x ∷ xs) [] alike = absurd (nothing_in_none x ((alike.same x).0 (contains_head x xs)))
same_names (x ∷ xs) (y ∷ ys) alike =
    let e = first_same x y xs ys alike in
    let rest = same_names xs ys (rest_alike x y xs ys e alike) in
    λ i. e i ∷ rest i

-- the names of a tree ascend, and those of a finite map
tree_before : (x : Name) (ys : List Name) → AllByRecursion (λ y. order_of x y ≡ Less) ys
    → AllByRecursion (λ y. IsTrue (is_lt (name_cmp x y))) ys
tree_before x [] all = tt
tree_before x (y ∷ ys) all = (ap is_lt (sym (order_is x y) ∙ all.0), tree_before x ys all.1)

tree_ascends : (xs : List Name) → IsStrictlySortedBy order_of xs → IsAscending xs
tree_ascends [] s = tt
tree_ascends (x ∷ xs) s =
    (tree_before x xs (sorted_head order_of x xs s), tree_ascends xs (sorted_tail order_of x xs s))

both_are : (a b : Bool) → T (a && b) → T a × T b
both_are true b t = (tt, t)
both_are false b t = absurd t

truly : (b : Bool) → T b → IsTrue b
truly true t = refl
truly false t = absurd t

map_before : (x : Name) (es : List (Name × (ℕ × ℕ))) → T (below_all name_cmp x es)
    → AllByRecursion (λ y. IsTrue (is_lt (name_cmp x y))) (keys_of es)
map_before x [] t = tt
map_before x (e ∷ es) t = let both = both_are _ _ t in (truly _ both.0, map_before x es both.1)

map_ascends : (es : List (Name × (ℕ × ℕ))) → T (is_sorted name_cmp es) → IsAscending (keys_of es)
map_ascends [] t = tt
map_ascends (e ∷ es) t = let both = both_are _ _ t in (map_before e.0 es both.0, map_ascends es both.1)

pub present_among : (w : World) (x : Name) → IsPresent w x ↔ Contains (map.keys w.places) x
present_among w x = (
  λ h. Contains-from_any eq_name-is x (map.keys w.places) (sym (map.contains_key-keys w.places x) ∙ h),
  λ c. map.contains_key-keys w.places x
      ∙ list_any-from_Contains (eq_by_cmp_equiv names_total) x (map.keys w.places) c,
)

-- what is counted by these names, and by which ones are present
tally_by : GraphState → List ℕ → List Name → (Name → Bool) → ℕ → ℕ → Tally
tally_by g zones names present arenas spent = record {
  arenas = arenas;
  cells = count_by (λ x. is_in_zones g zones x) names;
  entries = count_by (λ e. (is_in_zones g zones e.map || has_delegate_in_zones g zones e.key)
      && (present e.map && present e.key)) g.entries;
  outside = count_by (λ x. is_wrapper x && not (is_in_zones g zones x)) names;
  wrappers = count_by (λ x. is_wrapper x && is_in_zones g zones x) names;
  zones = length zones;
  sweeps = 0;
  spent = spent;
}

-- the present cells, ascending, by what is present
pub same_keys : (cells : Cells) (w : World) → tree.IsOrdered order_of cells
    → ((x : Name) → IsPresent w x ↔ HasCell cells x) → tree.keys cells ≡ map.keys w.places
same_keys cells w up present = same_names (tree.keys cells) (map.keys w.places) (record {
  left = tree_ascends (tree.keys cells) up;
  right = map_ascends (map.entries w.places) (map.entries_sorted w.places);
  same = λ x. (
    λ c. (present_among w x).0 ((present x).1 ((cell_among cells x).1 c)),
    λ c. (cell_among cells x).0 ((present x).0 ((present_among w x).1 c)),
  );
})

module _ (g : GraphState) (zones : ZoneSet) (cells : Cells) (before : Tally) (w : World) (p : Preparation)
    (up : tree.IsOrdered order_of cells) (stands : StandsPrepared g zones cells before w p) where
  names_are : tree.keys cells ≡ map.keys w.places
  names_are = same_keys cells w up stands.present

  present_are : (x : Name) → is_some (tree.get order_of cells x) ≡ is_present w x
  present_are x = same_test (is_some (tree.get order_of cells x)) (is_present w x)
      (λ h. (stands.present x).1 h, λ h. (stands.present x).0 h)

  tallies_are : marking_tally g (zones_in zones) cells before ≡ first_tally w p
  unfolding tally_by
  tallies_are = λ i. tally_by (sym stands.graph_is i) (sym stands.zones_are i) (names_are i) (λ x. present_are x i)
      (sym stands.arenas_are i) (sym stands.spent_is i)

pub first_is : (g : GraphState) (zones : ZoneSet) (cells : Cells) (before t : Tally) → tree.IsOrdered order_of cells
    → t ≡ marking_tally g (zones_in zones) cells before → IsFirstTally g zones cells before t
first_is g zones cells before t up is = λ w p stands. is ∙ tallies_are g zones cells before w p up stands

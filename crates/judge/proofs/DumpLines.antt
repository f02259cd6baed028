-- The lines of a dump, one after another.
use Rattle.std.proofs.Common.{◌≡◌, ◌∙◌, ◌⊎◌, inl, inr, ℕ, ◌+◌, ◌<◌, ◌≤◌, Bool, true, false, cond, ◌&&◌, List, [], ◌∷◌}
use Rattle.std.proofs.Common.{◌++◌, append_assoc, length, get_or, take, map, Option, Some, None, Contains, IsTrue}
use Rattle.std.proofs.Common.{refl, sym, ap, subst}
use Rattle.std.specs.BTreeMap as tree
use Rattle.std.specs.Cmp.{IsTotalOrder, then_total, on_total}
use Rattle.std.specs.List.{flat_map, AllByRecursion}
use Rattle.std.specs.List.Sorted.{IsStrictlySortedBy}
use Rattle.std.specs.Map.{keys_of, lookup}
use Rattle.std.specs.Ordering.{is_eq, is_lt, ordering_then}
use Rattle.std.specs.declared.cmp.Ordering.{Ordering}
use Rattle.std.specs.declared.cmp.Ordering.TheVariants.{Less, Equal, Greater}
use Rattle.std.proofs.lemmas.Grind.{flat_map-append}
use Rattle.std.proofs.lemmas.List.Elements.{Contains-append_cases, Contains-append_right}
use Rattle.std.proofs.lemmas.List.{append-nil, map-append, take_all, take_more}
use Rattle.std.proofs.lemmas.Map.Keys.{sorted_head, sorted_tail}
use Rattle.std.proofs.lemmas.Map.Lookups.{CmpEqualImpliesEq}
use Rattle.std.proofs.lemmas.Map.Views.{btree_map_get_iff}
use Rattle.gz_names.specs.declared.names.Name.{Name}
use Rattle.gz_names.specs.declared.names.Name.TheVariants.{Cell, Wrap}
use Rattle.gz_names.specs.declared.dumps.DumpLine.{DumpLine}
use Rattle.gz_names.specs.declared.dumps.DumpLine.TheVariants as line
use Rattle.gz_names.specs.Order.{name_cmp, same_name}
use Rattle.colour_defs.specs.declared.graph.Entry.{Entry}
use Rattle.colour_defs.specs.declared.graph.Object.{Object}
use Rattle.colour_defs.specs.Graph.{GraphState, value_in, value_of}
use Rattle.colour_defs.specs.World.{IsPresent, World}
use Rattle.colour_defs.specs.Ends.{Lists}
use Rattle.colour_defs.specs.Dumps.{IsAscendingWeak, WeakLine, cell_line, edge_lines, field_lines, object_lines}
use Rattle.colour_defs.specs.Dumps.{weak_line}
use Rattle.colour_defs.proofs.Names.{same_name-is}
use Rattle.colour_defs.proofs.Lists.{nothing_in_none, contains_head, contains_tail, contains_cases}
use Rattle.colour_defs.proofs.Lists.{first_of_both, second_of_both}
use Rattle.plain_graph.specs.Indexed.{order_of, pair_cmp}
use Rattle.plain_graph.proofs.Indexes.{order_ties}
use Rattle.judge.specs.Cells.{Cells, HasCell}
use Rattle.judge.specs.Dumps.{AddsEntry, Entries, HasEntries, IsEntry, ListsDump, Rests, weak_at, weak_of, weaks_of}
use Rattle.judge.specs.Former.{held_in}
use Rattle.judge.specs.Stages.{Shown}
use Rattle.judge.proofs.Found.{lists_as}
use Rattle.judge.proofs.Cells.{names_ordered, order_is}

pub not_true : (b : Bool) → (b ≡ true → ⊥) → b ≡ false
not_true true n = absurd (n refl)
not_true false n = refl

-- lines more
pub appended : {X : Type 0} (old mid new first more all : List X) → mid ≡ old ++ first → new ≡ mid ++ more
    → all ≡ first ++ more → new ≡ old ++ all
appended old mid new first more all a b c =
    b ∙ ap (λ xs. xs ++ more) a ∙ append_assoc old first more ∙ ap (λ xs. old ++ xs) (sym c)

pub map_more : {X Y : Type 0} (f : X → Y) (xs : List X) (i : ℕ) (d : X) → i < length xs
    → map f (take (i + 1) xs) ≡ map f (take i xs) ++ f (get_or xs i d) ∷ []
map_more f xs i d below = ap (map f) (take_more xs i d below) ∙ map-append f (take i xs) (get_or xs i d ∷ [])

pub flat_map_more : {X Y : Type 0} (f : X → List Y) (xs : List X) (i : ℕ) (d : X) → i < length xs
    → flat_map f (take (i + 1) xs) ≡ flat_map f (take i xs) ++ f (get_or xs i d)
flat_map_more f xs i d below = ap (flat_map f) (take_more xs i d below)
    ∙ flat_map-append f (take i xs) (get_or xs i d ∷ []) ∙ ap (λ ys. flat_map f (take i xs) ++ ys) (append-nil _)

-- the fields of an object
pub held_lines : (n : ℕ) (o : Option Object) → object_lines n o ≡ field_lines n (held_in o)
held_lines n None = refl
held_lines n (Some o) = refl

fields_append : (n : ℕ) (xs ys : List (Option Name)) → field_lines n (xs ++ ys) ≡ field_lines n xs ++ field_lines n ys
fields_append n [] ys = refl
fields_append n (None ∷ xs) ys = fields_append n xs ys
fields_append n (Some x ∷ xs) ys = ap (λ ls. line.Edge n x ∷ ls) (fields_append n xs ys)

pub fields_more : (n : ℕ) (xs : List (Option Name)) (i : ℕ) (d : Option Name) → i < length xs
    → field_lines n (take (i + 1) xs) ≡ field_lines n (take i xs) ++ field_lines n (get_or xs i d ∷ [])
fields_more n xs i d below =
    ap (field_lines n) (take_more xs i d below) ∙ fields_append n (take i xs) (get_or xs i d ∷ [])

-- pairs of names in the order of their maps
pairs_ordered : IsTotalOrder pair_cmp
pairs_ordered = then_total (on_total (λ (p : Name × Name). p.0) names_ordered)
    (on_total (λ (p : Name × Name). p.1) names_ordered)

then_both : (a b : Ordering) → is_eq (ordering_then a b) ≡ true → (is_eq a ≡ true) × (is_eq b ≡ true)
then_both Less b e = absurd (cc e)
then_both Equal b e = (refl, e)
then_both Greater b e = absurd (cc e)

pair_ties : (a b : Name × Name) → is_eq (pair_cmp a b) ≡ true → (a.0 ≡ b.0) × (a.1 ≡ b.1)
pair_ties a b e =
    let both = then_both (order_of a.0 b.0) (order_of a.1 b.1) e in
    (order_ties a.0 b.0 both.0, order_ties a.1 b.1 both.1)

pairs_exact : CmpEqualImpliesEq pair_cmp
pairs_exact (a, b) (c, d) e =
    let both = pair_ties (a, b) (c, d) (ap is_eq e) in
    ap (λ (x : Name). (x, b)) both.0 ∙ ap (λ (y : Name). (c, y)) both.1

-- the entries of a map of entries, as they stand in a dump
weak_is : (m k v : Name) (e : WeakLine) → Contains (weak_at m k v) e
    → (m ≡ Cell e.map) × (k ≡ e.key) × (v ≡ e.value)
weak_is (Cell m) k v e c = elim (contains_cases _ [] e c) [
  | inl same ↦ (
    ap (λ (d : WeakLine). Cell d.map) same,
    ap (λ (d : WeakLine). d.key) same,
    ap (λ (d : WeakLine). d.value) same,
  )
  | inr none ↦ absurd (nothing_in_none e none)
]
weak_is (Wrap c t) k v e h = absurd (nothing_in_none e h)

weak_was : (es : List ((Name × Name) × Name)) (e : WeakLine) → Contains (weaks_of es) e
    → Contains es ((Cell e.map, e.key), e.value)
weak_was [] e c = absurd (nothing_in_none e c)
weak_was (((m, k), v) ∷ es) e c = elim (Contains-append_cases (weak_at m k v) (weaks_of es) e c) [
  | inl here ↦ let is = weak_is m k v e here in
      let same : ((m, k), v) ≡ ((Cell e.map, e.key), e.value) =
      ap (λ (x : Name). ((x, k), v)) is.0 ∙ ap (λ (x : Name). ((Cell e.map, x), v)) is.1
      ∙ ap (λ (x : Name). ((Cell e.map, e.key), x)) is.2 in
      subst (λ p. Contains (((m, k), v) ∷ es) p) same (contains_head ((m, k), v) es)
  | inr rest ↦ contains_tail ((m, k), v) es ((Cell e.map, e.key), e.value) (weak_was es e rest)
]

weak_has : (es : List ((Name × Name) × Name)) (e : WeakLine) → Contains es ((Cell e.map, e.key), e.value)
    → Contains (weaks_of es) e
weak_has [] e c = absurd (nothing_in_none _ c)
weak_has (x ∷ es) e c = elim (contains_cases x es ((Cell e.map, e.key), e.value) c) [
  | inl same ↦ subst (λ p. Contains (weak_of p ++ weaks_of es) e) (sym same) (contains_head e (weaks_of es))
  | inr rest ↦ Contains-append_right (weak_of x) (weaks_of es) e (weak_has es e rest)
]

-- they ascend
all_appended : (P : WeakLine → Type 0) (xs ys : List WeakLine) → AllByRecursion P xs → AllByRecursion P ys
    → AllByRecursion P (xs ++ ys)
all_appended P [] ys a b = b
all_appended P (x ∷ xs) ys a b = (a.0, all_appended P xs ys a.1 b)

abbrev IsAbove : ℕ → Name → WeakLine → Type 0
IsAbove m k d = IsTrue (is_lt (ordering_then (name_cmp (Cell m) (Cell d.map)) (name_cmp k d.key)))

one_above : (m : ℕ) (k a b v : Name) → pair_cmp (Cell m, k) (a, b) ≡ Less
    → AllByRecursion (IsAbove m k) (weak_at a b v)
one_above m k (Cell n) b v e =
    let orders : pair_cmp (Cell m, k) (Cell n, b)
    ≡ ordering_then (name_cmp (Cell m) (Cell n)) (name_cmp k b) =
    ap (λ o. ordering_then o (order_of k b)) (order_is (Cell m) (Cell n))
    ∙ ap (ordering_then (name_cmp (Cell m) (Cell n))) (order_is k b) in
    (ap is_lt (sym orders ∙ e), tt)
one_above m k (Wrap c t) b v e = tt

all_above : (m : ℕ) (k : Name) (es : List ((Name × Name) × Name))
    → AllByRecursion (λ z. pair_cmp (Cell m, k) z ≡ Less) (keys_of es) → AllByRecursion (IsAbove m k) (weaks_of es)
all_above m k [] all = tt
all_above m k (((a, b), v) ∷ es) all =
    all_appended (IsAbove m k) (weak_at a b v) (weaks_of es) (one_above m k a b v all.0) (all_above m k es all.1)

weaks_ascend : (es : List ((Name × Name) × Name)) → IsStrictlySortedBy pair_cmp (keys_of es)
    → IsAscendingWeak (weaks_of es)
weaks_ascend [] s = tt
weaks_ascend (((Cell m, k), v) ∷ es) s = (
  all_above m k es (sorted_head pair_cmp _ _ s),
  weaks_ascend es (sorted_tail pair_cmp _ _ s),
)
weaks_ascend (((Wrap c t, k), v) ∷ es) s = weaks_ascend es (sorted_tail pair_cmp _ _ s)

-- the entries so far
pub record HasEntriesOf (g : GraphState) (cells : Cells) (es : List Entry) (found : Entries) : Type 0 where
  pub only : (m k v : Name) → tree.get pair_cmp found (m, k) ≡ Some v → IsEntry g cells m k v
  pub has : (m k u v : Name) → value_in es m k ≡ Some u → IsEntry g cells m k v
      → tree.get pair_cmp found (m, k) ≡ Some v

pub entries_none : (g : GraphState) (cells : Cells) (found : Entries) → found.entries ≡ []
    → HasEntriesOf g cells [] found
entries_none g cells found none = record {
  only = λ m k v e. absurd (cc (
    e,
    ap (λ (es : List ((Name × Name) × Name)). lookup (tree.is_at (pair_cmp (m, k))) es)
        none,
  ));
  has = λ m k u v e is. absurd (cc e);
}

in_one : (b : Bool) (e : Entry) (m k u : Name) → (same_name e.map m && same_name e.key k) ≡ b
    → cond b (Some e.value) None ≡ Some u → (e.map ≡ m) × (e.key ≡ k)
in_one true e m k u is at = (
  same_name-is e.map m (first_of_both (same_name e.map m) (same_name e.key k) is),
  same_name-is e.key k (second_of_both (same_name e.map m) (same_name e.key k) is),
)
in_one false e m k u is at = absurd (cc at)

in_more : (es : List Entry) (e : Entry) (m k u : Name) → value_in (es ++ e ∷ []) m k ≡ Some u
    → ((w : Name) × (value_in es m k ≡ Some w)) ⊎ ((e.map ≡ m) × (e.key ≡ k))
in_more [] e m k u at = inr (in_one (same_name e.map m && same_name e.key k) e m k u refl at)
in_more (x ∷ es) e m k u at = go (in_more es e m k u) (same_name x.map m && same_name x.key k) at
  where
    go : (value_in (es ++ e ∷ []) m k ≡ Some u
        → ((w : Name) × (value_in es m k ≡ Some w)) ⊎ ((e.map ≡ m) × (e.key ≡ k))) → (b : Bool)
        → cond b (Some x.value) (value_in (es ++ e ∷ []) m k) ≡ Some u
        → ((w : Name) × (cond b (Some x.value) (value_in es m k) ≡ Some w)) ⊎ ((e.map ≡ m) × (e.key ≡ k))
    go rest true at = inl (x.value, refl)
    go rest false at = rest at

pub entries_more : (g : GraphState) (cells : Cells) (es : List Entry) (i : ℕ) (d : Entry) (old new : Entries)
    → i < length es → AddsEntry g cells ((get_or es i d).map, (get_or es i d).key) old new
    → HasEntriesOf g cells (take i es) old → HasEntriesOf g cells (take (i + 1) es) new
entries_more g cells es i d old new below adds so =
    let e = get_or es i d in record {
      only = λ m k v at. elim (adds.only m k v at) [ inl was ↦ so.only m k v was | inr is ↦ is ];
      has = λ m k u v at is.
          elim (in_more (take i es) e m k u (ap (λ (xs : List Entry). value_in xs m k)
          (sym (take_more es i d below)) ∙ at)) [
            | inl (w, was) ↦ adds.stay m k v is (so.has m k w v was is)
            | inr (map, key) ↦ here m k v map key is
          ];
    }
  where
    here : (m k v : Name) → (get_or es i d).map ≡ m → (get_or es i d).key ≡ k → IsEntry g cells m k v
        → tree.get pair_cmp new (m, k) ≡ Some v
    here m k v map key is =
        subst (λ x. tree.get pair_cmp new (x, k) ≡ Some v) map
        (subst (λ y. tree.get pair_cmp new ((get_or es i d).map, y) ≡ Some v) key
        (adds.added v (subst (λ y. IsEntry g cells (get_or es i d).map y v) (sym key)
        (subst (λ x. IsEntry g cells x k v) (sym map) is))))

pub entries_all : (g : GraphState) (cells : Cells) (i : ℕ) (found : Entries) → length g.entries ≤ i
    → HasEntriesOf g cells (take i g.entries) found → HasEntries g cells found
entries_all g cells i found le so = λ m k v. (
  so.only m k v,
  λ is. so.has m k v v (ap (λ (xs : List Entry). value_in xs m k) (take_all i g.entries le) ∙ is.found) is,
)

-- an entry is added
pub adds_same : (g : GraphState) (cells : Cells) (names : Name × Name) (found : Entries)
    → ((v : Name) → IsEntry g cells names.0 names.1 v → ⊥) → AddsEntry g cells names found found
adds_same g cells names found none = record {
  only = λ m k v at. inl at;
  stay = λ m k v is at. at;
  added = λ v is. absurd (none v is);
}

pub adds_one : (g : GraphState) (cells : Cells) (names : Name × Name) (v : Name) (old new : Entries)
    → IsEntry g cells names.0 names.1 v → tree.Updates pair_cmp old new names (Some v)
    → AddsEntry g cells names old new
adds_one g cells names v old new is up = record {
  only = λ m k u at. only m k u at (is_eq (pair_cmp names (m, k))) refl;
  stay = λ m k u same at. stay m k u same at (is_eq (pair_cmp names (m, k))) refl;
  added = λ u same. up.1 ∙ ap Some (value_same names.0 names.1 u v same is);
}
  where
    value_same : (m k u w : Name) → IsEntry g cells m k u → IsEntry g cells m k w → w ≡ u
    value_same m k u w a b = cc (a.found, b.found)

    at_names : (m k : Name) → is_eq (pair_cmp names (m, k)) ≡ true → IsEntry g cells m k v
    at_names m k e =
        let both = pair_ties names (m, k) e in
        subst (λ y. IsEntry g cells m y v) both.1 (subst (λ x. IsEntry g cells x names.1 v) both.0 is)

    only : (m k u : Name) → tree.get pair_cmp new (m, k) ≡ Some u → (b : Bool) → is_eq (pair_cmp names (m, k)) ≡ b
        → (tree.get pair_cmp old (m, k) ≡ Some u) ⊎ IsEntry g cells m k u
    only m k u at true e =
        let now : tree.get pair_cmp new (m, k) ≡ Some v =
        up.0 (m, k) ∙ ap (λ b. cond b (Some v) (tree.get pair_cmp old (m, k))) e in
        let same : v ≡ u = cc (now, at) in inr (subst (λ z. IsEntry g cells m k z) same (at_names m k e))
    only m k u at false e = inl (sym (up.2 (m, k) e) ∙ at)

    stay : (m k u : Name) → IsEntry g cells m k u → tree.get pair_cmp old (m, k) ≡ Some u → (b : Bool)
        → is_eq (pair_cmp names (m, k)) ≡ b → tree.get pair_cmp new (m, k) ≡ Some u
    stay m k u same at true e =
        up.0 (m, k) ∙ ap (λ b. cond b (Some v) (tree.get pair_cmp old (m, k))) e
        ∙ ap Some (value_same m k u v same (at_names m k e))
    stay m k u same at false e = up.2 (m, k) e ∙ at

-- what a dump is made of
pub record Makes (g : GraphState) (s : Shown) (names : List Name) (found : Entries) (lines : List DumpLine) : Type 0
  where
    pub names_are : Lists (HasCell s.cells) names
    pub found_are : HasEntries g s.cells found
    pub ordered : tree.IsOrdered pair_cmp found
    pub lines_are : (w : World) → Rests g s w → lines ≡ map (cell_line w) names
        ++ (flat_map (edge_lines g) names ++ (map weak_line (weaks_of found.entries) ++ line.End ∷ []))

pub dump_of : (g : GraphState) (s : Shown) (names : List Name) (found : Entries) (lines : List DumpLine)
    → Makes g s names found lines → ListsDump g s lines
dump_of g s names found lines made = λ w rests.
    let entry = λ (m k v : Name). btree_map_get_iff pairs_ordered pairs_exact found made.ordered (m, k) v in record {
      cells = names;
      cells_are = lists_as (HasCell s.cells) (IsPresent w) names (λ x. (rests.present x).1) (λ x. (rests.present x).0)
          made.names_are;
      weaks = weaks_of found.entries;
      weaks_ascend = weaks_ascend found.entries made.ordered;
      weaks_are = λ e. (
        λ c. let is = (made.found_are (Cell e.map) e.key e.value).0 ((entry (Cell e.map) e.key e.value).1
            (weak_was found.entries e c)) in record {
              found = ap (λ (h : GraphState). value_of h (Cell e.map) e.key) rests.graph_is ∙ is.found;
              map_present = (rests.present (Cell e.map)).1 is.map_present;
              key_present = (rests.present e.key).1 is.key_present;
            },
        λ o. weak_has found.entries e ((entry (Cell e.map) e.key e.value).0
            ((made.found_are (Cell e.map) e.key e.value).1 (record {
              found = ap (λ (h : GraphState). value_of h (Cell e.map) e.key) (sym rests.graph_is) ∙ o.found;
              map_present = (rests.present (Cell e.map)).0 o.map_present;
              key_present = (rests.present e.key).0 o.key_present;
            }))),
      );
      lines_are = made.lines_are w rests
          ∙ ap (λ (h : GraphState). map (cell_line w) names ++ (flat_map (edge_lines h) names
          ++ (map weak_line (weaks_of found.entries) ++ line.End ∷ []))) (sym rests.graph_is);
    }

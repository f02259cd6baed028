-- The names that a group's end lists.
use Rattle.std.proofs.Common.{◌≡◌, ◌∙◌, inl, inr, List, [], ◌∷◌, ◌++◌, Contains, IsTrue, subst, sym, ap, append_assoc}
use Rattle.std.specs.BTreeMap as tree
use Rattle.std.specs.List.{AllByRecursion}
use Rattle.std.specs.List.Sorted.{IsStrictlySortedBy}
use Rattle.std.specs.Map.{keys_of}
use Rattle.std.specs.Ordering.{is_lt}
use Rattle.std.specs.declared.cmp.Ordering.TheVariants.{Less}
use Rattle.std.proofs.lemmas.List.{append-nil}
use Rattle.std.proofs.lemmas.Map.Keys.{sorted_head, sorted_tail}
use Rattle.gz_names.specs.declared.names.Name.{Name}
use Rattle.gz_names.specs.Order.{name_cmp}
use Rattle.gz_names.specs.declared.numbers.Place.{Place}
use Rattle.colour_defs.specs.Ends.{IsAscending, Lists}
use Rattle.colour_defs.proofs.Lists.{nothing_in_none, contains_head, contains_tail, contains_cases}
use Rattle.plain_graph.specs.Indexed.{order_of}
use Rattle.judge.specs.Cells.{Cells, HasCell}
use Rattle.judge.proofs.Cells.{cell_among, order_is}

-- the names of these entries that meet P, in the order of the entries
pub data Picks {X : Type 0} (P : Name → Type 0) : List (Name × X) → List Name → Type 0 where
  picks_none : Picks P [] []
  picks_one : {e : Name × X} {es : List (Name × X)} {xs : List Name} → P e.0 → Picks P es xs
      → Picks P (e ∷ es) (e.0 ∷ xs)
  leaves_one : {e : Name × X} {es : List (Name × X)} {xs : List Name} → (P e.0 → ⊥) → Picks P es xs
      → Picks P (e ∷ es) xs

-- what is picked of some entries, where the first names are known
abbrev pub PicksOn : {X : Type 0} → (Name → Type 0) → List (Name × X) → List (Name × X) → List Name → Type 0
PicksOn P all left xs = (ys : List Name) → Picks P left ys → Picks P all (xs ++ ys)

pub picks_start : {X : Type 0} (P : Name → Type 0) (all left : List (Name × X)) (xs : List Name) → left ≡ all → xs ≡ []
    → PicksOn P all left xs
picks_start P all left xs e n = λ ys picks.
    subst (λ zs. Picks P all (zs ++ ys)) (sym n) (subst (λ es. Picks P es ys) e picks)

pub picks_more : {X : Type 0} (P : Name → Type 0) (all left more : List (Name × X)) (e : Name × X) (xs : List Name)
    → left ≡ e ∷ more → P e.0 → PicksOn P all left xs → PicksOn P all more (xs ++ e.0 ∷ [])
picks_more P all left more e xs is p on = λ ys picks.
    subst (λ ns. Picks P all ns) (sym (append_assoc xs (e.0 ∷ []) ys))
    (on (e.0 ∷ ys) (subst (λ es. Picks P es (e.0 ∷ ys)) (sym is) (picks_one p picks)))

pub picks_less : {X : Type 0} (P : Name → Type 0) (all left more : List (Name × X)) (e : Name × X) (xs : List Name)
    → left ≡ e ∷ more → (P e.0 → ⊥) → PicksOn P all left xs → PicksOn P all more xs
picks_less P all left more e xs is n on = λ ys picks.
    on ys (subst (λ es. Picks P es ys) (sym is) (leaves_one n picks))

picks_all : {X : Type 0} (P : Name → Type 0) (all left : List (Name × X)) (xs : List Name) → left ≡ []
    → PicksOn P all left xs → Picks P all xs
picks_all P all left xs none on =
    subst (λ ys. Picks P all ys) (append-nil xs) (on [] (subst (λ es. Picks P es []) (sym none) picks_none))

-- what is picked is in the entries, and meets the test
picked : {X : Type 0} (P : Name → Type 0) {es : List (Name × X)} {xs : List Name} (x : Name) → Picks P es xs
    → Contains xs x → P x × Contains (keys_of es) x
picked P x picks_none c = absurd (nothing_in_none x c)
picked P x (picks_one {e = e} {es = es} {xs = xs} p picks) c = elim (contains_cases e.0 xs x c) [
  | inl q ↦ (subst P q p, subst (λ y. Contains (e.0 ∷ keys_of es) y) q (contains_head e.0 (keys_of es)))
  | inr t ↦ let r = picked P x picks t in (r.0, contains_tail e.0 (keys_of es) x r.1)
]
picked P x (leaves_one {e = e} {es = es} n picks) c =
    let r = picked P x picks c in (r.0, contains_tail e.0 (keys_of es) x r.1)

picks_it : {X : Type 0} (P : Name → Type 0) {es : List (Name × X)} {xs : List Name} (x : Name) → Picks P es xs
    → P x → Contains (keys_of es) x → Contains xs x
picks_it P x picks_none p c = absurd (nothing_in_none x c)
picks_it P x (picks_one {e = e} {es = es} {xs = xs} q picks) p c = elim (contains_cases e.0 (keys_of es) x c) [
  | inl same ↦ subst (λ y. Contains (e.0 ∷ xs) y) same (contains_head e.0 xs)
  | inr t ↦ contains_tail e.0 xs x (picks_it P x picks p t)
]
picks_it P x (leaves_one {e = e} {es = es} n picks) p c = elim (contains_cases e.0 (keys_of es) x c) [
  | inl same ↦ absurd (n (subst P (sym same) p))
  | inr t ↦ picks_it P x picks p t
]

-- names that are picked of ascending ones ascend
all_picked : {X : Type 0} (P : Name → Type 0) (y : Name) {es : List (Name × X)} {xs : List Name} → Picks P es xs
    → AllByRecursion (λ z. order_of y z ≡ Less) (keys_of es) → AllByRecursion (λ z. IsTrue (is_lt (name_cmp y z))) xs
all_picked P y picks_none all = tt
all_picked P y (picks_one p picks) all =
    (ap is_lt (sym (order_is y _) ∙ all.0), all_picked P y picks all.1)
all_picked P y (leaves_one n picks) all = all_picked P y picks all.1

picked_ascend : {X : Type 0} (P : Name → Type 0) {es : List (Name × X)} {xs : List Name} → Picks P es xs
    → IsStrictlySortedBy order_of (keys_of es) → IsAscending xs
picked_ascend P picks_none s = tt
picked_ascend P (picks_one p picks) s = (
  all_picked P _ picks (sorted_head order_of _ _ s),
  picked_ascend P picks (sorted_tail order_of _ _ s),
)
picked_ascend P (leaves_one n picks) s = picked_ascend P picks (sorted_tail order_of _ _ s)

-- the present names that meet P, once all entries were looked at
pub picked_are : (cells : Cells) (left : List (Name × Place)) (P : Name → Type 0) (xs : List Name)
    → tree.IsOrdered order_of cells → left ≡ [] → PicksOn P cells.entries left xs
    → Lists (λ x. HasCell cells x × P x) xs
picked_are cells left P xs s none on =
    let picks : Picks P cells.entries xs = picks_all P cells.entries left xs none on in record {
      ascending = picked_ascend P picks s;
      has = λ x. (
        λ c. let r = picked P x picks c in ((cell_among cells x).1 r.1, r.0),
        λ h. picks_it P x picks h.1 ((cell_among cells x).0 h.0),
      );
    }

-- Which cells lie in which places.
use Rattle.std.proofs.Common.{◌≡◌, ◌∙◌, ◌↔◌, ◌⊎◌, inl, inr, ℕ, Bool, true, false, cond, List, [], ◌∷◌, Some}
use Rattle.std.proofs.Common.{Contains, refl, sym, ap, subst}
use Rattle.std.specs.BTreeMap as tree
use Rattle.std.specs.Cmp.{IsTotalOrder, nat_cmp_total, tied_itself}
use Rattle.std.specs.Map.{lookup}
use Rattle.std.specs.Ordering.{is_eq, nat_cmp}
use Rattle.std.proofs.lemmas.Cmp.{on_total, then_total}
use Rattle.std.proofs.lemmas.Map.Lookups.{CmpEqualImpliesEq, exact_pairs, exact_unsigned}
use Rattle.std.proofs.lemmas.Map.Views.{btree_map_get_iff, tells_apart}
use Rattle.gz_names.specs.declared.names.Name.{Name}
use Rattle.gz_names.specs.declared.numbers.Place.{Place}
use Rattle.colour_defs.proofs.Lists.{nothing_in_none, contains_head, contains_tail, contains_cases}
use Rattle.plain_graph.specs.Indexed.{order_of}
use Rattle.plain_graph.proofs.Indexes.{order_itself, order_ties}
use Rattle.judge.specs.Cells.{Cells}
use Rattle.judge.specs.Compaction.{AreLying, Lays}
use Rattle.judge.specs.Places.{AreSpread, Lying, place_order}
use Rattle.judge.proofs.Cells.{names_exact, names_ordered}

pub places_total : IsTotalOrder place_order
places_total = then_total (on_total (λ (p : Place). p.0) nat_cmp_total) (on_total (λ (p : Place). p.1) nat_cmp_total)

pub places_exact : CmpEqualImpliesEq place_order
places_exact = exact_pairs nat_cmp nat_cmp exact_unsigned exact_unsigned

pub place_ties : (p q : Place) → is_eq (place_order p q) ≡ true → p ≡ q
place_ties p q e = tells_apart places_exact p q e

pub place_itself : (p : Place) → is_eq (place_order p p) ≡ true
place_itself p = ap is_eq (tied_itself places_total p)

-- names that do not differ are the same
same_name_of : (x y : Name) → ((x ≡ y → ⊥) → ⊥) → x ≡ y
same_name_of x y un = go (is_eq (order_of x y)) refl
  where
    go : (b : Bool) → is_eq (order_of x y) ≡ b → x ≡ y
    go true e = order_ties x y e
    go false e = absurd (un (λ same. let tied : is_eq (order_of x y) ≡ true =
        ap (λ (z : Name). is_eq (order_of x z)) (sym same) ∙ order_itself x in cc (tied, e)))

-- what lies in these arenas of the cells that were looked at; the others are left
pub record LaysSoFar (arenas : List ℕ) (cells : Cells) (left : List (Name × Place)) (lying : Lying) : Type 0 where
  pub spread : AreSpread cells
  pub ordered : tree.IsOrdered place_order lying
  pub sound : (p : Place) (x : Name) → tree.get place_order lying p ≡ Some x
      → (tree.get order_of cells x ≡ Some p) × Contains arenas p.0
  pub all : (p : Place) (x : Name) → tree.get order_of cells x ≡ Some p → Contains arenas p.0
      → (tree.get place_order lying p ≡ Some x) ⊎ Contains left (x, p)
  pub there : (x : Name) (p : Place) → Contains left (x, p) → tree.get order_of cells x ≡ Some p

pub lays_none : (arenas : List ℕ) (cells : Cells) (left : List (Name × Place)) (lying : Lying)
    → AreSpread cells → tree.IsOrdered order_of cells → left ≡ cells.entries → lying.entries ≡ []
    → tree.IsOrdered place_order lying → LaysSoFar arenas cells left lying
lays_none arenas cells left lying spread up is none ordered = record {
  spread = spread;
  ordered = ordered;
  sound = λ p x e. absurd (cc (
    e,
    ap (λ (es : List (Place × Name)). lookup (tree.is_at (place_order p)) es) none,
  ));
  all = λ p x e c. inr (subst (λ es. Contains es (x, p)) (sym is) ((entry x p).0 e));
  there = λ x p c. (entry x p).1 (subst (λ es. Contains es (x, p)) is c);
}
  where
    entry : (x : Name) (p : Place) → (tree.get order_of cells x ≡ Some p) ↔ Contains cells.entries (x, p)
    entry x p = btree_map_get_iff names_ordered names_exact cells up x p

pub lays_more : (arenas : List ℕ) (cells : Cells) (left more : List (Name × Place)) (e : Name × Place)
    (old new : Lying) → left ≡ e ∷ more → Lays arenas e.0 e.1 old new → LaysSoFar arenas cells left old
    → LaysSoFar arenas cells more new
lays_more arenas cells left more (x, p) old new is (inl (here, up, ordered)) so = record {
  spread = so.spread;
  ordered = ordered;
  sound = λ q y e. found q y e (is_eq (place_order p q)) refl;
  all = λ q y e c. kept q y (so.all q y e c);
  there = λ y q c. so.there y q (subst (λ es. Contains es (y, q)) (sym is) (contains_tail (x, p) more (y, q) c));
}
  where
    first : tree.get order_of cells x ≡ Some p
    first = so.there x p (subst (λ es. Contains es (x, p)) (sym is) (contains_head (x, p) more))

    at : (q : Place) (b : Bool) → is_eq (place_order p q) ≡ b
        → tree.get place_order new q ≡ cond b (Some x) (tree.get place_order old q)
    at q b e = up.0 q ∙ ap (λ c. cond c (Some x) (tree.get place_order old q)) e

    found : (q : Place) (y : Name) → tree.get place_order new q ≡ Some y → (b : Bool) → is_eq (place_order p q) ≡ b
        → (tree.get order_of cells y ≡ Some q) × Contains arenas q.0
    found q y e true tie =
        let same : p ≡ q = place_ties p q tie in
        let it : x ≡ y = (let a = at q true tie in cc (a, e)) in (
          subst (λ z. tree.get order_of cells z ≡ Some q) it (first ∙ ap Some same),
          subst (λ (r : Place). Contains arenas r.0) same here,
        )
    found q y e false tie = so.sound q y (sym (at q false tie) ∙ e)

    kept : (q : Place) (y : Name) → (tree.get place_order old q ≡ Some y) ⊎ Contains left (y, q)
        → (tree.get place_order new q ≡ Some y) ⊎ Contains more (y, q)
    kept q y (inl was) = go (is_eq (place_order p q)) refl
      where
        go : (b : Bool) → is_eq (place_order p q) ≡ b
            → (tree.get place_order new q ≡ Some y) ⊎ Contains more (y, q)
        go true tie =
            let there = subst (λ r. tree.get order_of cells x ≡ Some r) (place_ties p q tie) first in
            inl (at q true tie ∙ ap Some (same_name_of x y (so.spread.apart x y q there (so.sound q y was).0)))
        go false tie = inl (at q false tie ∙ was)
    kept q y (inr c) = elim (contains_cases (x, p) more (y, q) (subst (λ es. Contains es (y, q)) is c)) [
      | inl e ↦ let same : p ≡ q = ap (λ (f : Name × Place). f.1) e in
          inl (at q true (subst (λ r. is_eq (place_order p r) ≡ true) same (place_itself p))
          ∙ ap Some (ap (λ (f : Name × Place). f.0) e))
      | inr t ↦ inr t
    ]
lays_more arenas cells left more (x, p) old new is (inr (out, same)) so = record {
  spread = so.spread;
  ordered = subst (tree.IsOrdered place_order) (sym same) so.ordered;
  sound = λ q y e. so.sound q y (ap (λ l. tree.get place_order l q) (sym same) ∙ e);
  all = λ q y e c. kept q y c (so.all q y e c);
  there = λ y q c. so.there y q (subst (λ es. Contains es (y, q)) (sym is) (contains_tail (x, p) more (y, q) c));
}
  where
    kept : (q : Place) (y : Name) → Contains arenas q.0 → (tree.get place_order old q ≡ Some y) ⊎ Contains left (y, q)
        → (tree.get place_order new q ≡ Some y) ⊎ Contains more (y, q)
    kept q y c (inl was) = inl (ap (λ l. tree.get place_order l q) same ∙ was)
    kept q y c (inr l) = elim (contains_cases (x, p) more (y, q) (subst (λ es. Contains es (y, q)) is l)) [
      | inl e ↦ absurd (out (subst (λ (r : Place). Contains arenas r.0) (sym (ap (λ (f : Name × Place). f.1) e)) c))
      | inr t ↦ inr t
    ]

pub lays_all : (arenas : List ℕ) (cells : Cells) (left : List (Name × Place)) (lying : Lying) → left ≡ []
    → LaysSoFar arenas cells left lying → AreLying arenas cells lying
lays_all arenas cells left lying none so = λ p x. (
  λ e. so.sound p x e,
  λ h. elim (so.all p x h.0 h.1) [
    | inl is ↦ is
    | inr c ↦ absurd (nothing_in_none (x, p) (subst (λ es. Contains es (x, p)) none c))
  ],
)

-- What a graph keeps beside its lists stays with them.
use Rattle.std.proofs.Common.{◌≡◌, ℕ, ◌==◌, inl, inr, List, [], ◌∷◌, ◌++◌, Bool, true, false, cond, ◌&&◌, ◌||◌}
use Rattle.std.proofs.Common.{Option, Some, None, Contains, refl, sym, ap, subst, ◌∙◌, eqb-true}
use Rattle.std.specs.BTreeMap as tree
use Rattle.std.specs.BTreeMap.{BTreeMap}
use Rattle.std.specs.BTreeSet as sorted
use Rattle.std.specs.BTreeSet.{BTreeSet}
use Rattle.std.specs.List.{list_any}
use Rattle.std.specs.Ordering.{nat_cmp, ordering_then, is_eq}
use Rattle.std.specs.declared.cmp.Ordering.{Ordering}
use Rattle.std.specs.declared.cmp.Ordering.TheVariants.{Less, Equal, Greater}
use Rattle.std.specs.Cmp.{unsigned_ties}
use Rattle.std.proofs.lemmas.List.Folds.{list_any-append}
use Rattle.gz_names.specs.declared.names.Name.{Name}
use Rattle.gz_names.specs.declared.names.Name.TheVariants.{Cell, Wrap}
use Rattle.gz_names.specs.declared.numbers.CompNo.{CompNo}
use Rattle.gz_names.specs.Order.{name_cmp}
use Rattle.colour_defs.specs.declared.graph.Entry.{Entry}
use Rattle.colour_defs.specs.Graph.{value_in}
use Rattle.colour_defs.specs.Step.{put_entry, del_entry, target_of}
use Rattle.colour_defs.proofs.Entries.{put_found, put_other, del_cases, del_gone, del_keeps}
use Rattle.colour_defs.proofs.Lists.{first_of_both, second_of_both, both_of}
use Rattle.colour_defs.proofs.Names.{eq_name-is, eq_name-refl}
use Rattle.plain_graph.specs.Indexed.{IsIndexed, IsListed, made_cmp, order_of, pair_cmp}

-- pairs that are listed, where a list was written over with another
pub listed_after : (waiting new : BTreeMap ℕ (List (Name × Name))) (number : ℕ) (old more : List (Name × Name))
    → tree.get nat_cmp waiting number ≡ Some old
    → ((q : ℕ) → tree.get nat_cmp new q ≡ cond (is_eq (nat_cmp number q)) (Some more) (tree.get nat_cmp waiting q))
    → ((p : Name × Name) → Contains old p → Contains more p) → (n : ℕ) (p : Name × Name) → IsListed waiting n p
    → IsListed new n p
listed_after waiting new number old more at update kept n p (pairs, is, c) =
    go (is_eq (nat_cmp number n)) refl
  where
    go : (t : Bool) → is_eq (nat_cmp number n) ≡ t → IsListed new n p
    go false e = (pairs, update n ∙ ap (λ b. cond b (Some more) (tree.get nat_cmp waiting n)) e ∙ is, c)
    go true e =
        let same : number ≡ n = eqb-true number n (unsigned_ties number n ∙ e) in
        let one : old ≡ pairs = cc (at, is, ap (λ z. tree.get nat_cmp waiting z) same) in (
          more,
          update n ∙ ap (λ b. cond b (Some more) (tree.get nat_cmp waiting n)) e,
          kept p (subst (λ ps. Contains ps p) (sym one) c),
        )

then_ties : (a b : Ordering) → is_eq (ordering_then a b) ≡ (is_eq a && is_eq b)
then_ties Less b = refl
then_ties Equal b = refl
then_ties Greater b = refl

made_ties : (a b : ℕ × ℕ) → is_eq (made_cmp a b) ≡ ((a.0 == b.0) && (a.1 == b.1))
made_ties a b = then_ties (nat_cmp a.0 b.0) (nat_cmp a.1 b.1)
    ∙ ap (λ t. t && is_eq (nat_cmp a.1 b.1)) (sym (unsigned_ties a.0 b.0))
    ∙ ap (λ t. (a.0 == b.0) && t) (sym (unsigned_ties a.1 b.1))

-- the order of names, told twice
order_is : (a b : Name) → order_of a b ≡ name_cmp a b
order_is (Cell a) (Cell b) = refl
order_is (Cell a) (Wrap d b) = refl
order_is (Wrap c a) (Cell b) = refl
order_is (Wrap c a) (Wrap d b) = refl

pub order_ties : (a b : Name) → is_eq (order_of a b) ≡ true → a ≡ b
order_ties a b e = eq_name-is a b (ap is_eq (sym (order_is a b)) ∙ e)

pub order_itself : (a : Name) → is_eq (order_of a a) ≡ true
order_itself a = ap is_eq (order_is a a) ∙ eq_name-refl a

pair_ties : (a b : Name × Name) → is_eq (pair_cmp a b) ≡ true → (a.0 ≡ b.0) × (a.1 ≡ b.1)
pair_ties a b e =
    let both : (is_eq (order_of a.0 b.0) && is_eq (order_of a.1 b.1)) ≡ true =
    sym (then_ties (order_of a.0 b.0) (order_of a.1 b.1)) ∙ e in (
      order_ties a.0 b.0 (first_of_both (is_eq (order_of a.0 b.0)) (is_eq (order_of a.1 b.1)) both),
      order_ties a.1 b.1 (second_of_both (is_eq (order_of a.0 b.0)) (is_eq (order_of a.1 b.1)) both),
    )

pair_itself : (m k : Name) → is_eq (pair_cmp (m, k) (m, k)) ≡ true
pair_itself m k = then_ties (order_of m m) (order_of k k)
    ∙ both_of (is_eq (order_of m m)) (is_eq (order_of k k)) (order_itself m) (order_itself k)

pub one_more : (t : Bool) (o : Bool) → cond t true o ≡ (o || (t || false))
one_more true true = refl
one_more true false = refl
one_more false true = refl
one_more false false = refl

-- a wrapper more
pub known_more : (wrappers : List (CompNo × ℕ)) (known new : BTreeSet (ℕ × ℕ)) (comp : CompNo) (target : ℕ)
    → ((c t : ℕ) → sorted.contains made_cmp known (c, t) ≡ list_any (λ w. (w.0.0 == c) && (w.1 == t)) wrappers)
    → ((q : ℕ × ℕ) → sorted.contains made_cmp new q
    ≡ cond (is_eq (made_cmp (comp.0, target) q)) true (sorted.contains made_cmp known q))
    → (c t : ℕ) → sorted.contains made_cmp new (c, t)
    ≡ list_any (λ w. (w.0.0 == c) && (w.1 == t)) (wrappers ++ (comp, target) ∷ [])
known_more wrappers known new comp target has add c t =
    add (c, t)
    ∙ ap (λ b. cond b true (sorted.contains made_cmp known (c, t))) (made_ties (comp.0, target) (c, t))
    ∙ one_more ((comp.0 == c) && (target == t)) (sorted.contains made_cmp known (c, t))
    ∙ ap (λ b. b || (((comp.0 == c) && (target == t)) || false)) (has c t)
    ∙ sym (list_any-append (λ w. (w.0.0 == c) && (w.1 == t)) wrappers ((comp, target) ∷ []))

-- a value that was put, or removed, at a pair
at_pair : (a b : Name × Name) (v w x : Option Name) → (is_eq (pair_cmp a b) ≡ true → v ≡ x)
    → (is_eq (pair_cmp a b) ≡ false → w ≡ x) → cond (is_eq (pair_cmp a b)) v w ≡ x
at_pair a b v w x h k = go (is_eq (pair_cmp a b)) h k
  where
    go : (t : Bool) → (t ≡ true → v ≡ x) → (t ≡ false → w ≡ x) → cond t v w ≡ x
    go true h k = h refl
    go false h k = k refl

pub values_put : (entries : List Entry) (m k v a b : Name) (o : Option Name) → o ≡ value_in entries a b
    → cond (is_eq (pair_cmp (m, k) (a, b))) (Some v) o ≡ value_in (put_entry entries m k v) a b
values_put entries m k v a b o e =
    at_pair (m, k) (a, b) (Some v) o (value_in (put_entry entries m k v) a b)
    (λ t. let same = pair_ties (m, k) (a, b) t in
    sym (put_found entries m k v) ∙ ap (λ z. value_in (put_entry entries m k v) z k) same.0
    ∙ ap (λ z. value_in (put_entry entries m k v) a z) same.1)
    (λ f. elim (put_other entries m k v a b) [
      | inl other ↦ e ∙ sym other
      | inr same ↦ absurd (cc (
        f,
        pair_itself m k,
        ap (λ z. is_eq (pair_cmp (m, k) (z, k))) same.0,
        ap (λ z. is_eq (pair_cmp (m, k) (a, z))) same.1,
      ))
    ])

pub values_del : (entries : List Entry) (m k a b : Name) (o : Option Name) → o ≡ value_in entries a b
    → cond (is_eq (pair_cmp (m, k) (a, b))) None o ≡ value_in (del_entry entries m k) a b
values_del entries m k a b o e =
    at_pair (m, k) (a, b) None o (value_in (del_entry entries m k) a b)
    (λ t. let same = pair_ties (m, k) (a, b) t in
    sym (del_gone entries m k) ∙ ap (λ z. value_in (del_entry entries m k) z k) same.0
    ∙ ap (λ z. value_in (del_entry entries m k) a z) same.1)
    (λ f. elim (del_cases entries m k a b) [
      | inl other ↦ e ∙ sym other
      | inr same ↦ absurd (cc (
        f,
        pair_itself m k,
        ap (λ z. is_eq (pair_cmp (m, k) (z, k))) same.0,
        ap (λ z. is_eq (pair_cmp (m, k) (a, z))) same.1,
      ))
    ])

-- the graph keeps its indexes, with a wrapper more
pub indexed_wrapper : (wrappers : List (CompNo × ℕ)) (known new : BTreeSet (ℕ × ℕ)) (entries : List Entry)
    (values : BTreeMap (Name × Name) Name) (waiting : BTreeMap ℕ (List (Name × Name))) (comp : CompNo) (target : ℕ)
    → IsIndexed wrappers known entries values waiting
    → ((q : ℕ × ℕ) → sorted.contains made_cmp new q
    ≡ cond (is_eq (made_cmp (comp.0, target) q)) true (sorted.contains made_cmp known q))
    → IsIndexed (wrappers ++ (comp, target) ∷ []) new entries values waiting
indexed_wrapper wrappers known new entries values waiting comp target is add = record {
  known_are = known_more wrappers known new comp target is.known_are add;
  values_are = is.values_are;
  of_map = is.of_map;
  of_key = is.of_key;
}

-- with more pairs that are listed
pub indexed_more : (wrappers : List (CompNo × ℕ)) (known : BTreeSet (ℕ × ℕ)) (entries : List Entry)
    (values : BTreeMap (Name × Name) Name) (waiting more : BTreeMap ℕ (List (Name × Name)))
    → IsIndexed wrappers known entries values waiting
    → ((n : ℕ) (p : Name × Name) → IsListed waiting n p → IsListed more n p)
    → IsIndexed wrappers known entries values more
indexed_more wrappers known entries values waiting more is kept = record {
  known_are = is.known_are;
  values_are = is.values_are;
  of_map = λ m k v e. kept (target_of m) (m, k) (is.of_map m k v e);
  of_key = λ m k v e. kept (target_of k) (m, k) (is.of_key m k v e);
}

-- with an entry that was removed
pub indexed_del : (wrappers : List (CompNo × ℕ)) (known : BTreeSet (ℕ × ℕ)) (entries : List Entry)
    (values new : BTreeMap (Name × Name) Name) (waiting : BTreeMap ℕ (List (Name × Name))) (m k : Name)
    → IsIndexed wrappers known entries values waiting
    → ((q : Name × Name) → tree.get pair_cmp new q
    ≡ cond (is_eq (pair_cmp (m, k) q)) None (tree.get pair_cmp values q))
    → IsIndexed wrappers known (del_entry entries m k) new waiting
indexed_del wrappers known entries values new waiting m k is del = record {
  known_are = is.known_are;
  values_are = λ a b. del (a, b) ∙ values_del entries m k a b (tree.get pair_cmp values (a, b)) (is.values_are a b);
  of_map = λ a b u e. is.of_map a b u (del_keeps entries m k a b u e);
  of_key = λ a b u e. is.of_key a b u (del_keeps entries m k a b u e);
}

use Rattle.std.proofs.Common.{◌≡◌, ◌∙◌, ℕ, List, inl, inr, cond, Some, ap, sym, subst}
use Rattle.std.specs.BTreeMap as tree
use Rattle.std.specs.BTreeMap.{BTreeMap}
use Rattle.std.specs.BTreeSet.{BTreeSet}
use Rattle.std.specs.Ordering.{is_eq}
use Rattle.gz_names.specs.declared.names.Name.{Name}
use Rattle.gz_names.specs.declared.numbers.CompNo.{CompNo}
use Rattle.colour_defs.specs.Step.{put_entry, target_of}
use Rattle.colour_defs.specs.declared.graph.Entry.{Entry}
use Rattle.colour_defs.proofs.Entries.{put_cases}
use Rattle.plain_graph.specs.Indexed.{IsIndexed, IsListed, pair_cmp}
use Rattle.plain_graph.proofs.Indexes.{indexed_more, values_put}
use Rattle.plain_graph.proofs.graph.Graph.put_entry.Goals as goal

-- with an entry that was put, whose pair is listed
indexed_put : (wrappers : List (CompNo × ℕ)) (known : BTreeSet (ℕ × ℕ)) (entries : List Entry)
    (values new : BTreeMap (Name × Name) Name) (waiting : BTreeMap ℕ (List (Name × Name))) (m k v : Name)
    → IsIndexed wrappers known entries values waiting
    → ((q : Name × Name) → tree.get pair_cmp new q
    ≡ cond (is_eq (pair_cmp (m, k) q)) (Some v) (tree.get pair_cmp values q))
    → IsListed waiting (target_of m) (m, k) → IsListed waiting (target_of k) (m, k)
    → IsIndexed wrappers known (put_entry entries m k v) new waiting
indexed_put wrappers known entries values new waiting m k v is put of_map of_key = record {
  known_are = is.known_are;
  values_are = λ a b. put (a, b) ∙ values_put entries m k v a b (tree.get pair_cmp values (a, b)) (is.values_are a b);
  of_map = λ a b u e. elim (put_cases entries m k v a b u e) [
    | inl old ↦ is.of_map a b u old
    | inr same ↦ subst (λ z. IsListed waiting (target_of z) (z, b)) same.0
        (subst (λ z. IsListed waiting (target_of m) (m, z)) same.1 of_map)
  ];
  of_key = λ a b u e. elim (put_cases entries m k v a b u e) [
    | inl old ↦ is.of_key a b u old
    | inr same ↦ subst (λ z. IsListed waiting (target_of b) (z, b)) same.0
        (subst (λ z. IsListed waiting (target_of z) (m, z)) same.1 of_key)
  ];
}

pub invariant_of-self-2 : goal.invariant_of-self-2
invariant_of-self-2 c =
    let r = c.self.inside in
    let m = c.args.map in
    let k = c.args.key in
    let once = c.add_pair.new.waiting in
    let both = c.add_pair-2.new.waiting in
    let first = indexed_more r.wrappers.items r.known r.entries.items r.values r.waiting once c.self.invariant
    c.add_pair.ensures.kept in
    let second = indexed_more r.wrappers.items r.known r.entries.items r.values once both first
    c.add_pair-2.ensures.kept in
    let of_map : IsListed both (target_of m) (m, k) =
    subst (λ (n : ℕ). IsListed both n (m, k)) c.target_of.ensures
    (c.add_pair-2.ensures.kept c.target_of.result (m, k) c.in_ok-add_pair.ensures.ok) in
    let of_key : IsListed both (target_of k) (m, k) =
    subst (λ (n : ℕ). IsListed both n (m, k)) c.target_of-2.ensures c.in_ok-add_pair-2.ensures.ok in
    subst (λ (es : List Entry). IsIndexed r.wrappers.items r.known es c.insert.new.self both)
    (sym (c.in_ok-put_in.ensures.ok
    ∙ ap (λ (es : List Entry). put_entry es m k c.args.value) c.in_ok-reserve.ensures.items))
    (indexed_put r.wrappers.items r.known r.entries.items r.values c.insert.new.self both m k c.args.value second
    c.in_ok-insert.ensures.updates.0 of_map of_key)

-- What a graph keeps beside its lists, to look wrappers and entries up.
use Rattle.std.specs.Prelude.{◌≡◌, ℕ, ◌==◌, ◌&&◌, List, Some, Contains}
use Rattle.std.specs.BTreeMap as tree
use Rattle.std.specs.BTreeMap.{BTreeMap}
use Rattle.std.specs.BTreeSet as sorted
use Rattle.std.specs.BTreeSet.{BTreeSet}
use Rattle.std.specs.List.{list_any}
use Rattle.std.specs.Ordering.{nat_cmp, ordering_then}
use Rattle.std.specs.declared.cmp.Ordering.{Ordering}
use Rattle.gz_names.specs.declared.names.Name.{Name}
use Rattle.gz_names.specs.declared.numbers.CompNo.{CompNo}
use Rattle.gz_names.specs.contracts.names.NameOrd.TheImpl as name_ord
use Rattle.colour_defs.specs.declared.graph.Entry.{Entry}
use Rattle.colour_defs.specs.Graph.{value_in}
use Rattle.colour_defs.specs.Step.{target_of}

-- the order of names, as their type has it
abbrev pub order_of : Name → Name → Ordering
order_of = (name_ord.ghosts).cmp

-- by compartment, then by target
abbrev pub made_cmp : ℕ × ℕ → ℕ × ℕ → Ordering
made_cmp a b = ordering_then (nat_cmp a.0 b.0) (nat_cmp a.1 b.1)

-- by map, then by key
abbrev pub pair_cmp : Name × Name → Name × Name → Ordering
pair_cmp a b = ordering_then (order_of a.0 b.0) (order_of a.1 b.1)

-- a pair is listed at a number
abbrev pub IsListed : BTreeMap ℕ (List (Name × Name)) → ℕ → Name × Name → Type 0
IsListed waiting n p = (pairs : List (Name × Name)) × (tree.get nat_cmp waiting n ≡ Some pairs) × Contains pairs p

-- known has the wrappers, values the entries, and each entry is listed at the numbers of its map and of its key
pub record IsIndexed (wrappers : List (CompNo × ℕ)) (known : BTreeSet (ℕ × ℕ)) (entries : List Entry)
    (values : BTreeMap (Name × Name) Name) (waiting : BTreeMap ℕ (List (Name × Name))) : Type 0 where
  pub known_are : (c t : ℕ) → sorted.contains made_cmp known (c, t)
      ≡ list_any (λ w. (w.0.0 == c) && (w.1 == t)) wrappers
  pub values_are : (m k : Name) → tree.get pair_cmp values (m, k) ≡ value_in entries m k
  pub of_map : (m k v : Name) → value_in entries m k ≡ Some v → IsListed waiting (target_of m) (m, k)
  pub of_key : (m k v : Name) → value_in entries m k ≡ Some v → IsListed waiting (target_of k) (m, k)

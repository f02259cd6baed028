-- Where the present cells lie.
use Rattle.std.specs.Prelude.{◌≡◌, ◌<◌, Some, None}
use Rattle.std.specs.BTreeMap as tree
use Rattle.std.specs.BTreeMap.{BTreeMap}
use Rattle.std.specs.declared.cmp.Ordering.{Ordering}
use Rattle.gz_names.specs.declared.names.Name.{Name}
use Rattle.gz_names.specs.declared.numbers.Place.{Place}
use Rattle.gz_names.specs.contracts.numbers.PlaceOrd.TheImpl as place_ord
use Rattle.plain_graph.specs.Indexed.{order_of}

-- the order of places, as their type has it
abbrev pub place_order : Place → Place → Ordering
place_order = (place_ord.ghosts).cmp

-- which cell lies in a place
abbrev pub Lying : Type 0
Lying = BTreeMap Place Name

-- no cell lies in a place
abbrev pub IsEmpty : Lying → Place → Type 0
IsEmpty lying p = tree.get place_order lying p ≡ None

-- a cell lies in the place that it has, and no other cell lies anywhere
pub record AreLaid (places : BTreeMap Name Place) (lying : Lying) : Type 0 where
  pub there : (x : Name) (p : Place) → tree.get order_of places x ≡ Some p
      → (tree.get place_order lying p ≡ Some x → ⊥) → ⊥
  pub back : (x : Name) (p : Place) → tree.get place_order lying p ≡ Some x
      → (tree.get order_of places x ≡ Some p → ⊥) → ⊥

-- no two cells have one place, and each has one of the slots of an arena
pub record AreSpread (places : BTreeMap Name Place) : Type 0 where
  pub apart : (x y : Name) (p : Place) → tree.get order_of places x ≡ Some p → tree.get order_of places y ≡ Some p
      → (x ≡ y → ⊥) → ⊥
  pub below : (x : Name) (p : Place) → tree.get order_of places x ≡ Some p → p.1 < 64

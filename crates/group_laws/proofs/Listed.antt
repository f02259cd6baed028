-- Groups as sets and groups as lists.
use Rattle.std.proofs.Common.{◌≡◌, ℕ, suc, ◌<◌, sym, ◌∙◌, subst, arith, List, [], ◌∷◌, length, get_or, Contains, map}
use Rattle.std.proofs.lemmas.List.{get_or-map, length-map}
use Rattle.gz_names.specs.Zones.{HasZone, zones_in}
use Rattle.gz_names.specs.declared.zone_sets.ZoneSet.{ZoneSet}
use Rattle.colour_defs.specs.Groups.{IsFirstEdge, IsLastEdge, AreAscending, EachLater, LeadsWithin as LeadsInList, here}
use Rattle.colour_defs.specs.Groups.{next}
use Rattle.colour_defs.specs.World.{World, Collection}
use Rattle.colour_defs.proofs.Lists.{nothing_in_none}
use Rattle.colour_defs.proofs.ZoneSets.{zones_in-has, zones_in-ascending}
use Rattle.zone_edges.specs.Sets.{no_zones}
use Rattle.zone_edges.specs.Groups.{Edge, LeadsWithin, rest, pass}
use Rattle.group_laws.specs.Laws.{ComponentsAreLawful}

-- a listed group is the list of a set
listed : (groups : List ZoneSet) (g : List ℕ) → Contains (map zones_in groups) g → (i : ℕ) × (i < length groups)
    × (zones_in (get_or groups i no_zones) ≡ g)
listed groups g (i, lt, is) = let lt' : i < length groups = omega (arith, length-map groups zones_in) in
    (i, lt', sym (get_or-map zones_in groups i no_zones g lt') ∙ is)

at_place : (groups : List ZoneSet) (i : ℕ) → i < length groups
    → Contains (map zones_in groups) (zones_in (get_or groups i no_zones))
at_place groups i lt = (i, omega (arith, length-map groups zones_in), get_or-map zones_in groups i no_zones _ lt)

-- a zone of a group is one of its set
in_set : (s : ZoneSet) (z : ℕ) (g : List ℕ) → zones_in s ≡ g → Contains g z → HasZone s.bits z
in_set s z g e h = (zones_in-has s z).0 (subst (λ xs. Contains xs z) (sym e) h)

-- what holds of each set and each later one holds of their lists
pub each_later : (R : List ℕ → List ℕ → Type 0) (groups : List ZoneSet)
    → ((i j : ℕ) → i < j → j < length groups
    → R (zones_in (get_or groups i no_zones)) (zones_in (get_or groups j no_zones))) → EachLater R (map zones_in groups)
each_later R [] h = tt
each_later R (g ∷ gs) h = (
  λ x c. (let p = listed gs x c in
      subst (λ y. R (zones_in g) y) p.2 (h 0 (suc p.0) (omega arith) (omega (arith, p.1)))),
  each_later R gs (λ i j lt below. h (suc i) (suc j) (omega arith) (omega arith)),
)

-- a way within a set is one within its list
leads : (w : World) (k : Collection) (sources : List ZoneSet) (s : ZoneSet)
    → ((a b : ℕ) → Edge sources a b → IsFirstEdge w k a b) → {a b : ℕ} → LeadsWithin sources s a b
    → LeadsInList (IsFirstEdge w k) (zones_in s) a b
leads w k sources s noted (rest h) = here
leads w k sources s noted (pass p e h) = next (leads w k sources s noted p) (noted _ _ e) ((zones_in-has s _).1 h)

pub components_are_lawful : ComponentsAreLawful
components_are_lawful w k sources zones groups is_zones is noted seen = record {
  all = λ z h. (let p = is.covered z (in_set zones z k.zones (sym is_zones) h) in (
    zones_in (get_or groups p.0 no_zones),
    at_place groups p.0 p.1,
    (zones_in-has (get_or groups p.0 no_zones) z).1 p.2,
  ));
  only = λ g z c h. (let p = listed groups g c in
      subst (λ xs. Contains xs z) (sym is_zones)
      ((zones_in-has zones z).1 (is.inside p.0 z p.1 (in_set (get_or groups p.0 no_zones) z g p.2 h))));
  full = λ g c e. (let p = listed groups g c in let m = is.some p.0 p.1 in
      nothing_in_none m.0 (subst (λ xs. Contains xs m.0) (p.2 ∙ e)
      ((zones_in-has (get_or groups p.0 no_zones) m.0).1 m.1)));
  ascending = λ g c. (let p = listed groups g c in
      subst AreAscending p.2 (zones_in-ascending (get_or groups p.0 no_zones)));
  apart = each_later (λ g h. (z : ℕ) → Contains g z → Contains h z → ⊥) groups
      (λ i j lt below z ci cj. is.apart i j z lt below ((zones_in-has (get_or groups i no_zones) z).0 ci)
      ((zones_in-has (get_or groups j no_zones) z).0 cj));
  strong = λ g c a b ha hb.
      (let p = listed groups g c in
      subst (λ xs. LeadsInList (IsFirstEdge w k) xs a b) p.2
      (leads w k sources (get_or groups p.0 no_zones) noted
      (is.strong p.0 a b p.1 (in_set (get_or groups p.0 no_zones) a g p.2 ha)
      (in_set (get_or groups p.0 no_zones) b g p.2 hb))));
  backward = each_later (λ g h. (a b : ℕ) → Contains h a → Contains g b → IsLastEdge w k a b → ⊥) groups
      (λ i j lt below a b ca cb e. is.order i j a b lt below ((zones_in-has (get_or groups j no_zones) a).0 ca)
      ((zones_in-has (get_or groups i no_zones) b).0 cb) (seen a b e));
}

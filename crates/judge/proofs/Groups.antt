-- The groups that the judge lets pass are those that are lawful by the definitions.
use Rattle.std.proofs.Common.{◌≡◌, ◌≢◌, ◌↔◌, ◌∙◌, inl, inr, ℕ, zero, suc, ◌<◌, List, [], ◌∷◌, length}
use Rattle.std.proofs.Common.{get_or, map, None, Some, Contains, refl, sym, ap, subst, arith}
use Rattle.std.proofs.lemmas.List.Elements.{Contains-get_or}
use Rattle.gz_names.specs.Zones.{HasZone, zones_in}
use Rattle.gz_names.specs.declared.zone_sets.ZoneSet.{ZoneSet}
use Rattle.gz_names.specs.declared.names.Name.{Name}
use Rattle.gz_names.specs.declared.names.Name.TheVariants.{Cell, Wrap}
use Rattle.gz_names.specs.declared.numbers.CompNo.{CompNo}
use Rattle.colour_defs.specs.Graph.{GraphState, value_of, zone_of}
use Rattle.colour_defs.specs.Closure.{Closure}
use Rattle.colour_defs.specs.World.{BlackClosure, Collection, Has, IsPresent, World}
use Rattle.colour_defs.specs.Groups.{AreAscending, AreLawfulGroups, EachLater, IsFirstEdge, IsKeyOfPresent, IsLastEdge}
use Rattle.colour_defs.specs.Groups.{IsZoneEdge, LeadsOutside, LeadsWithin}
use Rattle.colour_defs.proofs.Lists.{nothing_in_none, contains_head, contains_tail, contains_cases}
use Rattle.colour_defs.proofs.ZoneSets.{zones_in-has, zones_in-ascending}
use Rattle.judge.specs.Cells.{HasCell}
use Rattle.judge.specs.Edges.{AreInOrder, IsEdge, IsKeyOf, Leads, NoneLeads}
use Rattle.judge.specs.Edges.{Sources, sources_of}
use Rattle.judge.specs.Groups.{AreAllowed, AreRefused, Forming, Stands}
use Rattle.judge.specs.Parts.{AreApart, AreParts}
use Rattle.judge.specs.Sound.{IsSound, IsWalked}
use Rattle.judge.specs.Stages.{AreForbidden, Forms, HasGroups, IsDue, Shown, collecting, forming_in, stage_in}
use Rattle.judge.specs.Walks.{CatchesUp, IsFoundBlack, Walks, walks_in}
use Rattle.judge.specs.declared.collection.Collection.{Collection as Judged}
use Rattle.judge.specs.declared.world.DueReport.TheVariants as due
use Rattle.judge.proofs.Found.{black_is}
use Rattle.judge.proofs.ZoneEdges.{leads_as}

-- edges come from the same in a world of the definitions, by the entries of this graph and this set of black names
record SameEdges (s : Sources) (w : World) (k : Collection) (h : GraphState) (set : Name → Type 0) : Type 0 where
  graph_is : w.graph ≡ s.graph
  entries_is : h ≡ s.entries
  present : (x : Name) → IsPresent w x ↔ HasCell s.cells x
  zones_are : k.zones ≡ zones_in s.zones
  black_is : (x : Name) → Contains s.black x ↔ set x

module _ (s : Sources) (w : World) (k : Collection) (h : GraphState) (set : Name → Type 0)
    (same : SameEdges s w k h set) where
  to_zone : (z : ℕ) → HasZone s.zones.bits z → Contains k.zones z
  to_zone z has = subst (λ (zs : List ℕ). Contains zs z) (sym same.zones_are) ((zones_in-has s.zones z).1 has)

  of_zone : (z : ℕ) → Contains k.zones z → HasZone s.zones.bits z
  of_zone z c = (zones_in-has s.zones z).0 (subst (λ (zs : List ℕ). Contains zs z) same.zones_are c)

  zone_is : (x : Name) → zone_of w.graph x ≡ zone_of s.graph x
  zone_is x = ap (λ (g : GraphState). zone_of g x) same.graph_is

  to_leads : (x : Name) (a b : ℕ) (l : Leads s x a b) → HasCell s.cells x → LeadsOutside w set a b l.comp l.target
  to_leads x a b l here = record {
    present = (same.present (Wrap l.comp l.target)).1 (subst (λ y. HasCell s.cells y) l.wrapper here);
    of = zone_is (Wrap l.comp l.target) ∙ ap (zone_of s.graph) (sym l.wrapper) ∙ l.of;
    into = zone_is (Cell l.target) ∙ l.into;
    outside = λ in_set. l.outside ((same.black_is (Cell l.target)).1 in_set);
  }

  of_leads : (a b : ℕ) (c : CompNo) (t : ℕ) → a ≢ b → Contains k.zones a → Contains k.zones b
      → LeadsOutside w set a b c t → Leads s (Wrap c t) a b
  of_leads a b c t differ from to l = record {
    comp = c;
    target = t;
    wrapper = refl;
    of = sym (zone_is (Wrap c t)) ∙ l.of;
    into = sym (zone_is (Cell t)) ∙ l.into;
    apart = differ;
    from_these = of_zone a from;
    to_these = of_zone b to;
    outside = λ c. l.outside ((same.black_is (Cell t)).0 c);
  }

  to_key : (x y : Name) → x ≡ y → IsKeyOf s.entries s.cells x → IsKeyOfPresent w h y
  to_key x y e (m, v, found, present) = (
    m,
    v,
    ap (λ (g : GraphState). value_of g m y) same.entries_is ∙ ap (value_of s.entries m) (sym e) ∙ found,
    (same.present m).1 present,
  )

  of_key : (x : Name) → IsKeyOfPresent w h x → IsKeyOf s.entries s.cells x
  of_key x (m, v, found, present) = (
    m,
    v,
    sym (ap (λ (g : GraphState). value_of g m x) same.entries_is) ∙ found,
    (same.present m).0 present,
  )

  edge_is : (a b : ℕ) → IsEdge s a b ↔ IsZoneEdge w k h set a b
  edge_is a b = (
    λ (x, here, makes). elim makes [
      | inl l ↦ (
        l.apart,
        to_zone a l.from_these,
        to_zone b l.to_these,
        inl (l.comp, l.target, to_leads x a b l here),
      )
      | inr p ↦ (
        λ e. p.1.apart (sym e),
        to_zone a p.1.to_these,
        to_zone b p.1.from_these,
        inr (p.1.comp, p.1.target, to_leads x b a p.1 here, to_key x (Wrap p.1.comp p.1.target) p.1.wrapper p.0),
      )
    ],
    λ (differ, from, to, some). elim some [
      | inl l ↦ (
        Wrap l.0 l.1,
        (same.present (Wrap l.0 l.1)).0 l.2.present,
        inl (of_leads a b l.0 l.1 differ from to l.2),
      )
      | inr l ↦ (
        Wrap l.0 l.1,
        (same.present (Wrap l.0 l.1)).0 l.2.present,
        inr (of_key (Wrap l.0 l.1) l.3, of_leads b a l.0 l.1 (λ e. differ (sym e)) to from l.2),
      )
    ],
  )

-- groups as sets and as lists
listed : (groups : List ZoneSet) (g : List ℕ) → Contains (map zones_in groups) g
    → (s : ZoneSet) × Contains groups s × (zones_in s ≡ g)
listed [] g c = absurd (nothing_in_none g c)
listed (x ∷ xs) g c = elim (contains_cases (zones_in x) (map zones_in xs) g c) [
  | inl e ↦ (x, contains_head x xs, e)
  | inr t ↦ let r = listed xs g t in (r.0, contains_tail x xs r.0 r.1, r.2)
]

as_list : (groups : List ZoneSet) (s : ZoneSet) → Contains groups s → Contains (map zones_in groups) (zones_in s)
as_list [] s c = absurd (nothing_in_none s c)
as_list (x ∷ xs) s c = elim (contains_cases x xs s c) [
  | inl e ↦ subst (λ (y : ZoneSet). Contains (map zones_in (x ∷ xs)) (zones_in y)) e
      (contains_head (zones_in x) (map zones_in xs))
  | inr t ↦ contains_tail (zones_in x) (map zones_in xs) (zones_in s) (as_list xs s t)
]

in_set : (s : ZoneSet) (g : List ℕ) (z : ℕ) → zones_in s ≡ g → Contains g z → HasZone s.bits z
in_set s g z e c = (zones_in-has s z).0 (subst (λ (zs : List ℕ). Contains zs z) (sym e) c)

each_later : (R : List ℕ → List ℕ → Type 0) (P : ZoneSet → ZoneSet → Type 0) (groups : List ZoneSet)
    → ((g h : ZoneSet) → P g h → R (zones_in g) (zones_in h))
    → ((i j : ℕ) (d : ZoneSet) → i < j → j < length groups → P (get_or groups i d) (get_or groups j d))
    → EachLater R (map zones_in groups)
each_later R P [] f h = tt
each_later R P (g ∷ gs) f h = (
  λ x c. let (s, (n, lt, is), e) = listed gs x c in
      subst (λ y. R (zones_in g) y) e (f g s (subst (λ t. P g t) is (h 0 (suc n) s (omega arith) (omega arith)))),
  each_later R P gs f (λ i j d lt below. h (suc i) (suc j) d (omega arith) (omega arith)),
)

of_later : (R : List ℕ → List ℕ → Type 0) (P : ZoneSet → ZoneSet → Type 0) (groups : List ZoneSet)
    → ((g h : ZoneSet) → R (zones_in g) (zones_in h) → P g h) → EachLater R (map zones_in groups) → (i j : ℕ)
    → (d : ZoneSet) → i < j → j < length groups → P (get_or groups i d) (get_or groups j d)
of_later R P [] f e i j d lt below = absurd (omega arith)
of_later R P (g ∷ gs) f e zero zero d lt below = absurd (omega arith)
of_later R P (g ∷ gs) f e (suc i) zero d lt below = absurd (omega arith)
of_later R P (g ∷ gs) f e zero (suc j) d lt below =
    f g (get_or gs j d)
    (e.0 (zones_in (get_or gs j d)) (as_list gs (get_or gs j d) (Contains-get_or gs j d (omega arith))))
of_later R P (g ∷ gs) f e (suc i) (suc j) d lt below = of_later R P gs f e.1 i j d (omega arith) (omega arith)

not_none : (s : ZoneSet) → zones_in s ≢ [] → (z : ℕ) × HasZone s.bits z
not_none s n = go (zones_in s) refl
  where
    go : (zs : List ℕ) → zones_in s ≡ zs → (z : ℕ) × HasZone s.bits z
    go [] e = absurd (n e)
    go (z ∷ zs) e = (z, in_set s (z ∷ zs) z e (contains_head z zs))

pub parts_of : (f : Forming) (w : World) (k : Collection) (groups : List ZoneSet) → Stands f w k
    → AreLawfulGroups w k (map zones_in groups) → AreParts f.zones groups
parts_of f w k groups stands lawful = record {
  all = λ z h.
      let c = lawful.all z (subst (λ (zs : List ℕ). Contains zs z) (sym stands.zones_are)
      ((zones_in-has f.zones z).1 h)) in
      let r = listed groups c.0 c.1 in (r.0, r.1, in_set r.0 c.0 z r.2 c.2);
  only = λ g z c h. in_set f.zones k.zones z (sym stands.zones_are)
      (lawful.only (zones_in g) z (as_list groups g c) ((zones_in-has g z).1 h));
  full = λ g c. not_none g (lawful.full (zones_in g) (as_list groups g c));
  apart = of_later (λ g h. (z : ℕ) → Contains g z → Contains h z → ⊥) AreApart groups
      (λ g h apart z hg hh. apart z ((zones_in-has g z).1 hg) ((zones_in-has h z).1 hh)) lawful.apart;
}

-- the judge has found what the definitions ask for: `old` as marking began, `new` by now
pub record HasFound (f : Forming) (old new : Judged) : Type 0 where
  pub zones_are : old.zones ≡ f.zones
  pub same : new.zones ≡ old.zones
  pub walks_are : walks_in old ≡ f.walks
  pub walked : IsWalked f.former f.walks.black
  pub caught : CatchesUp f.former (walks_in old) (walks_in new)

module _ (f : Forming) (old new : Judged) (found : HasFound f old new) (w : World) (k : Collection)
    (stands : Stands f w k) where
  first_is : (a b : ℕ) → IsEdge (sources_of f.graph f.former f.cells old) a b ↔ IsFirstEdge w k a b
  first_is = edge_is (sources_of f.graph f.former f.cells old) w k k.snapshot
      (Closure k.snapshot (Has k.black_starts)) (record {
        graph_is = stands.graph_is;
        entries_is = stands.former_is;
        present = stands.present;
        zones_are = stands.zones_are ∙ ap zones_in (sym found.zones_are);
        black_is = λ x.
            let same : old.black.names ≡ f.walks.black.names = ap (λ (v : Walks). v.black.names) found.walks_are in (
              λ c. (stands.first_black x).1 (subst (λ (ns : List Name). Contains ns x) same c),
              λ h. subst (λ (ns : List Name). Contains ns x) (sym same) ((stands.first_black x).0 h),
            );
      })

  last_is : (a b : ℕ) → IsEdge (sources_of f.graph f.graph f.cells new) a b ↔ IsLastEdge w k a b
  last_is = edge_is (sources_of f.graph f.graph f.cells new) w k w.graph (BlackClosure k) (record {
    graph_is = stands.graph_is;
    entries_is = stands.graph_is;
    present = stands.present;
    zones_are = stands.zones_are ∙ ap zones_in (sym (found.same ∙ found.zones_are));
    black_is = λ x. (
      λ c. (stands.black x).1 ((now x).0 c),
      λ h. (now x).1 ((stands.black x).0 h),
    );
  })
    where
      now : (x : Name) → Contains new.black.names x ↔ IsFoundBlack f.former f.walks x
      now x = black_is f.former f.walks (walks_in new)
          (subst (λ (v : Walks). CatchesUp f.former v (walks_in new)) found.walks_are found.caught) found.walked x

  to_lawful : (groups : List ZoneSet) → AreParts f.zones groups
      → AreInOrder f.graph f.former f.cells old new groups → AreLawfulGroups w k (map zones_in groups)
  to_lawful groups parts order = record {
    all = λ z c. let r = parts.all z (in_set f.zones k.zones z (sym stands.zones_are) c) in
        (zones_in r.0, as_list groups r.0 r.1, (zones_in-has r.0 z).1 r.2);
    only = λ g z c h. let r = listed groups g c in
        subst (λ (zs : List ℕ). Contains zs z) (sym stands.zones_are)
        ((zones_in-has f.zones z).1 (parts.only r.0 z r.1 (in_set r.0 g z r.2 h)));
    full = λ g c e. let r = listed groups g c in let some = parts.full r.0 r.1 in
        nothing_in_none some.0 (subst (λ (zs : List ℕ). Contains zs some.0) (r.2 ∙ e)
        ((zones_in-has r.0 some.0).1 some.1));
    ascending = λ g c. let r = listed groups g c in subst AreAscending r.2 (zones_in-ascending r.0);
    apart = each_later (λ g h. (z : ℕ) → Contains g z → Contains h z → ⊥) AreApart groups
        (λ g h apart z cg ch. apart z ((zones_in-has g z).0 cg) ((zones_in-has h z).0 ch)) parts.apart;
    strong = λ g c a b ha hb. let r = listed groups g c in
        leads_as (IsEdge (sources_of f.graph f.former f.cells old)) (IsFirstEdge w k) g (λ x y. (first_is x y).0)
        (subst (λ (zs : List ℕ). LeadsWithin (IsEdge (sources_of f.graph f.former f.cells old)) zs a b) r.2
        (order.strong r.0 r.1 a b (in_set r.0 g a r.2 ha) (in_set r.0 g b r.2 hb)));
    backward = each_later (λ g h. (a b : ℕ) → Contains h a → Contains g b → IsLastEdge w k a b → ⊥)
        (NoneLeads (IsEdge (sources_of f.graph f.graph f.cells new))) groups
        (λ g h none a b ca cb e. none a b ((zones_in-has h a).0 ca) ((zones_in-has g b).0 cb) ((last_is a b).1 e))
        order.forward;
  }

  order_of : (groups : List ZoneSet) → AreLawfulGroups w k (map zones_in groups)
      → AreInOrder f.graph f.former f.cells old new groups
  order_of groups lawful = record {
    strong = λ g c a b ha hb.
        leads_as (IsFirstEdge w k) (IsEdge (sources_of f.graph f.former f.cells old)) (zones_in g)
        (λ x y. (first_is x y).1)
        (lawful.strong (zones_in g) (as_list groups g c) a b ((zones_in-has g a).1 ha) ((zones_in-has g b).1 hb));
    forward = of_later (λ g h. (a b : ℕ) → Contains h a → Contains g b → IsLastEdge w k a b → ⊥)
        (NoneLeads (IsEdge (sources_of f.graph f.graph f.cells new))) groups
        (λ g h none a b ha hb e. none a b ((zones_in-has h a).1 ha) ((zones_in-has g b).1 hb) ((last_is a b).0 e))
        lawful.backward;
  }

pub allowed_of : (f : Forming) (old new : Judged) (groups : List ZoneSet) → HasFound f old new → AreParts f.zones groups
    → AreInOrder f.graph f.former f.cells old new groups → AreAllowed f groups
allowed_of f old new groups found parts order = λ w k stands. to_lawful f old new found w k stands groups parts order

-- groups that do not part the zones, and those whose order the edges forbid
pub refused_parts : (f : Forming) (groups : List ZoneSet) → (AreParts f.zones groups → ⊥) → AreRefused f groups
refused_parts f groups none = λ w k stands lawful. none (parts_of f w k groups stands lawful)

pub refused_order : (f : Forming) (old new : Judged) (groups : List ZoneSet) → HasFound f old new
    → (AreInOrder f.graph f.former f.cells old new groups → ⊥) → AreRefused f groups
refused_order f old new groups found none = λ w k stands lawful.
    none (order_of f old new found w k stands groups lawful)

-- the groups of a collection are due, and what was woken since is found
pub record FindsAll (g : GraphState) (s : Shown) (old new : Judged) : Type 0 where
  pub due : IsDue due.Groups s
  pub sound : IsSound g s
  pub stage_is : s.stage ≡ stage_in old
  pub walks_are : s.walks ≡ Some (walks_in old)
  pub same : stage_in new ≡ stage_in old
  pub caught : CatchesUp s.former.graph (walks_in old) (walks_in new)

found_of : (g : GraphState) (s : Shown) (old new : Judged) (zones marking : ZoneSet) (walks : Walks)
    → s.stage ≡ collecting zones marking None → s.walks ≡ Some walks → FindsAll g s old new
    → HasFound (forming_in g s zones walks) old new
found_of g s old new zones marking walks stage walks_are all = record {
  zones_are = cc (all.stage_is, stage);
  same = cc all.same;
  walks_are = cc (all.walks_are, walks_are);
  walked = (all.sound.walks walks walks_are (subst HasGroups (sym stage) tt)).black;
  caught = all.caught;
}

pub forbidden_parts : (g : GraphState) (s : Shown) (old : Judged) (groups : List ZoneSet) → s.stage ≡ stage_in old
    → (AreParts old.zones groups → ⊥) → AreForbidden g s groups
forbidden_parts g s old groups at none = λ zones marking walks stage walks_are.
    let same : zones ≡ old.zones = cc (at, stage) in
    refused_parts (forming_in g s zones walks) groups
    (λ parts. none (subst (λ (z : ZoneSet). AreParts z groups) same parts))

pub forbidden_order : (g : GraphState) (s : Shown) (old new : Judged) (groups : List ZoneSet) → FindsAll g s old new
    → (AreInOrder g s.former.graph s.cells old new groups → ⊥) → AreForbidden g s groups
forbidden_order g s old new groups all none = λ zones marking walks stage walks_are.
    refused_order (forming_in g s zones walks) old new groups
    (found_of g s old new zones marking walks stage walks_are all) none

pub forms_of : (g : GraphState) (s after : Shown) (old new : Judged) (groups : List ZoneSet) → FindsAll g s old new
    → AreParts old.zones groups → AreInOrder g s.former.graph s.cells old new groups
    → after
    ≡ record s { stage = collecting new.zones new.marking (Some groups); left_out = None; walks = after.walks }
    → Forms g s groups after
forms_of g s after old new groups all parts order is =
    let (none_out, (zones, marking, stage)) = all.due in
    let found = found_of g s old new zones marking (walks_in old) stage all.walks_are all in
    let zones_are : old.zones ≡ zones = found.zones_are in
    let marking_are : old.marking ≡ marking = cc (all.stage_is, stage) in
    let zones_same : new.zones ≡ old.zones = found.same in
    let marking_same : new.marking ≡ old.marking = cc all.same in
    let here : AreParts zones groups = subst (λ (z : ZoneSet). AreParts z groups) zones_are parts in record {
      zones = zones;
      marking = marking;
      was = stage;
      none_out = none_out;
      parts = here;
      walks = walks_in old;
      found = all.walks_are;
      lawful = allowed_of (forming_in g s zones (walks_in old)) old new groups found here order;
      new_is = is
          ∙ ap (λ (z : ZoneSet). record s {
            stage = collecting z new.marking (Some groups);
            left_out = None;
            walks = after.walks;
          }) (zones_same ∙ zones_are)
          ∙ ap (λ (m : ZoneSet). record s {
            stage = collecting zones m (Some groups);
            left_out = None;
            walks = after.walks;
          }) (marking_same ∙ marking_are);
    }

-- The cells of a zone move as the definitions have it.
use Rattle.std.proofs.Common.{◌≡◌, ◌∙◌, ◌⊎◌, ◌↔◌, inl, inr, ℕ, suc, ◌+◌, ◌<◌, Bool, true, false, cond, List, [], ◌∷◌}
use Rattle.std.proofs.Common.{◌++◌, drop, length, Option, Some, None, Contains, refl, sym, ap, subst, arith}
use Rattle.std.proofs.Common.{IsTrue, count_by, is_some}
use Rattle.std.specs.BTreeMap as tree
use Rattle.std.specs.FinMap as map
use Rattle.std.specs.List.{AllByRecursion}
use Rattle.std.specs.List.Sorted.{IsStrictlySortedBy}
use Rattle.std.specs.Map.{keys_of}
use Rattle.std.specs.Ordering.{MatchOrdering, eq_by_cmp, is_eq, nat_cmp, ordering_then}
use Rattle.std.specs.Cmp.{ranks}
use Rattle.std.specs.declared.cmp.Ordering.{Ordering}
use Rattle.std.specs.declared.cmp.Ordering.TheVariants.{Less, Equal, Greater}
use Rattle.std.specs.Prelude.{slice_get}
use Rattle.std.proofs.lemmas.List.{drop_more, length-map}
use Rattle.std.proofs.lemmas.Option.{get_or_from_slice_get, slice_get_within}
use Rattle.std.proofs.lemmas.List.Elements.{Contains-append_left}
use Rattle.std.proofs.lemmas.Map.Keys.{sorted_head, sorted_tail}
use Rattle.std.proofs.lemmas.Map.Views.{btree_map_get_iff}
use Rattle.gz_names.specs.Zones.{HasZone, zones_in}
use Rattle.gz_names.specs.Order.{name_cmp, names_total}
use Rattle.gz_names.specs.declared.names.Name.{Name}
use Rattle.gz_names.specs.declared.numbers.Place.{Place}
use Rattle.gz_names.specs.declared.replies.Refusal.{Refusal}
use Rattle.gz_names.specs.declared.zone_sets.ZoneSet.{ZoneSet}
use Rattle.colour_defs.specs.Compaction.{AreInOrder, AreMoved, Compacts, FillArenas, IsBefore, IsFreeIn}
use Rattle.colour_defs.specs.Compaction.{Places, given_up_from}
use Rattle.colour_defs.specs.Ends.{arenas_from}
use Rattle.colour_defs.specs.Graph.{GraphState, is_in_zones}
use Rattle.colour_defs.specs.Groups.{AreAscending}
use Rattle.colour_defs.specs.World.{World}
use Rattle.colour_defs.proofs.Lists.{nothing_in_none, contains_head, contains_tail, contains_cases}
use Rattle.colour_defs.proofs.Names.{eq_name-is, eq_name-refl}
use Rattle.colour_defs.proofs.ZoneSets.{zones_in-ascending, zones_in-has}
use Rattle.plain_graph.specs.Indexed.{order_of}
use Rattle.plain_graph.proofs.Indexes.{order_itself, order_ties}
use Rattle.judge.specs.Arenas.{AreSameArenas, owners_in}
use Rattle.judge.specs.Cells.{Cells}
use Rattle.judge.specs.Compaction.{AreLying, AreSorted, GoTo, Lies, MayGo, Packs, free_in}
use Rattle.judge.specs.Places.{AreLaid, IsEmpty, Lying, place_order}
use Rattle.judge.specs.Replies.{AreMade, IsRefusal}
use Rattle.judge.specs.Slots.{owner_of}
use Rattle.judge.specs.Stages.{Shown, Stage}
use Rattle.judge.specs.declared.arenas.Arenas.{Arenas}
use Rattle.judge.proofs.Determined.{determined, never_before}
use Rattle.judge.proofs.FirstTally.{same_keys}
use Rattle.judge.proofs.Freed.{Ascend, ascend_apart, ascend_first, in_from, in_has, in_sorted}
use Rattle.judge.proofs.Freed.{numbers_ascend, numbers_below}
use Rattle.judge.proofs.Lying.{places_exact, places_total}
use Rattle.judge.proofs.Owners.{same_length}
use Rattle.judge.proofs.Tallies.{same_test}

less_of : (a b : ℕ) → nat_cmp a b ≡ Less → a < b
less_of a b e = subst (λ o. MatchOrdering o (a < b) (a ≡ b) (b < a)) e (ranks a b)

same_of : (a b : ℕ) → nat_cmp a b ≡ Equal → a ≡ b
same_of a b e = subst (λ o. MatchOrdering o (a < b) (a ≡ b) (b < a)) e (ranks a b)

-- places in order, as their type has it
before_of : (p q : Place) → place_order p q ≡ Less → IsBefore p q
before_of p q e = go (nat_cmp p.0 q.0) refl e
  where
    go : (o : Ordering) → nat_cmp p.0 q.0 ≡ o → ordering_then o (nat_cmp p.1 q.1) ≡ Less → IsBefore p q
    go Less is e = inl (less_of p.0 q.0 is)
    go Equal is e = inr (same_of p.0 q.0 is, less_of p.1 q.1 e)
    go Greater is e = cc e

-- the names of some cells in the order of their places
names_of : List (Place × Name) → List Name
names_of [] = []
names_of (e ∷ es) = e.1 ∷ names_of es

names_count : (es : List (Place × Name)) → length es ≡ length (names_of es)
unfolding names_of
names_count [] = refl
names_count (e ∷ es) = ap suc (names_count es)

named_from : (es : List (Place × Name)) (p : Place) (x : Name) → Contains es (p, x) → Contains (names_of es) x
unfolding names_of
named_from [] p x c = absurd (nothing_in_none (p, x) c)
named_from (e ∷ es) p x c = elim (contains_cases e es (p, x) c) [
  | inl is ↦ subst (Contains (e.1 ∷ names_of es)) (ap (λ (f : Place × Name). f.1) is) (contains_head e.1 (names_of es))
  | inr t ↦ contains_tail e.1 (names_of es) x (named_from es p x t)
]

named_by : (es : List (Place × Name)) (x : Name) → Contains (names_of es) x → (p : Place) × Contains es (p, x)
unfolding names_of
named_by [] x c = absurd (nothing_in_none x c)
named_by (e ∷ es) x c = elim (contains_cases e.1 (names_of es) x c) [
  | inl is ↦ (e.0, subst (λ y. Contains (e ∷ es) (e.0, y)) is (contains_head e es))
  | inr t ↦ (let h = named_by es x t in (h.0, contains_tail e es (h.0, x) h.1))
]

-- cells lie as they do in a world of the definitions
AreAt : Places → Cells → Type 0
AreAt places cells = (x : Name) → map.get places x ≡ tree.get order_of cells x

-- these entries say where their cells lie, in order
record AreListed (places : Places) (es : List (Place × Name)) : Type 0 where
  at : (p : Place) (x : Name) → Contains es (p, x) → map.get places x ≡ Some p
  ordered : IsStrictlySortedBy place_order (keys_of es)

before_all : (p : Place) (es : List (Place × Name)) (q : Place) (y : Name)
    → AllByRecursion (λ r. place_order p r ≡ Less) (keys_of es) → Contains es (q, y) → IsBefore p q
before_all p [] q y all c = absurd (nothing_in_none (q, y) c)
before_all p (e ∷ es) q y all c = elim (contains_cases e es (q, y) c) [
  | inl is ↦ before_of p q (ap (λ (f : Place × Name). place_order p f.0) (sym is) ∙ all.0)
  | inr t ↦ before_all p es q y all.1 t
]

listed_rest : (places : Places) (e : Place × Name) (es : List (Place × Name)) → AreListed places (e ∷ es)
    → AreListed places es
listed_rest places e es l = record {
  at = λ p x c. l.at p x (contains_tail e es (p, x) c);
  ordered = sorted_tail place_order e.0 (keys_of es) l.ordered;
}

first_before : (places : Places) (e : Place × Name) (es : List (Place × Name)) → AreListed places (e ∷ es)
    → (q : Place) (y : Name) → Contains es (q, y) → IsBefore e.0 q
first_before places e es l q y c = before_all e.0 es q y (sorted_head place_order e.0 (keys_of es) l.ordered) c

in_order_of : (places : Places) (es : List (Place × Name)) → AreListed places es → AreInOrder places (names_of es)
unfolding names_of
in_order_of places [] l = tt
in_order_of places (e ∷ es) l = (
  λ y p q c here there.
      let h = named_by es y c in
      let first : e.0 ≡ p = (let a = l.at e.0 e.1 (contains_head e es) in cc (a, here)) in
      let other : h.0 ≡ q = (let a = l.at h.0 y (contains_tail e es (h.0, y) h.1) in cc (a, there)) in
      subst (λ r. IsBefore r q) first (subst (IsBefore e.0) other (first_before places e es l h.0 y h.1)),
  in_order_of places es (listed_rest places e es l),
)

-- names that are apart
AreApart : List (Place × Name) → Type 0
AreApart [] = Unit {0}
AreApart (e ∷ es) = ((q : Place) (y : Name) → Contains es (q, y) → e.1 ≡ y → ⊥) × AreApart es

apart_of : (places : Places) (es : List (Place × Name)) → AreListed places es → AreApart es
unfolding AreApart
apart_of places [] l = tt
apart_of places (e ∷ es) l = (
  λ q y c same.
      let first = l.at e.0 e.1 (contains_head e es) in
      let other = l.at q y (contains_tail e es (q, y) c) in
      let it : e.0 ≡ q = (let a = sym first ∙ ap (map.get places) same ∙ other in cc a) in
      never_before q (subst (λ r. IsBefore r q) it (first_before places e es l q y c)),
  apart_of places es (listed_rest places e es l),
)

-- a cell in a new place
placed : (places : Places) (x : Name) (p : ℕ × ℕ) (y : Name) → (b : Bool) → eq_by_cmp name_cmp y x ≡ b
    → map.get (map.insert places x p) y ≡ cond b (Some p) (map.get places y)
placed places x p y b e =
    map.get-insert names_total places x p y ∙ ap (λ c. cond c (Some p) (map.get places y)) e

same_ties : (x y : Name) → eq_by_cmp name_cmp y x ≡ is_eq (order_of x y)
same_ties x y = same_test (eq_by_cmp name_cmp y x) (is_eq (order_of x y)) (
  λ t. subst (λ z. IsTrue (is_eq (order_of x z))) (sym (eq_name-is y x t)) (order_itself x),
  λ t. subst (λ z. IsTrue (eq_by_cmp name_cmp z x)) (order_ties x y t) (eq_name-refl x),
)

at_after : (places : Places) (old after : Cells) (x : Name) (p : Place) → AreAt places old
    → tree.Updates order_of old after x (Some p) → AreAt (map.insert places x p) after
unfolding AreAt
at_after places old after x p at up = λ y.
    placed places x p y (is_eq (order_of x y)) (same_ties x y)
    ∙ ap (λ o. cond (is_eq (order_of x y)) (Some p) o) (at y)
    ∙ sym (up.0 y)

-- cells may go one by one to some places: these are the free ones, ascending, and no cell lies there that goes
record AreReady (kept : List ℕ) (es : List (Place × Name)) (ps : List Place) (places : Places) : Type 0 where
  free : (p : Place) → Contains ps p ↔ IsFreeIn kept places p
  sorted : AreSorted ps
  elsewhere : (q : Place) (x : Name) → Contains es (q, x) → (p : ℕ × ℕ) → map.get places x ≡ Some p
      → Contains kept p.0 → ⊥
  apart : AreApart es

ready_next : (kept : List ℕ) (e : Place × Name) (es : List (Place × Name)) (p : Place) (ps : List Place)
    (places : Places) → AreReady kept (e ∷ es) (p ∷ ps) places → AreReady kept es ps (map.insert places e.1 p)
unfolding AreApart
ready_next kept e es p ps places r = record {
  free = λ q. (λ c. still q c, λ f. left q f);
  sorted = r.sorted.1;
  elsewhere = λ q y c s is k. off q y c s (eq_by_cmp name_cmp y e.1) refl is k;
  apart = r.apart.1;
}
  where
    was : (q : ℕ × ℕ) (y : Name) → map.get (map.insert places e.1 p) y ≡ Some q
        → (p ≡ q) ⊎ (map.get places y ≡ Some q)
    was q y is = go (eq_by_cmp name_cmp y e.1) refl
      where
        go : (b : Bool) → eq_by_cmp name_cmp y e.1 ≡ b → (p ≡ q) ⊎ (map.get places y ≡ Some q)
        go true t = inl (let a = sym (placed places e.1 p y true t) ∙ is in cc a)
        go false t = inr (sym (placed places e.1 p y false t) ∙ is)

    still : (q : Place) → Contains ps q → IsFreeIn kept (map.insert places e.1 p) q
    still q c =
        let f = (r.free q).0 (contains_tail p ps q c) in record {
          kept = f.kept;
          below = f.below;
          free = λ y is. elim (was q y is) [
            | inl same ↦ never_before q (subst (λ s. IsBefore s q) same (r.sorted.0 q c))
            | inr there ↦ f.free y there
          ];
        }

    left : (q : Place) → IsFreeIn kept (map.insert places e.1 p) q → Contains ps q
    left q f = elim (contains_cases p ps q ((r.free q).1 (record {
      kept = f.kept;
      below = f.below;
      free = λ y is. before y is (eq_by_cmp name_cmp y e.1) refl;
    }))) [
      | inl same ↦ absurd (f.free e.1 (placed places e.1 p e.1 true (eq_name-refl e.1) ∙ ap Some same))
      | inr t ↦ t
    ]
      where
        before : (y : Name) → map.get places y ≡ Some q → (b : Bool) → eq_by_cmp name_cmp y e.1 ≡ b → ⊥
        before y is true t =
            r.elsewhere e.0 e.1 (contains_head e es) q (ap (map.get places) (sym (eq_name-is y e.1 t)) ∙ is) f.kept
        before y is false t = f.free y (placed places e.1 p y false t ∙ is)

    off : (q : Place) (y : Name) → Contains es (q, y) → (s : ℕ × ℕ) → (b : Bool) → eq_by_cmp name_cmp y e.1 ≡ b
        → map.get (map.insert places e.1 p) y ≡ Some s → Contains kept s.0 → ⊥
    off q y c s true t is k = r.apart.0 q y c (sym (eq_name-is y e.1 t))
    off q y c s false t is k =
        r.elsewhere q y (contains_tail e es (q, y) c) s (sym (placed places e.1 p y false t) ∙ is) k

-- what is in the world after cells have gone to the lowest free slots
record Moves (kept : List ℕ) (es : List (Place × Name)) (places : Places) (new : Cells) : Type 0 where
  after : Places
  moved : AreMoved kept (names_of es) places after
  at : AreAt after new

moves_of : (kept : List ℕ) (es : List (Place × Name)) (ps : List Place) (places : Places) (old new : Cells)
    → AreReady kept es ps places → AreAt places old → GoTo es ps old new → Moves kept es places new
unfolding names_of
moves_of kept [] ps places old new r at go =
    record { after = places; moved = refl; at = subst (AreAt places) (sym go) at }
moves_of kept (e ∷ es) [] places old new r at go = absurd go
moves_of kept (e ∷ es) (p ∷ ps) places old new r at (mid, up, go) =
    let m = moves_of kept es ps (map.insert places e.1 p) mid new (ready_next kept e es p ps places r)
    (at_after places old mid e.1 p at up) go in record {
      after = m.after;
      moved = (
        p,
        record {
          free = (r.free p).0 (contains_head p ps);
          lowest = λ q f. elim (contains_cases p ps q ((r.free q).1 f)) [
            | inl same ↦ inl (sym same)
            | inr t ↦ inr (r.sorted.0 q t)
          ];
        },
        m.moved,
      );
      at = m.at;
    }

-- the set of one zone
list_of_one : (zs : List ℕ) (z : ℕ) → AreAscending zs → ((y : ℕ) → Contains zs y ↔ (y ≡ z)) → zs ≡ z ∷ []
list_of_one [] z up has = absurd (nothing_in_none z ((has z).1 refl))
list_of_one (a ∷ []) z up has = ap (λ y. y ∷ []) ((has a).0 (contains_head a []))
list_of_one (a ∷ b ∷ zs) z up has =
    let first = (has a).0 (contains_head a (b ∷ zs)) in
    let second = (has b).0 (contains_tail a (b ∷ zs) b (contains_head b zs)) in
    absurd (omega (arith, up.0.0, first, second))

-- a set of exactly one zone
abbrev pub IsOnly : ZoneSet → ℕ → Type 0
IsOnly zones zone = (z : ℕ) → HasZone zones.bits z ↔ (z ≡ zone)

pub only_zone : (zones : ZoneSet) (zone : ℕ) → IsOnly zones zone → zones_in zones ≡ zone ∷ []
only_zone zones zone only = list_of_one (zones_in zones) zone (zones_in-ascending zones) (λ y. (
  λ c. (only y).0 ((zones_in-has zones y).0 c),
  λ e. (zones_in-has zones y).1 ((only y).1 e),
))

pub only_made : (g : GraphState) (zones : ZoneSet) (zone : ℕ) → IsOnly zones zone → AreMade g zones → zone < g.zones
only_made g zones zone only made = made zone ((only zone).1 refl)

pub only_refused : (g : GraphState) (zones : ZoneSet) (zone : ℕ) (s : Stage) (why : Refusal) → IsOnly zones zone
    → IsRefusal (AreMade g zones) s why → IsRefusal (zone < g.zones) s why
only_refused g zones zone s why only (inl runs) = inl runs
only_refused g zones zone s why only (inr (is, idle_is, none)) = inr (
  is,
  idle_is,
  λ below. none (λ z has. subst (λ y. y < g.zones) (sym ((only z).0 has)) below),
)

-- how a zone is packed
pub record IsPacked (g : GraphState) (zone : ℕ) (old new : Shown) (kept given_up : List ℕ) (movers : Lying) : Type 0
  where
    pub zones : ZoneSet
    pub one : IsOnly zones zone
    pub made : zone < g.zones
    pub split : kept ++ given_up ≡ arenas_from 0 old.owners (zones_in zones)
    pub few : FillArenas (count_by (λ x. is_in_zones g (zones_in zones) x) (tree.keys old.cells)) (length kept)
    pub cells_up : tree.IsOrdered order_of old.cells
    pub movers_up : tree.IsOrdered place_order movers
    pub movers_are : AreLying given_up old.cells movers
    pub stayers : Lying
    pub stayers_are : AreLying kept old.cells stayers
    pub go : GoTo movers.entries (free_in stayers kept) old.cells new.cells
    pub owners_are : new.owners ≡ given_up_from 0 old.owners given_up
    pub new_is : new ≡ record old { owners = new.owners; cells = new.cells }

module _ (g : GraphState) (zone : ℕ) (old new : Shown) (kept given_up : List ℕ) (movers : Lying)
    (is : IsPacked g zone old new kept given_up movers) where
  ascend : Ascend 0 (kept ++ given_up)
  ascend = subst (Ascend 0) (sym is.split) (numbers_ascend 0 old.owners (zones_in is.zones))

  never_both : (a : ℕ) → Contains kept a → Contains given_up a → ⊥
  never_both a c d = let h = ascend_apart 0 kept given_up ascend a a c d in omega (arith, h)

  entry : (p : Place) (x : Name) → (tree.get place_order movers p ≡ Some x) ↔ Contains movers.entries (p, x)
  entry p x = btree_map_get_iff places_total places_exact movers is.movers_up p x

  module _ (w : World) (lies : Lies g old w) where
    moving : (p : Place) (x : Name) → Contains movers.entries (p, x)
        → (map.get w.places x ≡ Some p) × Contains given_up p.0
    moving p x c =
        let h = (is.movers_are p x).0 ((entry p x).1 c) in (lies.places_are x ∙ h.0, h.1)

    listed : AreListed w.places movers.entries
    listed = record { at = λ p x c. (moving p x c).0; ordered = is.movers_up }

    ready : AreReady kept movers.entries (free_in is.stayers kept) w.places
    ready = record {
      free = λ p. (
        λ c. (let h = in_has is.stayers kept p c in record {
          kept = h.of;
          below = h.below;
          free = λ x e.
              let t = (is.stayers_are p x).1 (sym (lies.places_are x) ∙ e, h.of) in
              let n = h.free in cc (t, n);
        }),
        λ f. in_from is.stayers kept p (record {
          of = f.kept;
          below = f.below;
          free = none p f (tree.get place_order is.stayers p) refl;
        }),
      );
      sorted = in_sorted is.stayers 0 kept (ascend_first 0 kept given_up ascend);
      elsewhere = λ q x c p e k.
          let h = moving q x c in
          let same : q ≡ p = (let a = h.0 in cc (a, e)) in
          never_both p.0 k (subst (λ (r : Place). Contains given_up r.0) same h.1);
      apart = apart_of w.places movers.entries listed;
    }
      where
        none : (p : Place) → IsFreeIn kept w.places p → (o : Option Name) → tree.get place_order is.stayers p ≡ o
            → tree.get place_order is.stayers p ≡ None
        none p f None e = e
        none p f (Some x) e =
            let h = (is.stayers_are p x).0 e in absurd (f.free x (lies.places_are x ∙ h.0))

    moves : Moves kept movers.entries w.places new.cells
    unfolding AreAt
    moves =
        moves_of kept movers.entries (free_in is.stayers kept) w.places old.cells new.cells ready lies.places_are is.go

    after : World
    after = record w { places = moves.after; owner = given_up_from 0 w.owner given_up }

    compacts : Compacts w zone (length movers.entries) (length given_up) after
    unfolding after
    compacts = record {
      idle = lies.idle;
      made = subst (λ (h : GraphState). zone < h.zones) (sym lies.graph_is) is.made;
      kept = kept;
      given_up = given_up;
      arenas_are =
          ap (λ os. arenas_from 0 os (zone ∷ [])) lies.owners_are
          ∙ ap (arenas_from 0 old.owners) (sym one) ∙ sym is.split;
      few = subst (λ n. FillArenas n (length kept)) counted is.few;
      movers = names_of movers.entries;
      movers_are = λ x. (
        λ c. (let h = named_by movers.entries x c in let m = moving h.0 x h.1 in (h.0, m.0, m.1)),
        λ h. named_from movers.entries h.0 x
            ((entry h.0 x).0 ((is.movers_are h.0 x).1 (sym (lies.places_are x) ∙ h.1, h.2))),
      );
      in_order = in_order_of w.places movers.entries listed;
      are_moved = moves.moved;
      world_is = refl;
      moved_is = names_count movers.entries;
      given_is = refl;
    }
      where
        one : zones_in is.zones ≡ zone ∷ []
        one = only_zone is.zones zone is.one

        counted : count_by (λ x. is_in_zones g (zones_in is.zones) x) (tree.keys old.cells)
            ≡ count_by (λ x. is_in_zones w.graph (zone ∷ []) x) (map.keys w.places)
        counted = λ i. count_by (λ x. is_in_zones (sym lies.graph_is i) (one i) x)
            (same_keys old.cells w is.cells_up (λ x. (
              λ h. sym (ap is_some (lies.places_are x)) ∙ h,
              λ h. ap is_some (lies.places_are x) ∙ h,
            )) i)

    lies_after : Lies g new after
    unfolding after AreAt
    lies_after = record {
      idle = record { none_running = lies.idle.none_running; none_preparing = lies.idle.none_preparing };
      graph_is = lies.graph_is;
      owners_are = ap (λ os. given_up_from 0 os given_up) lies.owners_are ∙ sym is.owners_are;
      places_are = moves.at;
    }

pub packs_of : (g : GraphState) (zone : ℕ) (old new : Shown) (kept given_up : List ℕ) (movers : Lying)
    → IsPacked g zone old new kept given_up movers → Packs g zone old (length movers.entries) (length given_up) new
packs_of g zone old new kept given_up movers is = record {
  lawful = λ w lies. (
    after g zone old new kept given_up movers is w lies,
    compacts g zone old new kept given_up movers is w lies,
    lies_after g zone old new kept given_up movers is w lies,
  );
  only = λ w v m n lies c.
      determined w zone v (after g zone old new kept given_up movers is w lies) m n _ _ c
      (compacts g zone old new kept given_up movers is w lies);
  new_is = is.new_is;
}

-- the cells of the arenas that are given up may go to the free slots of those that are kept
pub record IsSplit (a : Arenas) (cells : Cells) (kept given_up : List ℕ) (movers stayers : Lying) : Type 0 where
  pub zones : List ℕ
  pub split : kept ++ given_up ≡ arenas_from 0 (owners_in a) zones
  pub laid : AreLaid cells a.lying
  pub movers_up : tree.IsOrdered place_order movers
  pub movers_are : AreLying given_up cells movers
  pub stayers_are : AreLying kept cells stayers

pub may_go : (a : Arenas) (cells : Cells) (kept given_up : List ℕ) (movers stayers : Lying)
    → IsSplit a cells kept given_up movers stayers → MayGo cells a movers.entries (free_in stayers kept)
may_go a cells kept given_up movers stayers is = record {
  there = λ p x c.
      ((is.movers_are p x).0 ((btree_map_get_iff places_total places_exact movers is.movers_up p x).1 c)).0;
  ordered = is.movers_up;
  free = λ q c. (let h = in_has stayers kept q c in (
    made q h.of,
    h.below,
    none q h.of h.free (tree.get place_order a.lying q) refl,
  ));
  sorted = in_sorted stayers 0 kept
      (ascend_first 0 kept given_up (subst (Ascend 0) (sym is.split) (numbers_ascend 0 (owners_in a) is.zones)));
}
  where
    made : (q : Place) → Contains kept q.0 → q.0 < length a.arenas.items
    made q c =
        let below = numbers_below 0 (owners_in a) is.zones q.0
        (subst (λ ns. Contains ns q.0) is.split (Contains-append_left kept given_up q.0 c)) in
        omega (arith, below, length-map a.arenas.items owner_of)

    none : (q : Place) → Contains kept q.0 → tree.get place_order stayers q ≡ None → (o : Option Name)
        → tree.get place_order a.lying q ≡ o → IsEmpty a.lying q
    none q of free None e = e
    none q of free (Some x) e = absurd (is.laid.back x q e (λ at.
        let stays = (is.stayers_are q x).1 (at, of) in cc (stays, free)))

-- a cell has gone to a place
pub record HasGone (cells new : Cells) (a b : Arenas) (e : Place × Name) (p : Place) : Type 0 where
  pub updates : tree.Updates order_of cells new e.1 (Some p)
  pub arenas : AreSameArenas a b
  pub elsewhere : (q : Place) → (p ≡ q → ⊥) → IsEmpty a.lying q → IsEmpty b.lying q

pub go_on : (cells new : Cells) (a b : Arenas) (e : Place × Name) (es : List (Place × Name)) (p : Place)
    (ps : List Place) → HasGone cells new a b e p → MayGo cells a (e ∷ es) (p ∷ ps) → MayGo new b es ps
go_on cells new a b e es p ps gone may = record {
  there = λ q y c. (let was = may.there q y (contains_tail e es (q, y) c) in
      gone.updates.2 y (other q y c was (is_eq (order_of e.1 y)) refl) ∙ was);
  ordered = sorted_tail place_order e.0 (keys_of es) may.ordered;
  free = λ q c. (let was = may.free q (contains_tail p ps q c) in (
    subst (λ n. q.0 < n) (same_length a.arenas.items b.arenas.items (sym gone.arenas.owners)) was.0,
    was.1,
    gone.elsewhere q (λ same. never_before q (subst (λ s. IsBefore s q) same (may.sorted.0 q c))) was.2,
  ));
  sorted = may.sorted.1;
}
  where
    other : (q : Place) (y : Name) → Contains es (q, y) → tree.get order_of cells y ≡ Some q → (t : Bool)
        → is_eq (order_of e.1 y) ≡ t → t ≡ false
    other q y c was true same =
        let first = may.there e.0 e.1 (contains_head e es) in
        let at : e.0 ≡ q = (let f = sym first ∙ ap (tree.get order_of cells) (order_ties e.1 y same) ∙ was in cc f) in
        absurd (never_before q (subst (λ r. IsBefore r q) at
        (before_all e.0 es q y (sorted_head place_order e.0 (keys_of es) may.ordered) c)))
    other q y c was false o = refl

-- the places from one on
pub drop_at : (places : List Place) (n : ℕ) (p : Place) → Some p ≡ slice_get places n
    → drop n places ≡ p ∷ drop (n + 1) places
drop_at places n p at =
    drop_more places n p (slice_get_within places n p (sym at))
    ∙ ap (λ q. q ∷ drop (n + 1) places) (get_or_from_slice_get places n p p (sym at))

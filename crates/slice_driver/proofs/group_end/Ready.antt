-- What is known of a collector whose current group is ready to end.
use Rattle.std.proofs.Common.{◌≡◌, ◌⊎◌, ℕ, suc, true, false, inl, inr, refl, sym, ap, ◌∙◌, subst}
use Rattle.std.proofs.Common.{Option, None, Some, is_some, List, [], ◌∷◌, map, Contains}
use Rattle.gz_names.specs.Zones.{HasZone, zones_in}
use Rattle.gz_names.specs.declared.names.Name.{Name}
use Rattle.gz_names.specs.declared.names.Name.TheVariants.{Cell, Wrap}
use Rattle.gz_names.specs.declared.numbers.Place.{Place}
use Rattle.gz_names.specs.declared.zone_sets.ZoneSet.{ZoneSet}
use Rattle.cell_bits.specs.declared.bits.Bits.{Bits}
use Rattle.zones.specs.declared.states.State.TheVariants as state
use Rattle.colour_defs.specs.Graph as graph
use Rattle.colour_defs.specs.Closure as names
use Rattle.colour_defs.specs.World.{World, Collection, BlackClosure}
use Rattle.colour_defs.specs.Laws.{IsValid, AreValidGroups}
use Rattle.colour_defs.proofs.Lists.{contains_cases, contains_head, contains_tail, nothing_in_none}
use Rattle.colour_defs.proofs.Membership.{same_zone_of, some_member}
use Rattle.colour_defs.proofs.ZoneSets.{zones_in-has}
use Rattle.heap_core.specs.Shape.{is_marking_state, name_at, state_in, state_of, zone_of}
use Rattle.mark_stack.specs.Stack.{Piles, no_places}
use Rattle.heap_core.specs.Heap.{HeapState, flown_or, joined, with_flown}
use Rattle.barriers.specs.Colours.{IsBlack}
use Rattle.barriers.specs.Invariant.{MarkingInvariant}
use Rattle.barriers.specs.PendingBlack as black_closure
use Rattle.barriers.specs.PendingLive.{GrayInvariant}
use Rattle.barriers.proofs.BlackClosure.{black_or_not}
use Rattle.zone_edges.specs.Looks.{IsKey}
use Rattle.slice_driver.specs.Collector.{CollectorState, RunState, heap_with}
use Rattle.slice_driver.specs.Closures.{AreTied}
use Rattle.slice_driver.specs.Represents.{IsCurrent, IsInGroups, RepresentsMarking, Runs, RunsAs}
use Rattle.slice_driver.specs.GroupEnd.{IsReady}
use Rattle.slice_driver.proofs.abstraction.Named.{edge_named, name_of, present_named, some_one}
use Rattle.slice_driver.proofs.abstraction.Lying.{zone_named}
use Rattle.slice_driver.proofs.abstraction.Tying.{entry_named}
use Rattle.slice_driver.proofs.group_end.Places.{IsOrdered, edge_from, pending_black}

-- where no arena is in flight, the heap's own bits count
none_flown : (flown : ℕ → Option Bits) → ((a : ℕ) → flown a ≡ None) → (n : ℕ) (colours : List Bits)
    → with_flown flown n colours ≡ colours
none_flown flown none n [] = refl
none_flown flown none n (own ∷ rest) = λ i. ap (λ o. flown_or o own) (none n) i ∷ none_flown flown none (suc n) rest i

pub joined_none : (h : HeapState) (flown : ℕ → Option Bits) → h.delayed ≡ no_places → ((a : ℕ) → flown a ≡ None)
    → joined h flown ≡ h
joined_none h flown delayed none =
    ap (λ (cs : List Bits). record h { colours = cs; delayed = no_places }) (none_flown flown none 0 h.colours)
    ∙ ap (λ (ps : Piles). record h { delayed = ps }) (sym delayed)

pub no_some : {X : Type 0} (o : Option X) → is_some o ≡ false → o ≡ None
no_some None e = refl
no_some (Some x) e = absurd (cc e)

-- a listed group of zones is one of the sets
pub in_groups_from : (groups : List ZoneSet) (l : List ℕ) (z : ℕ) → Contains (map zones_in groups) l → Contains l z
    → IsInGroups groups z
in_groups_from [] l z c m = absurd (nothing_in_none l c)
in_groups_from (g ∷ gs) l z c m = elim (contains_cases (zones_in g) (map zones_in gs) l c) [
  | inl e ↦ (g, contains_head g gs, (zones_in-has g z).0 (subst (λ xs. Contains xs z) (sym e) m))
  | inr t ↦ (let r = in_groups_from gs l z t m in (r.0, contains_tail g gs r.0 r.1, r.2))
]

pub in_groups_to : (groups : List ZoneSet) (z : ℕ) → IsInGroups groups z
    → (l : List ℕ) × Contains (map zones_in groups) l × Contains l z
in_groups_to [] z i = absurd (nothing_in_none i.0 i.1)
in_groups_to (g ∷ gs) z i = elim (contains_cases g gs i.0 i.1) [
  | inl e ↦ (
    zones_in g,
    contains_head (zones_in g) (map zones_in gs),
    (zones_in-has g z).1 (subst (λ (s : ZoneSet). HasZone s.bits z) (sym e) i.2),
  )
  | inr t ↦ (let r = in_groups_to gs z (i.0, t, i.2) in
      (r.0, contains_tail (zones_in g) (map zones_in gs) r.0 r.1, r.2))
]

-- the collection that runs, of a collector that stands for a world
pub runs_of : (c : CollectorState) (h : HeapState) (w : World) (r : RunState) (k : Collection) → c.run ≡ Some r
    → w.collection ≡ Some k → RunsAs h c w c.run w.collection → Runs h c w r k
runs_of c h w r k e f i = subst (λ (o : Option Collection). RunsAs h c w (Some r) o) f
    (subst (λ (o : Option RunState). RunsAs h c w o w.collection) e i)

-- where a collection runs in a collector, one runs in the world
pub collection_of : (c : CollectorState) (h : HeapState) (w : World) (r : RunState) → c.run ≡ Some r
    → RunsAs h c w c.run w.collection → (k : Collection) × (w.collection ≡ Some k)
collection_of c h w r e i = go w.collection refl (subst (λ (o : Option RunState). RunsAs h c w o w.collection) e i)
  where
    go : (o : Option Collection) → w.collection ≡ o → RunsAs h c w (Some r) o
        → (k : Collection) × (w.collection ≡ Some k)
    go None f i = absurd i
    go (Some k) f i = (k, f)

-- a collector stands for a valid world, in which this collection runs, and its current group is ready to end
pub record AtGroupEnd (c : CollectorState) (flown : ℕ → Option Bits) (w : World) (k : Collection) (g : ZoneSet)
    (rest : List ZoneSet) : Type 0 where
  pub valid : IsValid w
  pub represents : RepresentsMarking c flown w
  pub ready : IsReady c g rest
  pub running : w.collection ≡ Some k

module _ (c : CollectorState) (flown : ℕ → Option Bits) (w : World) (k : Collection) (g : ZoneSet) (rest : List ZoneSet)
    (ending : AtGroupEnd c flown w k g rest) where
  none_out : (a : ℕ) → flown a ≡ None
  none_out a = no_some (flown a) (ending.represents.swept.flies.covers a ∙ ap is_some (ending.ready.kept a))

  pub heap_is : heap_with c flown ≡ c.heap
  heap_is = joined_none c.heap flown ending.represents.placed.delayed none_out

  pub inv : MarkingInvariant c.heap c.stack
  inv = subst (λ h. MarkingInvariant h c.stack) heap_is ending.represents.coloured.marks

  pub gray : GrayInvariant c.heap c.stack c.lists
  gray = subst (λ h. GrayInvariant h c.stack c.lists) heap_is ending.represents.coloured.gray

  pub runs : Runs c.heap c w ending.ready.run k
  runs = subst (λ h. Runs h c w ending.ready.run k) heap_is
      (runs_of c (heap_with c flown) w ending.ready.run k ending.ready.running ending.running
      ending.represents.phase.runs)

  pub groups_are : k.groups ≡ Some (zones_in g ∷ map zones_in rest)
  groups_are = runs.groups_are ∙ ap (λ b. Rattle.std.proofs.Common.cond b (Some (map zones_in c.groups)) None)
      ending.ready.formed ∙ ap (λ gs. Some (map zones_in gs)) ending.ready.groups_are

  pub groups_ok : AreValidGroups w k (zones_in g ∷ map zones_in rest)
  groups_ok = ending.valid.groups k _ ending.running groups_are

  pub some_zone : (z : ℕ) × Contains (zones_in g) z
  some_zone = some_member (zones_in g) (groups_ok.full (zones_in g) (contains_head _ _))

  pub tied : AreTied c.heap c.stack c.lists w k
  tied = runs.tied some_zone.0 (groups_ok.marked (zones_in g) some_zone.0 (contains_head _ _) some_zone.1)

  -- a marking zone is one of the group, or of a later one and marked black only
  pub marking_zone : (z : ℕ) → is_marking_state (state_in c.heap.shape z) ≡ true
      → HasZone g.bits z ⊎ ((state_in c.heap.shape z ≡ state.MarkBlackOnly) × (l : List ℕ)
      × Contains (map zones_in rest) l × Contains l z)
  marking_zone z m =
      let i = groups_ok.in_some z ((runs.marking_are z).1 m) in
      elim (contains_cases (zones_in g) (map zones_in rest) i.0 i.1) [
        | inl e ↦ inl ((zones_in-has g z).0 (subst (λ xs. Contains xs z) (sym e) i.2))
        | inr t ↦ elim (runs.states.later ending.ready.formed z
            (subst (λ gs. IsInGroups gs z) (sym ending.ready.groups_are) (in_groups_from (g ∷ rest) i.0 z i.1 i.2))) [
              | inl only ↦ inr (only, i.0, t, i.2)
              | inr both ↦ inl (subst (λ gs. IsCurrent gs z) ending.ready.groups_are both.0)
            ]
      ]

  group_takes_gray : (z : ℕ) → HasZone g.bits z → state_in c.heap.shape z ≡ state.MarkBlackOnly → ⊥
  group_takes_gray z here only = cc (ending.ready.marked.begun z here, only)

  pub black_is : (x : Name) (p : Place) → name_at c.heap.shape p ≡ Some x → BlackClosure k x → IsBlack c.heap p
  black_is x p named b = pending_black c.heap c.stack c.lists inv gray g ending.ready.marked p
      ((tied.black x p named).1 b)

  pub is_black : (x : Name) (p : Place) → name_at c.heap.shape p ≡ Some x → IsBlack c.heap p → BlackClosure k x
  is_black x p named b = (tied.black x p named).0 (black_closure.black b)

  zone_is : (x : Name) (p : Place) → name_at c.heap.shape p ≡ Some x
      → graph.zone_of w.graph x ≡ Some (zone_of c.heap.shape p)
  zone_is x p named = zone_named c.heap ending.represents.placed.lies.graph w.graph p x
      ending.represents.placed.lies.shown
      ending.represents.placed.lies.part.part named

  into_black : (p q : Place) (x y : Name) → name_at c.heap.shape p ≡ Some x → name_at c.heap.shape q ≡ Some y
      → names.HasEdge w.graph x y → state_of c.heap.shape p ≡ state.MarkBlackOnly
      → HasZone g.bits (zone_of c.heap.shape q) → (IsBlack c.heap q → ⊥) → ⊥
  into_black p q (Cell n) y np nq e only here not =
      let same : Some (zone_of c.heap.shape p) ≡ Some (zone_of c.heap.shape q) = sym (zone_is (Cell n) p np)
      ∙ same_zone_of w.graph (Cell n) y (ending.valid.graph.fields n y e) ∙ zone_is y q nq in
      group_takes_gray _ here (subst (λ z. state_in c.heap.shape z ≡ state.MarkBlackOnly) (some_one _ _ same) only)
  into_black p q (Wrap d t) y np nq e only here not =
      elim (marking_zone (zone_of c.heap.shape p) (ap is_marking_state only)) [
        | inl mine ↦ group_takes_gray _ mine only
        | inr later ↦
            let target : name_at c.heap.shape q ≡ Some (Cell t) = nq ∙ ap (λ z. Some z) (sym e.0) in
            groups_ok.backward.0 later.1 later.2 d t (zone_of c.heap.shape p) (zone_of c.heap.shape q)
            (present_named c.heap w ending.represents.placed.lies p (Wrap d t) np) (zone_is (Wrap d t) p np)
            (zone_is (Cell t) q target)
            later.3 ((zones_in-has g _).1 here) (λ b. not (black_is (Cell t) q target b))
      ]

  -- and so does a wrapper of the group that is a key
  key_into_black : (p q : Place) (x y : Name) → name_at c.heap.shape p ≡ Some x → name_at c.heap.shape q ≡ Some y
      → names.HasEdge w.graph x y → IsKey c.heap.shape p → HasZone g.bits (zone_of c.heap.shape p)
      → state_of c.heap.shape q ≡ state.MarkBlackOnly → (IsBlack c.heap q → ⊥) → ⊥
  key_into_black p q (Cell n) y np nq e key here only not =
      let same : Some (zone_of c.heap.shape p) ≡ Some (zone_of c.heap.shape q) = sym (zone_is (Cell n) p np)
      ∙ same_zone_of w.graph (Cell n) y (ending.valid.graph.fields n y e) ∙ zone_is y q nq in
      group_takes_gray _ here
      (subst (λ z. state_in c.heap.shape z ≡ state.MarkBlackOnly) (sym (some_one _ _ same)) only)
  key_into_black p q (Wrap d t) y np nq e key here only not =
      elim (marking_zone (zone_of c.heap.shape q) (ap is_marking_state only)) [
        | inl mine ↦ group_takes_gray _ mine only
        | inr later ↦
            let target : name_at c.heap.shape q ≡ Some (Cell t) = nq ∙ ap (λ z. Some z) (sym e.0) in
            let lies = ending.represents.placed.lies in
            let held = lies.shown.entries_held key.0 p key.1 key.2 in
            let map = name_of c.heap.shape key.0 held.0 in
            let value = name_of c.heap.shape key.1 held.2 in
            let entry = entry_named c.heap w lies key.0 p key.1 map.0 (Wrap d t) value.0 map.1 np value.1 key.2 in
            groups_ok.forward.0 later.1 later.2 d t (zone_of c.heap.shape p) (zone_of c.heap.shape q)
            (present_named c.heap w lies p (Wrap d t) np)
            (map.0, value.0, entry, present_named c.heap w lies key.0 map.0 map.1) (zone_is (Wrap d t) p np)
            (zone_is (Cell t) q target) ((zones_in-has g _).1 here) later.3
            (λ b. not (black_is (Cell t) q target b))
      ]

  pub ordered : IsOrdered c.heap g
  ordered = record {
    only = λ z both. elim (marking_zone z (ap is_marking_state both)) [
      | inl here ↦ here
      | inr later
          ↦ absurd (cc (both, later.0))
    ];
    order = λ p q e only here.
        elim (black_or_not c.heap q) [
          | inl b ↦ b
          | inr not ↦
              let x = name_of c.heap.shape p (edge_from c.heap.shape p q e) in
              let y = name_of c.heap.shape q (inv.holds.colours.shape.targets p q e) in
              absurd (into_black p q x.0 y.0 x.1 y.1
              (edge_named c.heap w ending.represents.placed.lies p q x.0 y.0 x.1 y.1 e)
              only here not)
        ];
    keys = λ p q e key here only.
        elim (black_or_not c.heap q) [
          | inl b ↦ b
          | inr not ↦
              let x = name_of c.heap.shape p (edge_from c.heap.shape p q e) in
              let y = name_of c.heap.shape q (inv.holds.colours.shape.targets p q e) in
              absurd (key_into_black p q x.0 y.0 x.1 y.1 (edge_named c.heap w ending.represents.placed.lies p q x.0 y.0
              x.1 y.1 e) key here only not)
        ];
  }

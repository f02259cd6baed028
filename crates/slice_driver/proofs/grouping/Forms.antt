-- As the groups are formed the collector stands for the world in which they are.
use Rattle.std.proofs.Common.{◌≡◌, ◌≢◌, ◌↔◌, ◌<◌, ℕ, true, cond, inl, inr, refl, sym, ap, ◌∙◌, subst, arith}
use Rattle.std.proofs.Common.{Option}
use Rattle.std.proofs.Common.{None, Some, IsTrue, List, [], length, map, get_or, Contains, slice_get, slice_index_or}
use Rattle.std.proofs.Common.{option_map}
use Rattle.std.proofs.lemmas.List.{get_or_default}
use Rattle.std.proofs.lemmas.List.Elements.{Contains-get_or}
use Rattle.std.proofs.lemmas.Option.{slice_get-get_or}
use Rattle.gz_names.specs.Zones.{HasZone, zones_in}
use Rattle.gz_names.specs.declared.names.Name.{Name}
use Rattle.gz_names.specs.declared.names.Name.TheVariants.{Cell, Wrap}
use Rattle.gz_names.specs.declared.numbers.CompNo.{CompNo}
use Rattle.gz_names.specs.declared.numbers.Place.{Place}
use Rattle.gz_names.specs.declared.zone_sets.ZoneSet.{ZoneSet}
use Rattle.cell_bits.specs.declared.bits.Bits.{Bits}
use Rattle.wrappers.specs.WrapperMaps.{list_of}
use Rattle.wrappers.specs.declared.wrapper_maps.WrapperKey.{WrapperKey}
use Rattle.colour_defs.specs.Graph.{zone_of as zone_of_name}
use Rattle.colour_defs.specs.Groups.{AreLawfulGroups, IsKeyOfPresent, IsLastEdge, LeadsOutside}
use Rattle.colour_defs.specs.Laws.{IsValid}
use Rattle.colour_defs.specs.Lawful.{FormsGroups}
use Rattle.colour_defs.specs.World.{World, Collection, marking_of, BlackClosure}
use Rattle.colour_defs.proofs.ZoneSets.{zones_in-has}
use Rattle.heap_core.specs.Shape.{is_marking_state, name_at, state_in, zone_of}
use Rattle.heap_core.specs.Heap.{HeapState, joined}
use Rattle.heap_core.specs.Shows.{StandsFor}
use Rattle.barriers.specs.PendingBlack as black_closure
use Rattle.barriers.specs.Reached as reached
use Rattle.barriers.proofs.BlackClosure.{reached_is_pending}
use Rattle.zone_edges.specs.Groups.{AreComponents, Edge}
use Rattle.zone_edges.specs.Looks.{IsLookedAt}
use Rattle.zone_edges.specs.Sets.{no_zones}
use Rattle.group_laws.proofs.Listed.{components_are_lawful}
use Rattle.slice_driver.specs.Collector.{CollectorState, RunState, heap_with}
use Rattle.slice_driver.specs.Closures.{AreBlack, AreTied}
use Rattle.slice_driver.specs.Grouping.{FormsIn}
use Rattle.slice_driver.specs.Represents.{AreInStates, AreLookedAt, IsInGroups, LeadsAcross, RepresentsMarking}
use Rattle.slice_driver.specs.Represents.{IsBeingSwept, IsPlaced, Runs, RunsAs}
use Rattle.slice_driver.proofs.basics.Marks.{coloured_as}
use Rattle.slice_driver.proofs.basics.Worlds.{placed_running}
use Rattle.slice_driver.proofs.abstraction.Named.{edge_placed, named_cell}
use Rattle.slice_driver.proofs.abstraction.Named.{place_of as place_named, some_one}
use Rattle.slice_driver.proofs.abstraction.Tying.{entry_placed}
use Rattle.slice_driver.proofs.abstraction.Lying.{zone_named}
use Rattle.slice_driver.proofs.group_end.Ready.{runs_of}
use Rattle.slice_driver.proofs.group_end.Wrappers.{found_listed}

-- a set of a list of groups, by its index and by itself
in_groups_at : (groups : List ZoneSet) (i z : ℕ) → i < length groups → HasZone (slice_index_or groups i no_zones).bits z
    → IsInGroups groups z
in_groups_at groups i z lt here = (get_or groups i no_zones, Contains-get_or groups i no_zones lt, here)

at_in_groups : (groups : List ZoneSet) (z : ℕ) → IsInGroups groups z → (i : ℕ) × (i < length groups)
    × HasZone (slice_index_or groups i no_zones).bits z
at_in_groups groups z (g, (i, lt, is), here) =
    (i, lt, subst (λ (y : ZoneSet). HasZone y.bits z) (sym (get_or_default groups i no_zones g lt ∙ is)) here)

abbrev pub formed_collection : Collection → List ZoneSet → Collection
formed_collection k groups = record k { groups = Some (map zones_in groups) }

module _ (c d : CollectorState) (flown : ℕ → Option Bits) (w : World) (k : Collection) (groups : List ZoneSet)
    (ok : IsValid w) (s : RepresentsMarking c flown w) (f : FormsIn c groups d) (at : w.collection ≡ Some k) where
  runs : Runs (heap_with c flown) c w f.run k
  runs = runs_of c (heap_with c flown) w f.run k f.running at s.phase.runs

  noted : AreLookedAt (heap_with c flown) c f.run w k
  noted = runs.early f.unformed

  zone_is : (x : Name) (p : Place) → name_at c.heap.shape p ≡ Some x
      → zone_of_name w.graph x ≡ Some (zone_of c.heap.shape p)
  zone_is x p named = zone_named c.heap s.placed.lies.graph w.graph p x s.placed.lies.shown s.placed.lies.part.part
      named

  components : AreComponents c.edges.sources f.run.zones groups
  components = subst (λ zs. AreComponents c.edges.sources zs groups) noted.zones_are f.components

  tied_by : (z : ℕ) → HasZone f.run.zones.bits z → AreTied (heap_with c flown) c.stack c.lists w k
  tied_by z here = runs.tied z ((runs.marking_are z).1 (ap is_marking_state (runs.states.early f.unformed z here)))

  -- a wrapper stands in the list of its zone, before the cursor
  looked_at : (p : Place) (comp : CompNo) (t : ℕ) → name_at c.heap.shape p ≡ Some (Wrap comp t)
      → HasZone f.run.zones.bits (zone_of c.heap.shape p) → IsLookedAt c.heap.shape c.edges p
  looked_at p comp t named here =
      let cell = named_cell c.heap.shape p (Wrap comp t) named in
      let is = s.placed.lies.shown.cells p cell.0 cell.1 in
      let stands : StandsFor c.heap.shape s.placed.lies.graph p cell.0 (Wrap comp t) =
      subst (λ y. StandsFor c.heap.shape s.placed.lies.graph p cell.0 y) cell.2 is.stands in
      let l = found_listed c.heap.shape.comps c.heap.shape.wrappers s.placed.lies.shown.maps_at_home comp t p
      stands.mapped in
      let same : l.0 ≡ zone_of c.heap.shape p =
      some_one _ _ (sym l.1 ∙ ap (λ (m : CompNo). slice_get c.heap.shape.comps m.0) (sym stands.comp_is)
      ∙ is.at_home) in
      let there : Contains (list_of c.heap.shape.wrappers (zone_of c.heap.shape p))
      (record { comp = comp.0; target = t }, p) =
      subst (λ z. Contains (list_of c.heap.shape.wrappers z) (record { comp = comp.0; target = t }, p)) same l.2 in
      let all = f.looked (zone_of c.heap.shape p)
      (subst (λ (y : ZoneSet). HasZone y.bits (zone_of c.heap.shape p)) (sym noted.zones_are) here) in
      record {
        index = there.0;
        before = (let lt = there.1 in omega arith);
        stands = ap (option_map (λ (e : WrapperKey × Place). e.1))
            (slice_get-get_or (list_of c.heap.shape.wrappers (zone_of c.heap.shape p)) there.0
            (record { comp = comp.0; target = t }, p) there.1 ∙ ap (λ (e : WrapperKey × Place). Some e) there.2);
      }

  in_zones : (a : ℕ) → Contains k.zones a → HasZone f.run.zones.bits a
  in_zones a l = (zones_in-has f.run.zones a).0 (subst (λ zs. Contains zs a) runs.zones_are l)

  has_made : (comp : CompNo) (t : ℕ) → Rattle.colour_defs.specs.World.IsPresent w (Wrap comp t)
      → IsTrue (Rattle.colour_defs.specs.Graph.has_wrapper w.graph comp t)
  has_made comp t there = s.placed.lies.part.part.wrappers comp t ((s.placed.lies.part.here (Wrap comp t)).1 there)

  direct : (a b : ℕ) → a ≢ b → Contains k.zones a → Contains k.zones b → (comp : CompNo) (t : ℕ)
      → LeadsOutside w (BlackClosure k) a b comp t → Edge c.edges.sources a b
  direct a b apart la lb comp t e =
      let p = place_named c.heap w s.placed.lies (Wrap comp t) e.present in
      let q = edge_placed c.heap w s.placed.lies p.0 (Wrap comp t) (Cell t) p.1 (refl, has_made comp t e.present) in
      let from : zone_of c.heap.shape p.0 ≡ a = some_one _ _ (sym (zone_is (Wrap comp t) p.0 p.1) ∙ e.of) in
      let to : zone_of c.heap.shape q.0 ≡ b = some_one _ _ (sym (zone_is (Cell t) q.0 q.2) ∙ e.into) in
      let here = subst (λ z. HasZone f.run.zones.bits z) (sym from) (in_zones a la) in
      let there = subst (λ z. HasZone f.run.zones.bits z) (sym to) (in_zones b lb) in
      let across : LeadsAcross c.heap.shape f.run p.0 q.0 =
      record { edge = q.1; from = here; to = there; apart = λ z. apart (sym from ∙ z ∙ to) } in
      elim (noted.looked p.0 q.0 across (looked_at p.0 comp t p.1 here)) [
        | inl black ↦ absurd
            (e.outside (((tied_by a (in_zones a la)).black (Cell t) q.0 q.2).0 (black_closure.black black)))
        | inr n ↦ subst (λ z. Edge c.edges.sources z b) from
            (subst (λ z. Edge c.edges.sources (zone_of c.heap.shape p.0) z) to n.0)
      ]

  -- a wrapper that is a key leads the other way as well
  by_key : (a b : ℕ) → a ≢ b → Contains k.zones a → Contains k.zones b → (comp : CompNo) (t : ℕ)
      → LeadsOutside w (BlackClosure k) b a comp t → IsKeyOfPresent w w.graph (Wrap comp t) → Edge c.edges.sources a b
  by_key a b apart la lb comp t e key =
      let p = place_named c.heap w s.placed.lies (Wrap comp t) e.present in
      let q = edge_placed c.heap w s.placed.lies p.0 (Wrap comp t) (Cell t) p.1 (refl, has_made comp t e.present) in
      let m = place_named c.heap w s.placed.lies key.0 key.3 in
      let entry = entry_placed c.heap w s.placed.lies m.0 p.0 key.0 (Wrap comp t) key.1 m.1 p.1 key.2 in
      let from : zone_of c.heap.shape p.0 ≡ b = some_one _ _ (sym (zone_is (Wrap comp t) p.0 p.1) ∙ e.of) in
      let to : zone_of c.heap.shape q.0 ≡ a = some_one _ _ (sym (zone_is (Cell t) q.0 q.2) ∙ e.into) in
      let here = subst (λ z. HasZone f.run.zones.bits z) (sym from) (in_zones b lb) in
      let there = subst (λ z. HasZone f.run.zones.bits z) (sym to) (in_zones a la) in
      let across : LeadsAcross c.heap.shape f.run p.0 q.0 =
      record { edge = q.1; from = here; to = there; apart = λ z. apart (sym to ∙ sym z ∙ from) } in
      let black = (tied_by b (in_zones b lb)).black (Cell t) q.0 q.2 in
      elim (noted.looked p.0 q.0 across (looked_at p.0 comp t p.1 here)) [
        | inl is ↦ absurd (e.outside (black.0 (black_closure.black is)))
        | inr n ↦ elim (n.1 (m.0, entry.0, entry.1)) [
          | inl is ↦ absurd (e.outside (black.0 (reached_is_pending (heap_with c flown) c.stack s.coloured.marks
              (reached.along (reached.from is) q.1))))
          | inr back ↦ subst (λ z. Edge c.edges.sources z b) to
              (subst (λ z. Edge c.edges.sources (zone_of c.heap.shape q.0) z) from back)
        ]
      ]

  -- each last edge is noted
  last_noted : (a b : ℕ) → IsLastEdge w k a b → Edge c.edges.sources a b
  last_noted a b (apart, la, lb, way) =
      elim way [
        | inl l ↦ direct a b apart la lb l.0 l.1 l.2
        | inr q ↦ by_key a b apart la lb q.0 q.1 q.2 q.3
      ]

  lawful : AreLawfulGroups w k (map zones_in groups)
  lawful = components_are_lawful w k c.edges.sources f.run.zones groups runs.zones_are components noted.first last_noted

  abbrev pub after : World
  after = record w { collection = Some (formed_collection k groups) }

  pub forms : FormsGroups w (map zones_in groups) after
  forms = record {
    collection = k;
    running = at;
    none_yet = runs.groups_are ∙ ap (λ b. cond b (Some (map zones_in c.groups)) None) f.unformed;
    lawful = lawful;
    world_is = refl;
  }

  covered : (z : ℕ) → HasZone f.run.zones.bits z → IsInGroups groups z
  covered z here = let i = components.covered z here in in_groups_at groups i.0 z i.1 i.2

  inside : (z : ℕ) → IsInGroups groups z → HasZone f.run.zones.bits z
  inside z i = let j = at_in_groups groups z i in components.inside j.0 z j.1 j.2

  -- some group is formed
  pub some_group : groups ≡ [] → ⊥
  some_group none = (let i = components.covered f.some_zone.0 f.some_zone.1 in let lt : i.0 < length groups = i.1 in
      let empty : length groups ≡ 0 = ap (λ (gs : List ZoneSet). length gs) none in omega arith)

  abbrev formed_run : RunState
  formed_run = record f.run { formed = true }

  states_after : AreInStates d formed_run
  states_after = subst (λ h. AreInStates (record d { heap = h }) formed_run) (sym f.heap_is)
      (subst (λ gs. AreInStates (record d { heap = c.heap; groups = gs }) formed_run) (sym f.groups_is) (record {
        outside = runs.states.outside;
        made = runs.states.made;
        early = λ no. absurd (cc no);
        later = λ formed z here. inl (runs.states.early f.unformed z (inside z here));
        ended = λ formed z here none. absurd (none (covered z here));
        sweeping = runs.states.sweeping;
        swept = runs.states.swept;
      }))

  heap_same : heap_with d flown ≡ heap_with c flown
  heap_same = ap (λ h. joined h flown) f.heap_is

  tied_after : AreTied (heap_with c flown) c.stack c.lists w k
      → AreTied (heap_with d flown) d.stack d.lists after (formed_collection k groups)
  tied_after t =
      subst (λ h. AreTied h d.stack d.lists after (formed_collection k groups)) (sym heap_same)
      (subst (λ p. AreTied (heap_with c flown) p d.lists after (formed_collection k groups)) (sym f.stack_is)
      (subst (λ l. AreTied (heap_with c flown) c.stack l after (formed_collection k groups)) (sym f.lists_is)
      (record {
        black = t.black;
        live = t.live;
        present = t.present;
        edges_then = t.edges_then;
        entries_then = t.entries_then;
        grown = t.grown;
        formed = t.formed;
      })))

  runs_after : Runs (heap_with d flown) d after formed_run (formed_collection k groups)
  runs_after = record {
    started = f.started;
    zones_are = runs.zones_are;
    marking_are = λ z. subst (λ (h : HeapState). Contains k.marking z ↔ (is_marking_state (state_in h.shape z) ≡ true))
        (sym f.heap_is) (runs.marking_are z);
    groups_are = ap (λ gs. Some (map zones_in gs)) (sym f.groups_is);
    states = states_after;
    tied = λ z m. tied_after (runs.tied z m);
    early = λ no. absurd (cc no);
  }

  pub represents_formed : RepresentsMarking d flown (record w { collection = Some (formed_collection k groups) })
  represents_formed = record {
    placed = subst (λ h. IsPlaced h after) (sym f.heap_is)
        (placed_running c.heap w (Some (formed_collection k groups)) w.preparing s.placed);
    swept = subst (λ (h : HeapState). IsBeingSwept h.shape flown) (sym f.heap_is) s.swept;
    coloured = coloured_as (heap_with c flown) (heap_with d flown) c.stack d.stack c.lists d.lists heap_same f.stack_is
        f.lists_is s.coloured;
    phase = record {
      calm = s.phase.calm;
      black = λ settled. subst (λ h. AreBlack h after) (sym heap_same)
          (λ x p named. s.phase.black
          (record { none_marking = ap marking_of at ∙ settled.none_marking; none_preparing = s.phase.calm }) x p
          named);
      runs = subst (λ (o : Option RunState). RunsAs (heap_with d flown) d after o
          (Some (formed_collection k groups))) (sym f.run_is) runs_after;
    };
  }

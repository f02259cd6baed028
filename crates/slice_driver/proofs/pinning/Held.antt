-- A collector whose registers and pinned roots hold other cells of those that they held stands for the worlds in which
-- they hold these: what they hold is there, and is black or of a zone that is being prepared.
use Rattle.std.proofs.Common.{◌≡◌, ◌+◌, ◌-◌, ◌||◌, ℕ, is_some, if◌then◌else◌, List, map, Option, Some}
use Rattle.std.proofs.Common.{None}
use Rattle.std.proofs.Common.{Contains, slice_index_or, refl, sym, ap, ◌∙◌, inl, inr, arith}
use Rattle.std.proofs.Math.ListN.{get_or-map}
use Rattle.std.proofs.lemmas.Option.{get_or_from_slice_get}
use Rattle.gz_names.specs.declared.names.Name.{Name}
use Rattle.gz_names.specs.declared.names.Name.TheVariants.{Cell, Wrap}
use Rattle.gz_names.specs.declared.numbers.CompNo.{CompNo}
use Rattle.gz_names.specs.declared.numbers.Place.{Place}
use Rattle.cell_bits.specs.declared.bits.Bits.{Bits}
use Rattle.arena_table.specs.Cells.{CellState}
use Rattle.colour_defs.specs.Graph.{GraphState, register_cell}
use Rattle.colour_defs.specs.Groups.{IsFirstEdge, LeadsOutside}
use Rattle.colour_defs.specs.Laws.{IsWellFormed}
use Rattle.colour_defs.specs.Present.{IsPartOf}
use Rattle.colour_defs.specs.World.{Collection, IsSettled, World}
use Rattle.colour_defs.proofs.Lists.{get_contains}
use Rattle.wrappers.proofs.Finding.{slice_get-read}
use Rattle.heap_core.specs.Heap.{HeapState}
use Rattle.heap_core.specs.Shape.{Shape, held_name}
use Rattle.heap_core.specs.Shows.{Shows, StandsFor}
use Rattle.heap_core.proofs.Shown.{reg_shown}
use Rattle.barriers.specs.Colours.{IsBlack}
use Rattle.barriers.specs.Invariant.{MarkingInvariant}
use Rattle.barriers.specs.LeftOut.{IsDark, PreparingInvariant}
use Rattle.barriers.specs.Rewiring.{Rewired}
use Rattle.barriers.proofs.Changing.{rewired_held}
use Rattle.barriers.proofs.LeftOutChanges.{holds_dark, rewired_preparing}
use Rattle.barriers.proofs.Rewiring.{rewired_black, rewired_gray, rewired_invariant, rewired_live}
use Rattle.marker.specs.UnitsToCome.{units_at}
use Rattle.slice_driver.specs.Closures.{AreTied}
use Rattle.slice_driver.specs.Collector.{CollectorState, RunState, heap_with}
use Rattle.slice_driver.specs.Commands.{StayInPlace}
use Rattle.slice_driver.specs.Pins.{holding, with_registers}
use Rattle.slice_driver.specs.Remaining.{clearing_left, grouping_left, left_of, ungrouped_below}
use Rattle.slice_driver.specs.Represents.{AreInStates, AreLookedAt, IsColoured, IsPlaced, Represents, RepresentsMarking}
use Rattle.slice_driver.specs.Represents.{RepresentsPreparing, RunsAs, WaitsWhileMarking, going, prepared}
use Rattle.slice_driver.specs.UnitsToCome.{marking_to_come, units_to_come}
use Rattle.slice_driver.specs.Worlds.{LiesIn}
use Rattle.slice_driver.specs.declared.collector.Uncleared.{Uncleared}
use Rattle.slice_driver.proofs.abstraction.Keeping.{stay_same}
use Rattle.slice_driver.proofs.abstraction.Lying.{lies_from}
use Rattle.slice_driver.proofs.basics.LeftLooks.{looks_of_marking, same_left}
use Rattle.slice_driver.proofs.basics.NamesWeakly.{names_weakly_on}
use Rattle.slice_driver.proofs.basics.Rows.{rows_same}
use Rattle.slice_driver.proofs.basics.Worlds.{flies_same, unswept_same}
use Rattle.slice_driver.proofs.commanding.PreparingCommands.{owned_same}
use Rattle.slice_driver.proofs.measure.CommandsToCome.{left_same}

-- where a place is held
pub held_at : (rs : List (Option Place)) (p : Place) → Contains rs (Some p)
    → (r : ℕ) × (slice_index_or rs r None ≡ Some p)
held_at rs p has = (
  has.0,
  get_or_from_slice_get rs has.0 (Some p) None (slice_get-read rs has.0 (Some p) (Some p) has.1 has.2),
)

-- what the registers of a collector hold now, one of them held before
pub record Reholds : Type 0 where
  pub c : CollectorState
  pub regs : List (Option Place)
  pub among : (x : Place) → Contains regs (Some x) → Contains c.heap.shape.regs (Some x)
  pub flown : ℕ → Option Bits
  pub world : World

module _ (by : Reholds) where
  abbrev s : Shape
  s = by.c.heap.shape

  abbrev d : CollectorState
  d = holding by.c by.regs

  abbrev pub names : List (Option Name)
  names = map (held_name by.c.heap.shape) by.regs

  abbrev pub v : World
  v = with_registers by.world names

  abbrev h : HeapState
  h = heap_with by.c by.flown

  abbrev k : HeapState
  k = heap_with d by.flown

  -- where cells lie
  stands : (g : GraphState) (p : Place) (cell : CellState) (x : Name) → StandsFor s g p cell x
      → StandsFor d.heap.shape (record g { registers = names }) p cell x
  stands g p cell (Cell n) is = (is.0, is.1)
  stands g p cell (Wrap c t) is = record {
    target = is.target;
    kind_is = is.kind_is;
    comp_is = is.comp_is;
    fields_is = is.fields_is;
    target_is = is.target_is;
    known = is.known;
    mapped = is.mapped;
  }

  shows_held : (g : GraphState) → Shows by.c.heap g → Shows d.heap (record g { registers = names })
  shows_held g is = record {
    zones_are = is.zones_are;
    comps_are = is.comps_are;
    objects_made = is.objects_made;
    registers_are = refl;
    slots_are = is.slots_are;
    registers_held = λ p has. is.registers_held p (by.among p has);
    slots_held = is.slots_held;
    fields_held = is.fields_held;
    cells = λ p cell e. (let cell_is = is.cells p cell e in
        record {
          stands = stands g p cell cell.name cell_is.stands;
          sized = cell_is.sized;
          few = cell_is.few;
          at_home = cell_is.at_home;
        });
    apart = is.apart;
    objects_are = is.objects_are;
    wrappers_are = is.wrappers_are;
    mapped = is.mapped;
    maps_at_home = is.maps_at_home;
    entries_held = is.entries_held;
    entries_are = is.entries_are;
    entries_known = is.entries_known;
    few_objects = is.few_objects;
  }

  formed : (g : GraphState) → IsWellFormed g → IsWellFormed (record g { registers = names })
  formed g is = record {
    fields = is.fields;
    keys = is.keys;
    values = is.values;
    no_wrappers = is.no_wrappers;
    delegates = is.delegates;
  }

  part : (g : GraphState) → IsPartOf by.world.graph g → IsPartOf v.graph (record g { registers = names })
  part g is = record {
    zones = is.zones;
    comps = is.comps;
    registers = refl;
    slots = is.slots;
    made = is.made;
    objects = is.objects;
    wrappers = is.wrappers;
    entries = is.entries;
  }

  lies_held : LiesIn by.c.heap by.world → LiesIn d.heap v
  lies_held l =
      let stay : StayInPlace s d.heap.shape = stay_same s d.heap.shape refl l.whole in
      lies_from d.heap (record l.graph { registers = names }) v (shows_held l.graph l.shown)
      (formed l.graph l.part.well_formed) (part l.graph l.part.part) stay.whole
      (λ y p. (
        λ e. stay.names p ∙ (l.places_are y p).0 e,
        λ e. (l.places_are y p).1 (sym (stay.names p) ∙ e),
      ))
      (l.owner_is ∙ sym stay.owners)
      (names_weakly_on s d.heap.shape (λ p y e. stay.names p ∙ e) by.c.heap.weak_names d.heap.weak_names by.world.weak
      v.weak refl refl l.weak_are)
      (l.out_is ∙ sym stay.outs)
      (λ y p. (
        λ has. (stay.unswept p y).1 ((l.white_are y p).0 has),
        λ un. (l.white_are y p).1 ((stay.unswept p y).0 un),
      ))

  placed_held : IsPlaced by.c.heap by.world → IsPlaced d.heap v
  placed_held i = record {
    delayed = i.delayed;
    lies = lies_held i.lies;
    homes = rows_same s d.heap.shape refl refl i.homes;
  }

  -- what a register of the world holds now, one of them held
  pub from_registers : LiesIn by.c.heap by.world → (r : ℕ) (x : Name) → slice_index_or names r None ≡ Some x
      → (q : ℕ) × (register_cell by.world.graph q ≡ Some x)
  from_registers l r x e = go (slice_index_or by.regs r None) refl
      (sym (get_or-map (held_name s) by.regs r None) ∙ e)
    where
      go : (o : Option Place) → slice_index_or by.regs r None ≡ o → held_name s o ≡ Some x
          → (q : ℕ) × (register_cell by.world.graph q ≡ Some x)
      go None at named = absurd (cc named)
      go (Some p) at named =
          let held = held_at s.regs p (by.among p (get_contains by.regs r p at)) in (
            held.0,
            ap (λ (rs : List (Option Name)). slice_index_or rs held.0 None) (sym l.part.part.registers)
                ∙ (reg_shown by.c.heap l.graph held.0 l.shown ∙ (ap (held_name s) held.1 ∙ named)),
          )

-- while nothing is being prepared
module _ (by : Reholds) (m : RepresentsMarking by.c by.flown by.world) where
  invariant : MarkingInvariant (h by) by.c.stack
  invariant = m.coloured.marks

  black : (x : Place) → Contains by.regs (Some x) → IsBlack (h by) x
  black x has = invariant.holds.colours.regs_black x (by.among x has)

  rewired : Rewired (IsBlack (h by)) (h by) (k by)
  rewired = rewired_held (IsBlack (h by)) (h by) (k by).shape
      (record { shape = invariant.holds.colours.shape; regs = invariant.holds.colours.regs_black }) black

  waits_held : WaitsWhileMarking (h by) by.c.stack by.c.lists → WaitsWhileMarking (k by) by.c.stack by.c.lists
  waits_held w = record {
    piled = w.piled;
    buffered = w.buffered;
    incoming = w.incoming;
    looks = w.looks;
    of_marking = looks_of_marking (h by).shape (h by).looks (k by).shape (k by).looks (λ p here. here)
        (same_left (h by).shape (h by).looks (k by).shape (k by).looks refl refl) w.of_marking;
  }

  coloured_held : IsColoured (k by) by.c.stack by.c.lists
  coloured_held = record {
    marks = rewired_invariant (IsBlack (h by)) (h by) (k by) rewired (λ x b. b) by.c.stack invariant;
    gray = rewired_gray (IsBlack (h by)) (h by) (k by) rewired (λ x b. b) by.c.stack by.c.lists m.coloured.gray;
    waits = waits_held m.coloured.waits;
  }

  tied_held : (o : Collection) → AreTied (h by) by.c.stack by.c.lists by.world o
      → AreTied (k by) by.c.stack by.c.lists (v by) o
  tied_held o t = record {
    black = λ x p at. (
        let same = rewired_black (IsBlack (h by)) (h by) (k by) rewired (λ y b. b) by.c.stack invariant p in (
          λ l. (t.black x p at).0 (same.0 l),
          λ u. same.1 ((t.black x p at).1 u),
        ));
    live = λ x p at. (
        let same = rewired_live (IsBlack (h by)) (h by) (k by) rewired (λ y b. b) by.c.stack by.c.lists invariant
        m.coloured.gray p in (
          λ l. (t.live x p at).0 (same.0 l),
          λ u. same.1 ((t.live x p at).1 u),
        ));
    present = t.present;
    edges_then = t.edges_then;
    entries_then = t.entries_then;
    grown = t.grown;
    formed = t.formed;
  }

  states_held : (r : RunState) → AreInStates by.c r → AreInStates (d by) r
  states_held r is = record {
    outside = is.outside;
    made = is.made;
    early = is.early;
    later = is.later;
    ended = is.ended;
    sweeping = is.sweeping;
    swept = is.swept;
  }

  leads_held : (set : Name → Type 0) (a b : ℕ) (comp : CompNo) (t : ℕ) → LeadsOutside by.world set a b comp t
      → LeadsOutside (v by) set a b comp t
  leads_held set a b comp t l = record { present = l.present; of = l.of; into = l.into; outside = l.outside }

  first_held : (o : Collection) (a b : ℕ) → IsFirstEdge by.world o a b → IsFirstEdge (v by) o a b
  first_held o a b e = (
    e.0,
    e.1,
    e.2,
    elim e.3 [
      | inl l ↦ inl (l.0, l.1, leads_held _ a b l.0 l.1 l.2)
      | inr l ↦ inr (l.0, l.1, leads_held _ b a l.0 l.1 l.2, l.3)
    ],
  )

  looked_held : (r : RunState) (o : Collection) → AreLookedAt (h by) by.c r by.world o
      → AreLookedAt (k by) (d by) r (v by) o
  looked_held r o l = record {
    zones_are = l.zones_are;
    first = λ a b e. first_held o a b (l.first a b e);
    looked = λ y z across at. l.looked y z
        (record { edge = across.edge; from = across.from; to = across.to; apart = across.apart })
        (record { index = at.index; before = at.before; stands = at.stands });
    left_black = l.left_black;
  }

  runs_held : (r : Option RunState) (o : Option Collection) → RunsAs (h by) by.c by.world r o
      → RunsAs (k by) (d by) (v by) r o
  runs_held None None i = record { states = i.states; kept = i.kept; black = i.black; gray = i.gray }
  runs_held None (Some o) i = i
  runs_held (Some r) None i = i
  runs_held (Some r) (Some o) i = record {
    started = i.started;
    zones_are = i.zones_are;
    marking_are = i.marking_are;
    groups_are = i.groups_are;
    states = states_held r i.states;
    tied = λ z has. tied_held o (i.tied z has);
    early = λ unformed. looked_held r o (i.early unformed);
  }

  settled_held : IsSettled (v by) → IsSettled by.world
  settled_held is = record { none_marking = is.none_marking; none_preparing = is.none_preparing }

  marking_held : RepresentsMarking (d by) by.flown (v by)
  marking_held = record {
    placed = placed_held by m.placed;
    swept = record {
      apart = λ x p q up uq. m.swept.apart x p q (unswept_same (d by).heap.shape (s by) p x refl up)
          (unswept_same (d by).heap.shape (s by) q x refl uq);
      flies = flies_same (s by) (d by).heap.shape by.flown refl m.swept.flies;
    };
    coloured = coloured_held;
    phase = record {
      calm = m.phase.calm;
      black = λ is. m.phase.black (settled_held is);
      runs = runs_held by.c.run by.world.collection m.phase.runs;
    };
  }

-- while a collection is being prepared
module _ (by : Reholds) (p : RepresentsPreparing by.c by.flown by.world) where
  dark : (x : Place) → Contains by.regs (Some x) → IsDark by.c.heap x
  dark x has = record {
    there = p.placed.lies.shown.registers_held x (by.among x has);
    black = λ counts. p.cleared.invariant.holds.colours.regs_black x (by.among x has) counts;
  }

  invariant_held : PreparingInvariant (d by).heap by.c.stack
  invariant_held = rewired_preparing by.c.heap (d by).heap
      (rewired_held (IsDark by.c.heap) by.c.heap (d by).heap.shape
      (holds_dark by.c.heap by.c.stack p.cleared.invariant p.placed.lies.shown.registers_held) dark) by.c.stack
      p.cleared.invariant

  preparing_held : RepresentsPreparing (d by) by.flown (v by)
  preparing_held = record {
    run = p.run;
    run_is = p.run_is;
    uncleared = p.uncleared;
    clearing = p.clearing;
    unformed = p.unformed;
    placed = placed_held by p.placed;
    swept = record {
      apart = λ x a b ua ub. p.swept.apart x a b (unswept_same (d by).heap.shape (s by) a x refl ua)
          (unswept_same (d by).heap.shape (s by) b x refl ub);
      flies = flies_same (s by) (d by).heap.shape by.flown refl p.swept.flies;
    };
    none_out = p.none_out;
    cleared = record {
      invariant = invariant_held;
      cleared = p.cleared.cleared;
      within = p.cleared.within;
      waits = record {
        pending = p.cleared.waits.pending;
        buffered = p.cleared.waits.buffered;
        incoming = p.cleared.waits.incoming;
        looks = p.cleared.waits.looks;
      };
      room = p.cleared.room;
    };
    phase = record {
      preparation = p.phase.preparation;
      preparing_is = p.phase.preparing_is;
      none_running = p.phase.none_running;
      zones_are = p.phase.zones_are;
      some = p.phase.some;
      made = p.phase.made;
      inside = p.phase.inside;
      outside = p.phase.outside;
      black = p.phase.black;
    };
  }

pub represents_held : (by : Reholds) → Represents by.c by.flown by.world
    → Represents (holding by.c by.regs) by.flown (with_registers by.world (names by))
represents_held by (going m) = going (marking_held by m)
represents_held by (prepared p) = prepared (preparing_held by p)

-- what registers hold does not tell how much is to come
module _ (c : CollectorState) (regs : List (Option Place)) (flown : ℕ → Option Bits) where
  abbrev e : CollectorState
  e = holding c regs

  marking_same : marking_to_come (heap_with e flown) c.stack c.lists
      ≡ marking_to_come (heap_with c flown) c.stack c.lists
  unfolding units_at
  marking_same = refl

  clearing_same : (run : Option RunState) → clearing_left e.heap.shape run ≡ clearing_left c.heap.shape run
  clearing_same None = refl
  clearing_same (Some run) = go run.clearing
    where
      go : (u : Option Uncleared) → left_of e.heap.shape run.zones u ≡ left_of c.heap.shape run.zones u
      go None = refl
      go (Some u) = owned_same c.heap.shape e.heap.shape run.zones.bits u.from (u.end - u.from) (λ a ge lt. refl)

  grouping_same : (run : Option RunState)
      → grouping_left e.heap.shape c.edges run ≡ grouping_left c.heap.shape c.edges run
  grouping_same None = refl
  grouping_same (Some run) =
      ap {B = ℕ} (λ n. if run.formed || is_some run.clearing then 0 else n + ungrouped_below c.edges 64)
      (left_same c.heap.shape e.heap.shape c.edges 64 (λ z lt. refl))

  pub held_to_come : units_to_come (holding c regs) flown ≡ units_to_come c flown
  unfolding units_to_come
  held_to_come =
      let marks = marking_same in
      let grouping = grouping_same c.run in
      let clearing = clearing_same c.run in
      omega (arith, marks, grouping, clearing)

-- A collector that names other cells weakly stands for the worlds that name these.
use Rattle.std.proofs.Common.{ℕ, Option, Some, None, refl, inl, inr}
use Rattle.gz_names.specs.declared.names.Name.{Name}
use Rattle.gz_names.specs.declared.numbers.CompNo.{CompNo}
use Rattle.cell_bits.specs.declared.bits.Bits.{Bits}
use Rattle.weak_refs.specs.WeakNames.{WeakNamesState}
use Rattle.colour_defs.specs.Groups.{IsFirstEdge, LeadsOutside}
use Rattle.colour_defs.specs.World.{Collection, IsSettled, WeakNames, World}
use Rattle.heap_core.specs.Heap.{HeapState}
use Rattle.barriers.specs.LeftOut.{PreparingInvariant}
use Rattle.slice_driver.specs.Closures.{AreTied}
use Rattle.slice_driver.specs.Collector.{CollectorState, RunState, heap_with}
use Rattle.slice_driver.specs.Represents.{AreInStates, AreLookedAt, IsPlaced, Represents, RepresentsMarking}
use Rattle.slice_driver.specs.Represents.{RepresentsPreparing, RunsAs, going, prepared}
use Rattle.slice_driver.specs.Worlds.{LiesIn, NamesWeakly}
use Rattle.slice_driver.proofs.basics.Cells.{HasSameCells, shows_same}
use Rattle.slice_driver.proofs.basics.Marks.{HasSameMarks, coloured_kept, live_back, live_on, pending_back, pending_on}

-- the collector, and the world, with other names
abbrev pub naming : CollectorState → WeakNamesState → CollectorState
naming c names = record c { heap = record c.heap { weak_names = names } }

abbrev pub naming_in : World → WeakNames → World
naming_in w names = record w { weak = names }

-- a collector names other cells weakly, as a world does
record Renames : Type 0 where
  c : CollectorState
  names : WeakNamesState
  flown : ℕ → Option Bits
  world : World
  weak : WeakNames
  named : NamesWeakly c.heap.shape names weak

module _ (by : Renames) where
  abbrev d : CollectorState
  d = naming by.c by.names

  abbrev v : World
  v = naming_in by.world by.weak

  abbrev h : HeapState
  h = heap_with by.c by.flown

  abbrev k : HeapState
  k = heap_with d by.flown

  same_cells : HasSameCells by.c.heap d.heap
  same_cells = record {
    cells = λ p. refl;
    zones = λ p. refl;
    states = refl;
    comps = refl;
    wrappers = refl;
    weak = refl;
    regs = refl;
    slots = refl;
    objects = refl;
    made = refl;
  }

  same_marks : RepresentsMarking by.c by.flown by.world → HasSameMarks h k
  same_marks m = record {
    cells = record {
      cells = λ p. refl;
      zones = λ p. refl;
      states = refl;
      comps = refl;
      wrappers = refl;
      weak = refl;
      regs = refl;
      slots = refl;
      objects = refl;
      made = refl;
    };
    arenas = refl;
    colours = refl;
    buffers = refl;
    looks = refl;
    marking = λ z. refl;
    black_only = λ z only. only;
    begun = λ a q u n e is black only takes. absurd (cc (only, takes));
    kept = m.coloured.marks.holds.colours.shape.kept;
  }

  lies_named : LiesIn by.c.heap by.world → LiesIn d.heap v
  lies_named l = record {
    whole = l.whole;
    graph = l.graph;
    shown = shows_same by.c.heap d.heap same_cells l.graph l.shown;
    part = record { well_formed = l.part.well_formed; part = l.part.part; here = l.part.here };
    places_are = l.places_are;
    owner_is = l.owner_is;
    weak_are = by.named;
    out_is = l.out_is;
    white_are = l.white_are;
  }

  placed_named : IsPlaced by.c.heap by.world → IsPlaced d.heap v
  placed_named i = record { delayed = i.delayed; lies = lies_named i.lies; homes = i.homes }

module _ (by : Renames) where
  -- the collection that runs
  tied_named : RepresentsMarking by.c by.flown by.world → (r : Collection)
      → AreTied (h by) by.c.stack by.c.lists by.world r
      → AreTied (k by) (d by).stack (d by).lists (v by) r
  tied_named m r t =
      let same : HasSameMarks (h by) (k by) = same_marks by m in
      record {
        black = λ x p at. (
          (λ l. (t.black x p at).0 (pending_back (h by) (k by) same by.c.stack l)),
          λ u. pending_on (h by) (k by) same by.c.stack ((t.black x p at).1 u),
        );
        live = λ x p at. (
          (λ l. (t.live x p at).0 (live_back (h by) (k by) same by.c.stack by.c.lists l)),
          λ u. live_on (h by) (k by) same by.c.stack by.c.lists ((t.live x p at).1 u),
        );
        present = t.present;
        edges_then = t.edges_then;
        entries_then = t.entries_then;
        grown = t.grown;
        formed = t.formed;
      }

  states_named : (r : RunState) → AreInStates by.c r → AreInStates (d by) r
  states_named r s = record {
    outside = s.outside;
    made = s.made;
    early = s.early;
    later = s.later;
    ended = s.ended;
    sweeping = s.sweeping;
    swept = s.swept;
  }

  leads_named : (set : Name → Type 0) (a b : ℕ) (comp : CompNo) (t : ℕ) → LeadsOutside by.world set a b comp t
      → LeadsOutside (v by) set a b comp t
  leads_named set a b comp t l = record { present = l.present; of = l.of; into = l.into; outside = l.outside }

  first_named : (r : Collection) (a b : ℕ) → IsFirstEdge by.world r a b → IsFirstEdge (v by) r a b
  first_named r a b e = (
    e.0,
    e.1,
    e.2,
    elim e.3 [
      | inl l ↦ inl (l.0, l.1, leads_named _ a b l.0 l.1 l.2)
      | inr l ↦ inr (l.0, l.1, leads_named _ b a l.0 l.1 l.2, l.3)
    ],
  )

  looked_named : (r : RunState) (o : Collection) → AreLookedAt (h by) by.c r by.world o
      → AreLookedAt (k by) (d by) r (v by) o
  looked_named r o l = record {
    zones_are = l.zones_are;
    first = λ a b e. first_named o a b (l.first a b e);
    looked = l.looked;
    left_black = l.left_black;
  }

  runs_named : RepresentsMarking by.c by.flown by.world → (r : Option RunState) (o : Option Collection)
      → RunsAs (h by) by.c by.world r o
      → RunsAs (k by) (d by) (v by) r o
  runs_named m None None i = record { states = i.states; kept = i.kept; black = i.black; gray = i.gray }
  runs_named m None (Some o) i = i
  runs_named m (Some r) None i = i
  runs_named m (Some r) (Some o) i = record {
    started = i.started;
    zones_are = i.zones_are;
    marking_are = i.marking_are;
    groups_are = i.groups_are;
    states = states_named r i.states;
    tied = λ z has. tied_named m o (i.tied z has);
    early = λ unformed. looked_named r o (i.early unformed);
  }

  settled_named : IsSettled (v by) → IsSettled by.world
  settled_named s = record { none_marking = s.none_marking; none_preparing = s.none_preparing }

  marking_named : RepresentsMarking by.c by.flown by.world → RepresentsMarking (d by) by.flown (v by)
  marking_named m = record {
    placed = placed_named by m.placed;
    swept = m.swept;
    coloured = coloured_kept (h by) (k by) (same_marks by m) by.c.stack by.c.lists (λ z takes. takes) m.coloured;
    phase = record {
      calm = m.phase.calm;
      black = λ s. m.phase.black (settled_named s);
      runs = runs_named m by.c.run by.world.collection m.phase.runs;
    };
  }

module _ (by : Renames) where
  -- a collection that is being prepared
  invariant_named : PreparingInvariant by.c.heap by.c.stack → PreparingInvariant (d by).heap by.c.stack
  invariant_named i =
      let colours = i.holds.colours in
      record {
        holds = record {
          colours = record {
            shape = colours.shape;
            sized = colours.sized;
            none_out = colours.none_out;
            none_marking = colours.none_marking;
            seen_present = colours.seen_present;
            seen = colours.seen;
            regs_black = colours.regs_black;
            black = colours.black;
            gray = colours.gray;
            wake = colours.wake;
          };
          closed = i.holds.closed;
          weak_closed = i.holds.weak_closed;
          key_closed = i.holds.key_closed;
        };
        empty = i.empty;
      }

  preparing_named : RepresentsPreparing by.c by.flown by.world → RepresentsPreparing (d by) by.flown (v by)
  preparing_named p = record {
    run = p.run;
    run_is = p.run_is;
    uncleared = p.uncleared;
    clearing = p.clearing;
    unformed = p.unformed;
    placed = placed_named by p.placed;
    swept = p.swept;
    none_out = p.none_out;
    cleared = record {
      invariant = invariant_named p.cleared.invariant;
      cleared = p.cleared.cleared;
      within = p.cleared.within;
      waits = record {
        pending = p.cleared.waits.pending;
        buffered = p.cleared.waits.buffered;
        incoming = p.cleared.waits.incoming;
        looks = p.cleared.waits.looks;
      };
      room = p.cleared.room;
    };
    phase = record {
      preparation = p.phase.preparation;
      preparing_is = p.phase.preparing_is;
      none_running = p.phase.none_running;
      zones_are = p.phase.zones_are;
      some = p.phase.some;
      made = p.phase.made;
      inside = p.phase.inside;
      outside = p.phase.outside;
      black = p.phase.black;
    };
  }

  represents_renamed : Represents by.c by.flown by.world → Represents (d by) by.flown (v by)
  represents_renamed (going m) = going (marking_named by m)
  represents_renamed (prepared p) = prepared (preparing_named p)

pub represents_named : (c : CollectorState) (names : WeakNamesState) (flown : ℕ → Option Bits) (w : World)
    (weak : WeakNames) → NamesWeakly c.heap.shape names weak → Represents c flown w
    → Represents (naming c names) flown (naming_in w weak)
represents_named c names flown w weak named rep = represents_renamed (record {
  c = c;
  names = names;
  flown = flown;
  world = w;
  weak = weak;
  named = named;
}) rep

-- where the cells of a heap lie in a world for which its collector stands
pub lies_of : (c : CollectorState) (flown : ℕ → Option Bits) (w : World) → Represents c flown w → LiesIn c.heap w
lies_of c flown w (going m) = m.placed.lies
lies_of c flown w (prepared p) = p.placed.lies

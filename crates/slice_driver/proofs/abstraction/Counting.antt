-- A collector whose edges are counted in another ledger stands for the same worlds.
use Rattle.std.proofs.Common.{◌↔◌, ℕ, Option, refl, inl}
use Rattle.cell_bits.specs.declared.bits.Bits.{Bits}
use Rattle.colour_defs.specs.World.{World}
use Rattle.heap_core.specs.Heap.{HeapState}
use Rattle.barriers.specs.LeftOut.{PreparingInvariant}
use Rattle.slice_driver.specs.Collector.{CollectorState, heap_with}
use Rattle.slice_driver.specs.Quiet.{IsQuiet}
use Rattle.slice_driver.specs.Represents.{Represents, RepresentsMarking, RepresentsPreparing, going, prepared}
use Rattle.slice_driver.proofs.abstraction.Steps.{keeps_looks, looks_same, quiet}
use Rattle.slice_driver.proofs.basics.Cells.{HasSameCells}
use Rattle.slice_driver.proofs.basics.Marks.{HasSameMarks, coloured_kept, live_back, live_on, pending_back, pending_on}
use Rattle.slice_driver.proofs.basics.Worlds.{placed_same}

abbrev pub counted : CollectorState → Option ℕ → CollectorState
counted c name = record c { heap = record c.heap { ledger = name } }

module _ (c : CollectorState) (name : Option ℕ) (flown : ℕ → Option Bits) (w : World) where
  abbrev d : CollectorState
  d = counted c name

  same_cells : HasSameCells c.heap d.heap
  same_cells = record {
    cells = λ p. refl;
    zones = λ p. refl;
    states = refl;
    comps = refl;
    wrappers = refl;
    weak = refl;
    regs = refl;
    slots = refl;
    objects = refl;
    made = refl;
  }

  same_marks : RepresentsMarking c flown w → HasSameMarks (heap_with c flown) (heap_with d flown)
  same_marks m = record {
    cells = record {
      cells = λ p. refl;
      zones = λ p. refl;
      states = refl;
      comps = refl;
      wrappers = refl;
      weak = refl;
      regs = refl;
      slots = refl;
      objects = refl;
      made = refl;
    };
    arenas = refl;
    colours = refl;
    buffers = refl;
    looks = refl;
    marking = λ z. refl;
    black_only = λ z only. only;
    begun = λ a q v n e is black only takes. absurd (cc (only, takes));
    kept = m.coloured.marks.holds.colours.shape.kept;
  }

  is_quiet : RepresentsMarking c flown w → IsQuiet c flown d flown
  is_quiet m =
      let h : HeapState = heap_with c flown in
      let k : HeapState = heap_with d flown in
      let same : HasSameMarks h k = same_marks m in
      record {
        shape_is = refl;
        made_is = refl;
        weak_names_is = refl;
        delayed_is = refl;
        run_is = refl;
        groups_is = refl;
        sized = refl;
        states = λ z. inl refl;
        flies = m.swept.flies;
        coloured = coloured_kept h k same c.stack c.lists (λ z takes. takes) m.coloured;
        darker = λ p black. black;
        black = λ p. (pending_back h k same c.stack, pending_on h k same c.stack);
        live = λ p. (live_back h k same c.stack c.lists, live_on h k same c.stack c.lists);
      }

  marking_counted : RepresentsMarking c flown w → RepresentsMarking d flown w
  marking_counted m =
      let q = is_quiet m in
      quiet c flown d flown q w (keeps_looks c flown d flown q (looks_same c flown d flown q refl) w) m

  invariant_counted : PreparingInvariant c.heap c.stack → PreparingInvariant d.heap c.stack
  invariant_counted i =
      let colours = i.holds.colours in
      record {
        holds = record {
          colours = record {
            shape = colours.shape;
            sized = colours.sized;
            none_out = colours.none_out;
            none_marking = colours.none_marking;
            seen_present = colours.seen_present;
            seen = colours.seen;
            regs_black = colours.regs_black;
            black = colours.black;
            gray = colours.gray;
            wake = colours.wake;
          };
          closed = i.holds.closed;
          weak_closed = i.holds.weak_closed;
          key_closed = i.holds.key_closed;
        };
        empty = i.empty;
      }

  preparing_counted : RepresentsPreparing c flown w → RepresentsPreparing d flown w
  preparing_counted p = record {
    run = p.run;
    run_is = p.run_is;
    uncleared = p.uncleared;
    clearing = p.clearing;
    unformed = p.unformed;
    placed = placed_same c.heap d.heap w same_cells refl refl refl p.placed;
    swept = p.swept;
    none_out = p.none_out;
    cleared = record {
      invariant = invariant_counted p.cleared.invariant;
      cleared = p.cleared.cleared;
      within = p.cleared.within;
      waits = record {
        pending = p.cleared.waits.pending;
        buffered = p.cleared.waits.buffered;
        incoming = p.cleared.waits.incoming;
        looks = p.cleared.waits.looks;
      };
      room = p.cleared.room;
    };
    phase = record {
      preparation = p.phase.preparation;
      preparing_is = p.phase.preparing_is;
      none_running = p.phase.none_running;
      zones_are = p.phase.zones_are;
      some = p.phase.some;
      made = p.phase.made;
      inside = p.phase.inside;
      outside = p.phase.outside;
      black = p.phase.black;
    };
  }

  represents_counted : Represents c flown w → Represents d flown w
  represents_counted (going m) = going (marking_counted m)
  represents_counted (prepared p) = prepared (preparing_counted p)

pub counts_alike : (c : CollectorState) (name : Option ℕ) (flown : ℕ → Option Bits) (w : World) → Represents c flown w
    ↔ Represents (counted c name) flown w
counts_alike c name flown w =
    (represents_counted c name flown w, represents_counted (counted c name) c.heap.ledger flown w)

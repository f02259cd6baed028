-- A step of marking leaves the world as it is, and lowers what is left.
use Rattle.std.proofs.Common.{◌≡◌, ◌↔◌, ◌<◌, ◌+◌, ℕ, [], length, Option, IsSome, is_some, inl, refl, sym, ap, subst}
use Rattle.std.proofs.Common.{◌∙◌, arith}
use Rattle.gz_names.specs.declared.numbers.Place.{Place}
use Rattle.cell_bits.specs.declared.bits.Bits.{Bits}
use Rattle.mark_stack.specs.Stack.{Piles}
use Rattle.heap_core.specs.Shape.{Shape, state_in}
use Rattle.heap_core.specs.Heap.{HeapState}
use Rattle.barriers.specs.Colours.{IsBlack}
use Rattle.barriers.specs.Invariant.{MarkingInvariant}
use Rattle.barriers.specs.PendingBlack.{PendingBlack}
use Rattle.barriers.specs.PendingLive.{PendingLive}
use Rattle.barriers.proofs.Flying.{flown_length}
use Rattle.zone_edges.specs.Noted.{Noted}
use Rattle.slice_driver.specs.Collector.{CollectorState, RunState, heap_with}
use Rattle.slice_driver.specs.Left.{marking_left}
use Rattle.slice_driver.specs.Quiet.{IsStarted}
use Rattle.slice_driver.specs.Remaining.{arenas_left, clearing_left, grouping_left, steps_left}
use Rattle.slice_driver.specs.Quiet.{IsQuiet}
use Rattle.slice_driver.specs.Represents.{IsColoured}
use Rattle.slice_driver.specs.Units.{IsFreedWord, KeepsFreedWords}
use Rattle.slice_driver.specs.UnitsToCome.{marking_to_come, units_to_come}
use Rattle.slice_driver.specs.Working.{GoesOn}
use Rattle.slice_driver.specs.Worlds.{IsInFlight}
use Rattle.slice_driver.proofs.taking_in.GroupingLaws.{quiet_unit}
use Rattle.slice_driver.proofs.abstraction.Steps.{looks_same}

-- a step of marking: what it keeps, and that work was done
pub record Marked (c : CollectorState) (flown : ℕ → Option Bits) (d : CollectorState) (flying : ℕ → Option Bits) : Type
    0 where
  pub shape_is : d.heap.shape ≡ c.heap.shape
  pub made_is : d.heap.made ≡ c.heap.made
  pub weak_names_is : d.heap.weak_names ≡ c.heap.weak_names
  pub ledger_is : d.heap.ledger ≡ c.heap.ledger
  pub delayed_is : d.heap.delayed ≡ c.heap.delayed
  pub edges_is : d.edges ≡ c.edges
  pub groups_is : d.groups ≡ c.groups
  pub run_is : d.run ≡ c.run
  pub flies : IsInFlight d.heap.shape flying
  pub coloured : IsColoured (heap_with d flying) d.stack d.lists
  pub darker : (p : Place) → IsBlack (heap_with c flown) p → IsBlack (heap_with d flying) p
  pub black : (p : Place) → PendingBlack (heap_with d flying) d.stack p ↔ PendingBlack (heap_with c flown) c.stack p
  pub live : (p : Place) → PendingLive (heap_with d flying) d.stack d.lists p
      ↔ PendingLive (heap_with c flown) c.stack c.lists p

-- the bits of the arenas, flown or not, are as many
pub own_sized : (h : HeapState) (flown : ℕ → Option Bits) (p : Piles)
    → MarkingInvariant (Rattle.heap_core.specs.Heap.joined h flown) p → length h.colours ≡ length h.shape.arenas
own_sized h flown p m = sym (flown_length flown 0 h.colours) ∙ m.holds.colours.sized

module _ (c : CollectorState) (flown : ℕ → Option Bits) (d : CollectorState) (flying : ℕ → Option Bits)
    (m : Marked c flown d flying) where
  pub marked_quiet : IsQuiet c flown d flying
  marked_quiet = record {
    shape_is = subst (λ (t : Shape). t ≡ record c.heap.shape { states = t.states }) (sym m.shape_is) refl;
    made_is = m.made_is;
    weak_names_is = m.weak_names_is;
    delayed_is = m.delayed_is;
    run_is = m.run_is;
    groups_is = m.groups_is;
    sized = ap (λ (t : Shape). length t.states) m.shape_is;
    states = λ z. inl (ap (λ (t : Shape). state_in t z) m.shape_is);
    flies = m.flies;
    coloured = m.coloured;
    darker = m.darker;
    black = m.black;
    live = m.live;
  }

  pub same_words : KeepsFreedWords c.heap.shape d.heap.shape
  same_words a freed is = subst (λ (s : Shape). IsFreedWord s a freed) (sym m.shape_is) is

  abbrev steps_to_come : CollectorState → ℕ
  steps_to_come x = grouping_left x.heap.shape x.edges x.run + steps_left x.heap.shape.states

  same_steps : steps_to_come d ≡ steps_to_come c
  same_steps = ap (λ (s : Shape). grouping_left s d.edges d.run + steps_left s.states) m.shape_is
      ∙ ap (λ (e : Noted). grouping_left c.heap.shape e d.run + steps_left c.heap.shape.states) m.edges_is
      ∙ ap (λ (o : Option RunState). grouping_left c.heap.shape c.edges o + steps_left c.heap.shape.states) m.run_is

  same_arenas : arenas_left d.heap.shape d.heap.shape.arenas ≡ arenas_left c.heap.shape c.heap.shape.arenas
  same_arenas = ap (λ (s : Shape). arenas_left s s.arenas) m.shape_is

  same_clearing : clearing_left d.heap.shape d.run ≡ clearing_left c.heap.shape c.run
  same_clearing = ap (λ (s : Shape). clearing_left s d.run) m.shape_is
      ∙ ap (λ (o : Option RunState). clearing_left c.heap.shape o) m.run_is

  same_starting : marking_left d.heap.shape d.run ≡ marking_left c.heap.shape c.run
  same_starting = ap (λ (s : Shape). marking_left s d.run) m.shape_is
      ∙ ap (λ (o : Option RunState). marking_left c.heap.shape o) m.run_is

  pub marked_goes : IsStarted c
      → marking_to_come (heap_with d flying) d.stack d.lists < marking_to_come (heap_with c flown) c.stack c.lists
      → GoesOn c flown [] d flying
  unfolding units_to_come
  marked_goes started falls =
      let q = marked_quiet in
      let steps = same_steps in
      let clearing = same_clearing in
      let starting = same_starting in
      let arenas = same_arenas in
      record {
        done = quiet_unit c d flown flying started q (looks_same c flown d flying q m.edges_is);
        words = same_words;
        running = subst (λ (o : Option RunState). IsSome o) (sym m.run_is) (ap is_some started.1);
        made_is = m.made_is;
        ledger_is = m.ledger_is;
        weak_is = ap (λ (t : Shape). t.weak) m.shape_is;
        less = omega (arith, falls, steps, clearing, starting, arenas);
        to_come = omega (arith, falls, steps, clearing);
      }

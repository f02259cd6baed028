-- A barrier on a cell that is reached from black ones leaves the world as it is, and so does more room.
use Rattle.std.proofs.Common.{◌≡◌, ℕ, Option, Some, None, inl, inr, refl, sym, ap, subst}
use Rattle.gz_names.specs.declared.numbers.Place.{Place}
use Rattle.cell_bits.specs.declared.bits.Bits.{Bits}
use Rattle.mark_stack.specs.Stack.{Piles}
use Rattle.colour_defs.specs.World.{World}
use Rattle.heap_core.specs.Heap.{HeapState, joined}
use Rattle.barriers.specs.Reached.{Reached}
use Rattle.barriers.specs.Reached as reached
use Rattle.barriers.specs.Colours.{IsBlack}
use Rattle.barriers.specs.Exposing.{BlackOr, Exposes}
use Rattle.barriers.specs.Invariant.{MarkingInvariant}
use Rattle.barriers.specs.PendingLive.{PendingLive, GrayInvariant}
use Rattle.barriers.specs.PendingLive as live_closure
use Rattle.barriers.specs.Spreading.{Blackens, Covers}
use Rattle.barriers.proofs.BlackClosure.{pending_same, reached_from}
use Rattle.barriers.proofs.LiveClosure.{live_same}
use Rattle.barriers.proofs.Spreading.{blackens_none, blackens_within}
use Rattle.slice_driver.specs.Collector.{CollectorState, heap_with}
use Rattle.slice_driver.specs.Commands.{Exposed}
use Rattle.slice_driver.specs.Quiet.{IsQuiet}
use Rattle.slice_driver.specs.Represents.{RepresentsMarking}
use Rattle.slice_driver.specs.Rooms.{Widens}
use Rattle.slice_driver.specs.Steps.{GoesThrough}
use Rattle.slice_driver.proofs.marking.Flights.{still_flies}
use Rattle.slice_driver.proofs.basics.LeftLooks.{same_left}
use Rattle.slice_driver.proofs.marking.MarkingSteps.{Marked, marked_quiet, own_sized}
use Rattle.slice_driver.proofs.marking.MarkingUnits.{looks_on, piled_still, waits_on}
use Rattle.slice_driver.proofs.abstraction.Steps.{keeps_looks, looks_same, quiet as stands_quiet}
use Rattle.slice_driver.proofs.commanding.Commanding.{markable}
use Rattle.slice_driver.proofs.commanding.Rooms.{gray_room}

-- what is exposed is reached from black cells already
abbrev pub IsReached : Option Place → CollectorState → (ℕ → Option Bits) → Type 0
IsReached o c flown = (p : Place) → o ≡ Some p → Reached c.heap.shape (IsBlack (heap_with c flown)) p

-- black spread to what is reached from it alone
module _ (c : CollectorState) (flown : ℕ → Option Bits) (w : World) (rep : RepresentsMarking c flown w) (h : HeapState)
    (p : Piles) (flying : ℕ → Option Bits) (covers : Covers h.shape flying) (delayed : h.delayed ≡ c.heap.delayed) where
  abbrev after : CollectorState
  after = record c { heap = h; stack = p }

  abbrev IsSpread : Type 0
  IsSpread = Blackens (Reached c.heap.shape (IsBlack (heap_with c flown))) (heap_with c flown) (joined h flying)

  marked_spread : IsSpread → MarkingInvariant (joined h flying) p → p.gray ≡ c.stack.gray
      → GrayInvariant (joined h flying) p c.lists → Marked c flown after flying
  marked_spread bl inv gray live = record {
    shape_is = ap (λ (z : HeapState). z.shape) bl.rest;
    made_is = ap (λ (z : HeapState). z.made) bl.rest;
    weak_names_is = ap (λ (z : HeapState). z.weak_names) bl.rest;
    ledger_is = ap (λ (z : HeapState). z.ledger) bl.rest;
    delayed_is = delayed;
    edges_is = refl;
    groups_is = refl;
    run_is = refl;
    flies = still_flies c.heap h flown flying rep.swept.flies (ap (λ (z : HeapState). z.shape) bl.rest)
        rep.coloured.marks.holds.colours inv.holds.colours covers (own_sized c.heap flown c.stack rep.coloured.marks)
        (own_sized h flying p inv) bl.kept (λ y. elim (bl.others y) [ inl b ↦ inl b | inr e ↦ inr (inl e) ]);
    coloured = record {
      marks = inv;
      gray = live;
      waits = waits_on (heap_with c flown) (joined h flying) c.stack p c.lists
          (ap (λ (z : HeapState). z.shape) bl.rest) (ap (λ (z : HeapState). z.buffers) bl.rest) rep.coloured.waits
          (piled_still (heap_with c flown) (joined h flying) c.stack p c.lists
          (ap (λ (z : HeapState). z.shape) bl.rest) (ap (λ (z : HeapState). z.buffers) bl.rest) rep.coloured.waits
          gray)
          (looks_on (heap_with c flown) (joined h flying) c.stack p c.lists
          (ap (λ (z : HeapState). z.shape) bl.rest) (ap (λ (z : HeapState). z.buffers) bl.rest) rep.coloured.waits
          (ap (λ (z : HeapState). z.looks) bl.rest))
          (same_left c.heap.shape c.heap.looks h.shape h.looks (ap (λ (z : HeapState). z.shape.weak) bl.rest)
          (ap (λ (z : HeapState). z.looks) bl.rest));
    };
    darker = bl.kept;
    black = pending_same (heap_with c flown) c.stack (joined h flying) p rep.coloured.marks inv bl;
    live = live_same (heap_with c flown) c.stack (joined h flying) p c.lists rep.coloured.marks rep.coloured.gray inv
        gray bl;
  }

  -- the collector stands for the world for which it stood
  represents_spread : IsSpread → MarkingInvariant (joined h flying) p → p.gray ≡ c.stack.gray
      → GrayInvariant (joined h flying) p c.lists → RepresentsMarking after flying w
  represents_spread bl inv gray live =
      let q = marked_quiet c flown after flying (marked_spread bl inv gray live) in
      stands_quiet c flown after flying q w
      (keeps_looks c flown after flying q (looks_same c flown after flying q refl) w) rep

  exposed_none : joined h flying ≡ joined c.heap flown → p ≡ c.stack → RepresentsMarking after flying w
  exposed_none e f = represents_spread
      (subst (λ z. Blackens (Reached c.heap.shape (IsBlack (heap_with c flown))) (heap_with c flown) z) (sym e)
      (blackens_none (Reached c.heap.shape (IsBlack (heap_with c flown))) (heap_with c flown)))
      (subst (λ z. MarkingInvariant z p) (sym e)
      (subst (λ q. MarkingInvariant (heap_with c flown) q) (sym f) rep.coloured.marks))
      (ap (λ (q : Piles). q.gray) f)
      (subst (λ z. GrayInvariant z p c.lists) (sym e)
      (subst (λ q. GrayInvariant (heap_with c flown) q c.lists) (sym f) rep.coloured.gray))

  exposed_some : (x : Place) → Exposes (heap_with c flown) c.stack x (joined h flying) p
      → Reached c.heap.shape (IsBlack (heap_with c flown)) x → RepresentsMarking after flying w
  exposed_some x e r = represents_spread
      (blackens_within (Reached c.heap.shape (BlackOr (heap_with c flown) x))
      (Reached c.heap.shape (IsBlack (heap_with c flown))) (heap_with c flown) (joined h flying) e.spreads.blackens
      (λ y. reached_from c.heap.shape (BlackOr (heap_with c flown) x) (IsBlack (heap_with c flown))
      (λ z s. elim s [
        | inl b ↦ reached.from b
        | inr is
            ↦ subst (Reached c.heap.shape (IsBlack (heap_with c flown))) (sym is) r
      ])))
      e.invariant e.spreads.gray_is (e.pending_live c.lists rep.coloured.gray).0

  pub represents_exposed : (o : Option Place) → Exposed o (heap_with c flown) c.stack (joined h flying) p
      → IsReached o c flown → RepresentsMarking after flying w
  represents_exposed None e r = exposed_none e.0 e.1
  represents_exposed (Some x) e r = exposed_some x e (r x refl)

pub represents_through : (o : Option Place) (c d : CollectorState) (flown flying : ℕ → Option Bits) (w : World)
    → GoesThrough o c flown d flying → IsReached o c flown → RepresentsMarking c flown w → RepresentsMarking d flying w
represents_through o c d flown flying w t r rep =
    subst (λ e. RepresentsMarking e flying w) (sym t.rest)
    (represents_exposed c flown w rep d.heap d.stack flying t.covers (ap (λ (h : HeapState). h.delayed) t.heap_is) o
    (t.marking (markable c flown w rep)) r)

-- the collector with the room of another one
abbrev widened : CollectorState → CollectorState → CollectorState
widened c d = record c { lists = record c.lists { room = d.lists.room } }

module _ (c d : CollectorState) (flown : ℕ → Option Bits) where
  live_on : {p : Place} → PendingLive (heap_with c flown) c.stack c.lists p
      → PendingLive (heap_with c flown) c.stack (widened c d).lists p
  live_on (live_closure.black l) = live_closure.black l
  live_on (live_closure.gray g) = live_closure.gray g
  live_on (live_closure.buffered has) = live_closure.buffered has
  live_on (live_closure.behind z has n e) = live_closure.behind z has n e
  live_on (live_closure.incoming n has e) = live_closure.incoming n has e
  live_on (live_closure.pending has e) = live_closure.pending has e
  live_on (live_closure.along l n e) = live_closure.along (live_on l) n e
  live_on (live_closure.weak e a b) = live_closure.weak e (live_on a) (live_on b)
  live_on (live_closure.delegate e i a b) = live_closure.delegate e i (live_on a) (live_on b)

  live_back : {p : Place} → PendingLive (heap_with c flown) c.stack (widened c d).lists p
      → PendingLive (heap_with c flown) c.stack c.lists p
  live_back (live_closure.black l) = live_closure.black l
  live_back (live_closure.gray g) = live_closure.gray g
  live_back (live_closure.buffered has) = live_closure.buffered has
  live_back (live_closure.behind z has n e) = live_closure.behind z has n e
  live_back (live_closure.incoming n has e) = live_closure.incoming n has e
  live_back (live_closure.pending has e) = live_closure.pending has e
  live_back (live_closure.along l n e) = live_closure.along (live_back l) n e
  live_back (live_closure.weak e a b) = live_closure.weak e (live_back a) (live_back b)
  live_back (live_closure.delegate e i a b) = live_closure.delegate e i (live_back a) (live_back b)

-- with more room a collector stands for the same worlds
pub represents_widened : (c d : CollectorState) (flown : ℕ → Option Bits) (w : World) → Widens c d
    → RepresentsMarking c flown w → RepresentsMarking d flown w
represents_widened c d flown w wide rep =
    subst (λ e. RepresentsMarking e flown w) (sym wide.rest)
    (stands_quiet c flown (widened c d) flown q w
    (keeps_looks c flown (widened c d) flown q (looks_same c flown (widened c d) flown q refl) w) rep)
  where
    m : Marked c flown (widened c d) flown
    m = record {
      shape_is = refl;
      made_is = refl;
      weak_names_is = refl;
      ledger_is = refl;
      delayed_is = refl;
      edges_is = refl;
      groups_is = refl;
      run_is = refl;
      flies = rep.swept.flies;
      coloured = record {
        marks = rep.coloured.marks;
        gray = gray_room (heap_with c flown) c.stack c.lists (widened c d).lists refl wide.lists rep.coloured.gray;
        waits = record {
          piled = rep.coloured.waits.piled;
          buffered = rep.coloured.waits.buffered;
          incoming = rep.coloured.waits.incoming;
          looks = rep.coloured.waits.looks;
          of_marking = rep.coloured.waits.of_marking;
        };
      };
      darker = λ p b. b;
      black = λ p. (λ l. l, λ l. l);
      live = λ p. (live_back c d flown, live_on c d flown);
    }

    q : IsQuiet c flown (widened c d) flown
    q = marked_quiet c flown (widened c d) flown m

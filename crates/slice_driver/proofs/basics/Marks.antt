-- Heaps with the same cells in the same colours: what holds of marking goes on to hold, and nothing more is left to
-- mark.
use Rattle.std.proofs.Common.{◌≡◌, ◌⊎◌, ◌<◌, ◌≤◌, ◌+◌, ◌*◌, ℕ, true, List, length, Option, Some, None, Contains}
use Rattle.std.proofs.Common.{slice_get}
use Rattle.std.proofs.Common.{inl, inr, sym, ap, subst, ◌∙◌}
use Rattle.gz_names.specs.declared.numbers.Place.{Place}
use Rattle.cell_bits.specs.declared.bits.Bits.{Bits}
use Rattle.zones.specs.declared.states.State.TheVariants as state
use Rattle.roots.specs.Buffers.{buffer_at}
use Rattle.mark_stack.specs.Stack.{Piles}
use Rattle.gray_lists.specs.Incoming.{Incoming, waiting_count}
use Rattle.heap_core.specs.Shape.{IsDelegate, is_marking, is_marking_state, is_white, out_of, state_in, state_of}
use Rattle.heap_core.specs.Shape.{zone_of}
use Rattle.weak_maps.specs.WeakMaps.{LooksState, WeakTableState, delegate_of}
use Rattle.weak_maps.specs.declared.colours.MarkColour.{MarkColour}
use Rattle.weak_maps.specs.declared.colours.MarkColour.TheVariants as mark
use Rattle.heap_core.specs.Heap.{HeapState, colour_in, colour_of, weak_of}
use Rattle.barriers.specs.Reached.{HasEntry}
use Rattle.barriers.specs.Colours.{IsBlack, IsSeen, slots_in}
use Rattle.barriers.specs.PendingBlack.{PendingBlack}
use Rattle.barriers.specs.PendingBlack as black_closure
use Rattle.barriers.specs.PendingLive.{PendingLive, GrayInvariant, IsCovered, buffer_of}
use Rattle.barriers.specs.PendingLive as live_closure
use Rattle.barriers.specs.Invariant.{MarkingInvariant, ShapeInvariant, ColourInvariant, PileInvariant}
use Rattle.barriers.specs.WeakPoint.{IsLeft, WeakPoint, left_of}
use Rattle.barriers.proofs.Scans.{once_alike}
use Rattle.barriers.proofs.StayingLeft.{left_weaker}
use Rattle.barriers.proofs.WeakPoint.{gray_begins}
use Rattle.marker.proofs.GraySteps.{state_cases}
use Rattle.slice_driver.specs.Represents.{IsColoured, NothingLeft, WaitsWhileMarking}
use Rattle.slice_driver.proofs.basics.Cells.{HasSameCells, comp_same, delegate_back, delegate_on, edge_back, edge_on}
use Rattle.slice_driver.proofs.basics.Cells.{entry_back, entry_on}
use Rattle.slice_driver.proofs.basics.Cells.{field_same, present_back, present_on}
use Rattle.slice_driver.proofs.basics.LeftLooks.{looks_of_marking, same_left}

-- by the values of its parts
pub coloured_as : (h k : HeapState) (p q : Piles) (l m : Incoming) → k ≡ h → q ≡ p → m ≡ l → IsColoured h p l
    → IsColoured k q m
coloured_as h k p q l m eh ep el i = subst (λ z. IsColoured z q m) (sym eh)
    (subst (λ z. IsColoured h z m) (sym ep) (subst (λ z. IsColoured h p z) (sym el) i))

pub record HasSameMarks (h k : HeapState) : Type 0 where
  pub cells : HasSameCells h k
  pub arenas : length k.shape.arenas ≡ length h.shape.arenas
  pub colours : k.colours ≡ h.colours
  pub buffers : k.buffers ≡ h.buffers
  pub looks : k.looks ≡ h.looks
  pub marking : (z : ℕ) → is_marking_state (state_in k.shape z) ≡ is_marking_state (state_in h.shape z)
  pub black_only : (z : ℕ) → state_in k.shape z ≡ state.MarkBlackOnly → state_in h.shape z ≡ state.MarkBlackOnly
  pub begun : (m q v d : Place) → HasEntry h.shape m q v → IsDelegate h.shape q d → IsBlack h m
      → state_of h.shape q ≡ state.MarkBlackOnly → state_of k.shape q ≡ state.MarkBlackAndGray
      → left_of h mark.Gray m q
  pub kept : (p : Place) → is_marking k.shape p ≡ true → out_of k.shape p.0 ≡ None

module _ (h k : HeapState) (same : HasSameMarks h k) where
  pub colour_same : (p : Place) → colour_of k p ≡ colour_of h p
  colour_same p = ap (λ (cs : List Bits). colour_in (slice_get cs p.0) p.1) same.colours

  pub black_on : (p : Place) → IsBlack h p → IsBlack k p
  black_on p b = colour_same p ∙ b

  pub black_back : (p : Place) → IsBlack k p → IsBlack h p
  black_back p b = sym (colour_same p) ∙ b

  seen_on : (p : Place) → IsSeen h p → IsSeen k p
  seen_on p s = elim s [ inl g ↦ inl (colour_same p ∙ g) | inr b ↦ inr (colour_same p ∙ b) ]

  seen_back : (p : Place) → IsSeen k p → IsSeen h p
  seen_back p s = elim s [ inl g ↦ inl (sym (colour_same p) ∙ g) | inr b ↦ inr (sym (colour_same p) ∙ b) ]

  marking_same : (p : Place) → is_marking k.shape p ≡ is_marking h.shape p
  marking_same p = same.marking (zone_of k.shape p) ∙ ap (λ z. is_marking_state (state_in h.shape z))
      (same.cells.zones p)

  shape_kept : ShapeInvariant h.shape → ShapeInvariant k.shape
  shape_kept s = record {
    made = λ x there. subst (λ n. zone_of k.shape x < n) (sym same.cells.states)
        (subst (λ z. z < length h.shape.states) (sym (same.cells.zones x))
        (s.made x (present_back h k same.cells x there)));
    at_home = λ x cell e. subst (λ (cs : List ℕ). slice_get cs cell.comp.0 ≡ Some (zone_of k.shape x))
        (sym same.cells.comps)
        (s.at_home x cell (sym (same.cells.cells x) ∙ e) ∙ ap (λ z. Some z) (sym (same.cells.zones x)));
    targets = λ x y e. present_on h k same.cells y (s.targets x y (edge_back h k same.cells x y e));
    across = λ x y f lt e n. delegate_on h k same.cells x y
        (s.across x y f lt (sym (field_same h k same.cells x f) ∙ e)
        (λ z. n (same.cells.zones x ∙ z ∙ sym (same.cells.zones y))));
    entries = λ m q v e. (let there = s.entries m q v (entry_back h k same.cells m q v e) in (
      present_on h k same.cells m there.0,
      present_on h k same.cells q there.1,
      present_on h k same.cells v there.2,
    ));
    one_zone = λ m q v e. (let z = s.one_zone m q v (entry_back h k same.cells m q v e) in
        (same.cells.zones m ∙ z.0 ∙ sym (same.cells.zones v), same.cells.zones q ∙ z.1 ∙ sym (same.cells.zones v)));
    delegates = λ m q v d e.
        (let both = s.delegates m q v d (entry_back h k same.cells m q v e) in
        let rows = ap (λ (z : WeakTableState). delegate_of z m q) same.cells.weak in (
          λ is. rows ∙ both.0 (delegate_back h k same.cells q d is),
          λ is. delegate_on h k same.cells q d (both.1 (sym rows ∙ is)),
        ));
    kept = same.kept;
  }

  colours_kept : ColourInvariant h → ColourInvariant k
  colours_kept c = record {
    shape = shape_kept c.shape;
    sized = ap (λ (cs : List Bits). length cs) same.colours ∙ c.sized ∙ sym same.arenas;
    seen_present = λ x s. present_on h k same.cells x (c.seen_present x (seen_back x s));
    no_white = λ x there m. seen_on x (c.no_white x (present_back h k same.cells x there) (sym (marking_same x) ∙ m));
    no_gray = λ x only g.
        c.no_gray x (ap (λ z. state_in h.shape z) (sym (same.cells.zones x)) ∙ same.black_only (zone_of k.shape x) only)
        (sym (colour_same x) ∙ g);
    regs_black = λ x c'. colour_same x
        ∙ c.regs_black x (subst (λ (rs : List (Option Place)). Contains rs (Some x)) same.cells.regs c');
  }

  piles_kept : (p : Piles) → PileInvariant h p → PileInvariant k p
  piles_kept p i = record {
    black = λ x c. (let b = i.black x c in (colour_same x ∙ b.0, marking_same x ∙ b.1));
    wake = λ x c. (let b = i.wake x c in (colour_same x ∙ b.0, marking_same x ∙ b.1));
    gray = λ x c. seen_on x (i.gray x c);
  }

  -- a zone takes gray that did, or that was marked black only
  takes_before : (v : Place) → state_of k.shape v ≡ state.MarkBlackAndGray
      → (state_of h.shape v ≡ state.MarkBlackAndGray) ⊎ (state_of h.shape v ≡ state.MarkBlackOnly)
  takes_before v takes = elim (state_cases h.shape v) [
    | inl off ↦ (let on = marking_same v in let now = ap is_marking_state takes in cc (off, on, now))
    | inr (inl only) ↦ inr only
    | inr (inr did) ↦ inl did
  ]

  weak_kept : (p : Piles) → MarkingInvariant h p → WeakPoint k p (left_of k)
  weak_kept p m =
      subst (λ (z : WeakTableState). WeakPoint k p (IsLeft (record { table = z; looks = k.looks })))
      (sym same.cells.weak)
      (subst (λ (z : LooksState). WeakPoint k p (IsLeft (record { table = h.shape.weak; looks = z }))) (sym same.looks)
      (gray_begins h p k (left_of h) (left_weaker (weak_of h)) m.holds.colours.shape m.holds.colours.no_gray
      same.cells.weak colour_same marking_same (delegate_back h k same.cells) takes_before same.begun m.weak))

  left_kept : (c : MarkColour) (m q : Place) → left_of h c m q → left_of k c m q
  left_kept c m q left =
      subst (λ (z : WeakTableState). IsLeft (record { table = z; looks = k.looks }) c m q) (sym same.cells.weak)
      (subst (λ (z : LooksState). IsLeft (record { table = h.shape.weak; looks = z }) c m q) (sym same.looks) left)

  marks_kept : (p : Piles) → MarkingInvariant h p → MarkingInvariant k p
  marks_kept p m = record {
    holds = record {
      colours = colours_kept m.holds.colours;
      piles = piles_kept p m.holds.piles;
      closed = λ x y b e. elim (m.holds.closed x y (black_back x b) (edge_back h k same.cells x y e))
          [ inl c ↦ inl (black_on y c) | inr c ↦ inr c ];
      weak_closed = λ a q v e ba bq mv.
          elim (m.holds.weak_closed a q v (entry_back h k same.cells a q v e) (black_back a ba) (black_back q bq)
          (sym (marking_same v) ∙ mv)) [ inl c ↦ inl (black_on v c) | inr c ↦ inr c ];
      key_closed = λ a q v d e is ba bd.
          elim (m.holds.key_closed a q v d (entry_back h k same.cells a q v e) (delegate_back h k same.cells q d is)
          (black_back a ba) (black_back d bd)) [
            | inl c ↦ inl (black_on q c)
            | inr (inl c) ↦ inr (inl c)
            | inr (inr (inl c)) ↦ inr (inr (inl c))
            | inr (inr (inr left)) ↦ inr (inr (inr (left_kept mark.Black a q left)))
          ];
    };
    none_woken = m.none_woken;
    weak = weak_kept p m;
    once = once_alike h k p colour_same m.once;
  }

  waiting_on : (z : ℕ) (x : Place) → Contains (buffer_of h z) x → Contains (buffer_of k z) x
  waiting_on z x c = subst (λ (bs : List (List Place)). Contains (buffer_at bs z) x) (sym same.buffers) c

  waiting_back : (z : ℕ) (x : Place) → Contains (buffer_of k z) x → Contains (buffer_of h z) x
  waiting_back z x c = subst (λ (bs : List (List Place)). Contains (buffer_at bs z) x) same.buffers c

  covered_on : (p : Piles) (lists : Incoming) (x y : Place) → IsCovered h p lists x y → IsCovered k p lists x y
  covered_on p lists x y c = elim c [
    | inl s ↦ inl (seen_on y s)
    | inr (inl on) ↦ inr (inl on)
    | inr (inr (inl waits))
        ↦ inr (inr (inl (
          subst (λ z. Contains (buffer_of k z) x) (sym (same.cells.zones y))
              (waiting_on (zone_of h.shape y) x waits.0),
          λ e. waits.1 (sym (same.cells.zones x) ∙ e ∙ same.cells.zones y),
        )))
    | inr (inr (inr noted)) ↦ inr (inr (inr (noted.0, comp_same h k same.cells y ∙ noted.1, noted.2)))
  ]

  gray_kept : (p : Piles) (lists : Incoming) → GrayInvariant h p lists → GrayInvariant k p lists
  gray_kept p lists g = record {
    buffered_seen = λ z x c. elim (g.buffered_seen z x (waiting_back z x c))
        [ inl is ↦ inl (same.cells.zones x ∙ is) | inr s ↦ inr (seen_on x s) ];
    buffered_present = λ z x c. present_on h k same.cells x (g.buffered_present z x (waiting_back z x c));
    incoming_seen = λ c x i. seen_on x (g.incoming_seen c x i);
    closed = λ x y gray e.
        covered_on p lists x y (g.closed x y (sym (colour_same x) ∙ gray) (edge_back h k same.cells x y e));
    apart = g.apart;
    lists_apart = g.lists_apart;
    few = subst (λ (cs : List Bits). waiting_count lists + (length p.gray + slots_in is_white cs) ≤ 64 * length cs)
        (sym same.colours) g.few;
    room = subst (λ (cs : List Bits). 64 * length cs ≤ lists.room) (sym same.colours) g.room;
  }

  waits_kept : (p : Piles) (lists : Incoming)
      → ((z : ℕ) → state_in h.shape z ≡ state.MarkBlackAndGray → state_in k.shape z ≡ state.MarkBlackAndGray)
      → WaitsWhileMarking h p lists → WaitsWhileMarking k p lists
  waits_kept p lists takes w = record {
    piled = λ x c. ap (state_in k.shape) (same.cells.zones x) ∙ takes (zone_of h.shape x) (w.piled x c);
    buffered = λ z quiet. ap (λ (bs : List (List Place)). buffer_at bs z) same.buffers
        ∙ w.buffered z (sym (same.marking z) ∙ quiet);
    incoming = λ n x c.
        (let i = w.incoming n x c in
        (i.0, ap (λ (cs : List ℕ). slice_get cs n) same.cells.comps ∙ i.1, same.marking i.0 ∙ i.2));
    looks = λ quiet. subst (λ (l : LooksState). NothingLeft l) (sym same.looks)
        (w.looks (λ z. sym (same.marking z) ∙ quiet z));
    of_marking = looks_of_marking h.shape h.looks k.shape k.looks
        (λ p here. (
          present_on h k same.cells p here.0,
          ap (λ (z : ℕ). is_marking_state (state_in k.shape z)) (same.cells.zones p)
              ∙ (same.marking (zone_of h.shape p) ∙ here.1),
        ))
        (same_left h.shape h.looks k.shape k.looks same.cells.weak same.looks) w.of_marking;
  }

  -- zones that take gray go on to take it
  pub coloured_kept : (p : Piles) (lists : Incoming)
      → ((z : ℕ) → state_in h.shape z ≡ state.MarkBlackAndGray → state_in k.shape z ≡ state.MarkBlackAndGray)
      → IsColoured h p lists → IsColoured k p lists
  coloured_kept p lists takes i = record {
    marks = marks_kept p i.marks;
    gray = gray_kept p lists i.gray;
    waits = waits_kept p lists takes i.waits;
  }

  pub pending_on : (p : Piles) {x : Place} → PendingBlack h p x → PendingBlack k p x
  pending_on p (black_closure.black {x} b) = black_closure.black (black_on x b)
  pending_on p (black_closure.pending {x} {y} c e) = black_closure.pending c (edge_on h k same.cells x y e)
  pending_on p (black_closure.along {x} {y} l n e) = black_closure.along (pending_on p l) (λ b. n (black_back x b))
      (edge_on h k same.cells x y e)
  pending_on p (black_closure.weak {m} {k = q} {v} e a b) =
      black_closure.weak (entry_on h k same.cells m q v e) (pending_on p a) (pending_on p b)
  pending_on p (black_closure.delegate {m} {k = q} {v} {d} e is a b) =
      black_closure.delegate (entry_on h k same.cells m q v e) (delegate_on h k same.cells q d is) (pending_on p a)
      (pending_on p b)

  pub pending_back : (p : Piles) {x : Place} → PendingBlack k p x → PendingBlack h p x
  pending_back p (black_closure.black {x} b) = black_closure.black (black_back x b)
  pending_back p (black_closure.pending {x} {y} c e) = black_closure.pending c (edge_back h k same.cells x y e)
  pending_back p (black_closure.along {x} {y} l n e) = black_closure.along (pending_back p l) (λ b. n (black_on x b))
      (edge_back h k same.cells x y e)
  pending_back p (black_closure.weak {m} {k = q} {v} e a b) =
      black_closure.weak (entry_back h k same.cells m q v e) (pending_back p a) (pending_back p b)
  pending_back p (black_closure.delegate {m} {k = q} {v} {d} e is a b) =
      black_closure.delegate (entry_back h k same.cells m q v e) (delegate_back h k same.cells q d is)
      (pending_back p a) (pending_back p b)

  pub live_on : (p : Piles) (lists : Incoming) {x : Place} → PendingLive h p lists x → PendingLive k p lists x
  live_on p lists (live_closure.black l) = live_closure.black (pending_on p l)
  live_on p lists (live_closure.gray {x} g) = live_closure.gray (colour_same x ∙ g)
  live_on p lists (live_closure.buffered {x} c) =
      live_closure.buffered
      (subst (λ z. Contains (buffer_of k z) x) (sym (same.cells.zones x)) (waiting_on (zone_of h.shape x) x c))
  live_on p lists (live_closure.behind z {x} {y} c n e) =
      live_closure.behind z (waiting_on z x c) (λ is. n (sym (same.cells.zones x) ∙ is)) (edge_on h k same.cells x y e)
  live_on p lists (live_closure.incoming c {x} {y} i e) = live_closure.incoming c i (edge_on h k same.cells x y e)
  live_on p lists (live_closure.pending {x} {y} c e) = live_closure.pending c (edge_on h k same.cells x y e)
  live_on p lists (live_closure.along {x} {y} l w e) =
      live_closure.along (live_on p lists l) (colour_same x ∙ w) (edge_on h k same.cells x y e)
  live_on p lists (live_closure.weak {m} {k = q} {v} e a b) =
      live_closure.weak (entry_on h k same.cells m q v e) (live_on p lists a) (live_on p lists b)
  live_on p lists (live_closure.delegate {m} {k = q} {v} {d} e is a b) =
      live_closure.delegate (entry_on h k same.cells m q v e) (delegate_on h k same.cells q d is) (live_on p lists a)
      (live_on p lists b)

  pub live_back : (p : Piles) (lists : Incoming) {x : Place} → PendingLive k p lists x → PendingLive h p lists x
  live_back p lists (live_closure.black l) = live_closure.black (pending_back p l)
  live_back p lists (live_closure.gray {x} g) = live_closure.gray (sym (colour_same x) ∙ g)
  live_back p lists (live_closure.buffered {x} c) =
      live_closure.buffered
      (subst (λ z. Contains (buffer_of h z) x) (same.cells.zones x) (waiting_back (zone_of k.shape x) x c))
  live_back p lists (live_closure.behind z {x} {y} c n e) =
      live_closure.behind z (waiting_back z x c) (λ is. n (same.cells.zones x ∙ is)) (edge_back h k same.cells x y e)
  live_back p lists (live_closure.incoming c {x} {y} i e) = live_closure.incoming c i (edge_back h k same.cells x y e)
  live_back p lists (live_closure.pending {x} {y} c e) = live_closure.pending c (edge_back h k same.cells x y e)
  live_back p lists (live_closure.along {x} {y} l w e) =
      live_closure.along (live_back p lists l) (sym (colour_same x) ∙ w) (edge_back h k same.cells x y e)
  live_back p lists (live_closure.weak {m} {k = q} {v} e a b) =
      live_closure.weak (entry_back h k same.cells m q v e) (live_back p lists a) (live_back p lists b)
  live_back p lists (live_closure.delegate {m} {k = q} {v} {d} e is a b) =
      live_closure.delegate (entry_back h k same.cells m q v e) (delegate_back h k same.cells q d is)
      (live_back p lists a) (live_back p lists b)

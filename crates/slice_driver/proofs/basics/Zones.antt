-- The beginning step of a zone is quiet.
use Rattle.std.proofs.Common.{◌≡◌, ◌↔◌, ◌<◌, ℕ, length, Option, is_some, inl, inr, refl, arith}
use Rattle.std.proofs.Common.{sym, ap, subst, ◌∙◌}
use Rattle.std.proofs.lemmas.Bool.{cases_eq}
use Rattle.std.proofs.lemmas.Option.{slice_get_cases}
use Rattle.gz_names.specs.declared.numbers.Place.{Place}
use Rattle.cell_bits.specs.declared.bits.Bits.{Bits}
use Rattle.zones.specs.declared.states.State.TheVariants as state
use Rattle.mark_stack.specs.Stack.{Piles}
use Rattle.gray_lists.specs.Incoming.{Incoming}
use Rattle.colour_defs.specs.World.{World}
use Rattle.heap_core.specs.Shape.{IsDelegate, cell_of, is_marking_state, out_of, state_in, state_of, zone_of}
use Rattle.heap_core.specs.Heap.{HeapState, colour_in, with_flown}
use Rattle.barriers.specs.Reached.{HasEntry}
use Rattle.barriers.specs.Colours.{IsBlack}
use Rattle.barriers.specs.WeakPoint.{IsLeft, left_of}
use Rattle.heap_core.proofs.Places.{present_within}
use Rattle.barriers.proofs.Flying.{own_colour}
use Rattle.marker.specs.Looks.{with_looks}
use Rattle.marker.proofs.Looking.{gray_on, live_on as looks_live_on, marking_on, pending_on as looks_pending_on}
use Rattle.barriers.specs.Invariant.{MarkingInvariant}
use Rattle.barriers.specs.PendingBlack.{PendingBlack}
use Rattle.barriers.specs.PendingLive.{GrayInvariant, PendingLive}
use Rattle.slice_driver.specs.Collector.{CollectorState, heap_with}
use Rattle.slice_driver.specs.Quiet.{BeginsZone, IsQuiet, IsStateAfter}
use Rattle.weak_maps.specs.WeakMaps.{WeakTableState}
use Rattle.weak_maps.specs.declared.colours.MarkColour.{MarkColour}
use Rattle.weak_maps.specs.declared.colours.MarkColour.TheVariants as mark
use Rattle.slice_driver.specs.Represents.{IsColoured, IsOfMarking, RepresentsMarking}
use Rattle.slice_driver.proofs.basics.LeftLooks.{looks_of_marking, queued_left}
use Rattle.slice_driver.proofs.basics.Marks.{HasSameMarks, black_on, coloured_as, coloured_kept, live_back, live_on}
use Rattle.slice_driver.proofs.basics.Marks.{pending_back, pending_on}
use Rattle.slice_driver.proofs.basics.Worlds.{flies_same}
use Rattle.barriers.proofs.Flying.{flown_length}

module _ (c d : CollectorState) (zone : ℕ) (flown : ℕ → Option Bits) (w : World) (s : RepresentsMarking c flown w)
    (b : BeginsZone c zone d) where
  states : (z : ℕ) → IsStateAfter c z (state_in d.heap.shape z)
  states z = elim (cases_eq z zone) [
    | inl is ↦ inr (
      b.formed,
      subst (λ n. Rattle.slice_driver.specs.Represents.IsCurrent c.groups n) (sym is) b.current,
      ap (state_in c.heap.shape) is ∙ b.was,
      ap (state_in d.heap.shape) is ∙ b.now,
    )
    | inr ne ↦ inl (b.others z ne)
  ]

  marking_same : (z : ℕ) → is_marking_state (state_in d.heap.shape z) ≡ is_marking_state (state_in c.heap.shape z)
  marking_same z = elim (states z) [
    | inl e ↦ ap is_marking_state e
    | inr next ↦ ap is_marking_state next.3
        ∙ sym (ap is_marking_state next.2)
  ]

  -- first the entries of black maps are queued
  abbrev queued : HeapState
  queued = with_looks (heap_with c flown) d.heap.looks

  to_queued : (a : MarkColour) (m q : Place) → left_of d.heap a m q → left_of queued a m q
  to_queued a m q left = subst (λ (z : WeakTableState). IsLeft (record { table = z; looks = d.heap.looks }) a m q)
      (ap (λ (z : HeapState). z.shape.weak) b.heap_is) left

  queued_marks : MarkingInvariant queued c.stack
  queued_marks = marking_on (heap_with c flown) d.heap.looks c.stack s.coloured.marks
      (λ a m q left. to_queued a m q (b.queued.kept a m q left))

  queued_gray : GrayInvariant queued c.stack c.lists
  queued_gray = gray_on (heap_with c flown) d.heap.looks c.stack c.lists s.coloured.gray

  -- a black map of the zone is there, and the zone is marking
  map_marking : (x : Place) → IsBlack c.heap x → zone_of c.heap.shape x ≡ zone → IsOfMarking c.heap.shape x
  map_marking x black here =
      let marking = ap (λ z. is_marking_state (state_in c.heap.shape z)) here ∙ ap is_marking_state b.was in
      let kept = s.coloured.marks.holds.colours.shape.kept x marking in
      let own = own_colour c.heap flown x within (s.swept.flies.covers x.0 ∙ ap is_some kept) in
      (s.coloured.marks.holds.colours.seen_present x (inr (sym own ∙ black)), marking)
    where
      within : x.0 < length c.heap.colours
      within = elim (slice_get_cases c.heap.colours x.0).1 [
        | inl some ↦ some.1
        | inr none ↦ absurd (let white = ap (λ (o : Option Bits). colour_in o x.1) none.1 in cc (white, black))
      ]

  queued_coloured : IsColoured queued c.stack c.lists
  queued_coloured = record {
    marks = queued_marks;
    gray = queued_gray;
    waits = record {
      piled = s.coloured.waits.piled;
      buffered = s.coloured.waits.buffered;
      incoming = s.coloured.waits.incoming;
      looks = λ quiet. absurd (let off = quiet zone in let on = ap is_marking_state b.was in cc (off, on));
      of_marking = looks_of_marking c.heap.shape c.heap.looks c.heap.shape d.heap.looks (λ p here. here)
          (queued_left c.heap zone d.heap b.queued map_marking) s.coloured.waits.of_marking;
    };
  }

  -- so they are left where the zone takes gray now
  begun : (m q v n : Place) → HasEntry c.heap.shape m q v → IsDelegate c.heap.shape q n → IsBlack queued m
      → state_of c.heap.shape q ≡ state.MarkBlackOnly → state_of d.heap.shape q ≡ state.MarkBlackAndGray
      → left_of queued mark.Gray m q
  begun m q v n e is black was takes =
      let zone_same = ap (λ (z : HeapState). zone_of z.shape q) b.heap_is in
      let takes_here : state_in d.heap.shape (zone_of c.heap.shape q) ≡ state.MarkBlackAndGray =
      ap (state_in d.heap.shape) (sym zone_same) ∙ takes in
      elim (cases_eq (zone_of c.heap.shape q) zone) [
        | inr ne ↦ absurd (let same = b.others (zone_of c.heap.shape q) ne in cc (same, was, takes_here))
        | inl here ↦
            let zones = s.coloured.marks.holds.colours.shape.one_zone m q v e in
            let map_here : zone_of c.heap.shape m ≡ zone = zones.0 ∙ sym zones.1 ∙ here in
            let marking = ap (λ z. is_marking_state (state_in c.heap.shape z)) map_here ∙ ap is_marking_state b.was in
            let kept = s.coloured.marks.holds.colours.shape.kept m marking in
            let own = own_colour c.heap flown m (seen_within m black) (s.swept.flies.covers m.0 ∙ ap is_some kept) in
            to_queued mark.Gray m q (b.queued.left m q v n e is map_here (own ∙ black))
      ]
    where
      seen_within : (x : Place) → IsBlack queued x → x.0 < length c.heap.colours
      seen_within x black =
          let within = present_within c.heap.shape x (s.coloured.marks.holds.colours.seen_present x (inr black)) in
          let sized = sym (flown_length flown 0 c.heap.colours) ∙ s.coloured.marks.holds.colours.sized in
          omega (arith, within, sized)

  pub same_marks : HasSameMarks queued (heap_with d flown)
  same_marks = record {
    cells = record {
      cells = λ p. ap (λ (z : HeapState). cell_of z.shape p) b.heap_is;
      zones = λ p. ap (λ (z : HeapState). zone_of z.shape p) b.heap_is;
      states = b.sized;
      comps = ap (λ (z : HeapState). z.shape.comps) b.heap_is;
      wrappers = ap (λ (z : HeapState). z.shape.wrappers) b.heap_is;
      weak = ap (λ (z : HeapState). z.shape.weak) b.heap_is;
      regs = ap (λ (z : HeapState). z.shape.regs) b.heap_is;
      slots = ap (λ (z : HeapState). z.shape.slots) b.heap_is;
      objects = ap (λ (z : HeapState). z.shape.objects) b.heap_is;
      made = ap (λ (z : HeapState). z.made) b.heap_is;
    };
    arenas = ap (λ (z : HeapState). length z.shape.arenas) b.heap_is;
    colours = ap (λ (z : HeapState). with_flown flown 0 z.colours) b.heap_is;
    buffers = ap (λ (z : HeapState). z.buffers) b.heap_is;
    looks = refl;
    marking = marking_same;
    black_only = λ z only. elim (states z) [ inl e ↦ sym e ∙ only | inr next ↦ absurd (cc (only, next.3)) ];
    begun = begun;
    kept = λ p m. ap (λ (z : HeapState). out_of z.shape p.0) b.heap_is
        ∙ s.coloured.marks.holds.colours.shape.kept p
        (ap (λ (z : HeapState). is_marking_state (state_in c.heap.shape (zone_of z.shape p))) (sym b.heap_is)
        ∙ sym (marking_same (zone_of d.heap.shape p)) ∙ m);
  }

  takes_on : (z : ℕ) → state_in c.heap.shape z ≡ state.MarkBlackAndGray
      → state_in d.heap.shape z ≡ state.MarkBlackAndGray
  takes_on z was = elim (states z) [ inl e ↦ e ∙ was | inr next ↦ next.3 ]

  queued_black : (p : Place) → PendingBlack queued c.stack p ↔ PendingBlack (heap_with c flown) c.stack p
  queued_black p = looks_pending_on (heap_with c flown) d.heap.looks c.stack s.coloured.marks queued_marks p

  queued_live : (p : Place) → PendingLive queued c.stack c.lists p ↔ PendingLive (heap_with c flown) c.stack c.lists p
  queued_live p = looks_live_on (heap_with c flown) d.heap.looks c.stack c.lists s.coloured.marks queued_marks
      s.coloured.gray p

  black_same : (p : Place) → PendingBlack (heap_with d flown) d.stack p ↔ PendingBlack (heap_with c flown) c.stack p
  black_same p = subst (λ (x : Piles). PendingBlack (heap_with d flown) x p
      ↔ PendingBlack (heap_with c flown) c.stack p) (sym b.stack_is) (
        λ l. (queued_black p).0 (pending_back queued (heap_with d flown) same_marks c.stack l),
        λ l. pending_on queued (heap_with d flown) same_marks c.stack ((queued_black p).1 l),
      )

  live_same : (p : Place) → PendingLive (heap_with d flown) d.stack d.lists p
      ↔ PendingLive (heap_with c flown) c.stack c.lists p
  live_same p = subst (λ (x : Piles). PendingLive (heap_with d flown) x d.lists p
      ↔ PendingLive (heap_with c flown) c.stack c.lists p) (sym b.stack_is)
      (subst (λ (x : Incoming). PendingLive (heap_with d flown) c.stack x p
      ↔ PendingLive (heap_with c flown) c.stack c.lists p) (sym b.lists_is) (
        λ l. (queued_live p).0 (live_back queued (heap_with d flown) same_marks c.stack c.lists l),
        λ l. live_on queued (heap_with d flown) same_marks c.stack c.lists ((queued_live p).1 l),
      ))

  pub begins_quiet : IsQuiet c flown d flown
  begins_quiet = record {
    shape_is = ap (λ (z : HeapState). z.shape) b.heap_is;
    made_is = ap (λ (z : HeapState). z.made) b.heap_is;
    weak_names_is = ap (λ (z : HeapState). z.weak_names) b.heap_is;
    delayed_is = ap (λ (z : HeapState). z.delayed) b.heap_is;
    run_is = b.run_is;
    groups_is = b.groups_is;
    sized = b.sized;
    states = states;
    flies = flies_same c.heap.shape d.heap.shape flown (ap (λ (z : HeapState). z.shape.arenas) b.heap_is) s.swept.flies;
    coloured = coloured_as (heap_with d flown) (heap_with d flown) c.stack d.stack c.lists d.lists refl b.stack_is
        b.lists_is (coloured_kept queued (heap_with d flown) same_marks c.stack c.lists takes_on queued_coloured);
    darker = λ p. black_on queued (heap_with d flown) same_marks p;
    black = black_same;
    live = live_same;
  }

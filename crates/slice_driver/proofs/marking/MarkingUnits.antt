-- What units of marking do for a collector.
use Rattle.std.proofs.Common.{◌≡◌, ◌⊎◌, ◌↔◌, ◌<◌, ◌+◌, ℕ, Bool, true, false, List, [], Option, Some}
use Rattle.std.proofs.Common.{Result, Ok, Err, IfOk}
use Rattle.std.proofs.Common.{IsSome, Contains, slice_get, inl, inr, refl, sym, ap, subst, ◌∙◌, arith}
use Rattle.gz_names.specs.declared.numbers.Place.{Place}
use Rattle.gz_names.specs.declared.replies.Report.{Report}
use Rattle.gz_names.specs.declared.zone_sets.ZoneSet.{ZoneSet}
use Rattle.cell_bits.specs.declared.bits.Bits.{Bits}
use Rattle.zones.specs.declared.states.State.{State}
use Rattle.zones.specs.declared.states.State.TheVariants as state
use Rattle.mark_stack.specs.Stack.{Piles}
use Rattle.roots.specs.Buffers.{buffer_at}
use Rattle.gray_lists.specs.Incoming.{Incoming}
use Rattle.colour_defs.specs.World.{World}
use Rattle.colour_defs.proofs.Lists.{nothing_in_none}
use Rattle.heap_core.specs.Shape.{Shape, is_marking_state, state_in, state_of, zone_of}
use Rattle.heap_core.specs.Heap.{HeapState, colour_of, joined}
use Rattle.barriers.specs.Colours.{grays_outside}
use Rattle.barriers.specs.Invariant.{IsToFollow}
use Rattle.barriers.specs.PendingLive.{buffer_of}
use Rattle.barriers.specs.Spreading.{Covers}
use Rattle.marker.specs.GrayBits.{AreGraying}
use Rattle.barriers.specs.WeakPoint.{IsPiled}
use Rattle.barriers.proofs.StayingLeft.{none_left}
use Rattle.weak_maps.specs.WeakMaps.{LooksState, NoneLeft}
use Rattle.weak_maps.specs.declared.colours.MarkColour.{MarkColour}
use Rattle.weak_maps.specs.declared.colours.MarkColour.TheVariants as mark
use Rattle.mark_ahead.specs.Ahead.{FollowsAll}
use Rattle.marker.specs.Units.{DoesGray, DoesLook, IsGrayIdle, TakesOne}
use Rattle.slice_driver.specs.Collector.{CollectorState, heap_with}
use Rattle.slice_driver.specs.EdgesRead.{TriesFew}
use Rattle.slice_driver.specs.Left.{marking_left, units_left}
use Rattle.slice_driver.specs.Quiet.{IsStarted}
use Rattle.slice_driver.specs.Remaining.{arenas_left, clearing_left, grouping_left, steps_left}
use Rattle.slice_driver.specs.Represents.{IsInPhase, IsOfMarking, NothingLeft, Represents, RepresentsMarking}
use Rattle.slice_driver.specs.Represents.{WaitsWhileMarking}
use Rattle.slice_driver.proofs.basics.LeftLooks.{LooksLeftFrom, looks_of_marking, looked_left, same_left, started_left}
use Rattle.slice_driver.specs.Represents.{going}
use Rattle.slice_driver.specs.Units.{IsSound, IsSoundMarking}
use Rattle.slice_driver.specs.UnitsToCome.{marking_to_come, units_to_come}
use Rattle.slice_driver.specs.Working.{DidOrStill, GoesOn, IsBlackDone, IsBlackFixed, IsGrayDone, IsGrayFixed}
use Rattle.slice_driver.specs.Working.{IsGroupDone, IsStill, TriesGroup}
use Rattle.slice_driver.proofs.abstraction.Phases.{calm_marking, marking_of, none_started, started_of}
use Rattle.slice_driver.proofs.abstraction.Waits.{looked_one, none_piled, none_in_it}
use Rattle.slice_driver.proofs.measure.GrayPiles.{gray_pile}
use Rattle.slice_driver.proofs.measure.MarkingToCome.{black_falls, does_gray_falls, looks_fall}
use Rattle.slice_driver.proofs.marking.Flights.{still_flies}
use Rattle.slice_driver.proofs.marking.Followed.{FollowsCells, all_followed}
use Rattle.slice_driver.proofs.marking.MarkingSteps.{Marked, marked_goes, own_sized}
use Rattle.slice_driver.proofs.basics.Marks.{coloured_as}
use Rattle.slice_driver.proofs.basics.Worlds.{flies_same, swept_in}

-- nothing waits that did not
module _ (g h : HeapState) (s p : Piles) (lists : Incoming) (shape_is : h.shape ≡ g.shape)
    (buffers_is : h.buffers ≡ g.buffers) (waits : WaitsWhileMarking g s lists) where
  none_before : (P : State → Type 0) → ((z : ℕ) → P (state_in h.shape z)) → (z : ℕ) → P (state_in g.shape z)
  none_before P all z = subst (λ (s : Shape). P (state_in s z)) shape_is (all z)

  pub quiet_before : ((z : ℕ) → is_marking_state (state_in h.shape z) ≡ false) → (z : ℕ)
      → is_marking_state (state_in g.shape z) ≡ false
  quiet_before quiet = none_before (λ t. is_marking_state t ≡ false) quiet

  pub looks_on : h.looks ≡ g.looks → ((z : ℕ) → is_marking_state (state_in h.shape z) ≡ false)
      → NothingLeft h.looks
  looks_on same quiet = subst (λ (l : LooksState). NothingLeft l) (sym same) (waits.looks (quiet_before quiet))

  pub piled_on : ((x : Place) → Contains p.gray x → Contains s.gray x
      ⊎ (state_of g.shape x ≡ state.MarkBlackAndGray)) → (x : Place) → Contains p.gray x
      → state_of h.shape x ≡ state.MarkBlackAndGray
  piled_on only x has = ap (λ (t : Shape). state_of t x) shape_is ∙ elim (only x has)
      [ inl was ↦ waits.piled x was | inr takes ↦ takes ]

  pub piled_still : p.gray ≡ s.gray → (x : Place) → Contains p.gray x
      → state_of h.shape x ≡ state.MarkBlackAndGray
  piled_still same = piled_on (λ x has. inl (subst (λ (xs : List Place). Contains xs x) same has))

  pub waits_on : ((x : Place) → Contains p.gray x → state_of h.shape x ≡ state.MarkBlackAndGray)
      → (((z : ℕ) → is_marking_state (state_in h.shape z) ≡ false) → NothingLeft h.looks)
      → LooksLeftFrom g.shape g.looks h.shape h.looks
      → WaitsWhileMarking h p lists
  waits_on piled looks left = record {
    looks = looks;
    of_marking = looks_of_marking g.shape g.looks h.shape h.looks
        (λ x here. subst (λ (t : Shape). IsOfMarking t x) (sym shape_is) here) left waits.of_marking;
    piled = piled;
    buffered = λ z quiet. ap (λ (bs : List (List Place)). buffer_at bs z) buffers_is
        ∙ waits.buffered z (ap (λ (t : Shape). is_marking_state (state_in t z)) (sym shape_is) ∙ quiet);
    incoming = λ n x has.
        (let i = waits.incoming n x has in (
          i.0,
          ap (λ (t : Shape). slice_get t.comps n) shape_is ∙ i.1,
          ap (λ (t : Shape). is_marking_state (state_in t i.0)) shape_is ∙ i.2,
        ));
  }

-- cells that were pending in black were followed
pub black_followed : (c : CollectorState) (flown flying : ℕ → Option Bits) (h : HeapState) (p : Piles)
    → IsSoundMarking c flown
    → IsSome c.run → h.delayed ≡ c.heap.delayed → Covers h.shape flying
    → FollowsCells (heap_with c flown) c.stack (joined h flying) p
    → GoesOn c flown [] (record c { heap = h; stack = p }) flying
black_followed c flown flying h p s running delayed covers does =
    let inv = does.invariant in
    let bl = does.blackens in
    let rep = s.represents in
    let d : CollectorState = record c { heap = h; stack = p } in
    let shape_is : h.shape ≡ c.heap.shape = ap (λ (z : HeapState). z.shape) bl.rest in
    let buffers_is : h.buffers ≡ c.heap.buffers = ap (λ (z : HeapState). z.buffers) bl.rest in
    let both = does.pending_live c.lists rep.coloured.gray in
    let m : Marked c flown d flying = record {
      shape_is = shape_is;
      made_is = ap (λ (z : HeapState). z.made) bl.rest;
      weak_names_is = ap (λ (z : HeapState). z.weak_names) bl.rest;
      ledger_is = ap (λ (z : HeapState). z.ledger) bl.rest;
      delayed_is = delayed;
      edges_is = refl;
      groups_is = refl;
      run_is = refl;
      flies = still_flies c.heap h flown flying rep.swept.flies shape_is rep.coloured.marks.holds.colours
          inv.holds.colours covers
          (own_sized c.heap flown c.stack rep.coloured.marks) (own_sized h flying p inv) bl.kept
          (λ y. elim (bl.others y) [ inl b ↦ inl b | inr e ↦ inr (inl e) ]);
      coloured = record {
        marks = inv;
        gray = both.0;
        waits = waits_on (heap_with c flown) (joined h flying) c.stack p c.lists shape_is buffers_is rep.coloured.waits
            (piled_still (heap_with c flown) (joined h flying) c.stack p c.lists shape_is buffers_is rep.coloured.waits
            does.gray_is)
            (λ quiet. absurd (does.busy (quiet_before (heap_with c flown) (joined h flying) c.stack p c.lists shape_is
            buffers_is rep.coloured.waits quiet)))
            does.left;
      };
      darker = bl.kept;
      black = does.pending_black;
      live = both.1;
    } in
    marked_goes c flown d flying m (started_of c flown s.world rep running)
    (black_falls (heap_with c flown) c.stack (joined h flying) p shape_is rep.coloured.marks does.gray_is c.lists
    buffers_is does.scans does.fewer)

-- a weak entry was looked at
pub entry_looked : (c : CollectorState) (flown flying : ℕ → Option Bits) (h : HeapState) (p : Piles)
    (colour_is : MarkColour) → IsSoundMarking c flown → IsSome c.run → h.delayed ≡ c.heap.delayed
    → Covers h.shape flying
    → DoesLook colour_is (heap_with c flown) c.stack (joined h flying) p
    → GoesOn c flown [] (record c { heap = h; stack = p }) flying
entry_looked c flown flying h p colour_is s running delayed covers does =
    let rep = s.represents in
    let d : CollectorState = record c { heap = h; stack = p } in
    let shape_is : h.shape ≡ c.heap.shape = ap (λ (z : HeapState). z.shape) does.rest in
    let buffers_is : h.buffers ≡ c.heap.buffers = ap (λ (z : HeapState). z.buffers) does.rest in
    let both = does.pending_live c.lists rep.coloured.gray in
    let m : Marked c flown d flying = record {
      shape_is = shape_is;
      made_is = ap (λ (z : HeapState). z.made) does.rest;
      weak_names_is = ap (λ (z : HeapState). z.weak_names) does.rest;
      ledger_is = ap (λ (z : HeapState). z.ledger) does.rest;
      delayed_is = delayed;
      edges_is = refl;
      groups_is = refl;
      run_is = refl;
      flies = still_flies c.heap h flown flying rep.swept.flies shape_is rep.coloured.marks.holds.colours
          does.invariant.holds.colours
          covers (own_sized c.heap flown c.stack rep.coloured.marks) (own_sized h flying p does.invariant)
          does.black_kept
          does.coloured;
      coloured = record {
        marks = does.invariant;
        gray = both.0;
        waits = waits_on (heap_with c flown) (joined h flying) c.stack p c.lists shape_is buffers_is rep.coloured.waits
            (piled_on (heap_with c flown) (joined h flying) c.stack p c.lists shape_is buffers_is rep.coloured.waits
            does.gray_pile)
            (λ quiet. absurd (looked_one colour_is _ c.heap.shape.weak
            c.heap.looks h.looks does.looked (rep.coloured.waits.looks (quiet_before (heap_with c flown)
            (joined h flying) c.stack p c.lists shape_is buffers_is rep.coloured.waits quiet))))
            (looked_left colour_is does.entry c.heap.shape c.heap.looks h.shape h.looks does.looked
            (ap (λ (t : Shape). t.weak) shape_is));
      };
      darker = does.black_kept;
      black = does.pending_black;
      live = both.1;
    } in
    marked_goes c flown d flying m (started_of c flown s.world rep running)
    (looks_fall colour_is (heap_with c flown) c.stack c.lists (joined h flying) p rep.coloured.marks does)

-- a piece of gray marking was done
pub gray_followed : (c : CollectorState) (flown : ℕ → Option Bits) (h : HeapState) (p : Piles) (lists : Incoming)
    → IsSoundMarking c flown → IsSome c.run → h.delayed ≡ c.heap.delayed
    → DoesGray (heap_with c flown) c.stack c.lists (joined h flown) p lists
    → GoesOn c flown [] (record c { heap = h; stack = p; lists = lists }) flown
gray_followed c flown h p lists s running delayed does =
    let rep = s.represents in
    let d : CollectorState = record c { heap = h; stack = p; lists = lists } in
    let shape_is : h.shape ≡ c.heap.shape = ap (λ (z : HeapState). z.shape) does.marks.rest in
    let m : Marked c flown d flown = record {
      shape_is = shape_is;
      made_is = ap (λ (z : HeapState). z.made) does.marks.rest;
      weak_names_is = ap (λ (z : HeapState). z.weak_names) does.marks.rest;
      ledger_is = ap (λ (z : HeapState). z.ledger) does.marks.rest;
      delayed_is = delayed;
      edges_is = refl;
      groups_is = refl;
      run_is = refl;
      flies = flies_same c.heap.shape h.shape flown (ap (λ (t : Shape). t.arenas) shape_is) rep.swept.flies;
      coloured = record {
        marks = does.marks.invariant;
        gray = does.marks.gray;
        waits = record {
          piled = λ x has. ap (λ (t : Shape). state_of t x) shape_is ∙ elim (does.gray_pile x has)
              [ inl was ↦ rep.coloured.waits.piled x was | inr takes ↦ takes ];
          buffered = λ z quiet.
              none_in_it (buffer_of h z)
              (λ x has. nothing_in_none x
              (subst (λ (xs : List Place). Contains xs x)
              (rep.coloured.waits.buffered z (ap (λ (t : Shape). is_marking_state (state_in t z)) (sym shape_is)
              ∙ quiet))
              (does.buffered z x has)));
          incoming = λ n x has. elim (does.incoming n x has) [
            | inl was ↦ (let i = rep.coloured.waits.incoming n x was in (
              i.0,
              ap (λ (t : Shape). slice_get t.comps n) shape_is ∙ i.1,
              ap (λ (t : Shape). is_marking_state (state_in t i.0)) shape_is ∙ i.2,
            ))
            | inr new ↦ (
              new.0,
              ap (λ (t : Shape). slice_get t.comps n) shape_is ∙ new.1,
              ap (λ (t : Shape). is_marking_state (state_in t new.0)) shape_is ∙ ap is_marking_state new.2,
            )
          ];
          looks = λ quiet. nothing_taken does.takes
              (λ z. ap (λ (t : Shape). is_marking_state (state_in t z)) (sym shape_is) ∙ quiet z);
          of_marking = looks_of_marking c.heap.shape c.heap.looks h.shape h.looks
              (λ x here. subst (λ (t : Shape). IsOfMarking t x) (sym shape_is) here) (left_by shape_is does.takes)
              rep.coloured.waits.of_marking;
        };
      };
      darker = does.marks.black_kept;
      black = does.marks.pending_black;
      live = does.marks.pending_live;
    } in
    marked_goes c flown d flown m (started_of c flown s.world rep running)
    (does_gray_falls (heap_with c flown) c.stack c.lists (joined h flown) p lists rep.placed.lies.whole
    rep.coloured.marks.holds.colours.seen_present (gray_pile c flown s.world rep) rep.coloured.marks does)
  where
    left_by : h.shape ≡ c.heap.shape → TakesOne (heap_with c flown) c.stack c.lists (joined h flown) p lists
        → LooksLeftFrom c.heap.shape c.heap.looks h.shape h.looks
    left_by shape (inl buffered) = same_left c.heap.shape c.heap.looks h.shape h.looks
        (ap (λ (t : Shape). t.weak) shape) buffered.2
    left_by shape (inr (inl incoming)) = same_left c.heap.shape c.heap.looks h.shape h.looks
        (ap (λ (t : Shape). t.weak) shape) incoming.2
    left_by shape (inr (inr scanned)) = started_left mark.Gray scanned.cell (heap_with c flown) (joined h flown)
        scanned.starts shape (
          s.represents.coloured.marks.holds.colours.seen_present scanned.cell
              (s.represents.coloured.marks.holds.piles.gray scanned.cell scanned.piled),
          ap is_marking_state (s.represents.coloured.waits.piled scanned.cell scanned.piled),
        )

    nothing_taken : TakesOne (heap_with c flown) c.stack c.lists (joined h flown) p lists
        → ((z : ℕ) → is_marking_state (state_in c.heap.shape z) ≡ false) → NothingLeft h.looks
    nothing_taken (inl buffered) quiet =
        subst (λ (l : LooksState). NothingLeft l) (sym buffered.2) (s.represents.coloured.waits.looks quiet)
    nothing_taken (inr (inl incoming)) quiet =
        subst (λ (l : LooksState). NothingLeft l) (sym incoming.2) (s.represents.coloured.waits.looks quiet)
    nothing_taken (inr (inr scanned)) quiet =
        absurd (nothing_in_none scanned.cell
        (subst (λ (xs : List Place). Contains xs scanned.cell)
        (none_piled (heap_with c flown) c.stack c.lists s.represents.coloured.waits
        (λ z takes. (let on = ap is_marking_state takes in let off = quiet z in cc (on, off))))
        scanned.piled))

-- with the same colours the collector stands for the same worlds
pub same_worlds : (c : CollectorState) (flown flying : ℕ → Option Bits) (w : World) → Covers c.heap.shape flying
    → heap_with c flying ≡ heap_with c flown → RepresentsMarking c flown w → RepresentsMarking c flying w
same_worlds c flown flying w covers e s =
    let coloured = coloured_as (heap_with c flown) (heap_with c flying) c.stack c.stack c.lists c.lists e refl refl
    s.coloured in
    record {
      placed = s.placed;
      swept = swept_in c.heap.shape c.heap.shape flown flying refl
          (still_flies c.heap c.heap flown flying s.swept.flies refl s.coloured.marks.holds.colours
          coloured.marks.holds.colours covers (own_sized c.heap flown c.stack s.coloured.marks)
          (own_sized c.heap flown c.stack s.coloured.marks) (λ p b. ap (λ h. colour_of h p) e ∙ b)
          (λ p. inr (inl (ap (λ h. colour_of h p) e)))) s.swept;
      coloured = coloured;
      phase = subst (λ h. IsInPhase h c w) (sym e) s.phase;
    }

-- nothing was done
pub still : (c : CollectorState) (flown flying : ℕ → Option Bits) (h : HeapState) (p : Piles) → IsStarted c
    → Covers h.shape flying → h ≡ c.heap → p ≡ c.stack → heap_with c flying ≡ heap_with c flown
    → IsStill c flown (record c { heap = h; stack = p }) flying
still c flown flying h p started covers eh ep e = record {
  same = ap (λ (z : HeapState). record c { heap = z; stack = p }) eh ∙ ap (λ (q : Piles). record c { stack = q }) ep;
  colours = e;
  worlds = λ w r. going (same_worlds c flown flying w (subst (λ (z : HeapState). Covers z.shape flying) eh covers) e
      (marking_of c flown w (none_started c flown w started) r));
}

pub still_gray : (c : CollectorState) (flown : ℕ → Option Bits) (h : HeapState) (p : Piles) (l : Incoming) → h ≡ c.heap
    → p ≡ c.stack → l ≡ c.lists → IsStill c flown (record c { heap = h; stack = p; lists = l }) flown
still_gray c flown h p l eh ep el = record {
  same = ap (λ (z : HeapState). record c { heap = z; stack = p; lists = l }) eh
      ∙ ap (λ (q : Piles). record c { stack = q; lists = l }) ep ∙ ap (λ (i : Incoming). record c { lists = i }) el;
  colours = refl;
  worlds = λ w s. s;
}

-- nothing changed: the heap, what is pending, and the colours in flight
abbrev pub IsUnmarked : CollectorState → (ℕ → Option Bits) → HeapState → Piles → (ℕ → Option Bits) → Type 0
IsUnmarked c flown h p flying = (h ≡ c.heap) × (p ≡ c.stack) × (heap_with c flying ≡ heap_with c flown)

-- a unit of marking was tried: it did a piece of work, or there is none and nothing changed
module _ (c : CollectorState) (flown flying : ℕ → Option Bits) (h : HeapState) (p : Piles) (s : IsSoundMarking c flown)
    (running : IsSome c.run) (delayed : h.delayed ≡ c.heap.delayed) where
  pub black_tried : (did : Bool) → Covers h.shape flying
      → (did ≡ true → FollowsCells (heap_with c flown) c.stack (joined h flying) p)
      → ((did ≡ false) ↔ (c.stack.black ≡ [])) → (did ≡ false → IsUnmarked c flown h p flying)
      → DidOrStill did (c.stack.black ≡ []) c flown (record c { heap = h; stack = p }) flying
  black_tried true covers does none same = (
    black_followed c flown flying h p s running delayed covers (does refl),
    λ empty. let no = none.1 empty in cc no,
  )
  black_tried false covers does none same = (
    still c flown flying h p (started_of c flown s.world s.represents running) covers (same refl).0 (same refl).1
        (same refl).2,
    none.0 refl,
  )

  -- all cells that are pending in black were followed at once, or there is none, or memory was wanted
  pub ahead_tried : {E : Type 0} (r : Result Bool E) → Covers h.shape flying
      → (r ≡ Ok true → FollowsAll (heap_with c flown) c.stack (joined h flying) p)
      → ((r ≡ Ok false) ↔ (c.stack.black ≡ [])) → (r ≡ Ok false → IsUnmarked c flown h p flying)
      → IfOk r (λ did. DidOrStill did (c.stack.black ≡ []) c flown (record c { heap = h; stack = p }) flying)
  ahead_tried (Ok true) covers does none same = black_tried true covers
      (λ did. all_followed (heap_with c flown) c.stack (joined h flying) p s.represents.placed.lies.whole
      s.represents.coloured.marks (λ empty. let no = none.1 empty in cc no) (does refl))
      (λ is. cc is, λ empty. let no = none.1 empty in cc no) (λ is. cc is)
  ahead_tried (Ok false) covers does none same =
      black_tried false covers (λ did. cc did) (λ is. none.0 refl, λ empty. refl) (λ is. same refl)
  ahead_tried (Err why) covers does none same = tt

  pub look_tried : (colour_is : MarkColour) (did : Bool) → Covers h.shape flying
      → (did ≡ true → DoesLook colour_is (heap_with c flown) c.stack (joined h flying) p)
      → ((did ≡ false) ↔ NoneLeft colour_is c.heap.looks) → (did ≡ false → IsUnmarked c flown h p flying)
      → DidOrStill did (NoneLeft colour_is c.heap.looks) c flown (record c { heap = h; stack = p }) flying
  look_tried colour_is true covers does none same = (
    entry_looked c flown flying h p colour_is s running delayed covers (does refl),
    λ empty. let no = none.1 empty in cc no,
  )
  look_tried colour_is false covers does none same = (
    still c flown flying h p (started_of c flown s.world s.represents running) covers (same refl).0 (same refl).1
        (same refl).2,
    none.0 refl,
  )

  -- a look leaves the shape
  pub look_shape : (colour_is : MarkColour) (did : Bool)
      → (did ≡ true → DoesLook colour_is (heap_with c flown) c.stack (joined h flying) p)
      → (did ≡ false → IsUnmarked c flown h p flying) → h.shape ≡ c.heap.shape
  look_shape colour_is true does same = ap (λ (x : HeapState). x.shape) (does refl).rest
  look_shape colour_is false does same = ap (λ (x : HeapState). x.shape) (same refl).0

  -- nor does a piece of gray marking
  pub gray_grays : (lists : Incoming) (did : Bool)
      → (did ≡ true → DoesGray (heap_with c flown) c.stack c.lists (joined h flown) p lists)
      → (did ≡ false → (h ≡ c.heap) × (p ≡ c.stack) × (lists ≡ c.lists))
      → grays_outside (joined h flown) ≡ grays_outside (heap_with c flown)
  gray_grays lists true does same = (does refl).grays_is
  gray_grays lists false does same = ap (λ (x : HeapState). grays_outside (joined x flown)) (same refl).0

  pub gray_tried : (lists : Incoming) (g : ZoneSet) (did : Bool)
      → (did ≡ true → DoesGray (heap_with c flown) c.stack c.lists (joined h flown) p lists)
      → ((did ≡ false) ↔ IsGrayIdle c.heap c.stack c.lists g.bits)
      → (did ≡ false → (h ≡ c.heap) × (p ≡ c.stack) × (lists ≡ c.lists))
      → TriesGroup did (IsGrayIdle c.heap c.stack c.lists g.bits) c flown
      (record c { heap = h; stack = p; lists = lists }) flown
  gray_tried lists g true does none same = record {
    done = (
      gray_followed c flown h p lists s running delayed (does refl),
      λ empty. let no = none.1 empty in cc no,
    );
    shape = ap (λ (x : HeapState). x.shape) (does refl).marks.rest;
    groups = refl;
  }
  gray_tried lists g false does none same = record {
    done = (still_gray c flown h p lists (same refl).0 (same refl).1 (same refl).2, none.0 refl);
    shape = ap (λ (x : HeapState). x.shape) (same refl).0;
    groups = refl;
  }

-- what reads no edge reads few
pub tries_few : (did : Bool) (read : ℕ) (h : HeapState) (now : ℕ) (k : HeapState) → TriesFew false read h now k
    → TriesFew did read h now k
tries_few true read h now k none = omega (arith, none)
tries_few false read h now k none = none

-- where no cell is to be scanned and no entry to be looked at, the weak rule adds nothing
pub black_fixed : (c : CollectorState) (flown : ℕ → Option Bits) → IsSoundMarking c flown → IsBlackDone c flown
    → IsBlackFixed c flown
black_fixed c flown s done = record {
  values = λ m k v has bm bk on. elim (s.represents.coloured.marks.weak.black m k v has bm bk on) [
    | inl b ↦ b
    | inr (inl p) ↦ absurd (unpiled m p)
    | inr (inr (inl p)) ↦ absurd (unpiled k p)
    | inr (inr (inr l)) ↦ absurd (none_left (heap_with c flown) mark.Black done.looked done.looked m k v has l)
  ];
  keys = λ m k v d has is bm bd. elim (s.represents.coloured.marks.holds.key_closed m k v d has is bm bd) [
    | inl b ↦ b
    | inr (inl w) ↦ absurd (followed m w)
    | inr (inr (inl w)) ↦ absurd (followed d w)
    | inr (inr (inr l)) ↦ absurd (none_left (heap_with c flown) mark.Black done.looked done.looked m k v has l)
  ];
}
  where
    unpiled : (x : Place) → Contains c.stack.black x → ⊥
    unpiled x p = nothing_in_none x (subst (λ (xs : List Place). Contains xs x) done.pile p)

    followed : (x : Place) → IsToFollow [] c.stack x → ⊥
    followed x (inl p) = unpiled x p
    followed x (inr (inl p)) = nothing_in_none x (subst (λ (xs : List Place). Contains xs x)
        s.represents.coloured.marks.none_woken p)
    followed x (inr (inr p)) = nothing_in_none x p

pub gray_fixed : (c : CollectorState) (flown : ℕ → Option Bits) (g : ZoneSet) → IsSoundMarking c flown
    → IsBlackDone c flown
    → AreGraying c.heap.shape g.bits → IsGrayDone c flown g → IsGrayFixed c flown g
gray_fixed c flown g s black begun done = record {
  values = λ m k v has sm sk here.
      elim (s.represents.coloured.marks.weak.gray m k v has sm sk ((begun (zone_of c.heap.shape v)).0 here)) [
        | inl sv ↦ sv
        | inr (inl p) ↦ absurd (off m p)
        | inr (inr (inl p)) ↦ absurd (off k p)
        | inr (inr (inr l)) ↦ absurd (none_left (heap_with c flown) mark.Gray done.looked black.looked m k v has l)
      ];
  keys = λ m k v d has is sm sd here.
      elim (s.represents.coloured.marks.weak.gray_key m k v d has is sm sd ((begun (zone_of c.heap.shape k)).0 here)) [
        | inl sk ↦ sk
        | inr (inl p) ↦ absurd (off m p)
        | inr (inr (inl p)) ↦ absurd (off d p)
        | inr (inr (inr l)) ↦ absurd (none_left (heap_with c flown) mark.Gray done.looked black.looked m k v has l)
      ];
}
  where
    off : (x : Place) → IsPiled c.stack x → ⊥
    off x (inl p) = nothing_in_none x (subst (λ (xs : List Place). Contains xs x) black.pile p)
    off x (inr p) = nothing_in_none x (subst (λ (xs : List Place). Contains xs x) done.idle.pile p)

-- one step after another that did nothing
pub both_still : (c : CollectorState) (flown : ℕ → Option Bits) (d : CollectorState) (f1 : ℕ → Option Bits)
    (e : CollectorState) (f2 : ℕ → Option Bits) → IsStill c flown d f1 → IsStill d f1 e f2 → IsStill c flown e f2
both_still c flown d f1 e f2 a b = record {
  same = b.same ∙ a.same;
  colours = subst (λ (x : CollectorState). heap_with x f2 ≡ heap_with x f1) a.same b.colours ∙ a.colours;
  worlds = λ w s. subst (λ (x : CollectorState). Represents x f1 w → Represents x f2 w) a.same (b.worlds w)
      (a.worlds w s);
}

-- with the same colours the same work is left
module _ (c : CollectorState) (flown : ℕ → Option Bits) (d : CollectorState) (flying : ℕ → Option Bits)
    (a : IsStill c flown d flying) where
  pub still_looked : (colour_is : MarkColour) → NoneLeft colour_is c.heap.looks ↔ NoneLeft colour_is d.heap.looks
  still_looked colour_is = (
    λ none. subst (λ (x : CollectorState). NoneLeft colour_is x.heap.looks) (sym a.same) none,
    λ none. subst (λ (x : CollectorState). NoneLeft colour_is x.heap.looks) a.same none,
  )

  pub still_black_done : IsBlackDone c flown → IsBlackDone d flying
  still_black_done done = record {
    pile = subst (λ (x : CollectorState). x.stack.black ≡ []) (sym a.same) done.pile;
    looked = (still_looked mark.Black).0 done.looked;
  }

  pub still_group_done : IsGroupDone c flown → IsGroupDone d flying
  still_group_done done g at =
      let was : IsGrayDone c flown g = done g (subst (λ (x : CollectorState). slice_get x.groups 0 ≡ Some g) a.same at)
      in
      record {
        idle = subst (λ (x : CollectorState). IsGrayIdle x.heap x.stack x.lists g.bits) (sym a.same) was.idle;
        looked = (still_looked mark.Gray).0 was.looked;
      }

  -- and the same was done before
  pub group_done_before : IsGroupDone d flying → IsGroupDone c flown
  group_done_before done g at =
      let is : IsGrayDone d flying g = done g
      (subst (λ (x : CollectorState). slice_get x.groups 0 ≡ Some g) (sym a.same) at) in
      record {
        idle = subst (λ (x : CollectorState). IsGrayIdle x.heap x.stack x.lists g.bits) a.same is.idle;
        looked = (still_looked mark.Gray).1 is.looked;
      }

pub still_sound : (c : CollectorState) (flown : ℕ → Option Bits) (d : CollectorState) (flying : ℕ → Option Bits)
    → IsStill c flown d flying → IsSound c flown → IsSound d flying
still_sound c flown d flying a s = record {
  world = s.world;
  valid = s.valid;
  represents = subst (λ (x : CollectorState). Represents x flying s.world) (sym a.same) (a.worlds s.world s.represents);
}

pub still_marking : (c : CollectorState) (flown : ℕ → Option Bits) (d : CollectorState) (flying : ℕ → Option Bits)
    → IsStill c flown d flying → IsSoundMarking c flown → IsSoundMarking d flying
still_marking c flown d flying a s = record {
  world = s.world;
  valid = s.valid;
  represents = calm_marking d flying s.world s.represents.phase.calm
      (subst (λ (x : CollectorState). Represents x flying s.world) (sym a.same) (a.worlds s.world
      (going s.represents)));
}

-- what is to come, with the bits of a heap
to_come_by : CollectorState → HeapState → ℕ
to_come_by c h = marking_to_come h c.stack c.lists
    + (grouping_left c.heap.shape c.edges c.run + steps_left c.heap.shape.states) + clearing_left c.heap.shape c.run

pub still_to_come : (c : CollectorState) (flown : ℕ → Option Bits) (d : CollectorState) (flying : ℕ → Option Bits)
    → IsStill c flown d flying → units_to_come d flying ≡ units_to_come c flown
unfolding to_come_by units_to_come
still_to_come c flown d flying a = ap (λ (x : CollectorState). units_to_come x flying) a.same
    ∙ ap (λ h. to_come_by c h) a.colours

-- and as much is left
pub still_left : (c : CollectorState) (flown : ℕ → Option Bits) (d : CollectorState) (flying : ℕ → Option Bits)
    → IsStill c flown d flying → units_left d flying ≡ units_left c flown
still_left c flown d flying a =
    let to_come = still_to_come c flown d flying a in
    let arenas = ap (λ (x : CollectorState). arenas_left x.heap.shape x.heap.shape.arenas) a.same in
    let starting = ap (λ (x : CollectorState). marking_left x.heap.shape x.run) a.same in
    omega (arith, to_come, arenas, starting)

pub still_goes : (c : CollectorState) (flown : ℕ → Option Bits) (d : CollectorState) (f1 : ℕ → Option Bits)
    (rs : List Report) (e : CollectorState) (f2 : ℕ → Option Bits) → IsStill c flown d f1 → GoesOn d f1 rs e f2
    → GoesOn c flown rs e f2
still_goes c flown d f1 rs e f2 a g = go
  where
    moved : GoesOn c f1 rs e f2
    moved = subst (λ (x : CollectorState). GoesOn x f1 rs e f2) a.same g

    go : GoesOn c flown rs e f2
    go = record {
      done = λ w ok s. moved.done w ok (a.worlds w s);
      words = moved.words;
      running = moved.running;
      made_is = moved.made_is;
      ledger_is = moved.ledger_is;
      weak_is = moved.weak_is;
      less = subst (λ n. units_left e f2 < n) (ap (λ (x : CollectorState). units_left x f1) (sym a.same)
          ∙ still_left c flown d f1 a) moved.less;
      to_come = subst (λ n. units_to_come e f2 < n) (ap (λ (x : CollectorState). units_to_come x f1) (sym a.same)
          ∙ still_to_come c flown d f1 a) moved.to_come;
    }

pub then_marks : (b : Bool) (P Q : Type 0) (c : CollectorState) (flown : ℕ → Option Bits) (d : CollectorState)
    (f1 : ℕ → Option Bits) (e : CollectorState) (f2 : ℕ → Option Bits) → IsStill c flown d f1 → P ↔ Q
    → DidOrStill b P d f1 e f2 → DidOrStill b Q c flown e f2
then_marks true P Q c flown d f1 e f2 a f g = (still_goes c flown d f1 [] e f2 a g.0, λ q. g.1 (f.1 q))
then_marks false P Q c flown d f1 e f2 a f g = (both_still c flown d f1 e f2 a g.0, f.0 g.1)

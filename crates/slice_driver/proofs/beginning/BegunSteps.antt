-- The steps by which marking of the zones that were prepared begins.
use Rattle.std.proofs.Common.{◌≡◌, ◌⊎◌, ◌↔◌, ◌<◌, ◌≤◌, ◌+◌, ◌-◌, ℕ, zero, suc, Bool, true, false, List, [], length}
use Rattle.std.proofs.Common.{Option, Some, None, Contains, IsSome, IsTrue, refl, sym, ap, subst, ◌∙◌, inl, inr, arith}
use Rattle.std.proofs.Common.{option_map, slice_get, sum_by}
use Rattle.std.specs.Prelude.{if◌then◌else◌}
use Rattle.std.proofs.lemmas.Bool.{cases_eq, cases_lt}
use Rattle.std.proofs.lemmas.Option.{slice_get-get_or}
use Rattle.gz_names.specs.Zones.{HasZone}
use Rattle.gz_names.specs.declared.numbers.Place.{Place}
use Rattle.gz_names.specs.declared.zone_sets.ZoneSet.{ZoneSet}
use Rattle.std.specs.Int.{bit_at}
use Rattle.cell_bits.specs.declared.bits.Bits.{Bits}
use Rattle.cell_bits.specs.declared.bits.Colour.{Colour}
use Rattle.cell_bits.specs.declared.bits.Colour.TheVariants as colour
use Rattle.zones.specs.States.{next_state}
use Rattle.zones.specs.declared.states.State.{State}
use Rattle.zones.specs.declared.states.State.TheVariants as state
use Rattle.mark_stack.specs.Stack.{Piles}
use Rattle.wrappers.specs.WrapperMaps.{AreApart, list_of}
use Rattle.wrappers.specs.declared.wrapper_maps.WrapperKey.{WrapperKey}
use Rattle.wrappers.proofs.Finding.{slice_get-read}
use Rattle.weak_maps.specs.WeakMaps.{IsSound as AreEntries}
use Rattle.roots.specs.Buffers.{buffer_at}
use Rattle.colour_defs.specs.World.{World}
use Rattle.colour_defs.proofs.Lists.{nothing_in_none}
use Rattle.heap_core.specs.Shape.{ArenaShape, Shape, HasEdge, IsPresent, field_at, is_owned, is_owned_in}
use Rattle.heap_core.specs.Shape.{state_in, state_or, zone_in, zone_of}
use Rattle.heap_core.specs.Heap.{HeapState, colour_of, without_delayed}
use Rattle.zone_edges.specs.Noted.{Noted}
use Rattle.zone_edges.specs.Looks.{AreWrappers, wrapper_at}
use Rattle.zone_edges.proofs.SoundWrappers.{sound_has_wrappers}
use Rattle.barriers.specs.Colours.{IsBlack, IsSeen}
use Rattle.barriers.specs.LeftOut.{PreparingInvariant}
use Rattle.barriers.specs.Pending.{pending}
use Rattle.barriers.specs.PendingLive.{buffer_of}
use Rattle.barriers.specs.Scans.{AreScannedOnce}
use Rattle.barriers.proofs.Scans.{once_empty, once_kept}
use Rattle.slice_driver.specs.Collector.{CollectorState, RunState, heap_with}
use Rattle.slice_driver.specs.Left.{marking_left, starting_left, units_left}
use Rattle.slice_driver.specs.Preparing.{StartsMarking}
use Rattle.slice_driver.specs.Remaining.{clearing_left, left_of, owned_from}
use Rattle.slice_driver.specs.Represents.{IsCleared, IsIdle, Represents, RepresentsMarking, RunsAs, going}
use Rattle.slice_driver.specs.Units as flight
use Rattle.slice_driver.specs.Units.{IsSound, IsSoundMarking}
use Rattle.slice_driver.specs.Working.{IsAtStart}
use Rattle.slice_driver.specs.Advancing.{Advances}
use Rattle.slice_driver.specs.Begins.{BeginsMarking, IsBlackRoot, IsGrayRoot, IsListed, IsWithin}
use Rattle.slice_driver.specs.RootMarking.{IsReady, IsTargetAmong, LeadsAt, Marks}
use Rattle.slice_driver.specs.GrayRoots.{Buffers, HasFewWrappers, IsGrayAmong, IsInSlot, MayGather}
use Rattle.slice_driver.specs.ListedWrappers.{is_outside, listed_below}
use Rattle.slice_driver.proofs.measure.FewUnits.{none_buffered}
use Rattle.slice_driver.proofs.abstraction.Crossing.{crosses}
use Rattle.slice_driver.proofs.abstraction.Named.{some_one}
use Rattle.slice_driver.proofs.beginning.Begun.{AreEdgesNone, IsPreparingIn, cleared_of, none_runs, phase_of}
use Rattle.slice_driver.proofs.beginning.Begun.{run_begun, starts_world}
use Rattle.slice_driver.proofs.beginning.BegunToCome.{less_begun, within_begun}
use Rattle.slice_driver.proofs.beginning.MarkedRoots.{marks_then, ready_still, shape_still}
use Rattle.slice_driver.proofs.clearing.ClearingUnits.{preparing_of, start_to_come}
use Rattle.slice_driver.proofs.group_end.Cells.{has_in_zones}

pub not_running : {X : Type 0} (b : Bool) (o : Option X) → (IsTrue b ↔ IsSome o) → b ≡ false → o ≡ None
not_running b None e f = refl
not_running b (Some x) e f = absurd (let yes_ = e.1 refl in cc (f, yes_))

-- a collector that stands for a world in which no collection runs
pub record IsAtRest (c : CollectorState) : Type 0 where
  pub world : World
  pub represents : RepresentsMarking c flight.none_flown world
  pub idle : c.run ≡ None

pub at_rest : (c d : CollectorState) → c ≡ d → (d.run ≡ None → IsSoundMarking d flight.none_flown) → (b : Bool) →
    (IsTrue b ↔ IsSome d.run) → b ≡ false → IsAtRest c
at_rest c d same sound b e f =
    let idle = not_running b d.run e f in
    subst IsAtRest (sym same) (record { world = (sound idle).world; represents = (sound idle).represents; idle = idle })

-- where no collection runs
module _ (c : CollectorState) (w : World) (rep : RepresentsMarking c flight.none_flown w) (idle_run : c.run ≡ None)
  where
    pub idle_of : IsIdle c
    idle_of = subst (λ k. RunsAs (heap_with c flight.none_flown) c w None k)
        (none_runs c flight.none_flown w idle_run rep)
        (subst (λ r. RunsAs (heap_with c flight.none_flown) c w r w.collection) idle_run rep.phase.runs)

-- the arenas of a word that are owned are none, where none is counted
none_owned : (s : Shape) (word from n : ℕ) → owned_from s word from n ≡ 0 → (o : ℕ) → from ≤ o → o < from + n
    → is_owned s word o ≡ false
unfolding owned_from
none_owned s word from zero none o ge lt = absurd (omega (arith, ge, lt))
none_owned s word from (suc n) none o ge lt = elim (cases_eq from o) [
  | inl is ↦ ap (is_owned s word) (sym is) ∙ off (is_owned s word from) (omega (arith, none))
  | inr ne ↦ none_owned s word (suc from) n (omega (arith, none)) o (omega (arith, ge, ne)) (omega (arith, lt))
]
  where
    off : (b : Bool) → ◌≡◌ {A = ℕ} (if b then 1 else 0) 0 → b ≡ false
    off true e = absurd (omega (arith, e))
    off false e = refl

-- where nothing is left to be cleared, the cells of the zones that are prepared are white
all_white : (c : CollectorState) (flown : ℕ → Option Bits) (w : World) (zones : ZoneSet)
    → IsPreparingIn c flown w zones → clearing_left c.heap.shape c.run ≡ 0 → (x : Place)
    → IsWithin c.heap.shape zones x → colour_of c.heap x ≡ colour.White
all_white c flown w zones at left x within = elim (cases_lt x.0 at.represents.uncleared.from) [
  | inl before ↦ cleared.cleared x within (inl before)
  | inr ge ↦ elim (cases_lt x.0 at.represents.uncleared.end) [
    | inr past ↦ cleared.cleared x within (inr past)
    | inl lt ↦ absurd (owned (slice_get c.heap.shape.arenas x.0) refl ge lt)
  ]
]
  where
    cleared : IsCleared c.heap c.stack c.lists zones at.represents.uncleared
    cleared = cleared_of c flown w zones at

    none : owned_from c.heap.shape zones.bits at.represents.uncleared.from
        (at.represents.uncleared.end - at.represents.uncleared.from) ≡ 0
    none = ap (λ (z : ZoneSet). owned_from c.heap.shape z.bits at.represents.uncleared.from
        (at.represents.uncleared.end - at.represents.uncleared.from)) (sym at.zones_are)
        ∙ (sym (ap (clearing_left c.heap.shape) at.represents.run_is
        ∙ ap (left_of c.heap.shape at.represents.run.zones) at.represents.clearing) ∙ left)

    owned : (o : Option ArenaShape) → slice_get c.heap.shape.arenas x.0 ≡ o → at.represents.uncleared.from ≤ x.0
        → x.0 < at.represents.uncleared.end → ⊥
    owned None e ge lt =
        let there = slice_get-get_or c.heap.shape.arenas x.0 (record { zone = 0; out = None; slots = [] })
        (omega (arith, lt, cleared.within)) in
        cc (e, there)
    owned (Some arena) e ge lt =
        let no : is_owned c.heap.shape zones.bits x.0 ≡ false =
        none_owned c.heap.shape zones.bits at.represents.uncleared.from
        (at.represents.uncleared.end - at.represents.uncleared.from) none x.0 ge (omega (arith, ge, lt)) in
        let zone : zone_of c.heap.shape x ≡ arena.zone = ap zone_in e in
        let yes : is_owned c.heap.shape zones.bits x.0 ≡ true = ap (is_owned_in zones.bits) e
        ∙ has_in_zones zones arena.zone (subst (λ z. HasZone zones.bits z) zone within) in
        cc (no, yes)

-- marking of these zones is to begin: in some world the collector has them prepared, and all their cells are white
pub record IsStarting (c : CollectorState) (zones : ZoneSet) : Type 0 where
  pub flown : ℕ → Option Bits
  pub world : World
  pub preparing : IsPreparingIn c flown world zones
  pub white : (x : Place) → IsWithin c.heap.shape zones x → colour_of c.heap x ≡ colour.White

-- in each world that the collector stands for these zones are prepared
pub starting_in : (c : CollectorState) (zones : ZoneSet) (at : IsAtStart c) → at.run.zones ≡ zones
    → (flown : ℕ → Option Bits) (w : World) → Represents c flown w → IsPreparingIn c flown w zones
starting_in c zones at zones_are flown w r =
    let rep = preparing_of c flown w at.uncleared (at.run, at.run_is, at.clearing) r in
    let same : rep.run ≡ at.run = some_one _ _ (sym rep.run_is ∙ at.run_is) in
    record { represents = rep; zones_are = ap (λ (x : RunState). x.zones) same ∙ zones_are }

pub starting : (c d : CollectorState) (zones : ZoneSet) → c ≡ d → (at : IsAtStart d) → at.run.zones ≡ zones
    → (flown : ℕ → Option Bits) → IsSound d flown → IsStarting c zones
starting c d zones same at zones_are flown sound =
    let preparing = starting_in d zones at zones_are flown sound.world sound.represents in
    subst (λ (x : CollectorState). IsStarting x zones) (sym same) (record {
      flown = flown;
      world = sound.world;
      preparing = preparing;
      white = all_white d flown sound.world zones preparing at.cleared;
    })

-- gray roots are gathered where marking is to begin
module _ (c : CollectorState) (zones : ZoneSet) (at : IsStarting c zones) where
  inv : PreparingInvariant c.heap c.stack
  inv = at.preparing.represents.cleared.invariant

  pub wrappers_of : AreWrappers c.heap.shape
  wrappers_of = sound_has_wrappers c.heap
      (at.preparing.represents.placed.lies.graph, at.preparing.represents.placed.lies.shown)

  pub slots_held : (x : Place) → Contains c.heap.shape.slots (Some x) → IsPresent c.heap.shape x
  slots_held = at.preparing.represents.placed.lies.shown.slots_held

  pub may_gather : HasFewWrappers c.heap.shape → MayGather c.heap
  may_gather few = record { wrappers = wrappers_of; sized = inv.holds.colours.sized; few = few }

  pub some_zone : (z : ℕ) × HasZone zones.bits z
  some_zone = (phase_of c at.flown at.world zones at.preparing).some

  pub nothing_buffered : sum_by length c.heap.buffers ≡ 0
  nothing_buffered = none_buffered c.heap.buffers at.preparing.represents.cleared.waits.buffered

module _ (c : CollectorState) (zones : ZoneSet) (at : IsStarting c zones) (buffers : List (List Place)) where
  abbrev h : HeapState
  h = c.heap

  -- the heap with these buffers
  abbrev gathered : HeapState
  gathered = record c.heap { buffers = buffers }

  holds : PreparingInvariant c.heap c.stack
  holds = inv c zones at

  none_black : c.stack.black ≡ []
  none_black = holds.holds.colours.black

  none_gray : c.stack.gray ≡ []
  none_gray = holds.holds.colours.gray

  pub ready_gathered : IsReady gathered c.stack
  ready_gathered = record {
    sized = holds.holds.colours.sized;
    kept = holds.holds.colours.none_out;
    piled = λ x on. absurd (nothing_in_none x (subst (λ xs. Contains xs x) none_black on));
  }

  not_black_within : (x : Place) → IsWithin h.shape zones x → IsBlack gathered x → ⊥
  not_black_within x within black = (let white = at.white x within in cc (white, black))

  -- what leads into a zone of the set from outside
  module _ (u x : Place) (out : IsWithin h.shape zones u → ⊥) (within : IsWithin h.shape zones x)
      (edge : HasEdge h.shape u x) where
    listed : IsListed h.shape u x
    listed = crosses h at.preparing.represents.placed.lies.graph u x at.preparing.represents.placed.lies.shown
        at.preparing.represents.placed.lies.part.well_formed edge
        (λ e. out (subst (λ z. HasZone zones.bits z) (sym e) within))

    abbrev index : ℕ
    index = listed.listed.0

    at_index : wrapper_at h.shape (zone_of h.shape u) index ≡ Some u
    at_index = ap (λ o. option_map (λ (e : WrapperKey × Place). e.1) o)
        (slice_get-read (list_of h.shape.wrappers (zone_of h.shape u)) index (listed.key, u) (listed.key, u)
        listed.listed.1 listed.listed.2)

    zone_made : IsSeen h u → zone_of h.shape u < length h.shape.states
    zone_made seen = holds.holds.colours.shape.made u (holds.holds.colours.seen_present u seen)

  module _ (k : HeapState) (q : Piles) (regs : Marks (λ x. Contains h.shape.regs (Some x)) zones gathered c.stack k q)
      (l : HeapState) (r : Piles) (targets : Marks (IsTargetAmong k zones (length k.shape.states)) zones k q l r) where
    both : Marks (λ x. Contains h.shape.regs (Some x) ⊎ IsTargetAmong k zones (length k.shape.states) x) zones gathered
        c.stack l r
    both = marks_then (λ x. Contains h.shape.regs (Some x)) (IsTargetAmong k zones (length k.shape.states)) zones
        gathered
        c.stack k q l r regs targets

    once_marked : AreScannedOnce l r
    once_marked = once_kept gathered c.stack l r both.scans (once_empty gathered c.stack none_black none_gray)

    shape_first : k.shape ≡ h.shape
    shape_first = shape_still (λ x. Contains h.shape.regs (Some x)) zones gathered c.stack k q regs

    shape_last : l.shape ≡ h.shape
    shape_last = shape_still (λ x. Contains h.shape.regs (Some x) ⊎ IsTargetAmong k zones (length k.shape.states) x)
        zones gathered c.stack l r both

    colour_first : (u : Place) → (IsWithin h.shape zones u → ⊥) → colour_of k u ≡ colour_of h u
    colour_first u out = regs.outside u out

    -- the targets of black wrappers of other zones
    target_root : (x : Place) → IsTargetAmong k zones (length k.shape.states) x → IsBlackRoot h zones x
    target_root x t =
        let u = t.3.1 in
        let leads = t.3.2 in
        let zone_is : zone_of h.shape u ≡ t.0 = subst (λ (s : Shape). zone_of s u ≡ t.0) shape_first leads.zone_is in
        let out : IsWithin h.shape zones u → ⊥ = λ within. t.2 (subst (λ z. HasZone zones.bits z) zone_is within) in
        inr (
          u,
          out,
          sym (colour_first u out) ∙ leads.colour_is,
          (0, omega arith, subst (λ (s : Shape). field_at s u 0 ≡ Some x) shape_first leads.target),
        )

    root_target : (x : Place) → IsWithin h.shape zones x → IsBlackRoot h zones x → Contains h.shape.regs (Some x)
        ⊎ IsTargetAmong k zones (length k.shape.states) x
    root_target x within (inl held) = inl held
    root_target x within (inr (u, out, black, edge)) =
        let made : zone_of h.shape u < length h.shape.states = zone_made u x out within edge (inr black) in
        inr (
          zone_of h.shape u,
          subst (λ (s : Shape). zone_of h.shape u < length s.states) (sym shape_first) made,
          out,
          (
            index u x out within edge,
            u,
            record {
              stands = subst (λ (s : Shape). wrapper_at s (zone_of h.shape u) (index u x out within edge) ≡ Some u)
                  (sym shape_first) (at_index u x out within edge);
              zone_is = ap (λ (s : Shape). zone_of s u) shape_first;
              colour_is = colour_first u out ∙ black;
              target = subst (λ (s : Shape). field_at s u 0 ≡ Some x) (sym shape_first)
                  (listed u x out within edge).target;
            },
          ),
        )

    black_root : (x : Place) → IsWithin h.shape zones x → IsBlack l x ↔ IsBlackRoot h zones x
    black_root x within = (
      (λ black. elim ((both.black x).0 black) [
        | inl was ↦ absurd (not_black_within x within was)
        | inr root ↦ elim root.0 [ inl held ↦ inl held | inr t ↦ target_root x t ]
      ]),
      λ root. (both.black x).1 (inr (root_target x within root, within)),
    )

    on_pile : (x : Place) → Contains r.black x ↔ (IsBlack l x × IsWithin h.shape zones x)
    on_pile x = (
      (λ on. elim ((both.pile x).0 on) [
        | inl was ↦ absurd (nothing_in_none x (subst (λ xs. Contains xs x) none_black was))
        | inr new ↦ (new.0, elim ((both.black x).0 new.0) [ inl old ↦ absurd (new.1 old) | inr root ↦ root.1 ])
      ]),
      λ new. (both.pile x).1 (inr (new.0, not_black_within x new.1)),
    )

    -- gray roots
    module _ (roots : (z : ℕ) (x : Place) → Contains (buffer_at buffers z) x
        ↔ (Contains (buffer_of h z) x ⊎ (IsInSlot h.shape zones z x ⊎ IsGrayAmong h zones (length h.shape.states) z x)))
        (few : sum_by length buffers
        ≤ sum_by length h.buffers + (64 + listed_below h.shape (is_outside zones) (length h.shape.states))) where
      gray_root : (z : ℕ) (x : Place) → Contains (buffer_at buffers z) x ↔ IsGrayRoot h zones z x
      gray_root z x = (
        (λ on. elim ((roots z x).0 on) [
          | inl was ↦ absurd (nothing_in_none x (subst (λ xs. Contains xs x)
              (at.preparing.represents.cleared.waits.buffered z) was))
          | inr (inl slot) ↦ (slot.0, inl (slot.1, slot.2))
          | inr (inr t) ↦
              let leads = t.3.1.2 in (
                t.3.1.0,
                inr (
                  (λ within. t.2 (subst (λ y. HasZone zones.bits y) leads.zone_is within)),
                  leads.colour_is,
                  t.3.1.1,
                  (0, omega arith, leads.target),
                  t.3.1.3,
                ),
              )
        ]),
        λ root. (roots z x).1 (inr (elim root.1 [
          | inl slot ↦ inl (root.0, slot.0, slot.1)
          | inr lead ↦
              let y = lead.2 in
              let within : IsWithin h.shape zones y = subst (λ i. HasZone zones.bits i) (sym lead.4) root.0 in
              inr (
                zone_of h.shape x,
                zone_made x y lead.0 within lead.3 (inl lead.1),
                lead.0,
                (
                  index x y lead.0 within lead.3,
                  (
                    root.0,
                    y,
                    record {
                      stands = at_index x y lead.0 within lead.3;
                      zone_is = refl;
                      colour_is = lead.1;
                      target = (listed x y lead.0 within lead.3).target;
                    },
                    lead.4,
                  ),
                ),
              )
        ])),
      )

      -- the zones go on to marking
      module _ (states : List State) (count : length states ≡ length l.shape.states)
          (on : (z : ℕ) → HasZone zones.bits z
          → state_or (slice_get states z) ≡ next_state (state_in l.shape z))
          (others : (z : ℕ) → (HasZone zones.bits z → ⊥) → state_or (slice_get states z) ≡ state_in l.shape z) where
        abbrev begun : HeapState
        begun = record l { shape = record l.shape { states = states } }

        state_was : (z : ℕ) → HasZone zones.bits z → state_in l.shape z ≡ state.Prepare
        state_was z has = ap (λ (s : Shape). state_in s z) shape_last
            ∙ (phase_of c at.flown at.world zones at.preparing).inside z has

        pub begins : BeginsMarking h zones begun r c.lists
        begins = record {
          shape_is = ap (λ (s : Shape). record s { states = states }) shape_last;
          made_is = ap (λ (x : HeapState). x.made) both.rest;
          weak_names_is = ap (λ (x : HeapState). x.weak_names) both.rest;
          ledger_is = ap (λ (x : HeapState). x.ledger) both.rest;
          delayed_is = ap (λ (x : HeapState). x.delayed) both.rest;
          looks_is = ap (λ (x : HeapState). x.looks) both.rest;
          count = count ∙ ap (λ (s : Shape). length s.states) shape_last;
          states = λ z has. on z has ∙ ap next_state (state_was z has);
          other_states = λ z out. others z out ∙ ap (λ (s : Shape). state_in s z) shape_last;
          sized = both.sized;
          within = black_root;
          none_gray = λ x within g. (let white = at.white x within in let was = both.gray x g in cc (white, was));
          outside = both.outside;
          black_pile = on_pile;
          gray_pile = both.gray_pile ∙ none_gray;
          wake_pile = both.wake_pile ∙ ap (λ (p : Piles). p.wake) holds.empty;
          once = record { black = once_marked.black; gray = once_marked.gray };
          buffered = λ z x. subst (λ (xs : List (List Place)). Contains (buffer_at xs z) x ↔ IsGrayRoot h zones z x)
              (sym (ap (λ (y : HeapState). y.buffers) both.rest)) (gray_root z x);
          few_buffered =
              (let now = ap (λ (y : HeapState). sum_by length y.buffers) both.rest in
              let none = nothing_buffered c zones at in
              omega (arith, now, none, few));
          none_incoming = at.preparing.represents.cleared.waits.incoming;
          lists_room = (let room = at.preparing.represents.cleared.room in omega (arith, both.sized, room));
        }

-- the steps do alike if what is delayed counts among what is pending
leads_seen : (c : Colour) (h : HeapState) (zone i : ℕ) (u x : Place) → LeadsAt c h zone i u x
    ↔ LeadsAt c (without_delayed h) zone i u x
leads_seen c h zone i u x = (
  (λ l. record { stands = l.stands; zone_is = l.zone_is; colour_is = l.colour_is; target = l.target }),
  λ l. record { stands = l.stands; zone_is = l.zone_is; colour_is = l.colour_is; target = l.target },
)

among_seen : (h : HeapState) (zones : ZoneSet) (n z : ℕ) (x : Place) → IsGrayAmong h zones n z x
    ↔ IsGrayAmong (without_delayed h) zones n z x
among_seen h zones n z x = (
  (λ t. (
    t.0,
    t.1,
    t.2,
    (t.3.0, (t.3.1.0, t.3.1.1, (leads_seen colour.Gray h t.0 t.3.0 x t.3.1.1).0 t.3.1.2, t.3.1.3)),
  )),
  λ t. (
    t.0,
    t.1,
    t.2,
    (t.3.0, (t.3.1.0, t.3.1.1, (leads_seen colour.Gray h t.0 t.3.0 x t.3.1.1).1 t.3.1.2, t.3.1.3)),
  ),
)

pub buffers_seen : (h : HeapState) (zones : ZoneSet) (b : HeapState) → Buffers h zones b
    → Buffers (without_delayed h) zones (without_delayed b)
buffers_seen h zones b put = record {
  rest = ap without_delayed put.rest;
  roots = λ z x. (
    (λ on. elim ((put.roots z x).0 on) [
      | inl was ↦ inl was
      | inr (inl slot) ↦ inr (inl slot)
      | inr (inr t) ↦ inr (inr ((among_seen h zones (length h.shape.states) z x).0 t))
    ]),
    λ o. (put.roots z x).1 (elim o [
      | inl was ↦ inl was
      | inr (inl slot) ↦ inr (inl slot)
      | inr (inr t) ↦ inr (inr ((among_seen h zones (length h.shape.states) z x).1 t))
    ]),
  );
  few = put.few;
}

module _ (h : HeapState) (zones : ZoneSet) (b : HeapState) (put : Buffers h zones b) (s : Piles) where
  -- and what is pending stays so
  gathered_pending : pending b s ≡ pending h s
  gathered_pending = ap (λ (x : HeapState). pending x s) put.rest

  pub ready_seen : IsReady (without_delayed b) (pending h s) → IsReady (without_delayed b) (pending b s)
  ready_seen ready = subst (λ (p : Piles). IsReady (without_delayed b) p) (sym gathered_pending) ready

  pub registers_seen : (P : Place → Type 0) (k : HeapState) (q : Piles)
      → Marks P zones (without_delayed b) (pending b s) k q → Marks P zones (without_delayed b) (pending h s) k q
  registers_seen P k q m = subst (λ (p : Piles). Marks P zones (without_delayed b) p k q) gathered_pending m

-- marking of these zones is to begin, and their gray roots were buffered
pub record AreBuffered (c : CollectorState) (zones : ZoneSet) (b : HeapState) : Type 0 where
  pub starting : IsStarting c zones
  pub put : Buffers c.heap zones b

-- then the cells of registers were marked
pub record AreRegistersMarked (c : CollectorState) (zones : ZoneSet) (k : HeapState) (q : Piles) : Type 0 where
  pub before : HeapState
  pub buffered : AreBuffered c zones before
  pub marks : Marks (λ x. Contains before.shape.regs (Some x)) zones before c.stack k q

-- then the targets of black wrappers
pub record AreRootsMarked (c : CollectorState) (zones : ZoneSet) (l : HeapState) (r : Piles) : Type 0 where
  pub between : HeapState
  pub stack : Piles
  pub registers : AreRegistersMarked c zones between stack
  pub marks : Marks (IsTargetAmong between zones (length between.shape.states)) zones between stack l r

module _ (c : CollectorState) (zones : ZoneSet) (b : HeapState) (at : AreBuffered c zones b) where
  same_shape : b.shape ≡ c.heap.shape
  same_shape = ap (λ (x : HeapState). x.shape) at.put.rest

  -- registers hold present cells, as before
  pub held_begun : (x : Place) → Contains b.shape.regs (Some x) → IsPresent b.shape x
  held_begun x = subst (λ (s : Shape). Contains s.regs (Some x) → IsPresent s x) (sym same_shape)
      (at.starting.preparing.represents.placed.lies.shown.registers_held x)

  pub ready_begun : IsReady b c.stack
  ready_begun = subst (λ (x : HeapState). IsReady x c.stack) (sym at.put.rest)
      (ready_gathered c zones at.starting b.buffers)

module _ (c : CollectorState) (zones : ZoneSet) (k : HeapState) (q : Piles) (at : AreRegistersMarked c zones k q) where
  pub ready_marked : IsReady k q
  ready_marked = ready_still (λ x. Contains at.before.shape.regs (Some x)) zones at.before c.stack k q
      (ready_begun c zones at.before at.buffered) at.marks

  first_shape : k.shape ≡ c.heap.shape
  first_shape = shape_still (λ x. Contains at.before.shape.regs (Some x)) zones at.before c.stack k q at.marks
      ∙ same_shape c zones at.before at.buffered

  pub wrappers_marked : AreWrappers k.shape
  wrappers_marked = subst AreWrappers (sym first_shape) (wrappers_of c zones at.buffered.starting)

module _ (c : CollectorState) (zones : ZoneSet) (l : HeapState) (r : Piles) (at : AreRootsMarked c zones l r) where
  abbrev begins_at : IsStarting c zones
  begins_at = at.registers.buffered.starting

  last_shape : l.shape ≡ c.heap.shape
  last_shape = shape_still (IsTargetAmong at.between zones (length at.between.shape.states)) zones at.between at.stack
      l r at.marks
      ∙ first_shape c zones at.between at.stack at.registers

  -- the zones are made, as they were
  pub made_marked : (z : ℕ) → HasZone zones.bits z → z < length l.shape.states
  made_marked z has = subst (λ (s : Shape). z < length s.states) (sym last_shape)
      ((phase_of c begins_at.flown begins_at.world zones begins_at.preparing).made z has)

  begun_marking : (k2 : HeapState) → Advances l zones.bits k2 → BeginsMarking c.heap zones k2 r c.lists
  begun_marking k2 on =
      let put = at.registers.buffered.put in
      let regs = at.registers.marks in
      subst (λ (x : HeapState). BeginsMarking c.heap zones x r c.lists) (sym on.rest)
      (begins c zones begins_at at.registers.before.buffers at.between at.stack
      (subst (λ (x : HeapState). Marks (λ y. Contains x.shape.regs (Some y)) zones x c.stack at.between at.stack)
      put.rest regs)
      l r at.marks put.roots put.few k2.shape.states on.sized on.gone_on on.others)

  -- marking of the collection has begun
  module _ (edges : Noted) (fresh : AreEdgesNone zones edges) (k2 : HeapState) (on : Advances l zones.bits k2) where
    abbrev started : CollectorState
    started = record c {
      heap = k2;
      stack = r;
      edges = edges;
      run = Some (run_begun zones);
    }

    -- in each world that the collector stood for, and what is to come is within the bound on units
    pub starts_marking : (start : IsAtStart c) → start.run.zones ≡ zones
        → ((z : ℕ) → bit_at zones.bits z ≡ 1 → z < 64) → AreEntries c.heap.shape.weak
        → AreApart c.heap.shape.wrappers.lists → (flown : ℕ → Option Bits) → IsSound c flown
        → StartsMarking c flown zones started
    starts_marking start zones_are small sound apart flown known = record {
      begins = λ w ok rep.
          (let starts = starts_world c started flown w zones (starting_in c zones start zones_are flown w rep) ok
          (begun_marking k2 on) refl fresh in
          (starts.after, starts.begins, starts.valid, going starts.represents));
      within = record {
        cleared = start_to_come c flown known start;
        within = λ w p ok rep is. within_begun c started flown w p zones
            (starting_in c zones start zones_are flown w rep) ok is (begun_marking k2 on) small sound apart fresh.are
            refl;
      };
      left = less_left flown known;
      run_is = refl;
      made = (begun_marking k2 on).made_is;
      ledger = (begun_marking k2 on).ledger_is;
      weak = ap (λ (s : Shape). s.weak) (begun_marking k2 on).shape_is;
    }
      where
        less_left : (flown : ℕ → Option Bits) → IsSound c flown → units_left started flown < units_left c flown
        less_left flown known =
            let preparing = starting_in c zones start zones_are flown known.world known.represents in
            let phase = phase_of c flown known.world zones preparing in
            let less = less_begun c started flown known.world phase.preparation zones preparing known.valid
            phase.preparing_is (begun_marking k2 on) small sound apart fresh.are refl in
            let left = ap (marking_left c.heap.shape) start.run_is
            ∙ ap (starting_left c.heap.shape) start.clearing in
            omega (arith, less, left)

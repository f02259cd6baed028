-- A collection is given up: the collector stands for the world in which what it stopped is black, and what that
-- reaches.
use Rattle.std.proofs.Common.{◌≡◌, ◌⊎◌, ◌↔◌, ◌<◌, ◌≤◌, ◌*◌, ◌^◌, ◌∷◌, ℕ, Bool, true, false, List, [], Contains}
use Rattle.std.proofs.Common.{if◌then◌else◌, map, Option, Some, None, IsSome, IsSomeAnd, is_some, length, replicate}
use Rattle.std.proofs.Common.{slice_get, inl, inr, refl, sym}
use Rattle.std.proofs.Common.{ap, subst, ◌∙◌, arith}
use Rattle.gz_names.specs.Zones.{HasZone, zones_in}
use Rattle.gz_names.specs.declared.names.Name.{Name}
use Rattle.gz_names.specs.declared.numbers.Place.{Place}
use Rattle.gz_names.specs.declared.replies.Report.TheVariants as report
use Rattle.gz_names.specs.declared.zone_sets.ZoneSet.{ZoneSet}
use Rattle.zones.specs.States.{IsMarking}
use Rattle.zones.specs.declared.states.State.{State}
use Rattle.zones.specs.declared.states.State.TheVariants as state
use Rattle.cell_bits.specs.declared.bits.Bits.{Bits}
use Rattle.mark_stack.specs.Stack.{Piles, no_places}
use Rattle.gray_lists.specs.Incoming.{Incoming, IsOnce, list_of}
use Rattle.roots.specs.Buffers.{buffer_at}
use Rattle.weak_maps.specs.declared.colours.MarkColour.TheVariants as mark
use Rattle.colour_defs.specs.Closure.{Closure}
use Rattle.colour_defs.specs.Graph.{IsInZones}
use Rattle.colour_defs.specs.Lawful.{IsBlackSoFar, IsOver, IsRunning, IsUnfinished, Stops}
use Rattle.colour_defs.specs.Laws.{IsValid}
use Rattle.colour_defs.specs.World.{Collection, Has, Preparation, World, BlackClosure, marking_of}
use Rattle.colour_defs.specs.World.{IsPresent as IsPresentName}
use Rattle.colour_defs.proofs.Lists.{contains_head, nothing_in_none}
use Rattle.colour_defs.proofs.ValidReports.{reset_valid}
use Rattle.colour_defs.proofs.ZoneSets.{zones_in-has}
use Rattle.heap_core.specs.Shape.{IsDelegate, IsPresent, Shape, cell_of, is_marking}
use Rattle.heap_core.specs.Shape.{is_marking_state, is_prepare_state, is_white, name_at, out_of, state_in, state_or}
use Rattle.heap_core.specs.Shape.{zone_of}
use Rattle.heap_core.specs.Heap.{HeapState}
use Rattle.barriers.specs.Colours.{IsBlack}
use Rattle.barriers.specs.Invariant.{IsSettled, IsToFollow, MarkingInvariant}
use Rattle.barriers.specs.LeftOut.{Counts, PreparingInvariant}
use Rattle.barriers.specs.PendingBlack.{PendingBlack}
use Rattle.barriers.specs.PendingBlack as closure
use Rattle.barriers.specs.PendingLive.{GrayInvariant, buffer_of}
use Rattle.barriers.specs.Reached.{HasEntry, Reached}
use Rattle.barriers.specs.Reached as reached
use Rattle.barriers.specs.Spreading.{Blackens, Covers}
use Rattle.barriers.specs.WeakPoint.{left_of}
use Rattle.barriers.proofs.BlackClosure.{none_to_follow, pending_is_reached, reached_from}
use Rattle.barriers.proofs.BlackClosure.{settled_black}
use Rattle.barriers.proofs.Slots.{slots_most}
use Rattle.barriers.proofs.Spreading.{blackens_within}
use Rattle.barriers.proofs.StayingLeft.{none_left}
use Rattle.slice_driver.specs.Closures.{AreTied}
use Rattle.slice_driver.specs.Collector.{CollectorState, RunState, heap_with}
use Rattle.slice_driver.specs.Represents.{IsBeingSwept, IsColoured, IsIdle, IsPlaced, NothingLeft, Represents}
use Rattle.slice_driver.specs.Represents.{RepresentsMarking, RepresentsPreparing, Runs, RunsAs, going, prepared}
use Rattle.slice_driver.specs.Resets.{GivesUp}
use Rattle.slice_driver.specs.Units.{IsSound}
use Rattle.slice_driver.specs.Working.{HasGroups}
use Rattle.slice_driver.specs.Worlds.{LiesIn}
use Rattle.slice_driver.proofs.abstraction.BlackNames.{black_named, black_names, named_black}
use Rattle.slice_driver.proofs.abstraction.Named.{AreSameStarts, named_present, place_of, present_named, same_reached}
use Rattle.slice_driver.proofs.abstraction.Named.{some_one}
use Rattle.slice_driver.proofs.abstraction.Tying.{black_present}
use Rattle.slice_driver.proofs.abstraction.Waits.{none_waiting}
use Rattle.slice_driver.proofs.abstraction.WorldRuns.{none_prepared}
use Rattle.slice_driver.proofs.basics.Cells.{HasSameCells}
use Rattle.slice_driver.proofs.basics.LeftLooks.{left_marking, none_of}
use Rattle.slice_driver.proofs.basics.Rows.{rows_same}
use Rattle.slice_driver.proofs.basics.Worlds.{lies_same, swept_in}
use Rattle.slice_driver.proofs.basics.Woken.{reached_kept}
use Rattle.slice_driver.proofs.beginning.Beginning.{zones_named, zones_placed}
use Rattle.slice_driver.proofs.beginning.Starting.{no_buffer}
use Rattle.slice_driver.proofs.group_end.Cells.{none_out_listed}
use Rattle.slice_driver.proofs.group_end.GrayNames.{present_within}
use Rattle.slice_driver.proofs.group_end.Ready.{collection_of, runs_of}
use Rattle.slice_driver.proofs.grouping.Looks.{own_heap}
use Rattle.slice_driver.proofs.resetting.Stopped.{IsStopped, MayStop, black_stopped, none_black, outside}
use Rattle.slice_driver.proofs.taking_in.Laws.{over_done, some_running}
use Rattle.slice_driver.proofs.taking_in.Runs.{has_zone_or_not}

-- a collection was given up: its zones were stopped, in a heap that has nothing that waits, and black spread from there
pub record GivenUp (c : CollectorState) (zones : ZoneSet) (k : HeapState) (d : CollectorState)
    (flying : ℕ → Option Bits) : Type 0 where
  pub stopped : IsStopped c.heap zones k
  pub looks : NothingLeft k.looks
  pub buffers : k.buffers ≡ replicate 64 []
  pub made : k.made ≡ c.heap.made
  pub weak_names : k.weak_names ≡ c.heap.weak_names
  pub ledger : k.ledger ≡ c.heap.ledger
  pub grown : Blackens (Reached k.shape (IsBlack k)) k (heap_with d flying)
  pub invariant : MarkingInvariant (heap_with d flying) d.stack
  pub gray : d.stack.gray ≡ []
  pub delayed : d.heap.delayed ≡ no_places
  pub lists : d.lists ≡ record c.lists { lists = replicate 256 [] }
  pub run : d.run ≡ None
  pub covers : Covers d.heap.shape flying

-- where black starts: what was black outside of these zones, and what is in them
abbrev pub IsStart : HeapState → ZoneSet → Place → Type 0
IsStart h zones p = ((HasZone zones.bits (zone_of h.shape p) → ⊥) × IsBlack h p)
    ⊎ (HasZone zones.bits (zone_of h.shape p) × IsPresent h.shape p)

-- what counts as black by places is what does by names, and it is reached from these starts
pub record IsBlackThere (h : HeapState) (w : World) (zones : ZoneSet) (B : Place → Type 0) : Type 0 where
  pub named : (p : Place) (x : Name) → name_at h.shape p ≡ Some x → B p ↔ IsBlackSoFar w x
  pub present : (p : Place) → B p → IsPresent h.shape p
  pub names_present : (x : Name) → IsBlackSoFar w x → IsPresentName w x
  pub black : (p : Place) → (HasZone zones.bits (zone_of h.shape p) → ⊥) → IsBlack h p → B p
  pub from_starts : (p : Place) → B p → Reached h.shape (IsStart h zones) p

module _ (c : CollectorState) (flown : ℕ → Option Bits) (w : World) (zones : ZoneSet) (k : HeapState)
    (d : CollectorState) (flying : ℕ → Option Bits) (ok : IsValid w) (placed : IsPlaced c.heap w)
    (swept : IsBeingSwept c.heap.shape flown) (may : MayStop c.heap zones)
    (room : 64 * length c.heap.colours ≤ c.lists.room) (up : GivenUp c zones k d flying) where
  abbrev end : HeapState
  end = heap_with d flying

  shape_end : d.heap.shape ≡ k.shape
  shape_end = ap (λ (z : HeapState). z.shape) up.grown.rest

  shape_is : d.heap.shape ≡ record c.heap.shape { states = k.shape.states }
  shape_is = shape_end ∙ up.stopped.shape_is

  arenas_are : d.heap.shape.arenas ≡ c.heap.shape.arenas
  arenas_are = ap (λ (s : Shape). s.arenas) shape_is

  weak_is : d.heap.shape.weak ≡ c.heap.shape.weak
  weak_is = ap (λ (s : Shape). s.weak) shape_is

  same : HasSameCells c.heap d.heap
  same = record {
    cells = λ p. ap (λ (s : Shape). cell_of s p) shape_is;
    zones = λ p. ap (λ (s : Shape). zone_of s p) shape_is;
    states = ap (λ (s : Shape). length s.states) shape_end ∙ up.stopped.count;
    comps = ap (λ (s : Shape). s.comps) shape_is;
    wrappers = ap (λ (s : Shape). s.wrappers) shape_is;
    weak = weak_is;
    regs = ap (λ (s : Shape). s.regs) shape_is;
    slots = ap (λ (s : Shape). s.slots) shape_is;
    objects = ap (λ (s : Shape). s.objects) shape_is;
    made = ap (λ (z : HeapState). z.made) up.grown.rest ∙ up.made;
  }

  states : (z : ℕ) → state_in d.heap.shape z ≡ state.NoGC
  states z = ap (λ (s : Shape). state_in s z) shape_end ∙ up.stopped.states z

  off : (z : ℕ) → is_marking_state (state_in d.heap.shape z) ≡ false
  off z = ap is_marking_state (states z)

  pub none_out_after : (a : ℕ) → out_of d.heap.shape a ≡ None
  none_out_after a = ap (λ (s : Shape). out_of s a) shape_is ∙ may.none_out a

  looks_end : NothingLeft d.heap.looks
  looks_end = subst (λ l. NothingLeft l) (sym (ap (λ (z : HeapState). z.looks) up.grown.rest)) up.looks

  name_on : (p : Place) (x : Name) → name_at c.heap.shape p ≡ Some x → name_at d.heap.shape p ≡ Some x
  name_on p x named = ap (λ (s : Shape). name_at s p) shape_is ∙ named

  name_was : (p : Place) (x : Name) → name_at d.heap.shape p ≡ Some x → name_at c.heap.shape p ≡ Some x
  name_was p x named = sym (ap (λ (s : Shape). name_at s p) shape_is) ∙ named

  settled_before : IsSettled k
  settled_before = record {
    outside = outside c.heap zones k may up.stopped;
    none_left = λ m q v e left. none_left k mark.Black up.looks.1 up.looks.1 m q v e left;
  }

  abbrev Start : Place → Type 0
  Start = IsStart c.heap zones

  -- in the end black is what is reached from the starts
  black_end : (p : Place) → IsBlack end p ↔ Reached k.shape Start p
  black_end = settled_black k end d.stack Start up.invariant
      (blackens_within (Reached k.shape (IsBlack k)) (Reached k.shape Start) k end up.grown
      (λ y r. reached_from k.shape (IsBlack k) Start (λ z b. reached.from
      (black_stopped c.heap zones k may up.stopped z b))
      r))
      (λ y b. black_stopped c.heap zones k may up.stopped y b)
      (λ y s. up.grown.kept y (elim s [
        | inl out ↦ up.stopped.others y out.0 ∙ out.1
        | inr here ↦ up.stopped.black y here.0 here.1
      ]))
      settled_before

  lies : LiesIn d.heap w
  lies = lies_same c.heap d.heap w same arenas_are
      (ap (λ (z : HeapState). z.weak_names) up.grown.rest ∙ up.weak_names) placed.lies

  abbrev after : World
  after = record w { black = black_names end w.places; preparing = None; collection = None }

  module _ (B : Place → Type 0) (there : IsBlackThere c.heap w zones B) where
    abbrev ByPlace : Place → Type 0
    ByPlace p = B p ⊎ (IsPresent c.heap.shape p × HasZone zones.bits (zone_of c.heap.shape p))

    abbrev ByName : Name → Type 0
    ByName x = IsBlackSoFar w x ⊎ (IsPresentName w x × IsInZones w.graph (zones_in zones) x)

    starts : AreSameStarts d.heap w ByPlace ByName
    starts = record {
      same = λ p x e. (let was = name_was p x e in (
        λ s. elim s [
          | inl b ↦ inl ((there.named p x was).0 b)
          | inr here ↦ inr
              (present_named d.heap w lies p x e, zones_named c.heap w placed.lies zones p x was here.1)
        ],
        λ s. elim s [
          | inl b ↦ inl ((there.named p x was).1 b)
          | inr here ↦ inr
              (named_present c.heap.shape p x was, zones_placed c.heap w placed.lies zones p x was here.1)
        ],
      ));
      placed = λ p s. subst (λ (t : Shape). IsPresent t p) (sym shape_is)
          (elim s [ inl b ↦ there.present p b | inr here ↦ here.0 ]);
      named = λ x s. elim s [ inl b ↦ there.names_present x b | inr here ↦ here.0 ];
    }

    -- reached by the one starts is reached by the others
    reached_on : (p : Place) → Reached k.shape Start p → Reached d.heap.shape ByPlace p
    reached_on p r = subst (λ (s : Shape). Reached s ByPlace p) (sym shape_end)
        (reached_from k.shape Start ByPlace (λ y s. reached.from (elim s [
          | inl out ↦ inl (there.black y out.0 out.1)
          | inr here ↦ inr (here.1, here.0)
        ])) r)

    reached_back : (p : Place) → Reached d.heap.shape ByPlace p → Reached k.shape Start p
    reached_back p r = reached_from k.shape ByPlace Start (λ y s. elim s [
      | inl b ↦ reached_kept c.heap.shape k.shape Start (ap (λ (s : Shape). s.arenas) up.stopped.shape_is)
          (ap (λ (s : Shape). s.weak) up.stopped.shape_is) (there.from_starts y b)
      | inr here ↦ reached.from (inr (here.1, here.0))
    ]) (subst (λ (s : Shape). Reached s ByPlace p) shape_end r)

    pub black_are : (x : Name) → Has after.black x ↔ (Closure w.graph ByName x × IsPresentName w x)
    black_are x = (
      λ has. (
          let at = black_named end w.places x has in
          let named = name_on at.0 x ((placed.lies.places_are x at.0).0 at.1) in (
            (same_reached d.heap w lies ByPlace ByName starts at.0 x named).0
                (reached_on at.0 ((black_end at.0).0 at.2)),
            ap is_some at.1,
          )),
      λ both. (
          let at = place_of d.heap w lies x both.1 in
          named_black end w.places x at.0 ((placed.lies.places_are x at.0).1 (name_was at.0 x at.1))
          ((black_end at.0).1 (reached_back at.0
          ((same_reached d.heap w lies ByPlace ByName starts at.0 x at.1).1 both.0)))),
    )

    module _ (running : IsRunning w) (not_over : IsOver w → ⊥)
        (zones_are : (z : ℕ) → Contains (zones_in zones) z ↔ IsUnfinished w z) where
      pub stops : Stops w (zones_in zones) after
      stops = record {
        running = running;
        none_out = placed.lies.out_is ∙ none_out_listed c.heap.shape may.none_out;
        not_over = not_over;
        zones_are = zones_are;
        world_is = refl;
        black_are = black_are;
      }

      pub valid_after : IsValid after
      valid_after = reset_valid w (report.Stopped zones ∷ []) after ok (record {
        running = running;
        sweeps = [];
        after = w;
        swept = refl;
        final = report.Stopped zones;
        ends = stops;
        reports_are = refl;
      })

  nothing_buffered : (z : ℕ) → buffer_of end z ≡ []
  nothing_buffered z = ap (λ bs. buffer_at bs z) (ap (λ (h : HeapState). h.buffers) up.grown.rest ∙ up.buffers)
      ∙ no_buffer 64 z

  none_listed : (n : ℕ) → list_of d.lists n ≡ []
  none_listed n = ap (λ (l : Incoming). list_of l n) up.lists ∙ no_buffer 256 n

  no_list : (n : ℕ) (p : Place) → Contains (list_of d.lists n) p → ⊥
  no_list n p has = nothing_in_none p (subst (λ xs. Contains xs p) (none_listed n) has)

  no_gray : (p : Place) → Contains d.stack.gray p → ⊥
  no_gray p has = nothing_in_none p (subst (λ xs. Contains xs p) up.gray has)

  gray_after : GrayInvariant end d.stack d.lists
  gray_after = record {
    buffered_seen = λ z p has. absurd (nothing_in_none p (subst (λ xs. Contains xs p) (nothing_buffered z) has));
    buffered_present = λ z p has. absurd (nothing_in_none p (subst (λ xs. Contains xs p) (nothing_buffered z) has));
    incoming_seen = λ n p has. absurd (no_list n p has);
    closed = λ p q g edge. inl (up.invariant.holds.colours.no_white q
        (up.invariant.holds.colours.shape.targets p q edge) (off (zone_of d.heap.shape q)));
    apart = λ n p has i. no_gray p has;
    lists_apart = record {
      once = λ n. subst IsOnce (sym (none_listed n)) tt;
      one_list = λ n m p i j. absurd (no_list n p i);
    };
    few = omega (
      arith,
      none_waiting d.lists none_listed,
      ap (λ (xs : List Place). length xs) up.gray,
      slots_most is_white end.colours,
    );
    room =
        (let long = up.grown.sized in
        let old = up.stopped.sized in
        let same_room = ap (λ (l : Incoming). l.room) up.lists in
        omega (arith, long, old, same_room, room));
  }

  lies_after : (u : World) → LiesIn d.heap u → LiesIn d.heap (record u {
    black = black_names end w.places;
    preparing = None;
    collection = None;
  })
  lies_after u l = record {
    whole = l.whole;
    graph = l.graph;
    shown = l.shown;
    part = record { well_formed = l.part.well_formed; part = l.part.part; here = l.part.here };
    places_are = l.places_are;
    owner_is = l.owner_is;
    weak_are = l.weak_are;
    out_is = l.out_is;
    white_are = l.white_are;
  }

  idle_after : IsIdle d
  idle_after = record {
    states = states;
    kept = none_out_after;
    black = none_black end d.stack up.invariant.holds.piles (λ x. off (zone_of d.heap.shape x));
    gray = up.gray;
  }

  pub represents_after : RepresentsMarking d flying after
  represents_after = record {
    placed = record {
      delayed = up.delayed;
      lies = lies_after w lies;
      homes = rows_same c.heap.shape d.heap.shape weak_is arenas_are placed.homes;
    };
    swept = swept_in c.heap.shape d.heap.shape flown flying arenas_are (record {
      covers = up.covers;
      woken = λ a old new is at. absurd (let none = none_out_after a in cc (none, is));
    }) swept;
    coloured = record {
      marks = up.invariant;
      gray = gray_after;
      waits = record {
        piled = λ p has. absurd (no_gray p has);
        buffered = λ z no. nothing_buffered z;
        incoming = λ n p has. absurd (no_list n p has);
        looks = λ none. looks_end;
        of_marking = none_of d.heap.shape d.heap.looks looks_end;
      };
    };
    phase = record {
      calm = refl;
      black = λ settled x p named. (
        λ has. (
            let at = black_named end w.places x has in
            let here = (placed.lies.places_are x p).1 (name_was p x named) in
            let same_place : at.0 ≡ p = some_one _ _ (sym at.1 ∙ here) in
            subst (λ q. IsBlack end q) same_place at.2),
        λ b. named_black end w.places x p ((placed.lies.places_are x p).1 (name_was p x named)) b,
      );
      runs = subst (λ r. RunsAs end d after r None) (sym up.run) idle_after;
    };
  }

-- the zones that are stopped: exactly those that are being prepared or marking
abbrev pub AreStopping : Shape → ZoneSet → Type 0
AreStopping s zones = (z : ℕ) → HasZone zones.bits z
    ↔ (IsSomeAnd (slice_get s.states z) IsMarking ⊎ (slice_get s.states z ≡ Some state.Prepare))

-- the others are neither
pub stopped_off : (s : Shape) (zones : ZoneSet) → AreStopping s zones → (z : ℕ) → (HasZone zones.bits z → ⊥)
    → (is_marking_state (state_in s z) ≡ false) × (is_prepare_state (state_in s z) ≡ false)
stopped_off s zones are z out = go (slice_get s.states z) refl
  where
    neither : (o : Option State) → slice_get s.states z ≡ o → is_marking_state (state_or o) ≡ false
        → is_prepare_state (state_or o) ≡ false
        → (is_marking_state (state_in s z) ≡ false) × (is_prepare_state (state_in s z) ≡ false)
    neither o at none unprepared = (
      ap (λ o. is_marking_state (state_or o)) at ∙ none,
      ap (λ o. is_prepare_state (state_or o)) at ∙ unprepared,
    )

    marks : (t : State) → slice_get s.states z ≡ Some t → IsMarking t → ⊥
    marks t at on = out ((are z).1 (inl (subst (λ (o : Option State). IsSomeAnd o IsMarking) (sym at) on)))

    by : (t : State) → slice_get s.states z ≡ Some t
        → (is_marking_state (state_in s z) ≡ false) × (is_prepare_state (state_in s z) ≡ false)
    by state.NoGC at = neither (Some state.NoGC) at refl refl
    by state.Prepare at = absurd (out ((are z).1 (inr at)))
    by state.MarkBlackOnly at = absurd (marks state.MarkBlackOnly at (inl refl))
    by state.MarkBlackAndGray at = absurd (marks state.MarkBlackAndGray at (inr refl))
    by state.Sweep at = neither (Some state.Sweep) at refl refl
    by state.Finished at = neither (Some state.Finished) at refl refl

    go : (o : Option State) → slice_get s.states z ≡ o
        → (is_marking_state (state_in s z) ≡ false) × (is_prepare_state (state_in s z) ≡ false)
    go None at = neither None at refl refl
    go (Some t) at = by t at

pub stopped_on : (s : Shape) (zones : ZoneSet) → AreStopping s zones → (z : ℕ) → HasZone zones.bits z
    → (is_marking_state (state_in s z) ≡ true) ⊎ (state_in s z ≡ state.Prepare)
stopped_on s zones are z has = elim ((are z).0 has) [
  | inl on ↦ inl (go (slice_get s.states z) on)
  | inr prepare ↦ inr (ap state_or prepare)
]
  where
    go : (o : Option State) → IsSomeAnd o IsMarking → is_marking_state (state_or o) ≡ true
    go None on = absurd on
    go (Some t) (inl only) = ap is_marking_state only
    go (Some t) (inr both) = ap is_marking_state both

pub marking_stopped : (s : Shape) (zones : ZoneSet) → AreStopping s zones → (z : ℕ)
    → is_marking_state (state_in s z) ≡ true → HasZone zones.bits z
marking_stopped s zones are z on = elim (has_zone_or_not zones.bits z) [
  | inl has ↦ has
  | inr out ↦ absurd (let none = (stopped_off s zones are z out).0 in cc (on, none))
]

pub prepared_stopped : (s : Shape) (zones : ZoneSet) → AreStopping s zones → (z : ℕ)
    → state_in s z ≡ state.Prepare → HasZone zones.bits z
prepared_stopped s zones are z is = elim (has_zone_or_not zones.bits z) [
  | inl has ↦ has
  | inr out ↦ absurd (let none = (stopped_off s zones are z out).1 in let on = ap is_prepare_state is in cc (on, none))
]

some_in : {X : Type 0} (xs : List X) → (xs ≡ [] → ⊥) → (x : X) × Contains xs x
some_in [] none = absurd (none refl)
some_in (x ∷ xs) none = (x, contains_head x xs)

-- while marking goes on
module _ (c : CollectorState) (flown : ℕ → Option Bits) (w : World) (zones : ZoneSet) (ok : IsValid w)
    (rep : RepresentsMarking c flown w) (kept : (a : ℕ) → out_of c.heap.shape a ≡ None)
    (small : zones.bits < 2 ^ 64) (are : AreStopping c.heap.shape zones) where
  coloured : IsColoured c.heap c.stack c.lists
  coloured = subst (λ h. IsColoured h c.stack c.lists) (own_heap c flown w rep kept) rep.coloured

  inv : MarkingInvariant c.heap c.stack
  inv = coloured.marks

  abbrev Outside : Place → Type 0
  Outside x = HasZone zones.bits (zone_of c.heap.shape x) → ⊥

  off_out : (x : Place) → Outside x → is_marking c.heap.shape x ≡ false
  off_out x out = (stopped_off c.heap.shape zones are (zone_of c.heap.shape x) out).0

  like : (x y : Place) → zone_of c.heap.shape x ≡ zone_of c.heap.shape y → Outside y → Outside x
  like x y same out has = out (subst (λ z. HasZone zones.bits z) same has)

  no_look : (m k v d : Place) → Outside k → Outside d → HasEntry c.heap.shape m k v → IsDelegate c.heap.shape k d
      → left_of c.heap mark.Black m k → ⊥
  no_look m k v d out outer e is left =
      let same = inv.holds.colours.shape.one_zone m k v e in
      elim (left_marking c.heap mark.Black m k v coloured.waits.of_marking e left) [
        | inl on ↦ (let none = off_out m (like m k (same.0 ∙ sym same.1) out) in cc (on, none))
        | inr (inl on) ↦ (let none = off_out k out in cc (on, none))
        | inr (inr row) ↦
            let known = (inv.holds.colours.shape.delegates m k v d e).0 is in
            let one : row.0 ≡ d = some_one _ _ (sym row.1 ∙ known) in
            let on = ap (λ p. is_marking c.heap.shape p) (sym one) ∙ row.2 in
            let none = off_out d outer in
            cc (on, none)
      ]

  pub may_stop_marking : MayStop c.heap zones
  may_stop_marking = record {
    small = small;
    shape = inv.holds.colours.shape;
    sized = inv.holds.colours.sized;
    whole = λ p there. (present_within c.heap.shape p rep.placed.lies.whole there).1;
    none_out = kept;
    regs_held = rep.placed.lies.shown.registers_held;
    seen_present = inv.holds.colours.seen_present;
    seen = λ x out there. inv.holds.colours.no_white x there (off_out x out);
    regs_black = λ x out has. inv.holds.colours.regs_black x has;
    closed = λ x y out outer b e. elim (inv.holds.closed x y b e) [
      | inl by ↦ by
      | inr f ↦ absurd (none_to_follow c.heap c.stack x inv (off_out x out) f)
    ];
    weak_closed = λ m k v out e bm bk.
        let same = inv.holds.colours.shape.one_zone m k v e in
        elim (inv.holds.weak_closed m k v e bm bk (off_out v out)) [
          | inl bv ↦ bv
          | inr (inl f) ↦ absurd (none_to_follow c.heap c.stack m inv (off_out m (like m v same.0 out)) f)
          | inr (inr f) ↦ absurd (none_to_follow c.heap c.stack k inv (off_out k (like k v same.1 out)) f)
        ];
    key_closed = λ m k v d out outer e is bm bd.
        let same = inv.holds.colours.shape.one_zone m k v e in
        elim (inv.holds.key_closed m k v d e is bm bd) [
          | inl bk ↦ bk
          | inr (inl f) ↦ absurd (none_to_follow c.heap c.stack m inv
              (off_out m (like m k (same.0 ∙ sym same.1) out)) f)
          | inr (inr (inl f)) ↦ absurd (none_to_follow c.heap c.stack d inv (off_out d outer) f)
          | inr (inr (inr left)) ↦ absurd (no_look m k v d out outer e is left)
        ];
  }

  pub room_marking : 64 * length c.heap.colours ≤ c.lists.room
  room_marking = coloured.gray.room

  module _ (running : IsSome c.run) (groups : HasGroups c) where
    run_there : (r : RunState) × (c.run ≡ Some r)
    run_there = go c.run refl running
      where
        go : (o : Option RunState) → c.run ≡ o → is_some o ≡ true → (r : RunState) × (c.run ≡ Some r)
        go None e some = absurd (cc some)
        go (Some r) e some = (r, e)

    collection_there : (k : Collection) × (w.collection ≡ Some k)
    collection_there = collection_of c (heap_with c flown) w run_there.0 run_there.1 rep.phase.runs

    abbrev col : Collection
    col = collection_there.0

    runs : Runs (heap_with c flown) c w run_there.0 col
    runs = runs_of c (heap_with c flown) w run_there.0 col run_there.1 collection_there.1 rep.phase.runs

    -- some zone is marking
    some_marking : (z : ℕ) × Contains col.marking z
    some_marking = by run_there.0.formed refl
      where
        formed : (gs : List ZoneSet) → c.groups ≡ gs → col.groups ≡ Some (map zones_in c.groups)
            → (gs ≡ [] → ⊥) → (z : ℕ) × Contains col.marking z
        formed [] e is none = absurd (none refl)
        formed (g ∷ gs) e is none =
            let valid = ok.groups col (map zones_in c.groups) collection_there.1 is in
            let first : Contains (map zones_in c.groups) (zones_in g) =
            subst (λ (hs : List ZoneSet). Contains (map zones_in hs) (zones_in g)) (sym e)
            (contains_head (zones_in g) (map zones_in gs)) in
            let z = some_in (zones_in g) (valid.full (zones_in g) first) in
            (z.0, valid.marked (zones_in g) z.0 first z.1)

        by : (b : Bool) → run_there.0.formed ≡ b → (z : ℕ) × Contains col.marking z
        by true e = formed c.groups refl
            (runs.groups_are ∙ ap (λ (b : Bool). if b then Some (map zones_in c.groups) else None) e)
            (λ none. groups.more (run_there.0, run_there.1, e) kept none)
        by false e =
            let none = runs.groups_are ∙ ap (λ (b : Bool). if b then Some (map zones_in c.groups) else None) e in
            let valid = ok.ungrouped col collection_there.1 none in
            let z = some_in col.zones valid.some in
            (z.0, valid.all z.0 z.1)

    tied : AreTied c.heap c.stack c.lists w col
    tied = subst (λ h. AreTied h c.stack c.lists w col) (own_heap c flown w rep kept)
        (runs.tied some_marking.0 some_marking.1)

    pub black_marking : IsBlackThere c.heap w zones (PendingBlack c.heap c.stack)
    black_marking = record {
      named = λ p x e. (
        λ l. inl (col, collection_there.1, (tied.black x p e).0 l, present_named c.heap w rep.placed.lies p x e),
        λ b. elim b [
          | inl s ↦ (tied.black x p e).1
              (subst (λ (q : Collection). BlackClosure q x) (some_one _ _ (sym s.1 ∙ collection_there.1)) s.2)
          | inr s ↦ absurd (let calm = rep.phase.calm in let is = s.1 in cc (calm, is))
        ],
      );
      present = λ p l. black_present c.heap c.stack inv p l;
      names_present = λ x b. elim b [
        | inl s ↦ s.3
        | inr s ↦ absurd (let calm = rep.phase.calm in let is = s.1 in cc (calm, is))
      ];
      black = λ p out b. closure.black b;
      from_starts = λ p l. reached_from c.heap.shape (IsBlack c.heap) (IsStart c.heap zones)
          (λ y b. reached.from (elim (has_zone_or_not zones.bits (zone_of c.heap.shape y)) [
            | inl has ↦ inr (has, inv.holds.colours.seen_present y (inr b))
            | inr out ↦ inl (out, b)
          ])) (pending_is_reached c.heap c.stack inv l);
    }

    pub zones_marking : (z : ℕ) → Contains (zones_in zones) z ↔ IsUnfinished w z
    zones_marking z = (
      λ has. elim (stopped_on c.heap.shape zones are z ((zones_in-has zones z).0 has)) [
        | inl on ↦ inl (subst (λ (o : Option Collection). Contains (marking_of o) z) (sym collection_there.1)
            ((runs.marking_are z).1 on))
        | inr is ↦ absurd (let none = none_prepared c flown w rep z in let on = ap is_prepare_state is in
            cc (on, none))
      ],
      λ u. elim u [
        | inl m ↦ (zones_in-has zones z).1 (marking_stopped c.heap.shape zones are z ((runs.marking_are z).0
            (subst (λ (o : Option Collection). Contains (marking_of o) z) collection_there.1 m)))
        | inr p ↦ absurd (let calm = rep.phase.calm in let is = p.1 in cc (calm, is))
      ],
    )

    pub not_over_marking : IsOver w → ⊥
    not_over_marking over = (let o = over_done c flown w rep over in
        groups.more (o.run, o.running, o.formed) o.kept o.none_left)

-- while the collection is being prepared
module _ (c : CollectorState) (flown : ℕ → Option Bits) (w : World) (zones : ZoneSet) (ok : IsValid w)
    (rep : RepresentsPreparing c flown w) (small : zones.bits < 2 ^ 64) (are : AreStopping c.heap.shape zones) where
  prep : PreparingInvariant c.heap c.stack
  prep = rep.cleared.invariant

  counts_out : (x : Place) → (HasZone zones.bits (zone_of c.heap.shape x) → ⊥) → Counts c.heap.shape x
  counts_out x out = (stopped_off c.heap.shape zones are (zone_of c.heap.shape x) out).1

  none_follows : (x : Place) → IsToFollow [] c.stack x → ⊥
  none_follows x (inl has) = nothing_in_none x (subst (λ (q : Piles). Contains q.black x) prep.empty has)
  none_follows x (inr (inl has)) = nothing_in_none x (subst (λ (q : Piles). Contains q.wake x) prep.empty has)
  none_follows x (inr (inr has)) = nothing_in_none x has

  -- the zones that are stopped are those of the collection
  zone_prepared : (z : ℕ) → HasZone zones.bits z → HasZone rep.run.zones.bits z
  zone_prepared z has = elim (has_zone_or_not rep.run.zones.bits z) [
    | inl own ↦ own
    | inr out ↦ absurd (let none = rep.phase.outside z out in elim (stopped_on c.heap.shape zones are z has) [
      | inl on ↦ (let marks = ap is_marking_state none in cc (on, marks))
      | inr is ↦ cc (is, none)
    ])
  ]

  prepared_zone : (z : ℕ) → HasZone rep.run.zones.bits z → HasZone zones.bits z
  prepared_zone z own = prepared_stopped c.heap.shape zones are z (rep.phase.inside z own)

  pub may_stop_preparing : MayStop c.heap zones
  may_stop_preparing = record {
    small = small;
    shape = prep.holds.colours.shape;
    sized = prep.holds.colours.sized;
    whole = λ p there. (present_within c.heap.shape p rep.placed.lies.whole there).1;
    none_out = rep.none_out;
    regs_held = rep.placed.lies.shown.registers_held;
    seen_present = prep.holds.colours.seen_present;
    seen = λ x out there. prep.holds.colours.seen x there (counts_out x out);
    regs_black = λ x out has. prep.holds.colours.regs_black x has (counts_out x out);
    closed = λ x y out outer b e. elim (prep.holds.closed x y (counts_out x out) b e (counts_out y outer)) [
      | inl by ↦ by
      | inr f ↦ absurd (none_follows x f)
    ];
    weak_closed = λ m k v out e bm bk. elim (prep.holds.weak_closed m k v e (counts_out v out) bm bk) [
      | inl bv ↦ bv
      | inr (inl f) ↦ absurd (none_follows m f)
      | inr (inr f) ↦ absurd (none_follows k f)
    ];
    key_closed = λ m k v d out outer e is bm bd.
        elim (prep.holds.key_closed m k v d e is (counts_out k out) (counts_out d outer) bm bd) [
          | inl bk ↦ bk
          | inr (inl f) ↦ absurd (none_follows m f)
          | inr (inr f) ↦ absurd (none_follows d f)
        ];
  }

  pub room_preparing : 64 * length c.heap.colours ≤ c.lists.room
  room_preparing = rep.cleared.room

  none_collected : (x : Name) → (k : Collection) → w.collection ≡ Some k → ⊥
  none_collected x k is = (let none = rep.phase.none_running in cc (none, is))

  -- a black name is of no zone that is prepared
  black_out : (p : Place) (x : Name) → name_at c.heap.shape p ≡ Some x → Has w.black x
      → HasZone zones.bits (zone_of c.heap.shape p) → ⊥
  black_out p x e has within =
      ((ok.preparing rep.phase.preparation rep.phase.preparing_is).left_out x has).1
      (subst (λ zs. IsInZones w.graph zs x) (sym rep.phase.zones_are)
      (zones_named c.heap w rep.placed.lies rep.run.zones p x e (zone_prepared (zone_of c.heap.shape p) within)))

  pub black_preparing : IsBlackThere c.heap w zones
      (λ p. (HasZone zones.bits (zone_of c.heap.shape p) → ⊥) × IsBlack c.heap p)
  black_preparing = record {
    named = λ p x e. (
      λ b. inr (rep.phase.preparation, rep.phase.preparing_is, (rep.phase.black x p e (counts_out p b.0)).1 b.1),
      λ b. elim b [
        | inl s ↦ absurd (none_collected x s.0 s.1)
        | inr s ↦ (let out = black_out p x e s.2 in (out, (rep.phase.black x p e (counts_out p out)).0 s.2))
      ],
    );
    present = λ p b. prep.holds.colours.seen_present p (inr b.1);
    names_present = λ x b. elim b [
      | inl s ↦ s.3
      | inr s ↦ ((ok.preparing s.0 s.1).left_out x s.2).0
    ];
    black = λ p out b. (out, b);
    from_starts = λ p b. reached.from (inl b);
  }

  pub zones_preparing : (z : ℕ) → Contains (zones_in zones) z ↔ IsUnfinished w z
  zones_preparing z = (
    λ has. inr (
      rep.phase.preparation,
      rep.phase.preparing_is,
      subst (λ zs. Contains zs z) (sym rep.phase.zones_are)
          ((zones_in-has rep.run.zones z).1 (zone_prepared z ((zones_in-has zones z).0 has))),
    ),
    λ u. elim u [
      | inl m ↦ absurd (nothing_in_none z
          (subst (λ (o : Option Collection). Contains (marking_of o) z) rep.phase.none_running m))
      | inr p ↦
          let one : p.0 ≡ rep.phase.preparation = some_one _ _ (sym p.1 ∙ rep.phase.preparing_is) in
          let of : Contains (zones_in rep.run.zones) z =
          subst (λ zs. Contains zs z) (ap (λ (q : Preparation). q.zones) one ∙ rep.phase.zones_are) p.2 in
          (zones_in-has zones z).1 (prepared_zone z ((zones_in-has rep.run.zones z).0 of))
    ],
  )

  pub not_over_preparing : IsOver w → ⊥
  not_over_preparing over = (let none = rep.phase.none_running in let is = over.running in cc (none, is))

-- what a collector's heap is before it gives its collection up
pub may_stop : (c : CollectorState) (flown : ℕ → Option Bits) (zones : ZoneSet) → IsSound c flown
    → ((a : ℕ) → out_of c.heap.shape a ≡ None) → zones.bits < 2 ^ 64 → AreStopping c.heap.shape zones
    → MayStop c.heap zones
may_stop c flown zones s kept small are = go s.represents
  where
    go : Represents c flown s.world → MayStop c.heap zones
    go (going m) = may_stop_marking c flown s.world zones s.valid m kept small are
    go (prepared p) = may_stop_preparing c flown s.world zones s.valid p small are

-- the collection was given up, in each world that the collector stood for
pub stops_in : (c : CollectorState) (flown : ℕ → Option Bits) (zones : ZoneSet) (k : HeapState) (d : CollectorState)
    (flying : ℕ → Option Bits) → IsSome c.run → HasGroups c → ((a : ℕ) → out_of c.heap.shape a ≡ None)
    → zones.bits < 2 ^ 64 → AreStopping c.heap.shape zones → GivenUp c zones k d flying
    → (w : World) → IsValid w → Represents c flown w
    → (v : World) × Stops w (zones_in zones) v × IsValid v × Represents d flying v
stops_in c flown zones k d flying running groups kept small are up w ok (going m) =
    let may = may_stop_marking c flown w zones ok m kept small are in
    let room = room_marking c flown w zones ok m kept small are in
    let there = black_marking c flown w zones ok m kept small are running groups in
    let runs = some_running c flown w running m in
    let over = not_over_marking c flown w zones ok m kept small are running groups in
    let those = zones_marking c flown w zones ok m kept small are running groups in (
      after c flown w zones k d flying ok m.placed m.swept may room up,
      stops c flown w zones k d flying ok m.placed m.swept may room up (PendingBlack c.heap c.stack) there runs over
          those,
      valid_after c flown w zones k d flying ok m.placed m.swept may room up (PendingBlack c.heap c.stack) there runs
          over those,
      going (represents_after c flown w zones k d flying ok m.placed m.swept may room up),
    )
stops_in c flown zones k d flying running groups kept small are up w ok (prepared p) =
    let may = may_stop_preparing c flown w zones ok p small are in
    let room = room_preparing c flown w zones ok p small are in
    let there = black_preparing c flown w zones ok p small are in
    let runs : IsRunning w = inr (p.phase.preparation, p.phase.preparing_is) in
    let over = not_over_preparing c flown w zones ok p small are in
    let those = zones_preparing c flown w zones ok p small are in
    let B : Place → Type 0 = λ q. (HasZone zones.bits (zone_of c.heap.shape q) → ⊥) × IsBlack c.heap q in (
      after c flown w zones k d flying ok p.placed p.swept may room up,
      stops c flown w zones k d flying ok p.placed p.swept may room up B there runs over those,
      valid_after c flown w zones k d flying ok p.placed p.swept may room up B there runs over those,
      going (represents_after c flown w zones k d flying ok p.placed p.swept may room up),
    )

pub gives_up : (c : CollectorState) (flown : ℕ → Option Bits) (zones : ZoneSet) (k : HeapState) (d : CollectorState)
    (flying : ℕ → Option Bits) → IsSound c flown → IsSome c.run → HasGroups c
    → ((a : ℕ) → out_of c.heap.shape a ≡ None) → zones.bits < 2 ^ 64 → AreStopping c.heap.shape zones
    → GivenUp c zones k d flying → GivesUp c flown zones d flying
gives_up c flown zones k d flying s running groups kept small are up =
    let in_worlds = stops_in c flown zones k d flying running groups kept small are up in
    let here = in_worlds s.world s.valid s.represents in
    let shape = ap (λ (z : HeapState). z.shape) up.grown.rest ∙ up.stopped.shape_is in
    record {
      stops = in_worlds;
      idle = up.run;
      sound = record { world = here.0; valid = here.2; represents = here.3 };
      none_out = λ a. ap (λ (t : Shape). out_of t a) shape ∙ kept a;
      made = ap (λ (z : HeapState). z.made) up.grown.rest ∙ up.made;
      ledger = ap (λ (z : HeapState). z.ledger) up.grown.rest ∙ up.ledger;
      weak = ap (λ (t : Shape). t.weak) shape;
    }

-- The beginning of a zone of the current group, and what all of them have begun.
use Rattle.std.proofs.Common.{◌≡◌, ◌≢◌, ◌<◌, ◌≤◌, ◌+◌, ◌-◌, ◌&&◌, ℕ, zero, suc, Bool, true, List, [], ◌∷◌, length}
use Rattle.std.proofs.Common.{Option}
use Rattle.std.proofs.Common.{Some, IsSomeAnd, is_some, slice_get, slice_set, length-set, inl, inr, refl, sym, ap}
use Rattle.std.proofs.Common.{subst}
use Rattle.std.proofs.Common.{◌∙◌, None, arith, if◌then◌else◌, sum_by}
use Rattle.std.proofs.lemmas.Bool.{cases_eq}
use Rattle.std.proofs.lemmas.Option.{slice_get_cases}
use Rattle.gz_names.specs.Zones.{HasZone}
use Rattle.gz_names.specs.declared.numbers.Place.{Place}
use Rattle.gz_names.specs.declared.zone_sets.ZoneSet.{ZoneSet}
use Rattle.cell_bits.specs.declared.bits.Bits.{Bits}
use Rattle.cell_bits.specs.declared.bits.Colour.{Colour}
use Rattle.cell_bits.specs.declared.bits.Colour.TheVariants as colour
use Rattle.gray_lists.proofs.Reading.{slice_get-set_same, slice_get-set_other}
use Rattle.weak_maps.specs.WeakMaps.{AreParallel, LooksState}
use Rattle.weak_maps.specs.declared.colours.MarkColour.{MarkColour}
use Rattle.marker.specs.GrayBits.{AreGraying}
use Rattle.marker.specs.UnitsToCome.{is_black_only, map_starts, scans}
use Rattle.marker.proofs.UnitsToCome.{begins_keep}
use Rattle.zones.specs.States.{next_state}
use Rattle.zones.specs.declared.states.State.{State}
use Rattle.zones.specs.declared.states.State.TheVariants as state
use Rattle.colour_defs.specs.World.{Collection}
use Rattle.heap_core.specs.Shape.{ArenaShape, Shape, is_marking, is_marking_state, name_at, state_in, state_of}
use Rattle.heap_core.specs.Shape.{state_or}
use Rattle.heap_core.specs.Shape.{zone_of}
use Rattle.heap_core.specs.Heap.{HeapState, colour_in, colour_of, joined, weak_of, with_flown}
use Rattle.barriers.specs.Colours.{IsBlack, grays_in, grays_outside, is_gray, slots_below}
use Rattle.barriers.specs.Scans.{black_scans, black_turns, gray_scans}
use Rattle.barriers.proofs.Flying.{own_colour}
use Rattle.slice_driver.specs.Collector.{CollectorState, heap_with}
use Rattle.slice_driver.specs.Left.{marking_left, starting_left}
use Rattle.slice_driver.specs.Remaining.{clearing_left, grouping_left, left_of, steps_left, steps_of}
use Rattle.slice_driver.specs.Quiet.{BeginsZone, IsFormed, IsStarted, QueuesBlackMaps}
use Rattle.slice_driver.specs.Represents.{IsCurrent, IsInGroups, Runs}
use Rattle.slice_driver.specs.Units.{IsSoundMarking}
use Rattle.slice_driver.specs.UnitsToCome.{is_wrapper_named, marking_to_come, notes, present_places, units_to_come}
use Rattle.slice_driver.specs.Working.{GoesOn, HasBegun}
use Rattle.slice_driver.proofs.measure.Fewer.{arenas_same, fewer_steps, grouped}
use Rattle.slice_driver.proofs.group_end.Ready.{collection_of, runs_of}
use Rattle.slice_driver.proofs.taking_in.GroupingLaws.{zone_unit}
use Rattle.slice_driver.proofs.abstraction.Named.{some_one}
use Rattle.slice_driver.proofs.abstraction.Phases.{started_of}
use Rattle.slice_driver.proofs.abstraction.Steps.{current_in_groups}
use Rattle.slice_driver.proofs.taking_in.Runs.{has_zone_or_not}

within_list : (xs : List State) (i : ℕ) (s : State) → slice_get xs i ≡ Some s → i < length xs
within_list [] i s e = absurd (cc e)
within_list (x ∷ xs) zero s e = omega arith
within_list (x ∷ xs) (suc i) s e = let r = within_list xs i s e in omega (arith, r)

-- the first group is the current one
pub current_is : (groups : List ZoneSet) (g : ZoneSet) (z : ℕ) → slice_get groups 0 ≡ Some g → HasZone g.bits z
    → IsCurrent groups z
current_is [] g z e h = absurd (cc e)
current_is (x ∷ xs) g z e h = subst (λ (y : ZoneSet). HasZone y.bits z) (sym (some_one x g e)) h

pub current_of : (groups : List ZoneSet) (g : ZoneSet) (z : ℕ) → slice_get groups 0 ≡ Some g → IsCurrent groups z
    → HasZone g.bits z
current_of [] g z e h = absurd h
current_of (x ∷ xs) g z e h = subst (λ (y : ZoneSet). HasZone y.bits z) (some_one x g e) h

-- where the same zones are marking, as many cells outside them are gray
grays_by_states : (s t : Shape) → ((z : ℕ) → is_marking_state (state_in t z) ≡ is_marking_state (state_in s z))
    → (arenas : List ArenaShape) (colours : List Bits) → grays_in t arenas colours ≡ grays_in s arenas colours
grays_by_states s t same [] colours = refl
grays_by_states s t same (arena ∷ arenas) [] = refl
grays_by_states s t same (arena ∷ arenas) (bits ∷ colours) =
    let rest = grays_by_states s t same arenas colours in
    let here = ap (λ (b : Bool). if b then 0 else slots_below (is_gray bits) 64) (same arena.zone) in
    omega (arith, rest, here)

-- a black cell lies in an arena that is made
black_within : (colours : List Bits) (p : Place) → colour_in (slice_get colours p.0) p.1 ≡ colour.Black
    → p.0 < length colours
black_within colours p black = elim (slice_get_cases colours p.0).1 [
  | inl some ↦ some.1
  | inr none ↦ absurd (let pale = ap (λ (o : Option Bits). colour_in o p.1) none.1 in cc (black, pale))
]

module _ (c : CollectorState) (zone : ℕ) (formed : IsFormed c) (current : IsCurrent c.groups zone)
    (found : slice_get c.heap.shape.states zone ≡ Some state.MarkBlackOnly) (looks : LooksState)
    (queued : QueuesBlackMaps c.heap zone (record c.heap { looks = looks }))
    (parallel : AreParallel (weak_of c.heap)) where
  abbrev states : List State
  states = slice_set c.heap.shape.states zone state.MarkBlackAndGray

  abbrev next : HeapState
  next = record c.heap { shape = record c.heap.shape { states = states }; looks = looks }

  abbrev d : CollectorState
  d = record c { heap = next }

  sized : length states ≡ length c.heap.shape.states
  sized = length-set c.heap.shape.states zone state.MarkBlackAndGray

  was : state_in c.heap.shape zone ≡ state.MarkBlackOnly
  was = ap state_or found

  now : state_in next.shape zone ≡ state.MarkBlackAndGray
  now = ap state_or (slice_get-set_same c.heap.shape.states zone state.MarkBlackAndGray
      (within_list c.heap.shape.states zone state.MarkBlackOnly found))

  elsewhere : (z : ℕ) → z ≢ zone → state_in next.shape z ≡ state_in c.heap.shape z
  elsewhere z ne = ap state_or (slice_get-set_other c.heap.shape.states zone z state.MarkBlackAndGray ne)

  marking_same : (z : ℕ) → is_marking_state (state_in next.shape z) ≡ is_marking_state (state_in c.heap.shape z)
  marking_same z = elim (cases_eq z zone) [
    | inl is ↦ ap is_marking_state (ap (state_in next.shape) is ∙ now)
        ∙ sym (ap is_marking_state (ap (state_in c.heap.shape) is ∙ was))
    | inr ne ↦ ap is_marking_state (elsewhere z ne)
  ]

  no_more : (z : ℕ) → steps_of (state_in next.shape z) ≤ steps_of (state_in c.heap.shape z)
  no_more z = elim (cases_eq z zone) [
    | inl is ↦ (
        let a : steps_of (state_in next.shape z) ≡ 1 = ap steps_of (ap (state_in next.shape) is ∙ now) in
        let b : steps_of (state_in c.heap.shape z) ≡ 2 = ap steps_of (ap (state_in c.heap.shape) is ∙ was) in
        omega (arith, a, b)
        )
    | inr ne ↦ (let a = ap steps_of (elsewhere z ne) in omega (arith, a))
  ]

  fewer : steps_left states < steps_left c.heap.shape.states
  fewer = fewer_steps c.heap.shape.states states zone sized no_more (
      let a : steps_of (state_in next.shape zone) ≡ 1 = ap steps_of now in
      let b : steps_of (state_in c.heap.shape zone) ≡ 2 = ap steps_of was in
      omega (arith, a, b))

  begins : BeginsZone c zone d
  begins = record {
    formed = formed;
    current = current;
    was = was;
    now = now;
    others = elsewhere;
    sized = sized;
    heap_is = refl;
    queued = record {
      left = queued.left;
      kept = queued.kept;
      sized = queued.sized;
      by_map = queued.by_map;
      by_key = queued.by_key;
      by_delegate = queued.by_delegate;
    };
    stack_is = refl;
    lists_is = refl;
    edges_is = refl;
    groups_is = refl;
    run_is = refl;
  }

  none_grouping : (s : Shape) → grouping_left s c.edges c.run ≡ 0
  none_grouping s = ap (grouping_left s c.edges) formed.1 ∙ grouped s c.edges formed.0 formed.2

  module _ (flown : ℕ → Option Bits) (s : IsSoundMarking c flown) where
    started : IsStarted c
    started = started_of c flown s.world s.represents (ap is_some formed.1)

    none_clearing : (t : Shape) → clearing_left t c.run ≡ 0
    none_clearing t = ap (clearing_left t) started.1 ∙ ap (left_of t started.0.zones) started.2

    none_starting : (t : Shape) → marking_left t c.run ≡ 0
    none_starting t = ap (marking_left t) started.1 ∙ ap (starting_left t) started.2

    abbrev before : HeapState
    before = heap_with c flown

    abbrev after : HeapState
    after = heap_with d flown

    same_scans : (x : Place) → scans after c.stack x ≡ scans before c.stack x
    same_scans x = ap (λ (b : Bool). if b then black_scans before c.stack x + gray_scans before c.stack x else 0)
        (marking_same (zone_of c.heap.shape x))

    same_notes : notes after c.stack ≡ notes before c.stack
    same_notes = λ i x. ap (λ (b : Bool). if b && is_wrapper_named (name_at c.heap.shape x)
        then gray_scans before c.stack x else 0) (marking_same (zone_of c.heap.shape x)) i

    -- a map of the zone counts no start more for its zone's going on
    starts_here : (m : Place) → zone_of c.heap.shape m ≡ zone → map_starts after c.stack m ≡ scans before c.stack m
    starts_here m here =
        let same = same_scans m in
        let off = ap (λ (b : Bool). if b then 1 - black_turns (colour_of before m) else 0)
        (ap is_black_only (ap (state_in next.shape) here ∙ now)) in
        omega (arith, same, off)

    starts_elsewhere : (m : Place) → zone_of c.heap.shape m ≢ zone
        → map_starts after c.stack m ≡ map_starts before c.stack m
    starts_elsewhere m ne =
        let same = same_scans m in
        let off = ap (λ (t : State). if is_black_only t then 1 - black_turns (colour_of before m) else 0)
        (elsewhere (zone_of c.heap.shape m) ne) in
        omega (arith, same, off)

    starts_no_more : (m : Place) → map_starts after c.stack m ≤ map_starts before c.stack m
    starts_no_more m = elim (cases_eq (zone_of c.heap.shape m) zone) [
      | inl here ↦ (let same = starts_here m here in omega (arith, same))
      | inr ne ↦ (let same = starts_elsewhere m ne in omega (arith, same))
    ]

    -- a black one counted one
    starts_fewer : (m : Place) → zone_of c.heap.shape m ≡ zone → IsBlack c.heap m
        → map_starts after c.stack m < map_starts before c.stack m
    starts_fewer m here black =
        let same = starts_here m here in
        let marking : is_marking c.heap.shape m ≡ true =
        ap is_marking_state (ap (state_in c.heap.shape) here ∙ was) in
        let kept = s.represents.coloured.marks.holds.colours.shape.kept m marking in
        let own = own_colour c.heap flown m (black_within c.heap.colours m black)
        (s.represents.swept.flies.covers m.0 ∙ ap is_some kept) in
        let one : ◌≡◌ {A = ℕ} (if is_black_only (state_of c.heap.shape m) then 1 - black_turns
        (colour_of before m) else 0) 1 =
        ap (λ (t : State). if is_black_only t then 1 - black_turns (colour_of before m) else 0)
        (ap (state_in c.heap.shape) here ∙ was)
        ∙ ap (λ (x : Colour). 1 - black_turns x) (sym own ∙ black) in
        omega (arith, same, one)

    parallel_then : AreParallel (weak_of after)
    parallel_then = (
      queued.sized ∙ parallel.0,
      ap (λ (xs : List (Option MarkColour)). length xs) queued.by_key ∙ parallel.1,
      ap (λ (xs : List (Option MarkColour)). length xs) queued.by_delegate ∙ parallel.2,
    )

    no_more_marking : marking_to_come after c.stack c.lists ≤ marking_to_come before c.stack c.lists
    no_more_marking =
        let units = begins_keep before c.stack after (present_places c.heap.shape) refl same_scans starts_no_more
        parallel
        parallel_then queued.by_key queued.by_delegate (λ n e at. elim (queued.by_map n e at) [
          | inl same ↦ inl same
          | inr (here, black) ↦ inr (starts_fewer e.map here black)
        ]) in
        let noted = ap (λ (f : Place → ℕ). sum_by f (present_places c.heap.shape)) same_notes in
        omega (arith, units, noted)

    less_to_come : (w v a b p q x y : ℕ) → w ≤ v → a < b → p ≡ 0 → q ≡ 0 → x ≡ 0 → y ≡ 0
        → w + (p + a) + x < v + (q + b) + y
    less_to_come w v a b p q x y le lt f g k l = omega (arith, le, lt, f, g, k, l)

    with_arenas : (a b x y p q : ℕ) → a < b → x ≡ y → p ≡ 0 → q ≡ 0 → a + x + p < b + y + q
    with_arenas a b x y p q lt e f g = omega (arith, lt, e, f, g)

    falls : units_to_come d flown < units_to_come c flown
    unfolding units_to_come
    falls = less_to_come _ _ _ _ _ _ _ _ no_more_marking fewer (none_grouping next.shape)
        (none_grouping c.heap.shape) (none_clearing next.shape) (none_clearing c.heap.shape)

    goes : GoesOn c flown [] d flown
    goes = record {
      done = zone_unit c d flown zone begins;
      words = λ a freed is. is;
      running = ap is_some formed.1;
      made_is = refl;
      ledger_is = refl;
      weak_is = refl;
      less = with_arenas _ _ _ _ _ _ falls
          (arenas_same c.heap.shape next.shape c.heap.shape.arenas marking_same) (none_starting next.shape)
          (none_starting c.heap.shape);
      to_come = falls;
    }

  pub zone_goes : (h : HeapState) → h ≡ next → (flown : ℕ → Option Bits) → IsSoundMarking c flown
      → GoesOn c flown [] (record c { heap = h }) flown
  zone_goes h e flown s = subst (λ (k : HeapState). GoesOn c flown [] (record c { heap = k }) flown) (sym e)
      (goes flown s)

  -- and as many cells outside marking zones are gray
  pub zone_grays : (h : HeapState) → h ≡ next → (flown : ℕ → Option Bits)
      → grays_outside (joined h flown) ≡ grays_outside (heap_with c flown)
  zone_grays h e flown = ap (λ (k : HeapState). grays_outside (joined k flown)) e
      ∙ grays_by_states c.heap.shape next.shape marking_same c.heap.shape.arenas (with_flown flown 0 c.heap.colours)

-- what a zone's advance leaves, by its state before
pub advanced_to : (h : HeapState) (zone : ℕ) (k : HeapState) → slice_get h.shape.states zone ≡ Some state.MarkBlackOnly
    → IsSomeAnd (slice_get h.shape.states zone)
    (λ s. k ≡ record h { shape = record h.shape { states = slice_set h.shape.states zone (next_state s) } })
    → k ≡ record h { shape = record h.shape { states = slice_set h.shape.states zone state.MarkBlackAndGray } }
advanced_to h zone k e ok =
    subst (λ (o : Option State).
    IsSomeAnd o (λ s. k ≡ record h {
      shape = record h.shape { states = slice_set h.shape.states zone (next_state s) };
    })) e ok

-- a state, by what is found
found_state : (o : Option State) → state_or o ≡ state.MarkBlackOnly → o ≡ Some state.MarkBlackOnly
found_state None e = absurd (cc e)
found_state (Some s) e = ap (λ (t : State). Some t) e

-- where no zone of the group waits to begin, all have
pub all_begun : (c : CollectorState) (flown : ℕ → Option Bits) → IsSoundMarking c flown → IsFormed c → (g : ZoneSet)
    → slice_get c.groups 0 ≡ Some g
    → ((z : ℕ) → HasZone g.bits z → slice_get c.heap.shape.states z ≡ Some state.MarkBlackOnly → ⊥)
    → AreGraying c.heap.shape g.bits
all_begun c flown s formed g at none z = (on, back)
  where
    runs : (k : Collection) × Runs (heap_with c flown) c s.world formed.0 k
    runs = (let k = collection_of c (heap_with c flown) s.world formed.0 formed.1 s.represents.phase.runs in
        (k.0, runs_of c (heap_with c flown) s.world formed.0 k.0 formed.1 k.1 s.represents.phase.runs))

    on : HasZone g.bits z → state_in c.heap.shape z ≡ state.MarkBlackAndGray
    on h = elim (runs.1.states.later formed.2 z (current_in_groups c.groups z (current_is c.groups g z at h))) [
      | inl only ↦ absurd (none z h (found_state _ only))
      | inr both ↦ both.1
    ]

    -- a zone that takes gray is of the group
    back : state_in c.heap.shape z ≡ state.MarkBlackAndGray → HasZone g.bits z
    back e = elim (has_zone_or_not g.bits z) [
      | inl h ↦ h
      | inr out ↦ (
          let not_in : IsInGroups c.groups z
          → ⊥ = λ i. elim (runs.1.states.later formed.2 z i) [
            | inl only ↦ cc (e, only)
            | inr both
                ↦ out (current_of c.groups g z at both.0)
          ] in
          let not_run : HasZone formed.0.zones.bits z
          → ⊥ = λ h. elim (runs.1.states.ended formed.2 z h not_in) [ inl sw ↦ cc (e, sw) | inr fin ↦ cc (e, fin) ]
          in
          absurd (let no = runs.1.states.outside z not_run in cc (e, no))
          )
    ]

-- a zone of the current group that waits to begin has not begun
pub not_begun : (c : CollectorState) (g : ZoneSet) (z : ℕ) → slice_get c.groups 0 ≡ Some g → HasZone g.bits z
    → slice_get c.heap.shape.states z ≡ Some state.MarkBlackOnly → HasBegun c → ⊥
not_begun c g z at h found begun =
    (let both = (begun g at z).0 h in let only : state_in c.heap.shape z ≡ state.MarkBlackOnly = ap state_or found in
    cc (both, only))

-- As a collection begins its zones are being prepared: the collector stands for the world in which they are.
use Rattle.std.proofs.Common.{◌≡◌, ◌↔◌, ◌<◌, ◌≤◌, ℕ, zero, suc, false, List, [], ◌∷◌, length, Option, Some, None}
use Rattle.std.proofs.Common.{Contains, inl, inr, refl, sym, ap, subst, ◌∙◌, ◌+◌, Bool, cond, arith, count_by}
use Rattle.std.proofs.Common.{◌-◌, slice_get}
use Rattle.std.proofs.lemmas.List.Sums.{sum_by-cons}
use Rattle.std.specs.Prelude.{if◌then◌else◌}
use Rattle.std.specs.Int.{bit_at}
use Rattle.gz_names.specs.Zones.{HasZone, zones_in}
use Rattle.gz_names.specs.declared.names.Name.{Name}
use Rattle.gz_names.specs.declared.numbers.Place.{Place}
use Rattle.gz_names.specs.declared.zone_sets.ZoneSet.{ZoneSet}
use Rattle.cell_bits.specs.declared.bits.Bits.{Bits}
use Rattle.cell_bits.specs.declared.bits.Colour.TheVariants as colour
use Rattle.zones.specs.States.{next_state}
use Rattle.zones.specs.declared.states.State.{State}
use Rattle.zones.specs.declared.states.State.TheVariants as state
use Rattle.mark_stack.specs.Stack.{Piles, no_places}
use Rattle.gray_lists.specs.Incoming.{list_of as waiting_for}
use Rattle.weak_maps.specs.declared.colours.MarkColour.TheVariants as mark
use Rattle.colour_defs.specs.Graph.{is_among}
use Rattle.colour_defs.specs.Laws.{IsValid}
use Rattle.colour_defs.specs.Lawful.{Prepares}
use Rattle.colour_defs.specs.World.{Has, IsIdle as IsIdleWorld, Preparation, World, first_preparation}
use Rattle.colour_defs.specs.World as worlds
use Rattle.colour_defs.proofs.Lists.{nothing_in_none}
use Rattle.colour_defs.proofs.ValidReports.{prepare_valid}
use Rattle.colour_defs.proofs.ZoneSets.{zones_in-has}
use Rattle.heap_core.specs.Shape.{ArenaShape, Shape, is_owned, is_owned_in, cell_of, is_marking, is_marking_state}
use Rattle.heap_core.specs.Shape.{is_prepare_state, name_at, out_of, state_in, zone_of}
use Rattle.heap_core.specs.Heap.{HeapState, colour_in}
use Rattle.barriers.specs.Colours.{IsBlack}
use Rattle.barriers.specs.Invariant.{MarkingInvariant}
use Rattle.barriers.specs.LeftOut.{Counts, PreparingInvariant}
use Rattle.barriers.specs.Reached.{HasEntry}
use Rattle.barriers.specs.WeakPoint.{left_of}
use Rattle.barriers.proofs.StayingLeft.{none_left}
use Rattle.slice_driver.specs.Advancing.{Advances}
use Rattle.slice_driver.specs.Closures.{AreBlack}
use Rattle.slice_driver.specs.Collector.{CollectorState, heap_with}
use Rattle.slice_driver.specs.Represents.{IsColoured, IsIdle, NothingLeft, RepresentsMarking, RepresentsPreparing}
use Rattle.slice_driver.specs.Represents.{RunsAs}
use Rattle.slice_driver.specs.Represents.{prepared}
use Rattle.slice_driver.specs.Remaining.{clearing_left, owned_from}
use Rattle.slice_driver.specs.Units.{BeginsIn, BeginsWithin, IsSound}
use Rattle.slice_driver.specs.Worlds.{LiesIn, owners_of}
use Rattle.slice_driver.proofs.abstraction.Named.{some_one}
use Rattle.slice_driver.proofs.abstraction.Waits.{none_in_it}
use Rattle.slice_driver.proofs.basics.Cells.{HasSameCells}
use Rattle.slice_driver.proofs.basics.Marks.{HasSameMarks, coloured_kept}
use Rattle.slice_driver.proofs.basics.Owners.{owner_by}
use Rattle.slice_driver.proofs.basics.Rows.{rows_same}
use Rattle.slice_driver.proofs.basics.Worlds.{lies_same, swept_same}
use Rattle.slice_driver.proofs.abstraction.Phases.{marking_of, none_idle}
use Rattle.slice_driver.proofs.beginning.Beginning.{zones_placed}
use Rattle.slice_driver.proofs.beginning.Begun.{none_runs}
use Rattle.slice_driver.proofs.beginning.BeginsIn.{prepares_in}
use Rattle.slice_driver.proofs.group_end.Cells.{listed_owners}
use Rattle.slice_driver.proofs.clearing.ToCome.{to_come_is}
use Rattle.slice_driver.proofs.grouping.Looks.{own_heap}
use Rattle.slice_driver.proofs.taking_in.Runs.{has_zone_or_not}

-- nothing is pending, where no pile holds anything
no_piles : (p : Piles) → p.black ≡ [] → p.gray ≡ [] → p.wake ≡ [] → p ≡ no_places
no_piles p black gray wake = ap (λ (xs : List Place). record p { black = xs }) black
    ∙ ap (λ (xs : List Place). record { black = []; gray = xs; wake = p.wake }) gray
    ∙ ap (λ (xs : List Place). record { black = []; gray = []; wake = xs }) wake

-- past the last arena there are no bits
pub past_white : (cs : List Bits) (a i : ℕ) → length cs ≤ a → colour_in (slice_get cs a) i ≡ colour.White
past_white [] a i le = refl
past_white (b ∷ cs) zero i le = absurd (omega (arith, le))
past_white (b ∷ cs) (suc a) i le = past_white cs a i (omega (arith, le))

-- where no zone is marking, what holds of marking holds of the colours that count
preparing_from : (h : HeapState) (p : Piles) → MarkingInvariant h p → ((x : Place) → is_marking h.shape x ≡ false)
    → ((a : ℕ) → out_of h.shape a ≡ None)
    → ((m k v : Place) → HasEntry h.shape m k v → left_of h mark.Black m k → ⊥) → p.black ≡ [] → p.gray ≡ []
    → PreparingInvariant h p
preparing_from h p inv off kept none_left black gray = record {
  holds = record {
    colours = record {
      shape = inv.holds.colours.shape;
      sized = inv.holds.colours.sized;
      none_out = kept;
      none_marking = off;
      seen_present = inv.holds.colours.seen_present;
      seen = λ x there counts. inv.holds.colours.no_white x there (off x);
      regs_black = λ x has counts. inv.holds.colours.regs_black x has;
      black = black;
      gray = gray;
      wake = λ x has. absurd (nothing_in_none x (subst (λ xs. Contains xs x) inv.none_woken has));
    };
    closed = λ x y cx b e cy. inv.holds.closed x y b e;
    weak_closed = λ m k v e cv bm bk. inv.holds.weak_closed m k v e bm bk (off v);
    key_closed = λ m k v d e is ck cd bm bd. elim (inv.holds.key_closed m k v d e is bm bd) [
      | inl b ↦ inl b
      | inr (inl m) ↦ inr (inl m)
      | inr (inr (inl d)) ↦ inr (inr d)
      | inr (inr (inr left)) ↦ absurd (none_left m k v e left)
    ];
  };
  empty = no_piles p black gray inv.none_woken;
}

-- the collector after the zones went on
abbrev pub prepared_with : CollectorState → ZoneSet → HeapState → CollectorState
prepared_with c zones k = record c {
  heap = k;
  run = Some (record {
    zones = zones;
    formed = false;
    clearing = Some (record { from = 0; end = length c.heap.shape.arenas });
  });
}

module _ (c : CollectorState) (flown : ℕ → Option Bits) (w v : World) (zones : ZoneSet) (ok : IsValid w)
    (rep : RepresentsMarking c flown w) (idle_run : c.run ≡ None) (k : HeapState) (on : Advances c.heap zones.bits k)
    (made : (z : ℕ) → HasZone zones.bits z → z < length c.heap.shape.states)
    (some : (z : ℕ) × HasZone zones.bits z) (prepares : Prepares w (zones_in zones) v) where
  idle : IsIdle c
  idle = subst (λ o. RunsAs (heap_with c flown) c w None o) prepares.idle.none_running
      (subst (λ r. RunsAs (heap_with c flown) c w r w.collection) idle_run rep.phase.runs)

  own : heap_with c flown ≡ c.heap
  own = own_heap c flown w rep idle.kept

  inside : (z : ℕ) → HasZone zones.bits z → state_in k.shape z ≡ state.Prepare
  inside z has = on.gone_on z has ∙ ap next_state (idle.states z)

  outside : (z : ℕ) → (HasZone zones.bits z → ⊥) → state_in k.shape z ≡ state.NoGC
  outside z out = on.others z out ∙ idle.states z

  state_is : (P : State → Type 0) → P state.NoGC → P state.Prepare → (z : ℕ) → P (state_in k.shape z)
  state_is P off on z = elim (has_zone_or_not zones.bits z) [
    | inl has ↦ subst P (sym (inside z has)) on
    | inr out ↦ subst P (sym (outside z out)) off
  ]

  off : (z : ℕ) → is_marking_state (state_in k.shape z) ≡ false
  off z = state_is (λ t. is_marking_state t ≡ false) refl refl z

  same_cells : HasSameCells c.heap k
  same_cells = record {
    cells = λ p. ap (λ (z : HeapState). cell_of z.shape p) on.rest;
    zones = λ p. ap (λ (z : HeapState). zone_of z.shape p) on.rest;
    states = on.sized;
    comps = ap (λ (z : HeapState). z.shape.comps) on.rest;
    wrappers = ap (λ (z : HeapState). z.shape.wrappers) on.rest;
    weak = ap (λ (z : HeapState). z.shape.weak) on.rest;
    regs = ap (λ (z : HeapState). z.shape.regs) on.rest;
    slots = ap (λ (z : HeapState). z.shape.slots) on.rest;
    objects = ap (λ (z : HeapState). z.shape.objects) on.rest;
    made = ap (λ (z : HeapState). z.made) on.rest;
  }

  same_marks : HasSameMarks c.heap k
  same_marks = record {
    cells = same_cells;
    arenas = ap (λ (z : HeapState). length z.shape.arenas) on.rest;
    colours = ap (λ (z : HeapState). z.colours) on.rest;
    buffers = ap (λ (z : HeapState). z.buffers) on.rest;
    looks = ap (λ (z : HeapState). z.looks) on.rest;
    marking = λ z. off z ∙ sym (ap is_marking_state (idle.states z));
    black_only = λ z only. absurd (let none = off z in let is = ap is_marking_state only in cc (none, is));
    begun = λ m q v d e is black was takes. absurd (let none = off (zone_of k.shape q) in
        let on = ap is_marking_state takes in cc (none, on));
    kept = λ p m. ap (λ (z : HeapState). out_of z.shape p.0) on.rest ∙ idle.kept p.0;
  }

  coloured : IsColoured k c.stack c.lists
  coloured = coloured_kept c.heap k same_marks c.stack c.lists
      (λ z takes. absurd (let is = idle.states z in cc (is, takes)))
      (subst (λ h. IsColoured h c.stack c.lists) own rep.coloured)

  nothing_left : NothingLeft k.looks
  nothing_left = coloured.waits.looks off

  arenas_same : k.shape.arenas ≡ c.heap.shape.arenas
  arenas_same = ap (λ (z : HeapState). z.shape.arenas) on.rest

  name_was : (p : Place) (x : Name) → name_at k.shape p ≡ Some x → name_at c.heap.shape p ≡ Some x
  name_was p x named = subst (λ (z : HeapState). name_at z.shape p ≡ Some x) on.rest named

  -- what is black in zones that are left out is what the world has black
  black : (x : Name) (p : Place) → name_at k.shape p ≡ Some x → Counts k.shape p
      → Has v.black x ↔ IsBlack k p
  black x p named counts =
      let was = subst (λ h. AreBlack h w) own (rep.phase.black (record {
        none_marking = ap worlds.marking_of prepares.idle.none_running;
        none_preparing = prepares.idle.none_preparing;
      })) x p (name_was p x named) in
      let same = ap (λ (cs : List Bits). colour_in (slice_get cs p.0) p.1)
      (ap (λ (z : HeapState). z.colours) on.rest) in (
        λ has. same ∙ was.0 ((prepares.black_are x).0 has).0,
        λ b. (prepares.black_are x).1 (
          was.1 (sym same ∙ b),
          λ here. (let there = zones_placed c.heap w rep.placed.lies zones p x (name_was p x named) here in
              let prepared = ap is_prepare_state (inside (zone_of c.heap.shape p) there) in
              let zone = same_cells.zones p in
              let counts_there = ap (λ z. is_prepare_state (state_in k.shape z)) (sym zone) ∙ counts in
              cc (counts_there, prepared)),
        ),
      )

  pub represents_begun : RepresentsPreparing (prepared_with c zones k) flown v
  represents_begun = record {
    run = record {
      zones = zones;
      formed = false;
      clearing = Some (record { from = 0; end = length c.heap.shape.arenas });
    };
    run_is = refl;
    uncleared = record { from = 0; end = length c.heap.shape.arenas };
    clearing = refl;
    unformed = refl;
    placed = record {
      delayed = ap (λ (z : HeapState). z.delayed) on.rest ∙ rep.placed.delayed;
      lies = subst (λ (u : World). LiesIn k u) (sym prepares.world_is)
          (lies_prepared k w v (lies_same c.heap k w same_cells arenas_same
          (ap (λ (z : HeapState). z.weak_names) on.rest) rep.placed.lies));
      homes = rows_same c.heap.shape k.shape same_cells.weak arenas_same rep.placed.homes;
    };
    swept = swept_same c.heap.shape k.shape flown arenas_same rep.swept;
    none_out = λ a. ap (λ (z : HeapState). out_of z.shape a) on.rest ∙ idle.kept a;
    cleared = record {
      invariant = preparing_from k c.stack coloured.marks (λ x. off (zone_of k.shape x))
          (λ a. ap (λ (z : HeapState). out_of z.shape a) on.rest ∙ idle.kept a)
          (λ m q u e left. none_left_in k nothing_left m q u e left) idle.black idle.gray;
      cleared = λ x has where_is. elim where_is [
        | inl lt ↦ absurd (omega (arith, lt))
        | inr past ↦ past_white k.colours x.0 x.1
            (let n = coloured.marks.holds.colours.sized in
            let m = ap (λ (xs : List ArenaShape). length xs) arenas_same in
            omega (arith, n, m, past))
      ];
      within = (let m = ap (λ (xs : List ArenaShape). length xs) arenas_same in
          omega (arith, m));
      waits = record {
        pending = no_piles c.stack idle.black idle.gray coloured.marks.none_woken;
        buffered = λ z. coloured.waits.buffered z (off z);
        incoming = λ n. none_in_it (waiting_for c.lists n) (λ p has.
            (let at = coloured.waits.incoming n p has in let none = off at.0 in cc (none, at.2)));
        looks = nothing_left;
      };
      room = coloured.gray.room;
    };
    phase = record {
      preparation = first_preparation w (zones_in zones);
      preparing_is = ap (λ (u : World). u.preparing) prepares.world_is;
      none_running = ap (λ (u : World). u.collection) prepares.world_is ∙ prepares.idle.none_running;
      zones_are = refl;
      some = some;
      made = λ z has. subst (λ n. z < n) (sym on.sized) (made z has);
      inside = inside;
      outside = outside;
      black = black;
    };
  }
    where
      lies_prepared : (h : HeapState) (w v : World) → LiesIn h w
          → LiesIn h (record w { black = v.black; preparing = Some (first_preparation w (zones_in zones)) })
      lies_prepared h w v l = record {
        whole = l.whole;
        graph = l.graph;
        shown = l.shown;
        part = record { well_formed = l.part.well_formed; part = l.part.part; here = l.part.here };
        places_are = l.places_are;
        owner_is = l.owner_is;
        weak_are = l.weak_are;
        out_is = l.out_is;
        white_are = l.white_are;
      }

      none_left_in : (h : HeapState) → NothingLeft h.looks → (m q u : Place)
          → HasEntry h.shape m q u → left_of h mark.Black m q → ⊥
      none_left_in h none m q u e left = none_left h mark.Black none.1 none.1 m q u e left

-- a collection of these zones is being prepared, in each world that the collector stood for
pub begun_in : (c : CollectorState) (zones : ZoneSet) (k : HeapState) → c.run ≡ None → Advances c.heap zones.bits k
    → ((z : ℕ) → HasZone zones.bits z → z < length c.heap.shape.states) → (z : ℕ) × HasZone zones.bits z
    → BeginsIn c zones.bits (prepared_with c zones k)
begun_in c zones k idle_run on made some flown w ok r =
    let rep = marking_of c flown w (none_idle c flown w idle_run) r in
    let idle : IsIdleWorld w = record {
      none_running = none_runs c flown w idle_run rep;
      none_preparing = rep.phase.calm;
    } in
    let zones_are = sym (rep.placed.lies.part.part.zones) ∙ rep.placed.lies.shown.zones_are in
    let b = prepares_in w (zones_in zones) idle
    (λ none. nothing_in_none some.0 (subst (λ zs. Contains zs some.0) none ((zones_in-has zones some.0).1 some.1)))
    (λ z has. subst (λ n. z < n) (sym zones_are) (made z ((zones_in-has zones z).0 has))) in (
      b.0,
      b.1,
      prepare_valid w (zones_in zones) b.0 ok b.1,
      prepared (represents_begun c flown w b.0 zones ok rep idle_run k on made some b.1),
    )

-- the arenas of these zones, as they are counted by number and in the list of their owners
owned_counted : (s : Shape) (zones : ZoneSet) → ((z : ℕ) → bit_at zones.bits z ≡ 1 → z < 64)
    → (arenas : List ArenaShape)
    (from : ℕ) → ((i : ℕ) → slice_get s.arenas (from + i) ≡ slice_get arenas i)
    → owned_from s zones.bits from (length arenas)
    ≡ count_by (λ o. is_among (zones_in zones) o) (owners_of arenas)
unfolding owned_from
owned_counted s zones small [] from same = refl
owned_counted s zones small (x ∷ arenas) from same =
    let start : from ≡ from + 0 = omega arith in
    let at : slice_get s.arenas from ≡ Some x = ap (slice_get s.arenas) start ∙ same 0 in
    let here : ◌≡◌ {A = ℕ} (if is_owned s zones.bits from then 1 else 0)
    (cond (is_among (zones_in zones) (owner_by x.zone)) 1 0) =
    ap {B = ℕ} (λ (b : Bool). cond b 1 0) (ap (is_owned_in zones.bits) at ∙ sym (listed_owners zones small x.zone)) in
    let rest = owned_counted s zones small arenas (suc from)
    (λ i. (let next : suc from + i ≡ from + suc i = omega arith in
    ap (slice_get s.arenas) next ∙ same (suc i))) in
    let both = sum_by-cons (λ (o : Option ℕ). cond (is_among (zones_in zones) o) 1 0) (owner_by x.zone)
    (owners_of arenas) in
    omega (arith, here, rest, both)

-- what is to come of it is within its arenas
pub begun_within : (c : CollectorState) (zones : ZoneSet) (k : HeapState) → c.run ≡ None → Advances c.heap zones.bits k
    → ((z : ℕ) → HasZone zones.bits z → z < length c.heap.shape.states)
    → (z : ℕ) × HasZone zones.bits z → ((z : ℕ) → bit_at zones.bits z ≡ 1 → z < 64)
    → BeginsWithin c zones.bits (prepared_with c zones k)
begun_within c zones k idle_run on made some small flown w v ok r prepares =
    let rep = marking_of c flown w (none_idle c flown w idle_run) r in
    let to_come = to_come_is (prepared_with c zones k) flown v
    (represents_begun c flown w v zones ok rep idle_run k on made some prepares) in
    let arenas = ap (λ (z : HeapState). z.shape.arenas) on.rest in
    let counted = owned_counted k.shape zones small k.shape.arenas 0
    (λ i. (let same : 0 + i ≡ i = omega arith in ap (slice_get k.shape.arenas) same)) in
    let long = ap (λ (xs : List ArenaShape). length xs) arenas in
    let bound : owned_from k.shape zones.bits 0 (length c.heap.shape.arenas)
    ≡ owned_from k.shape zones.bits 0 (length k.shape.arenas) =
    ap (owned_from k.shape zones.bits 0) (sym long) in
    let whole : length c.heap.shape.arenas - 0 ≡ length c.heap.shape.arenas = omega arith in
    let left : clearing_left (prepared_with c zones k).heap.shape (prepared_with c zones k).run
    ≡ owned_from k.shape zones.bits 0 (length c.heap.shape.arenas) = ap (owned_from k.shape zones.bits 0) whole in
    let owners : owners_of k.shape.arenas ≡ w.owner = ap owners_of arenas ∙ sym rep.placed.lies.owner_is in
    let number = ap (λ (os : List (Option ℕ)). count_by (λ o. is_among (zones_in zones) o) os) owners in
    record {
      marking = λ q is. absurd (let none = ap (λ (u : World). u.collection) prepares.world_is in
          let idle = prepares.idle.none_running in cc (none, idle, is));
      preparing = λ p is.
          (let same : first_preparation w (zones_in zones) ≡ p = some_one _ _
          (sym (ap (λ (u : World). u.preparing) prepares.world_is) ∙ is) in
          let spent = ap (λ (q : Preparation). q.spent) same in
          let most = ap (λ (q : Preparation). q.arenas) same in
          omega (arith, to_come, left, counted, bound, number, spent, most));
    }

-- no arena is out
pub none_out_begun : (c : CollectorState) (zones : ZoneSet) (k : HeapState) (flown : ℕ → Option Bits) → IsSound c flown
    → c.run ≡ None → Advances c.heap zones.bits k → (a : ℕ) → out_of k.shape a ≡ None
none_out_begun c zones k flown s idle_run on a =
    let rep = marking_of c flown s.world (none_idle c flown s.world idle_run) s.represents in
    let none = none_runs c flown s.world idle_run rep in
    let idle : IsIdle c = subst (λ o. RunsAs (heap_with c flown) c s.world None o) none
    (subst (λ o. RunsAs (heap_with c flown) c s.world o s.world.collection) idle_run rep.phase.runs) in
    ap (λ (z : HeapState). out_of z.shape a) on.rest ∙ idle.kept a

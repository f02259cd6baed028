-- After an arena came in the collector stands for the world after it.
use Rattle.std.proofs.Common.{◌≡◌, ◌≢◌, ◌⊎◌, ◌↔◌, ◌==◌, ◌<◌, ◌+◌, ℕ, Bool, true, false, not, cond, inl, inr, refl, sym}
use Rattle.std.proofs.Common.{ap, ◌∙◌, subst, arith, eqb-true, eq-eqb, Option, None, Some, is_some, List, map, Contains}
use Rattle.std.proofs.Common.{slice_get}
use Rattle.std.specs.Int.{bit_at}
use Rattle.std.specs.List.{filter}
use Rattle.std.proofs.lemmas.Bool.{cases_eq, cases_lt}
use Rattle.gz_names.specs.Zones.{HasZone, zones_in}
use Rattle.gz_names.specs.declared.names.Name.{Name}
use Rattle.gz_names.specs.declared.numbers.Place.{Place}
use Rattle.gz_names.specs.declared.zone_sets.ZoneSet.{ZoneSet}
use Rattle.cell_bits.specs.declared.bits.Bits.{Bits}
use Rattle.zones.specs.declared.states.State.TheVariants as state
use Rattle.arena_table.specs.Slots.{at_bits, cell_in, names_of}
use Rattle.colour_defs.specs.World.{World, Collection, marking_of}
use Rattle.colour_defs.specs.Ends.{Lists}
use Rattle.colour_defs.specs.Lawful.{IsLawfulSweep, with_sweep}
use Rattle.heap_core.specs.Shape.{ArenaShape, name_at, out_of, state_in}
use Rattle.heap_core.specs.Shape.{stored_in, zone_of}
use Rattle.heap_core.specs.Heap.{HeapState}
use Rattle.slice_driver.specs.Collector.{CollectorState, RunState, heap_with}
use Rattle.slice_driver.specs.Closures.{AreTied}
use Rattle.slice_driver.specs.Worlds.{IsUnswept, LiesIn, outs_from}
use Rattle.slice_driver.specs.Represents.{AreInStates, IsCurrent, IsInGroups, RepresentsMarking, Runs, RunsAs}
use Rattle.slice_driver.specs.Sweeping.{AreFreed, TakesIn, after_sweep}
use Rattle.slice_driver.specs.Units.{without_arena}
use Rattle.slice_driver.proofs.abstraction.Named.{some_one}
use Rattle.slice_driver.proofs.group_end.Ready.{runs_of}
use Rattle.slice_driver.proofs.group_end.Wrappers.{filter_has, has_filter}
use Rattle.slice_driver.proofs.basics.Cells.{name_same, shows_same}
use Rattle.slice_driver.proofs.basics.Marks.{black_back, black_on, coloured_as, coloured_kept, live_back, live_on}
use Rattle.slice_driver.proofs.basics.Marks.{pending_back, pending_on}
use Rattle.slice_driver.proofs.basics.NamesWeakly.{names_weakly_on}
use Rattle.slice_driver.proofs.basics.Rows.{rows_in}
use Rattle.slice_driver.proofs.taking_in.Heaps.{flies_after, marking_same, no_sweep_after}
use Rattle.slice_driver.proofs.taking_in.Heaps.{outs_are, owners_same, same_cells, same_marks, state_on}
use Rattle.slice_driver.proofs.taking_in.Heaps.{states_are, unswept_back, unswept_on, was_out, whole_after, zones_same}
use Rattle.slice_driver.proofs.taking_in.Slots.{AreNamedApart, freed_white, listed_named, named_listed, names_distinct}
use Rattle.slice_driver.proofs.taking_in.Slots.{white_freed}
use Rattle.slice_driver.proofs.basics.Sorted.{lists_from_sort}

-- a word has a zone, or hasn't
pub has_zone_or_not : (word z : ℕ) → HasZone word z ⊎ (HasZone word z → ⊥)
unfolding HasZone
has_zone_or_not word z = elim (cases_lt z 64) [
  | inr past ↦ inr (λ h. (let lt : z < 64 = h.0 in omega arith))
  | inl lt ↦ elim (cases_eq (bit_at word z) 1) [ inl one ↦ inl (lt, one) | inr ne ↦ inr (λ h. ne h.1) ]
]

-- the collection with one more arena in its tally
abbrev pub swept_collection : Collection → Collection
swept_collection k = record k { tally = record k.tally { sweeps = k.tally.sweeps + 1 } }

abbrev is_elsewhere : ℕ → Name × (ℕ × ℕ) → Bool
is_elsewhere a e = not (e.1.0 == a)

abbrev pub swept_world : World → ℕ → List ℕ → Collection → World
swept_world w a out k =
    record w { out = out; white = filter (is_elsewhere a) w.white; collection = Some (swept_collection k) }

elsewhere_is : (a : ℕ) (e : Name × (ℕ × ℕ)) → is_elsewhere a e ≡ true → e.1.0 ≢ a
elsewhere_is a e t is = cc (t, ap not (eq-eqb e.1.0 a is))

is_elsewhere_where : (a : ℕ) (e : Name × (ℕ × ℕ)) → e.1.0 ≢ a → is_elsewhere a e ≡ true
is_elsewhere_where a e ne = go (e.1.0 == a) refl
  where
    go : (t : Bool) → (e.1.0 == a) ≡ t → not (e.1.0 == a) ≡ true
    go true f = absurd (ne (eqb-true e.1.0 a f))
    go false f = ap not f

module _ (c : CollectorState) (flown : ℕ → Option Bits) (w : World) (k : Collection) (a freed : ℕ) (bits : Bits)
    (d : CollectorState) (s : RepresentsMarking c flown w) (t : TakesIn c flown a freed bits d) (r : RunState)
    (running : c.run ≡ Some r) (at : w.collection ≡ Some k) where
  abbrev flying : ℕ → Option Bits
  flying = without_arena flown a

  abbrev pub after : World
  after = swept_world w a (outs_from 0 d.heap.shape.arenas) k

  runs : Runs (heap_with c flown) c w r k
  runs = runs_of c (heap_with c flown) w r k running at s.phase.runs

  white_are : (x : Name) (p : Place) → Contains {X = Name × (ℕ × ℕ)} after.white (x, p)
      ↔ (Contains {X = Name × (ℕ × ℕ)} w.white (x, p) × (p.0 ≢ a))
  white_are x p = (
    λ l. (let f = filter_has {X = Name × (ℕ × ℕ)} (is_elsewhere a) w.white (x, p) l in
        (f.0, elsewhere_is a (x, p) f.1)),
    λ l. has_filter {X = Name × (ℕ × ℕ)} (is_elsewhere a) w.white (x, p) l.0 (is_elsewhere_where a (x, p) l.1),
  )

  pub lies_after : LiesIn d.heap after
  lies_after = record {
    whole = whole_after c flown w a freed bits d s t;
    graph = s.placed.lies.graph;
    shown = shows_same c.heap d.heap (same_cells c flown w a freed bits d s t) s.placed.lies.graph s.placed.lies.shown;
    part = record {
      well_formed = s.placed.lies.part.well_formed;
      part = s.placed.lies.part.part;
      here = s.placed.lies.part.here;
    };
    places_are = λ x p. (
      λ there. name_same c.heap d.heap (same_cells c flown w a freed bits d s t) p
          ∙ (s.placed.lies.places_are x p).0 there,
      λ named. (s.placed.lies.places_are x p).1
          (sym (name_same c.heap d.heap (same_cells c flown w a freed bits d s t) p)
          ∙ named),
    );
    owner_is = s.placed.lies.owner_is ∙ sym (owners_same c flown w a freed bits d s t);
    weak_are = names_weakly_on c.heap.shape d.heap.shape
        (λ p x at. name_same c.heap d.heap (same_cells c flown w a freed bits d s t) p ∙ at) c.heap.weak_names
        d.heap.weak_names w.weak w.weak (ap (λ (z : HeapState). z.weak_names) t.heap_is) refl s.placed.lies.weak_are;
    out_is = refl;
    white_are = λ x p. (
      λ l. (let f = (white_are x p).0 l in
          unswept_on c flown w a freed bits d s t p x ((s.placed.lies.white_are x p).0 f.0)
          f.1),
      λ u. (let f = unswept_back c flown w a freed bits d s t p x u in
          (white_are x p).1 ((s.placed.lies.white_are x p).1 f.0, f.1)),
    );
  }

  -- the names of the freed slots are those of the white cells of the arena
  abbrev arena : ArenaShape
  arena = (was_out c flown w a freed bits d s t).0

  abbrev old : Bits
  old = (was_out c flown w a freed bits d s t).1

  arena_is : slice_get c.heap.shape.arenas a ≡ Some arena
  arena_is = (was_out c flown w a freed bits d s t).2

  out_is : out_of c.heap.shape a ≡ Some old
  out_is = ap Rattle.heap_core.specs.Shape.out_in arena_is ∙ (was_out c flown w a freed bits d s t).3

  freed_unswept : (i : ℕ) (cell : Rattle.arena_table.specs.Cells.CellState) → bit_at freed i ≡ 1
      → cell_in arena.slots i ≡ Some cell → IsUnswept c.heap.shape (a, i) cell.name
  freed_unswept i cell bit there = record {
    bits = old;
    cell = cell;
    out_is = out_is;
    white = freed_white old arena.slots freed i cell (t.fits old out_is) (s.placed.lies.whole a arena arena_is)
        (t.freed_is arena old arena_is (was_out c flown w a freed bits d s t).3) bit there;
    cell_is = ap (λ o. stored_in o i) arena_is ∙ there;
    name_is = refl;
  }

  unswept_freed : (i : ℕ) (x : Name) (u : IsUnswept c.heap.shape (a, i) x) → (cell_in arena.slots i ≡ Some u.cell)
      × (bit_at freed i ≡ 1)
  unswept_freed i x u =
      let there : cell_in arena.slots i ≡ Some u.cell = sym (ap (λ o. stored_in o i) arena_is) ∙ u.cell_is in
      let same : u.bits ≡ old = some_one u.bits old (sym u.out_is ∙ out_is) in (
        there,
        white_freed old arena.slots freed i u.cell (t.fits old out_is) (s.placed.lies.whole a arena arena_is)
            (t.freed_is arena old arena_is (was_out c flown w a freed bits d s t).3)
            (subst (λ (b : Bits). Rattle.heap_core.specs.Shape.is_white b i ≡ true) same u.white) there,
      )

  named_apart : AreNamedApart freed arena.slots
  named_apart i j x y bi bj xi yj e =
      let one : (a, i) ≡ (a, j) = s.swept.apart x.name (a, i) (a, j) (freed_unswept i x bi xi)
      (subst (λ n. IsUnswept c.heap.shape (a, j) n) (sym e) (freed_unswept j y bj yj)) in
      ap (λ (p : Place). p.1) one

  -- the names at the freed slots are those of the cells that are not swept yet
  freed_has : (x : Name) → Contains (names_of (at_bits freed arena.slots)) x
      ↔ ((slot : ℕ) × Contains {X = Name × (ℕ × ℕ)} w.white (x, (a, slot)))
  freed_has x = (
    λ l. (let n = listed_named freed arena.slots x l in (
      n.slot,
      (s.placed.lies.white_are x (a, n.slot)).1
          (subst (λ y. IsUnswept c.heap.shape (a, n.slot) y) n.name_is (freed_unswept n.slot n.cell n.bit n.there)),
    )),
    λ l. (let u = (s.placed.lies.white_are x (a, l.0)).0 l.1 in
        let there = unswept_freed l.0 x u in
        subst (λ y. Contains (names_of (at_bits freed arena.slots)) y) u.name_is
        (named_listed freed arena.slots l.0 u.cell there.1 there.0)),
  )

  freed_list : (names : List Name) → AreFreed c.heap.shape a freed names
      → Lists (λ x. (slot : ℕ) × Contains {X = Name × (ℕ × ℕ)} w.white (x, (a, slot))) names
  freed_list names f = lists_from_sort _ (names_of (at_bits freed arena.slots)) names freed_has
      (names_distinct freed arena.slots named_apart) (f.moved arena arena_is) f.sorted

  pub sweeps : (names : List Name) → AreFreed c.heap.shape a freed names → IsLawfulSweep w a names after
  sweeps names f = record {
    rest = outs_from 0 d.heap.shape.arenas;
    first = s.placed.lies.out_is ∙ outs_are c flown w a freed bits d s t;
    world_is = ap (λ (o : Option Collection). record w {
      out = outs_from 0 d.heap.shape.arenas;
      white = filter (is_elsewhere a) w.white;
      collection = with_sweep o;
    }) (sym at);
    freed_are = freed_list names f;
    white_are = white_are;
  }

  in_groups_back : (z : ℕ) → IsInGroups d.groups z → IsInGroups c.groups z
  in_groups_back z i = subst (λ gs. IsInGroups gs z) t.groups_is i

  in_groups_on : (z : ℕ) → IsInGroups c.groups z → IsInGroups d.groups z
  in_groups_on z i = subst (λ gs. IsInGroups gs z) (sym t.groups_is) i

  -- an arena is out, so the groups are formed
  unformed : r.formed ≡ false → ⊥
  unformed no_groups =
      let p : Place = (a, 0) in
      let sweep : state_in c.heap.shape (zone_of c.heap.shape p) ≡ state.Sweep =
      runs.states.sweeping (zone_of c.heap.shape p) a p refl refl t.lowest.out in
      elim (has_zone_or_not r.zones.bits (zone_of c.heap.shape p)) [
        | inl here ↦ cc (sweep, runs.states.early no_groups _ here)
        | inr out ↦ cc (sweep, runs.states.outside _ out)
      ]

  states_after : AreInStates d r
  states_after = record {
    outside = λ z out. state_on c flown w a freed bits d s t z state.NoGC (runs.states.outside z out) refl;
    made = λ z here. subst (λ n. z < n) (sym t.sized) (runs.states.made z here);
    early = λ no_groups. absurd (unformed no_groups);
    later = λ formed z here. elim (runs.states.later formed z (in_groups_back z here)) [
      | inl only ↦ inl (state_on c flown w a freed bits d s t z state.MarkBlackOnly only refl)
      | inr both ↦ inr (
        subst (λ gs. IsCurrent gs z) (sym t.groups_is) both.0,
        state_on c flown w a freed bits d s t z state.MarkBlackAndGray both.1 refl,
      )
    ];
    ended = λ formed z here none. elim (runs.states.ended formed z here (λ i. none (in_groups_on z i))) [
      | inl sweep ↦ elim (states_are c flown w a freed bits d s t z) [
        | inl same ↦ inl (same ∙ sweep)
        | inr next
            ↦ inr (next.1 ∙ ap after_sweep sweep)
      ]
      | inr finished ↦ inr (state_on c flown w a freed bits d s t z state.Finished finished refl)
    ];
    sweeping = λ z b p is zone out. elim (cases_eq b a) [
      | inl same ↦ absurd (cc (
        ap (λ i. is_some (out_of d.heap.shape i)) same
            ∙ ap is_some (Rattle.slice_driver.proofs.taking_in.Heaps.out_none c flown w a freed bits d s t),
        out,
      ))
      | inr ne ↦ t.still b out z
          ∙ runs.states.sweeping z b p is (sym (zones_same c flown w a freed bits d s t p) ∙ zone)
          (ap is_some (sym (Rattle.slice_driver.proofs.taking_in.Heaps.out_same c flown w a freed bits d s t b ne))
          ∙ out)
    ];
    swept = λ none z sweep. no_sweep_after _ (sym (t.all_in none z) ∙ sweep);
  }

  tied_here : AreTied (heap_with c flown) c.stack c.lists w k
      → AreTied (heap_with d flying) c.stack c.lists after (swept_collection k)
  tied_here b =
      let m = same_marks c flown w a freed bits d s t in
      let name_was = λ (x : Name) (p : Place) (named : name_at d.heap.shape p ≡ Some x).
      sym (name_same c.heap d.heap (same_cells c flown w a freed bits d s t) p) ∙ named in
      record {
        black = λ x p named. (
          λ l. (b.black x p (name_was x p named)).0 (pending_back (heap_with c flown) (heap_with d flying) m c.stack l),
          λ u. pending_on (heap_with c flown) (heap_with d flying) m c.stack ((b.black x p (name_was x p named)).1 u),
        );
        live = λ x p named. (
          λ l. (b.live x p (name_was x p named)).0
              (live_back (heap_with c flown) (heap_with d flying) m c.stack c.lists l),
          λ u. live_on (heap_with c flown) (heap_with d flying) m c.stack c.lists
              ((b.live x p (name_was x p named)).1 u),
        );
        present = b.present;
        edges_then = b.edges_then;
        entries_then = b.entries_then;
        grown = b.grown;
        formed = b.formed;
      }

  tied_after : AreTied (heap_with c flown) c.stack c.lists w k
      → AreTied (heap_with d flying) d.stack d.lists after (swept_collection k)
  tied_after b = subst (λ p. AreTied (heap_with d flying) p d.lists after (swept_collection k)) (sym t.stack_is)
      (subst (λ l. AreTied (heap_with d flying) c.stack l after (swept_collection k)) (sym t.lists_is) (tied_here b))

  runs_after : Runs (heap_with d flying) d after r (swept_collection k)
  runs_after = record {
    started = runs.started;
    zones_are = runs.zones_are;
    marking_are = λ z. (
      (λ m. marking_same c flown w a freed bits d s t z ∙ (runs.marking_are z).0 m),
      λ m. (runs.marking_are z).1 (sym (marking_same c flown w a freed bits d s t z) ∙ m),
    );
    groups_are = runs.groups_are ∙ ap (λ (gs : List ZoneSet). cond r.formed (Some (map zones_in gs)) None)
        (sym t.groups_is);
    states = states_after;
    tied = λ z m. tied_after (runs.tied z m);
    early = λ no_groups. absurd (unformed no_groups);
  }

  takes_on : (z : ℕ) → state_in c.heap.shape z ≡ state.MarkBlackAndGray
      → state_in d.heap.shape z ≡ state.MarkBlackAndGray
  takes_on z was = state_on c flown w a freed bits d s t z state.MarkBlackAndGray was refl

  pub represents_after : RepresentsMarking d (without_arena flown a)
      (swept_world w a (outs_from 0 d.heap.shape.arenas) k)
  represents_after = record {
    placed = record {
      delayed = ap (λ (h : HeapState). h.delayed) t.heap_is ∙ s.placed.delayed;
      lies = lies_after;
      homes = rows_in c.heap d.heap (same_cells c flown w a freed bits d s t)
          (same_marks c flown w a freed bits d s t).arenas s.placed.homes;
    };
    swept = record {
      apart = λ x p q u v. s.swept.apart x p q (unswept_back c flown w a freed bits d s t p x u).0
          (unswept_back c flown w a freed bits d s t q x v).0;
      flies = flies_after c flown w a freed bits d s t;
    };
    coloured = coloured_as (heap_with d flying) (heap_with d flying) c.stack d.stack c.lists d.lists refl t.stack_is
        t.lists_is (coloured_kept (heap_with c flown) (heap_with d flying) (same_marks c flown w a freed bits d s t)
        c.stack c.lists takes_on s.coloured);
    phase = record {
      calm = s.phase.calm;
      black = λ settled x p named. (
          let b = s.phase.black (record {
            none_marking = ap marking_of at ∙ settled.none_marking;
            none_preparing = s.phase.calm;
          }) x p
          (sym (name_same c.heap d.heap (same_cells c flown w a freed bits d s t) p) ∙ named) in (
            λ h. black_on (heap_with c flown) (heap_with d flying) (same_marks c flown w a freed bits d s t) p
                (b.0 h),
            λ h. b.1 (black_back (heap_with c flown) (heap_with d flying) (same_marks c flown w a freed bits d s t) p
                h),
          ));
      runs = subst (λ (o : Option RunState). RunsAs (heap_with d flying) d after o after.collection)
          (sym (t.run_is ∙ running)) runs_after;
    };
  }

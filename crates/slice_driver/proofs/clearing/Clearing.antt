-- An arena of zones that are being prepared is cleared: the collector stands for the same worlds.
use Rattle.std.proofs.Common.{◌+◌, ◌∷◌, ◌≡◌, ◌⊎◌, ◌<◌, ◌≤◌, ℕ, suc, true, List, [], length, Option, Some, None, IsSome}
use Rattle.std.proofs.Common.{zero, inl, inr, refl, sym, ap, subst, ◌∙◌, arith, slice_get}
use Rattle.std.proofs.lemmas.Bool.{cases_eq, cases_lt}
use Rattle.gz_names.specs.Zones.{HasZone}
use Rattle.gz_names.specs.declared.numbers.Place.{Place}
use Rattle.gz_names.specs.declared.zone_sets.ZoneSet.{ZoneSet}
use Rattle.cell_bits.specs.declared.bits.Bits.{Bits}
use Rattle.cell_bits.specs.declared.bits.Colour.TheVariants as colour
use Rattle.zones.specs.declared.states.State.TheVariants as state
use Rattle.colour_defs.specs.World.{World}
use Rattle.heap_core.specs.Shape.{ArenaShape, is_owned_in, is_prepared}
use Rattle.heap_core.specs.Shape.{is_prepare_state, state_in, zone_in, zone_of}
use Rattle.heap_core.specs.Heap.{HeapState, colour_of}
use Rattle.barriers.specs.Colours.{IsBlack, IsSeen}
use Rattle.barriers.specs.LeftOut.{Counts, PreparingInvariant, PreparingWhile}
use Rattle.barriers.specs.Reached.{HasEntry}
use Rattle.slice_driver.specs.declared.collector.Uncleared.{Uncleared}
use Rattle.slice_driver.specs.Collector.{CollectorState, RunState}
use Rattle.slice_driver.specs.Preparing.{ClearsArena}
use Rattle.slice_driver.specs.Represents.{RepresentsPreparing}
use Rattle.slice_driver.proofs.abstraction.Lying.{lies_marked}
use Rattle.slice_driver.proofs.group_end.Cells.{has_in_zones}

-- an arena of a set of zones that is made is owned by them
pub owned_by : (zones : ZoneSet) (o : Option ArenaShape) → IsSome o → HasZone zones.bits (zone_in o)
    → is_owned_in zones.bits o ≡ true
owned_by zones None some has = absurd (cc some)
owned_by zones (Some arena) some has = has_in_zones zones arena.zone has

module _ (c : CollectorState) (flown : ℕ → Option Bits) (w : World) (rep : RepresentsPreparing c flown w) (arena : ℕ)
    (d : CollectorState) (owned : HasZone rep.run.zones.bits (zone_in (slice_get c.heap.shape.arenas arena)))
    (clears : ClearsArena c rep.run rep.uncleared arena d) where
  abbrev after : Uncleared
  after = record rep.uncleared { from = arena + 1 }

  abbrev run_after : RunState
  run_after = record rep.run { clearing = Some after }

  -- where colours count, they are as they were
  elsewhere : (x : Place) → Counts c.heap.shape x → x.0 ≡ arena → ⊥
  elsewhere x counts same =
      let state : state_in c.heap.shape (zone_of c.heap.shape x) ≡ state.Prepare = rep.phase.inside
      (zone_of c.heap.shape x)
      (subst (λ (a : ℕ). HasZone rep.run.zones.bits (zone_in (slice_get c.heap.shape.arenas a))) (sym same) owned) in
      let prepared = ap is_prepare_state state in
      cc (counts, prepared)

  counted_same : (x : Place) → Counts c.heap.shape x → colour_of d.heap x ≡ colour_of c.heap x
  counted_same x counts = clears.others x (λ same. elsewhere x counts same)

  black_on : (x : Place) → Counts c.heap.shape x → IsBlack c.heap x → IsBlack d.heap x
  black_on x counts b = counted_same x counts ∙ b

  black_back : (x : Place) → Counts c.heap.shape x → IsBlack d.heap x → IsBlack c.heap x
  black_back x counts b = sym (counted_same x counts) ∙ b

  -- what is seen was seen
  seen_before : (x : Place) → IsSeen d.heap x → IsSeen c.heap x
  seen_before x s = elim (cases_eq x.0 arena) [
    | inl same ↦ absurd (elim s [
      | inl gray ↦ (let white = clears.white x same in cc (gray, white))
      | inr black ↦ (let white = clears.white x same in cc (black, white))
    ])
    | inr other ↦ elim s [
      | inl gray ↦ inl (sym (clears.others x other) ∙ gray)
      | inr black ↦ inr (sym (clears.others x other) ∙ black)
    ]
  ]

  -- map and key of an entry lie in the zone of its value
  counts_with : (x y : Place) → zone_of c.heap.shape x ≡ zone_of c.heap.shape y → Counts c.heap.shape y
      → Counts c.heap.shape x
  counts_with x y same counts = ap (is_prepared c.heap.shape) same ∙ counts

  abbrev was : PreparingWhile [] c.heap c.stack
  was = rep.cleared.invariant.holds

  abbrev one_zone : (m k v : Place) → HasEntry c.heap.shape m k v → (zone_of c.heap.shape m ≡ zone_of c.heap.shape v)
      × (zone_of c.heap.shape k ≡ zone_of c.heap.shape v)
  one_zone = was.colours.shape.one_zone

  abbrev cleared_heap : HeapState
  cleared_heap = record c.heap { colours = d.heap.colours }

  -- of the heap with these colours, whose shape is what it was
  invariant : PreparingInvariant cleared_heap c.stack
  invariant = record {
    holds = record {
      colours = record {
        shape = was.colours.shape;
        sized = sized ∙ was.colours.sized;
        none_out = was.colours.none_out;
        none_marking = was.colours.none_marking;
        seen_present = λ x s. was.colours.seen_present x (seen_before x (seen_in x s));
        seen = λ x there counts. elim (was.colours.seen x there counts) [
          | inl gray ↦ inl (same_in x ∙ counted_same x counts ∙ gray)
          | inr black ↦ inr (same_in x ∙ black_on x counts black)
        ];
        regs_black = λ x has counts. same_in x ∙ black_on x counts (was.colours.regs_black x has counts);
        black = was.colours.black;
        gray = was.colours.gray;
        wake = λ x has. (let b = was.colours.wake x has in (same_in x ∙ black_on x b.1 b.0, b.1));
      };
      closed = λ x y cx b e cy. elim (was.closed x y cx (black_back x cx (sym (same_in x) ∙ b)) e cy) [
        | inl black ↦ inl (same_in y ∙ black_on y cy black)
        | inr follow ↦ inr follow
      ];
      weak_closed = λ m k v e cv bm bk. (
          let cm = counts_with m v (one_zone m k v e).0 cv in
          let ck = counts_with k v (one_zone m k v e).1 cv in
          elim (was.weak_closed m k v e cv (black_back m cm (sym (same_in m) ∙ bm))
          (black_back k ck (sym (same_in k) ∙ bk))) [
            | inl black ↦ inl (same_in v ∙ black_on v cv black)
            | inr follow ↦ inr follow
          ]);
      key_closed = λ m k v d' e is ck cd bm bd. (
          let cm = counts_with m k ((one_zone m k v e).0 ∙ sym (one_zone m k v e).1) ck in
          elim (was.key_closed m k v d' e is ck cd (black_back m cm (sym (same_in m) ∙ bm))
          (black_back d' cd (sym (same_in d') ∙ bd))) [
            | inl black ↦ inl (same_in k ∙ black_on k ck black)
            | inr follow ↦ inr follow
          ]);
    };
    empty = rep.cleared.invariant.empty;
  }
    where
      sized : length d.heap.colours ≡ length c.heap.colours
      sized = clears.sized

      same_in : (x : Place) → colour_of cleared_heap x ≡ colour_of d.heap x
      same_in x = refl

      seen_in : (x : Place) → IsSeen cleared_heap x → IsSeen d.heap x
      seen_in x s = s

  -- an arena below the one that was cleared was cleared before
  below : (x : Place) → HasZone rep.run.zones.bits (zone_of c.heap.shape x) → x.0 < arena
      → colour_of c.heap x ≡ colour.White
  below x has lt = elim (cases_lt x.0 rep.uncleared.from) [
    | inl before ↦ rep.cleared.cleared x has (inl before)
    | inr from ↦ absurd (
        let none = clears.next.lowest x.0 from lt in
        let made : IsSome (slice_get c.heap.shape.arenas x.0) = made_below x.0
        (let e = clears.next.within.1 in let n = rep.cleared.within in omega (arith, lt, e, n)) in
        let own = owned_by rep.run.zones (slice_get c.heap.shape.arenas x.0) made has in
        cc (none, own))
  ]
    where
      made_in : (xs : List ArenaShape) (a : ℕ) → a < length xs → IsSome (slice_get xs a)
      made_in [] a lt = absurd (omega arith)
      made_in (y ∷ ys) zero lt = refl
      made_in (y ∷ ys) (suc a) lt = made_in ys a (omega arith)

      made_below : (a : ℕ) → a < length c.heap.shape.arenas → IsSome (slice_get c.heap.shape.arenas a)
      made_below a lt = made_in c.heap.shape.arenas a lt

  cleared_after : (x : Place) → HasZone rep.run.zones.bits (zone_of c.heap.shape x)
      → (x.0 < arena + 1) ⊎ (rep.uncleared.end ≤ x.0) → colour_of d.heap x ≡ colour.White
  cleared_after x has where_is = elim (cases_eq x.0 arena) [
    | inl same ↦ clears.white x same
    | inr other ↦ clears.others x other ∙ elim where_is [
      | inl lt ↦ below x has (omega (arith, lt, other))
      | inr past ↦ rep.cleared.cleared x has (inr past)
    ]
  ]

  represents_in : RepresentsPreparing (record c { heap = cleared_heap; run = Some run_after }) flown w
  represents_in = record {
    run = run_after;
    run_is = refl;
    uncleared = after;
    clearing = refl;
    unformed = rep.unformed;
    placed = record {
      delayed = rep.placed.delayed;
      lies = lies_marked c.heap d.heap.colours c.heap.delayed w rep.placed.lies;
      homes = rep.placed.homes;
    };
    swept = rep.swept;
    none_out = rep.none_out;
    cleared = record {
      invariant = invariant;
      cleared = cleared_after;
      within = rep.cleared.within;
      waits = record {
        pending = rep.cleared.waits.pending;
        buffered = rep.cleared.waits.buffered;
        incoming = rep.cleared.waits.incoming;
        looks = rep.cleared.waits.looks;
      };
      room = (let n = clears.sized in let room = rep.cleared.room in omega (arith, n, room));
    };
    phase = record {
      preparation = rep.phase.preparation;
      preparing_is = rep.phase.preparing_is;
      none_running = rep.phase.none_running;
      zones_are = rep.phase.zones_are;
      some = rep.phase.some;
      made = rep.phase.made;
      inside = rep.phase.inside;
      outside = rep.phase.outside;
      black = λ x p named counts. (let both = rep.phase.black x p named counts in (
        λ has. black_on p counts (both.0 has),
        λ b. both.1 (black_back p counts b),
      ));
    };
  }

  -- the collector stands for the world for which it stood
  pub represents_cleared : RepresentsPreparing d flown w
  represents_cleared = subst (λ (e : CollectorState). RepresentsPreparing e flown w) (sym clears.rest) represents_in

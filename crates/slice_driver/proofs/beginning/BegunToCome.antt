-- As marking of a collection begins, what is to come of it is within its bound on units.
use Rattle.std.proofs.Common.{◌≡◌, ◌+◌, ◌*◌, ◌<◌, ◌≤◌, ◌==◌, ◌&&◌, ◌||◌, not, ℕ, Bool, true, false, inl, inr, refl, sym}
use Rattle.std.proofs.Common.{ap, ◌∙◌, subst, arith, List, [], ◌∷◌, length, count_by, sum_by, Contains, Option, Some}
use Rattle.std.proofs.Common.{if◌then◌else◌}
use Rattle.std.specs.Int.{bit_at}
use Rattle.std.proofs.lemmas.List.Sums.{count_by-le-length}
use Rattle.gz_names.specs.Zones.{HasZone, zones_in}
use Rattle.gz_names.specs.declared.names.Name.{Name}
use Rattle.gz_names.specs.declared.names.Name.TheVariants.{Cell}
use Rattle.gz_names.specs.declared.numbers.Place.{Place}
use Rattle.gz_names.specs.declared.zone_sets.ZoneSet.{ZoneSet}
use Rattle.cell_bits.specs.declared.bits.Bits.{Bits}
use Rattle.zones.specs.declared.states.State.TheVariants as state
use Rattle.arena_table.specs.Indexed.{in_zones}
use Rattle.weak_maps.specs.Delegates.{DelegateRow}
use Rattle.weak_maps.specs.WeakMaps.{IsSound as AreEntries, LooksState, entry_of_row}
use Rattle.weak_maps.specs.declared.entries.WeakEntry.{WeakEntry}
use Rattle.wrappers.specs.WrapperMaps.{AreApart}
use Rattle.colour_defs.specs.Graph.{is_among, is_in_zones, zone_of as zone_named_in}
use Rattle.colour_defs.specs.Laws.{IsValid}
use Rattle.colour_defs.specs.Units.{Tally, has_delegate_in_zones, unit_limit}
use Rattle.colour_defs.specs.World.{Preparation, World, first_tally, is_counted_entry, is_wrapper}
use Rattle.colour_defs.proofs.Lists.{both_of, first_of_both, nothing_in_none, second_of_both}
use Rattle.colour_defs.proofs.Membership.{in_zone}
use Rattle.colour_defs.proofs.ZoneSets.{zones_in-has}
use Rattle.heap_core.specs.Shape.{Shape, is_marking, is_marking_state, name_at, state_in, zone_of}
use Rattle.heap_core.specs.Heap.{HeapState}
use Rattle.barriers.specs.LeftOut.{PreparingInvariant}
use Rattle.slice_driver.specs.Begins.{BeginsMarking}
use Rattle.slice_driver.specs.Collector.{CollectorState, heap_with}
use Rattle.slice_driver.specs.ListedWrappers.{is_outside, listed_below}
use Rattle.slice_driver.specs.Left.{most_of}
use Rattle.slice_driver.specs.Remaining.{arenas_left, clearing_left, grouping_left, steps_left, steps_of}
use Rattle.slice_driver.specs.Represents.{IsInPreparation, NothingLeft}
use Rattle.slice_driver.specs.UnitsToCome.{is_wrapper_named, may_be_noted, present_places, units_to_come}
use Rattle.slice_driver.specs.Worlds.{LiesIn}
use Rattle.slice_driver.proofs.abstraction.Lying.{zone_named}
use Rattle.slice_driver.proofs.abstraction.Named.{delegate_named, some_one}
use Rattle.slice_driver.proofs.abstraction.Waits.{none_waiting}
use Rattle.slice_driver.proofs.beginning.Begun.{IsPreparingIn, own_begun, phase_of, run_begun}
use Rattle.slice_driver.proofs.group_end.Cells.{has_in_zones, in_zones_has, listed_zones}
use Rattle.slice_driver.proofs.measure.BeginsToCome.{IsUnscanned, begun_within}
use Rattle.slice_driver.proofs.measure.CountedCells.{counted_cells}
use Rattle.slice_driver.proofs.measure.CountedEntries.{counted_entries, row_found}
use Rattle.slice_driver.proofs.measure.CountedWrappers.{counted_wrappers, few_listed, left_listed, listed_same}
use Rattle.slice_driver.proofs.measure.CountedZones.{few_steps_begun, few_ungrouped, few_zones}
use Rattle.slice_driver.proofs.measure.FewUnits.{few_arenas, few_present, few_rows as few_rows_of}
use Rattle.slice_driver.proofs.measure.FewerEntries.{none_now}
use Rattle.slice_driver.proofs.taking_in.Runs.{has_zone_or_not}

first_or : (p : Bool) → p ≡ true → (q : Bool) → (p || q) ≡ true
first_or true e q = refl
first_or false e q = absurd (cc e)

second_or : (p q : Bool) → q ≡ true → (p || q) ≡ true
second_or true q e = refl
second_or false q e = e

module _ (c d : CollectorState) (flown : ℕ → Option Bits) (w : World) (p : Preparation) (zones : ZoneSet)
    (at : IsPreparingIn c flown w zones) (ok : IsValid w) (was : w.preparing ≡ Some p)
    (b : BeginsMarking c.heap zones d.heap d.stack d.lists) (small : (z : ℕ) → bit_at zones.bits z ≡ 1 → z < 64)
    (sound : AreEntries c.heap.shape.weak) (apart : AreApart c.heap.shape.wrappers.lists) (are : d.edges.zones ≡ zones)
    (run : d.run ≡ Some (run_begun zones)) where
  -- the preparation is of these zones
  abbrev of_zones : Preparation
  of_zones = record p { zones = zones_in zones }

  same_preparation : p ≡ of_zones
  same_preparation =
      let phase = phase_of c flown w zones at in
      let same : phase.preparation ≡ p = some_one _ _ (sym phase.preparing_is ∙ was) in
      ap (λ (zs : List ℕ). record p { zones = zs }) (sym (ap (λ (q : Preparation). q.zones) same) ∙ phase.zones_are)

  abbrev tally : Tally
  tally = first_tally w of_zones

  abbrev is_here : Name → Bool
  is_here x = is_in_zones w.graph (zones_in zones) x

  lies : LiesIn c.heap w
  lies = at.represents.placed.lies

  inv : PreparingInvariant c.heap c.stack
  inv = at.represents.cleared.invariant

  state_out : (z : ℕ) → (HasZone zones.bits z → ⊥) → state_in c.heap.shape z ≡ state.NoGC
  state_out = (phase_of c flown w zones at).outside

  -- before marking begins no zone is marking
  off : (z : ℕ) → is_marking_state (state_in c.heap.shape z) ≡ false
  off z = elim (has_zone_or_not zones.bits z) [
    | inl has ↦ ap is_marking_state ((phase_of c flown w zones at).inside z has)
    | inr out ↦ ap is_marking_state ((phase_of c flown w zones at).outside z out)
  ]

  places_same : present_places d.heap.shape ≡ present_places c.heap.shape
  places_same = ap (λ (s : Shape). present_places s) b.shape_is

  zone_same : (x : Place) → zone_of d.heap.shape x ≡ zone_of c.heap.shape x
  zone_same x = ap (λ (s : Shape). zone_of s x) b.shape_is

  -- what is marking lies in these zones
  marking_in : (x : Place) → is_marking d.heap.shape x ≡ true → HasZone zones.bits (zone_of c.heap.shape x)
  marking_in x on = elim (has_zone_or_not zones.bits (zone_of c.heap.shape x)) [
    | inl has ↦ has
    | inr none ↦ absurd (let rests = ap (λ z. is_marking_state (state_in d.heap.shape z)) (zone_same x)
        ∙ (ap is_marking_state (b.other_states (zone_of c.heap.shape x) none) ∙ off (zone_of c.heap.shape x)) in
        cc (on, rests))
  ]

  named_here : (q : Place) (x : Name) → name_at c.heap.shape q ≡ Some x → is_marking d.heap.shape q ≡ true
      → is_here x ≡ true
  named_here p x named on = in_zone w.graph (zones_in zones) x (zone_of c.heap.shape p)
      (zone_named c.heap lies.graph w.graph p x lies.shown lies.part.part named)
      ((zones_in-has zones (zone_of c.heap.shape p)).1 (marking_in p on))

  few_cells : count_by (is_marking d.heap.shape) (present_places d.heap.shape) ≤ tally.cells
  few_cells = subst (λ (ps : List Place). count_by (is_marking d.heap.shape) ps ≤ tally.cells) (sym places_same)
      (counted_cells c.heap w lies (is_marking d.heap.shape) is_here named_here)

  few_wrappers : count_by (may_be_noted d.heap.shape) (present_places d.heap.shape) ≤ tally.wrappers
  few_wrappers = subst (λ (ps : List Place). count_by (may_be_noted d.heap.shape) ps ≤ tally.wrappers) (sym places_same)
      (counted_cells c.heap w lies (may_be_noted d.heap.shape) (λ x. is_wrapper x && is_here x) counts)
    where
      counts : (p : Place) (x : Name) → name_at c.heap.shape p ≡ Some x → may_be_noted d.heap.shape p ≡ true
          → (is_wrapper x && is_here x) ≡ true
      counts p x named may =
          let on = first_of_both (is_marking d.heap.shape p) _ may in
          let wrapper = second_of_both (is_marking d.heap.shape p) _ may in
          let now : name_at d.heap.shape p ≡ Some x = ap (λ (s : Shape). name_at s p) b.shape_is ∙ named in
          both_of (is_wrapper x) (is_here x)
          (sym (ap is_wrapper_named now) ∙ wrapper) (named_here p x named on)

  -- the entries whose map is marking, and the rows whose target is, each with their entry
  few_entries : count_by (λ (e : WeakEntry). is_marking d.heap.shape e.map) d.heap.shape.weak.entries ≤ tally.entries
  few_entries = subst
      (λ (s : Shape). count_by (λ (e : WeakEntry). is_marking d.heap.shape e.map) s.weak.entries ≤ tally.entries)
      (sym b.shape_is)
      (counted_entries c.heap w lies (is_counted_entry w (zones_in zones)) (λ (e : WeakEntry). e)
      (λ (e : WeakEntry). is_marking d.heap.shape e.map) c.heap.shape.weak.entries sound.distinct
      (λ e has. (sound.found e.map e.key e.value).0 has)
      (λ e has x y z map_is key_is on here there.
      both_of _ _ (first_or (is_here x) (named_here e.map x map_is on)
      (has_delegate_in_zones w.graph (zones_in zones) y))
      (both_of _ _ here there)))

  few_rows : count_by (λ (r : DelegateRow). is_marking d.heap.shape r.target) d.heap.shape.weak.delegates.rows
      ≤ tally.entries
  few_rows = subst
      (λ (s : Shape). count_by (λ (r : DelegateRow). is_marking d.heap.shape r.target) s.weak.delegates.rows
      ≤ tally.entries)
      (sym b.shape_is)
      (counted_entries c.heap w lies (is_counted_entry w (zones_in zones)) (entry_of_row c.heap.shape.weak)
      (λ (r : DelegateRow). is_marking d.heap.shape r.target) c.heap.shape.weak.delegates.rows
      sound.delegates.distinct (row_found c.heap.shape.weak sound)
      (λ r has x y z map_is key_is on here there.
      both_of _ _ (second_or (is_here x) (has_delegate_in_zones w.graph (zones_in zones) y)
      (delegated r has y key_is on))
      (both_of _ _ here there)))
    where
      -- the name of the target is that of the key's delegate
      delegated : (r : DelegateRow) → Contains c.heap.shape.weak.delegates.rows r → (y : Name)
          → name_at c.heap.shape r.key ≡ Some y → is_marking d.heap.shape r.target ≡ true
          → has_delegate_in_zones w.graph (zones_in zones) y ≡ true
      delegated r has y key_is on =
          let value = sound.entered r has in
          let is = (inv.holds.colours.shape.delegates r.map r.key value.0 r.target value.1).1
          (sound.delegates.found r has) in
          let target = delegate_named c.heap w lies r.key r.target y is key_is in
          ap (has_delegate_in_zones w.graph (zones_in zones)) target.2
          ∙ named_here r.target (Cell target.1) target.3 on

  one_zone : (e : WeakEntry) → Contains d.heap.shape.weak.entries e
      → is_marking d.heap.shape e.key ≡ is_marking d.heap.shape e.map
  one_zone e has =
      let was : Contains c.heap.shape.weak.entries e = subst (λ (s : Shape). Contains s.weak.entries e) b.shape_is has
      in
      let same = inv.holds.colours.shape.one_zone e.map e.key e.value ((sound.found e.map e.key e.value).0 was) in
      ap (λ z. is_marking_state (state_in d.heap.shape z))
      (zone_same e.key ∙ (same.1 ∙ (sym same.0 ∙ sym (zone_same e.map))))

  nothing_left : NothingLeft d.heap.looks
  nothing_left = subst (λ (l : LooksState). NothingLeft l) (sym b.looks_is)
      at.represents.cleared.waits.looks

  unscanned : IsUnscanned (heap_with d flown) d.stack d.lists
  unscanned = subst (λ (h : HeapState). IsUnscanned h d.stack d.lists)
      (sym (own_begun c d flown w zones at b)) (record {
        once = b.once;
        none_gray = b.gray_pile;
        one_zone = one_zone;
        looked = none_now d.heap.looks nothing_left.0 nothing_left.1;
        waiting = none_waiting d.lists b.none_incoming;
      })

  -- the zone of a name tells whether it is of these zones
  told_here : (x : Name) (z : ℕ) → zone_named_in w.graph x ≡ Some z → is_here x ≡ in_zones zones.bits z
  told_here x z at = ap (is_among (zones_in zones)) at ∙ listed_zones zones small z

  buffered : sum_by length d.heap.buffers ≤ 64 + tally.outside
  buffered =
      let few = counted_wrappers c.heap w lies apart (is_outside zones) (λ x. is_wrapper x && not (is_here x))
      (λ z x out at wrapper. both_of _ _ wrapper (ap not (told_here x z at) ∙ out)) (length c.heap.shape.states) in
      omega (arith, few, b.few_buffered)

  grouping : grouping_left d.heap.shape d.edges d.run ≤ tally.wrappers + tally.zones
  grouping =
      let is = ap (grouping_left d.heap.shape d.edges) run in
      let looks = left_listed d.heap.shape d.edges 64 in
      let inside : listed_below d.heap.shape (in_zones d.edges.zones.bits) 64
      ≡ listed_below c.heap.shape (in_zones zones.bits) 64 =
      ap (λ (y : ZoneSet). listed_below d.heap.shape (in_zones y.bits) 64) are
      ∙ listed_same d.heap.shape c.heap.shape (in_zones zones.bits)
      (ap (λ (s : Shape). s.wrappers) b.shape_is) 64 in
      let few = counted_wrappers c.heap w lies apart (in_zones zones.bits) (λ x. is_wrapper x && is_here x)
      (λ z x has at wrapper. both_of _ _ wrapper (told_here x z at ∙ has)) 64 in
      let steps = few_ungrouped d.edges zones are in
      omega (arith, is, looks, inside, few, steps)

  steps : steps_left d.heap.shape.states ≤ 2 * tally.zones
  steps = few_steps_begun zones d.heap.shape.states small each
    where
      by_bit : (z : ℕ) (t : Bool) → in_zones zones.bits z ≡ t
          → steps_of (state_in d.heap.shape z) ≤ (if t then 2 else 0)
      by_bit z true has =
          let two : steps_of (state_in d.heap.shape z) ≡ 2 =
          ap steps_of (b.states z (in_zones_has zones small z has)) in
          omega (arith, two)
      by_bit z false out =
          let none : steps_of (state_in d.heap.shape z) ≡ 0 =
          ap steps_of (b.other_states z
          (λ has. (let yes = has_in_zones zones z has in cc (out, yes)))
          ∙ state_out z (λ has. (let yes = has_in_zones zones z has in cc (out, yes)))) in
          omega (arith, none)

      each : (z : ℕ) → steps_of (state_in d.heap.shape z) ≤ (if bit_at zones.bits z == 1 then 2 else 0)
      each z = by_bit z (in_zones zones.bits z) refl

  -- there is some zone
  some : 1 ≤ tally.zones
  some = go (zones_in zones) ((zones_in-has zones phase.some.0).1 phase.some.1)
    where
      phase : IsInPreparation c.heap w zones
      phase = phase_of c flown w zones at

      go : (zs : List ℕ) → Contains zs phase.some.0 → 1 ≤ length zs
      go [] has = absurd (nothing_in_none phase.some.0 has)
      go (z ∷ zs) has = omega arith

  -- so in the world in which marking begins
  pub within_begun : p.arenas + 1 + units_to_come d flown ≤ unit_limit (first_tally w p)
  within_begun = subst (λ (q : Preparation). q.arenas + 1 + units_to_come d flown ≤ unit_limit (first_tally w q))
      (sym same_preparation)
      (begun_within d flown tally unscanned
      (record { few_cells = few_cells; few_entries = few_entries; few_rows = few_rows; few_wrappers = few_wrappers })
      buffered grouping steps (ap (clearing_left d.heap.shape) run) some)

  -- and by the size of the heap alone it is less than what was left before
  abbrev most : Tally
  most = record {
    arenas = 0;
    cells = length (present_places d.heap.shape);
    entries = length d.heap.shape.weak.entries;
    outside = length (present_places c.heap.shape);
    wrappers = length (present_places d.heap.shape);
    zones = length (zones_in zones);
    sweeps = 0;
    spent = 0;
  }

  few_zones_made : length (zones_in zones) ≤ length c.heap.shape.states
  unfolding HasZone
  few_zones_made = few_zones zones (length c.heap.shape.states)
      (λ z e. (phase_of c flown w zones at).made z (small z e, e))

  buffered_most : sum_by length d.heap.buffers ≤ 64 + length (present_places c.heap.shape)
  buffered_most =
      let few = few_listed c.heap w lies apart (is_outside zones) (λ x. true) (λ z x out is wrapper. refl)
      (length c.heap.shape.states) in
      omega (arith, few, b.few_buffered)

  grouping_most : grouping_left d.heap.shape d.edges d.run
      ≤ length (present_places d.heap.shape) + length (zones_in zones)
  grouping_most =
      let is = ap (grouping_left d.heap.shape d.edges) run in
      let looks = left_listed d.heap.shape d.edges 64 in
      let inside : listed_below d.heap.shape (in_zones d.edges.zones.bits) 64
      ≡ listed_below c.heap.shape (in_zones d.edges.zones.bits) 64 =
      listed_same d.heap.shape c.heap.shape (in_zones d.edges.zones.bits)
      (ap (λ (s : Shape). s.wrappers) b.shape_is) 64 in
      let few = few_listed c.heap w lies apart (in_zones d.edges.zones.bits) (λ x. true) (λ z x out is wrapper. refl) 64
      in
      let same = ap (λ (ps : List Place). length ps) places_same in
      let more = few_ungrouped d.edges zones are in
      omega (arith, is, looks, inside, few, same, more)

  pub less_begun : units_to_come d flown + arenas_left d.heap.shape d.heap.shape.arenas ≤ most_of c.heap.shape
  less_begun =
      let bound = begun_within d flown most unscanned
      (record {
        few_cells = count_by-le-length (is_marking d.heap.shape) (present_places d.heap.shape);
        few_entries = count_by-le-length (λ (e : WeakEntry). is_marking d.heap.shape e.map) d.heap.shape.weak.entries;
        few_rows = (let some_rows = count_by-le-length (λ (r : DelegateRow). is_marking d.heap.shape r.target)
            d.heap.shape.weak.delegates.rows in
            let rows = few_rows_of d.heap.shape.weak
            (subst (λ (s : Shape). AreEntries s.weak) (sym b.shape_is) sound) in
            omega (arith, some_rows, rows));
        few_wrappers = count_by-le-length (may_be_noted d.heap.shape) (present_places d.heap.shape);
      })
      buffered_most grouping_most steps (ap (clearing_left d.heap.shape) run) some in
      let cells = few_present c.heap.shape in
      let same = ap (λ (ps : List Place). length ps) places_same in
      let entries = ap (λ (s : Shape). length s.weak.entries) b.shape_is in
      let arenas = few_arenas d.heap.shape d.heap.shape.arenas in
      let long = ap (λ (s : Shape). length s.arenas) b.shape_is in
      omega (arith, bound, cells, same, entries, arenas, long, few_zones_made)

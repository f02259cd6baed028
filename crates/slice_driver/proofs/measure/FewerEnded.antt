-- The end of a group lowers what is left.
use Rattle.std.proofs.Common.{◌≡◌, ◌<◌, ◌≤◌, ◌+◌, ◌&&◌, ℕ, zero, suc, Bool, true, false, if◌then◌else◌, cond, Option}
use Rattle.std.proofs.Common.{None}
use Rattle.std.proofs.Common.{Some, is_some, List, [], ◌∷◌, length, slice_get, sum_by, refl, sym, ap, ◌∙◌, inl, inr}
use Rattle.std.proofs.Common.{arith}
use Rattle.std.specs.Option.{option_map}
use Rattle.gz_names.specs.Zones.{HasZone}
use Rattle.gz_names.specs.declared.numbers.Place.{Place}
use Rattle.cell_bits.specs.declared.bits.Bits.{Bits}
use Rattle.cell_bits.specs.declared.jobs.Job.{Job}
use Rattle.arena_table.specs.Cells.{CellState}
use Rattle.arena_table.specs.Indexed.{in_zones}
use Rattle.colour_defs.proofs.ZoneSets.{zones_in-has}
use Rattle.heap_core.specs.Shape.{ArenaShape, cell_of, is_marking, is_marking_state, out_in, state_in, zone_of}
use Rattle.heap_core.specs.Heap.{HeapState, colour_in, colour_of, weak_of, with_flown}
use Rattle.heap_core.specs.Sweeping.{handed, jobs_of, with_handed}
use Rattle.weak_maps.specs.Delegates.{DelegateRow}
use Rattle.weak_maps.specs.WeakMaps.{WeakMapsState}
use Rattle.weak_maps.specs.declared.colours.MarkColour.TheVariants as mark
use Rattle.marker.specs.Looks.{looks_now}
use Rattle.marker.specs.UnitsToCome.{is_black_only}
use Rattle.weak_maps.specs.declared.entries.WeakEntry.{WeakEntry}
use Rattle.slice_driver.specs.Advancing.{EndsSweeping}
use Rattle.slice_driver.specs.Collector.{CollectorState, heap_with}
use Rattle.slice_driver.specs.Left.{marking_left, starting_left, units_left}
use Rattle.slice_driver.specs.Quiet.{IsStarted}
use Rattle.slice_driver.specs.Remaining.{arenas_left, clearing_left, grouping_left, left_of, steps_left, steps_of}
use Rattle.slice_driver.specs.Units.{AreJobs, IsSoundMarking, flown_by, flying_after}
use Rattle.slice_driver.specs.UnitsToCome.{units_to_come}
use Rattle.slice_driver.proofs.group_end.EndReady.{sized_here}
use Rattle.slice_driver.proofs.measure.Fewer.{arenas_handed, black_only_kept, fewer_steps, grouped, marking_kept}
use Rattle.slice_driver.proofs.measure.Fewer.{own_flown, steps_kept}
use Rattle.slice_driver.proofs.abstraction.Phases.{started_of}
use Rattle.slice_driver.proofs.abstraction.Waits.{none_carried}
use Rattle.slice_driver.proofs.measure.FewerEntries.{none_now, sum_no_more}
use Rattle.slice_driver.proofs.measure.StatesToCome.{IsStillMarking, states_no_more}
use Rattle.slice_driver.proofs.group_end.Cells.{cell_at_end, handed_length, has_in_zones, in_zones_has, is_dead}
use Rattle.slice_driver.proofs.group_end.Cells.{is_white_colour, zone_at_end, zone_or_not}
use Rattle.slice_driver.proofs.group_end.Laws.{jobs_flown}
use Rattle.slice_driver.proofs.group_end.Ready.{collection_of, no_some, some_zone}
use Rattle.slice_driver.proofs.taking_in.GroupEnding.{group_swept, others_stay}
use Rattle.slice_driver.proofs.group_end.Ending.{HandsGroup}

-- what an arena has as it goes out is the heap's
handed_bits : (word : ℕ) (arenas : List ArenaShape) (colours : List Bits)
    → ((a : ℕ) → out_in (slice_get arenas a) ≡ None) → (i : ℕ) (b : Bits)
    → out_in (slice_get (handed word arenas colours) i) ≡ Some b → slice_get colours i ≡ Some b
handed_bits word [] colours kept i b e = absurd (cc e)
handed_bits word (arena ∷ arenas) [] kept i b e = absurd (cc e)
handed_bits word (arena ∷ arenas) (bits ∷ colours) kept zero b e = go (in_zones word arena.zone) e
  where
    go : (t : Bool) → (cond t (record arena { out = Some bits }) arena).out ≡ Some b → Some bits ≡ Some b
    go true e = e
    go false e = absurd (let none = kept 0 in cc (none, e))
handed_bits word (arena ∷ arenas) (bits ∷ colours) kept (suc i) b e =
    handed_bits word arenas colours (λ a. kept (suc a)) i b e

module _ (c : CollectorState) (m : HeapState) (on : HandsGroup c m) (flown : ℕ → Option Bits)
    (s : IsSoundMarking c flown) (k : HeapState) (over : Bool) (e : EndsSweeping m on.rest over k) where
  open on use {group as g, rest, ready, jobs, out}

  none_flown : (a : ℕ) → flown a ≡ None
  none_flown a = no_some (flown a) (s.represents.swept.flies.covers a ∙ ap is_some (ready.kept a))

  sized : length c.heap.colours ≡ length c.heap.shape.arenas
  sized = sized_here c flown ready.kept s

  arenas_are : k.shape.arenas ≡ handed g.bits c.heap.shape.arenas c.heap.colours
  arenas_are = ap (λ (x : HeapState). x.shape.arenas) e.rest
      ∙ (ap (λ (x : HeapState). x.shape.arenas) out.goes.rest ∙ ap (λ (x : HeapState). x.shape.arenas) out.drops.rest)

  colours_are : k.colours ≡ c.heap.colours
  colours_are = ap (λ (x : HeapState). x.colours) e.rest
      ∙ (ap (λ (x : HeapState). x.colours) out.goes.rest ∙ ap (λ (x : HeapState). x.colours) out.drops.rest)

  buffers_are : k.buffers ≡ c.heap.buffers
  buffers_are = ap (λ (x : HeapState). x.buffers) e.rest
      ∙ (ap (λ (x : HeapState). x.buffers) out.goes.rest ∙ ap (λ (x : HeapState). x.buffers) out.drops.rest)

  flown_own : (a : ℕ) (b : Bits) → flying_after jobs flown a ≡ Some b → slice_get c.heap.colours a ≡ Some b
  flown_own a b = go jobs out.jobs_are
    where
      listed : flown_by (jobs_of g.bits 0 c.heap.shape.arenas c.heap.colours) a ≡ Some b
          → slice_get c.heap.colours a ≡ Some b
      listed at = handed_bits g.bits c.heap.shape.arenas c.heap.colours ready.kept a b
          (ap (λ (xs : List ArenaShape). out_in (slice_get xs a)) (sym arenas_are)
          ∙ (sym (jobs_flown c.heap k g.bits sized ready.kept arenas_are a) ∙ at))

      go : (o : Option (List Job)) → AreJobs o (jobs_of g.bits 0 c.heap.shape.arenas c.heap.colours)
          → flying_after o flown a ≡ Some b → slice_get c.heap.colours a ≡ Some b
      go None is at = absurd (let none = none_flown a in cc (none, at))
      go (Some js) is at = listed (ap (λ (x : List Job). flown_by x a) (sym is.0) ∙ at)

  colours_same : with_flown (flying_after jobs flown) 0 k.colours ≡ with_flown flown 0 c.heap.colours
  colours_same =
      ap (with_flown (flying_after jobs flown) 0) colours_are
      ∙ (own_flown (flying_after jobs flown) 0 c.heap.colours
      (λ i b at. (let z : 0 + i ≡ i = omega arith in flown_own i b (ap (flying_after jobs flown) (sym z) ∙ at)))
      ∙ sym (own_flown flown 0 c.heap.colours (λ i b at. absurd (let none = none_flown (0 + i) in cc (none, at)))))

  steps_at : (z : ℕ) → steps_of (state_in k.shape z) ≤ steps_of (state_in c.heap.shape z)
  steps_at z =
      let same = steps_kept m k rest over e z in
      elim (zone_or_not g ready.small z) [
        | inl has ↦ (let none : steps_of (state_in m.shape z) ≡ 0 =
            ap steps_of (group_swept c m on z has) in omega (arith, same, none))
        | inr other ↦ (let as_was : steps_of (state_in m.shape z) ≡ steps_of (state_in c.heap.shape z) =
            ap steps_of (others_stay c m on z other) in omega (arith, same, as_was))
      ]

  a_zone : (z : ℕ) × HasZone g.bits z
  a_zone =
      let kind = collection_of c (heap_with c flown) s.world ready.run ready.running s.represents.phase.runs in
      let z = some_zone c flown s.world kind.0 g rest
      (record { valid = s.valid; represents = s.represents; ready = ready; running = kind.1 }) in
      (z.0, (zones_in-has g z.0).0 z.1)

  steps_less : steps_left k.shape.states < steps_left c.heap.shape.states
  steps_less =
      let z = a_zone.0 in
      let same = steps_kept m k rest over e z in
      let none : steps_of (state_in m.shape z) ≡ 0 = ap steps_of (group_swept c m on z a_zone.1) in
      let one : steps_of (state_in c.heap.shape z) ≡ 1 = ap steps_of (ready.marked.begun z a_zone.1) in
      fewer_steps c.heap.shape.states k.shape.states z
      (e.sized ∙ (out.goes.sized ∙ ap (λ (x : HeapState). length x.shape.states) out.drops.rest)) steps_at
      (omega (arith, same, none, one))

  arenas_less : arenas_left k.shape k.shape.arenas ≤ arenas_left c.heap.shape c.heap.shape.arenas
  arenas_less =
      let less = arenas_handed c.heap.shape k.shape g.bits c.heap.shape.arenas c.heap.colours sized
      (λ z here. ap is_marking_state (ready.marked.begun z (in_zones_has g ready.small z here)))
      (λ z other. marking_kept m k rest over e z
      ∙ ap is_marking_state
      (others_stay c m on z (λ has. (let here = has_in_zones g z has in cc (here, other))))) in
      let same : arenas_left k.shape k.shape.arenas
      ≡ arenas_left k.shape (handed g.bits c.heap.shape.arenas c.heap.colours) =
      ap (arenas_left k.shape) arenas_are in
      omega (arith, less, same)

  none_to_group : grouping_left c.heap.shape c.edges c.run ≡ 0
  none_to_group = ap (grouping_left c.heap.shape c.edges) ready.running
      ∙ grouped c.heap.shape c.edges ready.run ready.formed

  none_grouping : (b : Bool) → grouping_left k.shape c.edges (if b then None else c.run) ≡ 0
  none_grouping true = refl
  none_grouping false = ap (grouping_left k.shape c.edges) ready.running
      ∙ grouped k.shape c.edges ready.run ready.formed

  begun : IsStarted c
  begun = started_of c flown s.world s.represents (ap is_some ready.running)

  -- nothing is to be cleared, nor is marking to begin
  none_clearing : (b : Bool) → clearing_left k.shape (if b then None else c.run) ≡ 0
  none_clearing true = refl
  none_clearing false = ap (clearing_left k.shape) begun.1 ∙ ap (left_of k.shape begun.0.zones) begun.2

  none_starting : (b : Bool) → marking_left k.shape (if b then None else c.run) ≡ 0
  none_starting true = refl
  none_starting false = ap (marking_left k.shape) begun.1 ∙ ap (starting_left k.shape) begun.2

  weak_are : weak_of k ≡ weak_of out.dropped
  weak_are = ap weak_of e.rest ∙ ap weak_of out.goes.rest

  -- nothing was to be looked at, and so it is
  looks_less : looks_now k.looks ≤ looks_now c.heap.looks
  looks_less =
      let old : WeakMapsState = weak_of (with_handed c.heap g.bits) in
      let new : WeakMapsState = weak_of out.dropped in
      let none = none_now out.dropped.looks
      (none_carried mark.Gray old new out.drops.carries out.drops.parallel ready.marked.none_gray)
      (none_carried mark.Black old new out.drops.carries out.drops.parallel ready.marked.none_black) in
      let same = ap (λ (w : WeakMapsState). looks_now w.looks) weak_are in
      omega (arith, none, same)

  -- entries are dropped, and none comes
  entries_less : (f : WeakEntry → ℕ) → sum_by f k.shape.weak.entries ≤ sum_by f c.heap.shape.weak.entries
  entries_less f =
      let less = sum_no_more (λ (x : WeakEntry). x.map) (λ (x : WeakEntry). x.key) f out.dropped.shape.weak.entries
      c.heap.shape.weak.entries out.drops.sound.distinct
      (λ entry has. ((out.drops.entries.exact entry).0 has).0) in
      let same = ap (λ (w : WeakMapsState). sum_by f w.table.entries) weak_are in
      omega (arith, less, same)

  rows_less : (f : DelegateRow → ℕ) → sum_by f k.shape.weak.delegates.rows ≤ sum_by f c.heap.shape.weak.delegates.rows
  rows_less f =
      let less = sum_no_more (λ (x : DelegateRow). x.map) (λ (x : DelegateRow). x.key) f
      out.dropped.shape.weak.delegates.rows c.heap.shape.weak.delegates.rows out.drops.sound.delegates.distinct
      (λ row has. ((out.drops.rows.rows row).0 has).0) in
      let same = ap (λ (w : WeakMapsState). sum_by f w.table.delegates.rows) weak_are in
      omega (arith, less, same)

  -- a cell of a zone that is still marking is of no zone of the group, so it is what it was
  still_marking : (x : Place) → is_marking k.shape x ≡ true
      → IsStillMarking (heap_with c flown)
      (heap_with (record c { heap = k; groups = rest; run = if over then None else c.run }) (flying_after jobs flown)) x
  still_marking x marks = record {
    name_is = ap (λ (o : Option CellState). option_map (λ (c : CellState). c.name) o)
        (cell_at_end c.heap k g arenas_are sized ready.kept x
        ∙ ap (λ (b : Bool). cond b None (cell_of c.heap.shape x)) alive);
    was = sym (marking_then other) ∙ marks;
    colour_is = ap (λ (cs : List Bits). colour_in (slice_get cs x.0) x.1) colours_same;
    black_only = λ only. sym (ap is_black_only
        (others_stay c m on (zone_of c.heap.shape x) other))
        ∙ (sym (ap (λ z. is_black_only (state_in k.shape z)) zone_same
        ∙ black_only_kept m k rest over e (zone_of c.heap.shape x)) ∙ only);
  }
    where
      zone_same : zone_of k.shape x ≡ zone_of c.heap.shape x
      zone_same = zone_at_end c.heap k g arenas_are sized ready.kept x

      marking_now : is_marking k.shape x ≡ is_marking_state (state_in m.shape (zone_of c.heap.shape x))
      marking_now = ap (λ z. is_marking_state (state_in k.shape z)) zone_same
          ∙ marking_kept m k rest over e (zone_of c.heap.shape x)

      other : HasZone g.bits (zone_of c.heap.shape x) → ⊥
      other has = (let off = ap is_marking_state (group_swept c m on (zone_of c.heap.shape x) has) in
          let now = marking_now in cc (marks, off, now))

      marking_then : (HasZone g.bits (zone_of c.heap.shape x) → ⊥)
          → is_marking k.shape x ≡ is_marking c.heap.shape x
      marking_then none = marking_now
          ∙ ap is_marking_state (others_stay c m on (zone_of c.heap.shape x) none)

      alive : is_dead c.heap g x ≡ false
      alive = go (in_zones g.bits (zone_of c.heap.shape x)) refl
        where
          go : (b : Bool) → in_zones g.bits (zone_of c.heap.shape x) ≡ b → is_dead c.heap g x ≡ false
          go true has = absurd (other (in_zones_has g ready.small (zone_of c.heap.shape x) has))
          go false none = ap (λ (b : Bool). b && is_white_colour (colour_of c.heap x)) none

  pub ending_to_come : units_to_come (record c { heap = k; groups = rest; run = if over then None else c.run })
      (flying_after jobs flown) < units_to_come c flown
  unfolding units_to_come
  ending_to_come =
      let marks = states_no_more (heap_with c flown)
      (heap_with (record c { heap = k; groups = rest; run = if over then None else c.run })
      (flying_after jobs flown)) c.stack c.lists
      (ap (λ (xs : List ArenaShape). length xs) arenas_are
      ∙ handed_length g.bits c.heap.shape.arenas c.heap.colours sized)
      buffers_are still_marking looks_less entries_less
      rows_less in
      omega (arith, marks, none_grouping over, none_to_group, steps_less, none_clearing over)

  pub ending_lowers : units_left (record c { heap = k; groups = rest; run = if over then None else c.run })
      (flying_after jobs flown) < units_left c flown
  ending_lowers = let falls = ending_to_come in omega (arith, falls, arenas_less, none_starting over)

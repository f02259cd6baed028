-- An arena that came in lowers what is left, and raises nothing of what is to come besides arenas.
use Rattle.std.proofs.Common.{◌≡◌, ◌≢◌, ◌<◌, ◌≤◌, ◌+◌, ℕ, Bool, true, false, if◌then◌else◌, eqb, eqb-true, eq-eqb}
use Rattle.std.proofs.Common.{Option, None, Some, IsSome, List, length, slice_get, sum_by, inl, inr, refl, sym, ap, ◌∙◌}
use Rattle.std.proofs.Common.{arith, option_map}
use Rattle.std.proofs.lemmas.Bool.{cases_eq}
use Rattle.cell_bits.specs.declared.bits.Bits.{Bits}
use Rattle.gz_names.specs.declared.numbers.Place.{Place}
use Rattle.arena_table.specs.Cells.{CellState}
use Rattle.arena_table.specs.Slots.{change_at}
use Rattle.arena_table.proofs.Changing.{length-change_at, slice_get-change_other, slice_get-change_same}
use Rattle.heap_core.specs.Shape.{ArenaShape, Shape, cell_in_arena, is_marking, is_marking_state, out_in, out_of}
use Rattle.heap_core.specs.Shape.{state_in, zone_in, zone_of}
use Rattle.heap_core.specs.Heap.{HeapState, colour_in, with_flown}
use Rattle.heap_core.specs.Sweeping.{come_in, with_taken}
use Rattle.marker.specs.Looks.{looks_now}
use Rattle.marker.specs.UnitsToCome.{is_black_only}
use Rattle.slice_driver.specs.Advancing.{EndsSweeping}
use Rattle.slice_driver.specs.Collector.{CollectorState, RunState, heap_with}
use Rattle.slice_driver.specs.Left.{marking_left, starting_left, units_left}
use Rattle.slice_driver.specs.Quiet.{IsStarted}
use Rattle.slice_driver.specs.Remaining.{arenas_left, clearing_left, grouping_left, left_of, steps_left}
use Rattle.slice_driver.specs.Represents.{AreInStates}
use Rattle.slice_driver.specs.Units.{IsLowestOut, IsSoundMarking, without_arena}
use Rattle.slice_driver.specs.UnitsToCome.{units_to_come}
use Rattle.slice_driver.proofs.measure.Fewer.{arenas_same, arenas_taken, black_only_kept, grouped, marking_kept}
use Rattle.slice_driver.proofs.measure.Fewer.{no_more_steps}
use Rattle.slice_driver.proofs.measure.Fewer.{steps_kept}
use Rattle.slice_driver.proofs.measure.StatesToCome.{IsStillMarking, states_no_more}
use Rattle.slice_driver.proofs.abstraction.Phases.{started_of}
use Rattle.slice_driver.proofs.group_end.Ready.{collection_of, runs_of}
use Rattle.slice_driver.proofs.taking_in.GroupingLaws.{unformed_kept}
use Rattle.slice_driver.proofs.taking_in.Heaps.{taken_colours}
use Rattle.slice_driver.proofs.taking_in.TakingIn.{formed_of, run_there}

out_arena : (s : Shape) (a : ℕ) → IsSome (out_of s a) → (arena : ArenaShape) × (slice_get s.arenas a ≡ Some arena)
    × IsSome arena.out
out_arena s a some = go (slice_get s.arenas a) refl some
  where
    go : (o : Option ArenaShape) → slice_get s.arenas a ≡ o → IsSome (out_in o) → (arena : ArenaShape)
        × (slice_get s.arenas a ≡ Some arena) × IsSome arena.out
    go None e some = absurd (cc some)
    go (Some arena) e some = (arena, e, some)

nothing_out : (o : Option Bits) → IsSome o → o ≡ None → ⊥
nothing_out None s e = cc s
nothing_out (Some b) s e = cc e

module _ (c : CollectorState) (flown : ℕ → Option Bits) (a freed : ℕ) (bits : Bits) (at : flown a ≡ Some bits)
    (lowest : IsLowestOut c.heap.shape a) (running : IsSome c.run) (s : IsSoundMarking c flown) (k : HeapState)
    (over : Bool)
    (e : EndsSweeping (with_taken c.heap a freed bits) c.groups over k) where
  abbrev taken : HeapState
  taken = with_taken c.heap a freed bits

  the_run : (r : RunState) × (c.run ≡ Some r)
  the_run = run_there c.run running

  formed : the_run.0.formed ≡ true
  formed = formed_of the_run.0.formed
      (λ unformed. nothing_out (out_of c.heap.shape a) lowest.out
      (unformed_kept c flown s.world the_run.0 s.represents the_run.1 unformed a))

  states : AreInStates c the_run.0
  states = let kind = collection_of c (heap_with c flown) s.world the_run.0 the_run.1 s.represents.phase.runs in
      (runs_of c (heap_with c flown) s.world the_run.0 kind.0 the_run.1 kind.1 s.represents.phase.runs).states

  colours_same : with_flown (without_arena flown a) 0 k.colours ≡ with_flown flown 0 c.heap.colours
  colours_same = ap (λ (h : HeapState). with_flown (without_arena flown a) 0 h.colours) e.rest
      ∙ taken_colours flown (without_arena flown a) bits 0 a c.heap.colours
      (ap flown (let z : 0 + a ≡ a = omega arith in z) ∙ at)
      (let z : 0 + a ≡ a = omega arith in ap (without_arena flown a) z
      ∙ ap (λ (b : Bool). if b then None else flown a) (eq-eqb a a refl))
      (λ i ne. (let z : 0 + i ≡ i = omega arith in ap (without_arena flown a) z
      ∙ (ap (λ (b : Bool). if b then None else flown i) (other i ne) ∙ ap flown (sym z))))
    where
      other : (i : ℕ) → i ≢ a → eqb i a ≡ false
      other i ne = go (eqb i a) refl
        where
          go : (b : Bool) → eqb i a ≡ b → b ≡ false
          go true f = absurd (ne (eqb-true i a f))
          go false f = refl

  buffers_same : k.buffers ≡ c.heap.buffers
  buffers_same = ap (λ (h : HeapState). h.buffers) e.rest

  sweeping : (arena : ArenaShape) → slice_get c.heap.shape.arenas a ≡ Some arena
      → is_marking_state (state_in c.heap.shape arena.zone) ≡ false
  sweeping arena there =
      let at_place : Place = (a, 0) in
      ap is_marking_state (states.sweeping arena.zone a at_place refl (ap zone_in there) lowest.out)

  arenas_less : arenas_left k.shape k.shape.arenas + 1 ≡ arenas_left c.heap.shape c.heap.shape.arenas
  arenas_less =
      let there = out_arena c.heap.shape a lowest.out in
      let same : arenas_left k.shape k.shape.arenas ≡ arenas_left c.heap.shape taken.shape.arenas =
      ap (λ (h : HeapState). arenas_left k.shape h.shape.arenas) e.rest
      ∙ arenas_same c.heap.shape k.shape taken.shape.arenas (marking_kept taken k c.groups over e) in
      let less = arenas_taken c.heap.shape freed a c.heap.shape.arenas there.0 there.1 there.2
      (sweeping there.0 there.1) in
      omega (arith, same, less)

  steps_less : steps_left k.shape.states ≤ steps_left c.heap.shape.states
  steps_less = no_more_steps c.heap.shape.states k.shape.states e.sized
      (λ z. (let same = steps_kept taken k c.groups over e z in omega (arith, same)))

  none_to_group : grouping_left c.heap.shape c.edges c.run ≡ 0
  none_to_group = ap (grouping_left c.heap.shape c.edges) the_run.1 ∙ grouped c.heap.shape c.edges the_run.0 formed

  none_grouping : (b : Bool) → grouping_left k.shape c.edges (if b then None else c.run) ≡ 0
  none_grouping true = refl
  none_grouping false = ap (grouping_left k.shape c.edges) the_run.1 ∙ grouped k.shape c.edges the_run.0 formed

  begun : IsStarted c
  begun = started_of c flown s.world s.represents running

  -- nothing is to be cleared, nor is marking to begin
  none_clearing : (b : Bool) → clearing_left k.shape (if b then None else c.run) ≡ 0
  none_clearing true = refl
  none_clearing false = ap (clearing_left k.shape) begun.1 ∙ ap (left_of k.shape begun.0.zones) begun.2

  none_starting : (b : Bool) → marking_left k.shape (if b then None else c.run) ≡ 0
  none_starting true = refl
  none_starting false = ap (marking_left k.shape) begun.1 ∙ ap (starting_left k.shape) begun.2

  arenas_are : k.shape.arenas ≡ change_at (come_in freed) c.heap.shape.arenas a
  arenas_are = ap (λ (h : HeapState). h.shape.arenas) e.rest

  marking_same : (z : ℕ) → is_marking_state (state_in k.shape z) ≡ is_marking_state (state_in c.heap.shape z)
  marking_same z = marking_kept taken k c.groups over e z

  -- a cell of a zone that is still marking lies in another arena, so it is what it was
  still_marking : (x : Place) → is_marking k.shape x ≡ true
      → IsStillMarking (heap_with c flown)
      (heap_with (record c { heap = k; run = if over then None else c.run }) (without_arena flown a)) x
  still_marking x on = elim (cases_eq x.0 a) [
    | inl here ↦ absurd (not_here here)
    | inr other ↦ (let same = arena_same other in record {
      name_is = ap (λ (o : Option ArenaShape). option_map (λ (c : CellState). c.name) (cell_in_arena o x.1)) same;
      was = sym (ap (λ z. is_marking_state (state_in c.heap.shape z)) (ap zone_in same))
          ∙ (sym (marking_same (zone_of k.shape x)) ∙ on);
      colour_is = ap (λ (cs : List Bits). colour_in (slice_get cs x.0) x.1) colours_same;
      black_only = λ only. sym (black_only_kept taken k c.groups over e (zone_of c.heap.shape x))
          ∙ (ap (λ z. is_black_only (state_in k.shape z)) (sym (ap zone_in same)) ∙ only);
    })
  ]
    where
      arena_same : x.0 ≢ a → slice_get k.shape.arenas x.0 ≡ slice_get c.heap.shape.arenas x.0
      arena_same other = ap (λ (xs : List ArenaShape). slice_get xs x.0) arenas_are
          ∙ slice_get-change_other (come_in freed) c.heap.shape.arenas a x.0 other

      not_here : x.0 ≡ a → ⊥
      not_here here =
          let there = out_arena c.heap.shape a lowest.out in
          let zone_is : zone_of k.shape x ≡ there.0.zone =
          ap (λ b. zone_in (slice_get k.shape.arenas b)) here
          ∙ ap zone_in (ap (λ (xs : List ArenaShape). slice_get xs a) arenas_are
          ∙ (slice_get-change_same (come_in freed) c.heap.shape.arenas a
          ∙ ap (λ (o : Option ArenaShape). option_map (come_in freed) o) there.1)) in
          let off = ap (λ z. is_marking_state (state_in k.shape z)) zone_is
          ∙ (marking_same there.0.zone ∙ sweeping there.0 there.1) in
          cc (on, off)

  pub taking_to_come : units_to_come (record c { heap = k; run = if over then None else c.run })
      (without_arena flown a) ≤ units_to_come c flown
  unfolding units_to_come
  taking_to_come =
      let marks = states_no_more (heap_with c flown)
      (heap_with (record c { heap = k; run = if over then None else c.run }) (without_arena flown a)) c.stack c.lists
      (ap (λ (xs : List ArenaShape). length xs) arenas_are
      ∙ length-change_at (come_in freed) c.heap.shape.arenas a)
      buffers_same still_marking
      (let looks = ap (λ (h : HeapState). looks_now h.looks) e.rest in omega (arith, looks))
      (λ f. (let entries = ap (λ (h : HeapState). sum_by f h.shape.weak.entries) e.rest in omega (arith, entries)))
      (λ f. (let rows = ap (λ (h : HeapState). sum_by f h.shape.weak.delegates.rows) e.rest in omega (arith, rows))) in
      omega (arith, marks, none_grouping over, none_to_group, steps_less, none_clearing over)

  pub taking_lowers : units_left (record c { heap = k; run = if over then None else c.run }) (without_arena flown a)
      < units_left c flown
  taking_lowers = let less = taking_to_come in omega (arith, less, arenas_less, none_starting over)

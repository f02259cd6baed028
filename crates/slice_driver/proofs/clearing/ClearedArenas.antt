-- The bits of an arena are cleared.
use Rattle.std.proofs.Common.{◌≡◌, ◌<◌, ◌≤◌, ◌+◌, ◌-◌, ◌==◌, ◌&&◌, ◌^◌, ℕ, zero, suc, Bool, true, false, not, List, []}
use Rattle.std.proofs.Common.{◌∷◌}
use Rattle.std.proofs.Common.{None, Some, length, length-set, slice_get, slice_set, if◌then◌else◌, refl, sym, ap, ◌∙◌}
use Rattle.std.proofs.Common.{arith, Option}
use Rattle.std.proofs.lemmas.Nat.Bits.{bit_at-zero}
use Rattle.gz_names.specs.Zones.{HasZone}
use Rattle.gz_names.specs.declared.zone_sets.ZoneSet.{ZoneSet}
use Rattle.cell_bits.specs.declared.bits.Bits.{Bits}
use Rattle.cell_bits.specs.declared.bits.Colour.TheVariants as colour
use Rattle.cell_bits.specs.Colours as bits
use Rattle.arena_table.specs.Table.{no_bits}
use Rattle.gray_lists.proofs.Reading.{slice_get-set_same, slice_get-set_other}
use Rattle.heap_core.specs.Shape.{ArenaShape, Shape, is_marking_state, is_owned_in, out_of, state_in, zone_in}
use Rattle.heap_core.specs.Heap.{HeapState, colour_in, flown_or, with_flown, without_delayed}
use Rattle.barriers.specs.Colours.{grays_in, grays_outside, is_gray, slots_below}
use Rattle.slice_driver.specs.declared.collector.Uncleared.{Uncleared}
use Rattle.slice_driver.specs.declared.collector.Phase.{Phase}
use Rattle.slice_driver.specs.declared.collector.Phase.TheVariants as phase
use Rattle.slice_driver.specs.Collector.{CollectorState, RunState, heap_with, run_of}
use Rattle.slice_driver.specs.Preparing.{ClearsArena, IsAllCleared, IsNextUncleared}
use Rattle.slice_driver.specs.Quiet.{IsPreparing}
use Rattle.slice_driver.specs.Remaining.{clearing_left}
use Rattle.slice_driver.specs.Represents.{RepresentsPreparing}
use Rattle.slice_driver.specs.Units.{IsSound}
use Rattle.slice_driver.specs.Working.{GoesOn, IsAtStart}
use Rattle.slice_driver.proofs.abstraction.Named.{some_one}
use Rattle.slice_driver.proofs.clearing.ClearingUnits.{clears_on, preparing_of}
use Rattle.slice_driver.proofs.clearing.ToCome.{owned_none}
use Rattle.slice_driver.proofs.group_end.Cells.{in_zones_has}
use Rattle.slice_driver.proofs.group_end.Steps.{small_word}

-- a slot without bits is white
white_slot : (slot : ℕ) → bits.colour_of no_bits slot ≡ colour.White
white_slot slot = ap (λ n. if n == 1 then colour.Black else (if n == 1 then colour.Gray else colour.White))
    (bit_at-zero slot)

-- an arena of these zones lies in one of them
pub owned_has : (zones : ZoneSet) → zones.bits < 2 ^ 64 → (o : Option ArenaShape) → is_owned_in zones.bits o ≡ true
    → HasZone zones.bits (zone_in o)
owned_has zones fits None is = absurd (cc is)
owned_has zones fits (Some arena) is = in_zones_has zones (small_word zones.bits fits) arena.zone is

-- nor is it gray
no_gray : (n : ℕ) → slots_below (is_gray no_bits) n ≡ 0
unfolding slots_below
no_gray zero = refl
no_gray (suc n) =
    let rest = no_gray n in
    let here = ap {B = ℕ} (λ m. if not (m == 1) && (m == 1) then 1 else 0) (bit_at-zero n) in
    omega (arith, rest, here)

less_where : (b : Bool) (m n : ℕ) → m ≤ n → (if b then 0 else m) ≤ (if b then 0 else n)
less_where true m n le = omega arith
less_where false m n le = le

less_flown : (o : Option Bits) (b : Bits)
    → slots_below (is_gray (flown_or o no_bits)) 64 ≤ slots_below (is_gray (flown_or o b)) 64
less_flown None b = let none = no_gray 64 in omega (arith, none)
less_flown (Some f) b = omega arith

-- so no more slots are gray after an arena's bits are cleared
fewer_grays : (s : Shape) (flown : ℕ → Option Bits) (n : ℕ) (arenas : List ArenaShape) (colours : List Bits) (a : ℕ)
    → grays_in s arenas (with_flown flown n (slice_set colours a no_bits))
    ≤ grays_in s arenas (with_flown flown n colours)
fewer_grays s flown n [] colours a = omega arith
fewer_grays s flown n (x ∷ arenas) [] a = omega arith
fewer_grays s flown n (x ∷ arenas) (b ∷ colours) zero =
    let here = less_where (is_marking_state (state_in s x.zone)) _ _ (less_flown (flown n) b) in
    omega (arith, here)
fewer_grays s flown n (x ∷ arenas) (b ∷ colours) (suc a) =
    let rest = fewer_grays s flown (suc n) arenas colours a in
    omega (arith, rest)

-- the shape alone tells what is next to be cleared
pub next_seen : (h : HeapState) (zones : ZoneSet) (u : Uncleared) (arena : ℕ) → IsNextUncleared h zones u arena
    → IsNextUncleared (without_delayed h) zones u arena
next_seen h zones u arena n = record { within = n.within; owned = n.owned; lowest = n.lowest }

-- the phase that tells that a collection is being prepared
pub preparing_phase : (p : Phase) (zones : ZoneSet) (u : Uncleared)
    → run_of p ≡ Some (record { zones = zones; formed = false; clearing = Some u }) → p ≡ phase.Preparing zones u
preparing_phase phase.Idle zones u e = absurd (cc e)
preparing_phase (phase.Preparing z v) zones u e =
    let same = some_one _ _ e in
    ap (λ (y : ZoneSet). phase.Preparing y v) (ap (λ (r : RunState). r.zones) same)
    ∙ ap (λ (x : Uncleared). phase.Preparing zones x) (some_one v u (ap (λ (r : RunState). r.clearing) same))
preparing_phase (phase.Grouping z v) zones u e =
    absurd (let none = ap (λ (r : RunState). r.clearing) (some_one _ _ e) in cc none)
preparing_phase (phase.Grouped z) zones u e =
    absurd (let none = ap (λ (r : RunState). r.clearing) (some_one _ _ e) in cc none)

-- a collector that is being prepared, and its next arena
module _ (c : CollectorState) (zones : ZoneSet) (u : Uncleared)
    (at : c.run ≡ Some (record { zones = zones; formed = false; clearing = Some u })) where
  abbrev run : RunState
  run = record { zones = zones; formed = false; clearing = Some u }

  preparing : IsPreparing c u
  preparing = (run, at, refl)

  -- it is made, and not out
  module _ (flown : ℕ → Option Bits) (s : IsSound c flown) (arena : ℕ) (next : IsNextUncleared c.heap zones u arena)
    where
      rep : RepresentsPreparing c flown s.world
      rep = preparing_of c flown s.world u preparing s.represents

      same_left : rep.uncleared ≡ u
      same_left =
          let same : rep.run ≡ run = some_one _ _ (sym rep.run_is ∙ at) in
          some_one _ _ (sym rep.clearing ∙ ap (λ (r : RunState). r.clearing) same)

      pub next_made : arena < length c.heap.shape.arenas
      next_made =
          let within = rep.cleared.within in
          let end = ap (λ (x : Uncleared). x.end) same_left in
          let lt = next.within.1 in
          omega (arith, within, end, lt)

      pub next_kept : out_of c.heap.shape arena ≡ None
      next_kept = rep.none_out arena

      pub next_sized : length c.heap.colours ≡ length c.heap.shape.arenas
      next_sized = rep.cleared.invariant.holds.colours.sized

  abbrev cleared : ℕ → CollectorState
  cleared arena = record c {
    heap = record c.heap { colours = slice_set c.heap.colours arena no_bits };
    run = Some (record run { clearing = Some (record u { from = arena + 1 }) });
  }

  clears_arena : (arena : ℕ) → IsNextUncleared c.heap zones u arena → arena < length c.heap.colours
      → ClearsArena c run u arena (cleared arena)
  clears_arena arena next lt = record {
    next = next;
    rest = refl;
    white = λ x is. ap (λ o. colour_in o x.1) (ap (slice_get (slice_set c.heap.colours arena no_bits)) is
        ∙ slice_get-set_same c.heap.colours arena no_bits lt) ∙ white_slot x.1;
    others = λ x ne. ap (λ o. colour_in o x.1) (slice_get-set_other c.heap.colours arena x.0 no_bits ne);
    sized = length-set c.heap.colours arena no_bits;
  }

  -- it is cleared: a unit was done
  pub arena_goes : (arena : ℕ) → IsNextUncleared c.heap zones u arena → zones.bits < 2 ^ 64
      → (flown : ℕ → Option Bits) → IsSound c flown → GoesOn c flown [] (cleared arena) flown
  arena_goes arena next fits flown s =
      let made = next_made flown s arena next in
      let sized = next_sized flown s arena next in
      clears_on c (cleared arena) run u arena at refl (clears_arena arena next (omega (arith, made, sized)))
      (owned_has zones fits (slice_get c.heap.shape.arenas arena) next.owned) flown s

  pub arena_grays : (arena : ℕ) (flown : ℕ → Option Bits) → grays_outside (heap_with (cleared arena) flown)
      ≤ grays_outside (heap_with c flown)
  arena_grays arena flown = fewer_grays c.heap.shape flown 0 c.heap.shape.arenas c.heap.colours arena

  -- none is left to be cleared
  pub all_cleared : IsAllCleared c.heap zones u → IsAtStart c
  all_cleared none = record {
    run = run;
    run_is = at;
    uncleared = u;
    clearing = refl;
    cleared = ap (clearing_left c.heap.shape) at
        ∙ owned_none c.heap.shape zones.bits u.from (u.end - u.from)
        (λ o ge lt. none o ge (omega (arith, ge, lt)));
  }

-- A unit that clears an arena.
use Rattle.std.proofs.Common.{◌≡◌, ◌+◌, ◌-◌, ℕ, suc, [], Option, Some, is_some}
use Rattle.std.proofs.Common.{inr, sym, ap, subst, ◌∙◌, arith, slice_get}
use Rattle.gz_names.specs.Zones.{HasZone}
use Rattle.cell_bits.specs.declared.bits.Bits.{Bits}
use Rattle.colour_defs.specs.World.{World}
use Rattle.colour_defs.specs.Lawful.{quiet}
use Rattle.heap_core.specs.Shape.{Shape, is_owned, zone_in}
use Rattle.slice_driver.specs.declared.collector.Uncleared.{Uncleared}
use Rattle.slice_driver.specs.Collector.{CollectorState, RunState}
use Rattle.slice_driver.specs.Left.{marking_left, most_of, starting_left}
use Rattle.slice_driver.specs.Preparing.{ClearsArena}
use Rattle.slice_driver.specs.Quiet.{IsPreparing}
use Rattle.slice_driver.specs.Remaining.{arenas_left, clearing_left, left_of, owned_from}
use Rattle.slice_driver.specs.Represents.{Represents, RepresentsPreparing, going, prepared}
use Rattle.slice_driver.specs.Units.{IsFreedWord, IsSound}
use Rattle.slice_driver.specs.UnitsToCome.{units_to_come}
use Rattle.slice_driver.specs.Working.{GoesOn, IsAtStart}
use Rattle.slice_driver.proofs.abstraction.Named.{some_one}
use Rattle.slice_driver.proofs.abstraction.Phases.{started_of}
use Rattle.slice_driver.proofs.clearing.Clearing.{represents_cleared}
use Rattle.slice_driver.proofs.clearing.ToCome.{owned_next, to_come_is}

-- what is being prepared stands for worlds in which it is
pub preparing_of : (c : CollectorState) (flown : ℕ → Option Bits) (w : World) (u : Uncleared) → IsPreparing c u
    → Represents c flown w → RepresentsPreparing c flown w
preparing_of c flown w u at (prepared p) = p
preparing_of c flown w u at (going m) =
    absurd (let started = started_of c flown w m (ap is_some at.1) in
    let same : started.0 ≡ at.0 = some_one _ _ (sym started.1 ∙ at.1) in
    let clearing = ap (λ (r : RunState). r.clearing) same in
    cc (at.2, clearing, started.2))

-- where marking is to begin nothing is to come of preparing
pub start_to_come : (c : CollectorState) (flown : ℕ → Option Bits) → IsSound c flown → IsAtStart c
    → units_to_come c flown ≡ 0
start_to_come c flown s at =
    let rep = preparing_of c flown s.world at.uncleared (at.run, at.run_is, at.clearing) s.represents in
    to_come_is c flown s.world rep ∙ at.cleared

module _ (c d : CollectorState) (run : RunState) (u : Uncleared) (arena : ℕ) (at : c.run ≡ Some run)
    (clearing : run.clearing ≡ Some u) (clears : ClearsArena c run u arena d)
    (owned : HasZone run.zones.bits (zone_in (slice_get c.heap.shape.arenas arena))) where
  shape_is : d.heap.shape ≡ c.heap.shape
  shape_is = ap (λ (e : CollectorState). e.heap.shape) clears.rest

  run_is : d.run ≡ Some (record run { clearing = Some (record u { from = arena + 1 }) })
  run_is = ap (λ (e : CollectorState). e.run) clears.rest

  -- one arena less is to be cleared
  one_less : clearing_left c.heap.shape c.run ≡ 1 + clearing_left d.heap.shape d.run
  one_less =
      let word = run.zones.bits in
      let k = arena - u.from in
      let rest = u.end - (arena + 1) in
      let within = clears.next.within in
      let at_arena : u.from + (arena - u.from) ≡ arena = omega (arith, within.0) in
      let before : clearing_left c.heap.shape c.run ≡ owned_from c.heap.shape word u.from (u.end - u.from) =
      ap (clearing_left c.heap.shape) at ∙ ap (left_of c.heap.shape run.zones) clearing in
      let next = owned_next c.heap.shape word (arena - u.from) u.from (u.end - u.from) (u.end - (arena + 1))
      (λ o ge lt. clears.next.lowest o ge (omega (arith, lt, at_arena)))
      (ap (is_owned c.heap.shape word) at_arena ∙ clears.next.owned)
      (omega (arith, within.0, within.1)) in
      let there : owned_from c.heap.shape word (suc (u.from + (arena - u.from))) (u.end - (arena + 1))
      ≡ owned_from c.heap.shape word (arena + 1) (u.end - (arena + 1)) =
      ap (λ (a : ℕ). owned_from c.heap.shape word a (u.end - (arena + 1))) (omega (arith, at_arena)) in
      let after : clearing_left d.heap.shape d.run
      ≡ owned_from c.heap.shape word (arena + 1) (u.end - (arena + 1)) =
      ap (clearing_left d.heap.shape) run_is
      ∙ ap (λ (s : Shape). owned_from s word (arena + 1) (u.end - (arena + 1))) shape_is in
      omega (arith, before, next, there, after)

  represents_at : (flown : ℕ → Option Bits) (w : World) → RepresentsPreparing c flown w → RepresentsPreparing d flown w
  represents_at flown w rep =
      let same : run ≡ rep.run = some_one _ _ (sym at ∙ rep.run_is) in
      let same_left : u ≡ rep.uncleared = some_one _ _
      (sym clearing ∙ (ap (λ (x : RunState). x.clearing) same ∙ rep.clearing)) in
      represents_cleared c flown w rep arena d
      (subst (λ (x : RunState). HasZone x.zones.bits
      (zone_in (slice_get c.heap.shape.arenas arena))) same owned)
      (subst (λ (x : RunState). ClearsArena c x rep.uncleared arena d) same
      (subst (λ (x : Uncleared). ClearsArena c run x arena d) same_left clears))

  to_come_less : (flown : ℕ → Option Bits) (w : World) → RepresentsPreparing c flown w
      → units_to_come c flown ≡ 1 + units_to_come d flown
  to_come_less flown w rep =
      let was = to_come_is c flown w rep in
      let now = to_come_is d flown w (represents_at flown w rep) in
      let less = one_less in
      omega (arith, was, now, less)

  -- a unit that reports nothing was done
  pub clears_on : (flown : ℕ → Option Bits) → IsSound c flown → GoesOn c flown [] d flown
  clears_on flown s =
      let rep = preparing_of c flown s.world u (run, at, clearing) s.represents in
      let less = to_come_less flown s.world rep in
      let arenas = ap (λ (t : Shape). arenas_left t t.arenas) shape_is in
      let now = ap (marking_left d.heap.shape) run_is in
      let was = ap (marking_left c.heap.shape) at
      ∙ ap (starting_left c.heap.shape) clearing in
      let most = ap most_of shape_is in
      record {
        done = λ w ok r.
            (let p = preparing_of c flown w u (run, at, clearing) r in (
              w,
              quiet (inr (p.phase.preparation, p.phase.preparing_is)),
              prepared (represents_at flown w p),
            ));
        words = λ a freed is. subst (λ (t : Shape). IsFreedWord t a freed) (sym shape_is) is;
        running = ap is_some run_is;
        made_is = ap (λ (e : CollectorState). e.heap.made) clears.rest;
        ledger_is = ap (λ (e : CollectorState). e.heap.ledger) clears.rest;
        weak_is = ap (λ (t : Shape). t.weak) shape_is;
        less = omega (arith, less, arenas, now, was, most);
        to_come = omega (arith, less);
      }

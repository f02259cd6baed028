-- What is black was followed by units, and then by markers as one unit or none.
use Rattle.std.proofs.Common.{◌≡◌, ℕ, Bool, true, false, List, [], Option, None, Some, Result, Ok, Err, IfOk, OnErr}
use Rattle.std.proofs.Common.{refl, sym, subst, arith, ◌<◌, ◌≤◌, zero, suc, IsSome}
use Rattle.std.specs.declared.alloc.AllocError.{AllocError}
use Rattle.std.proofs.KnownBytes.{Appends-nil}
use Rattle.command_source.specs.Input.{Input}
use Rattle.slice_driver.specs.Advances.{Advances}
use Rattle.slice_driver.specs.Collector.{CollectorState}
use Rattle.slice_driver.specs.Units.{none_flown}
use Rattle.slice_driver.specs.Working.{DidOrStill, DoesQuietly, DoesQuietUnits, IsResting}
use Rattle.slice_driver.specs.declared.advance.Step.{Step}
use Rattle.slice_driver.proofs.abstraction.SoundAfter.{unit_sound}
use Rattle.slice_driver.proofs.marking.Units.{one_quiet}
use Rattle.slice_driver.proofs.marking.UnitSteps.{quiet_advances}
use Rattle.trace_cli.specs.Standing.{Entry, MakesNone, Standing, StandsWith}
use Rattle.trace_cli.specs.Quiet.{GoesQuietly}
use Rattle.trace_cli.specs.Writing.{did_units}
use Rattle.trace_cli.specs.declared.machine.Machine.{Machine}
use Rattle.trace_cli.specs.declared.machine.Pause.TheVariants as pause
use Rattle.trace_cli.specs.declared.pending.Pending.{Pending}
use Rattle.trace_cli.specs.declared.pending.Pending.TheVariants as pending
use Rattle.trace_cli.proofs.Going.{amid_pauses, opened_amid}
use Rattle.trace_cli.proofs.Units.{goes_on, makes_none, makes_same, none_gone, step_goes}

-- units that report nothing, as one step
abbrev quiet_step : ℕ → Step
quiet_step n = record { units = n; reported = false; finished = false; handed = None }

-- nothing was done
pub none_done : (c d : CollectorState) → StandsWith c [] none_flown → IsSome c.run → d ≡ c → GoesQuietly c d
none_done c d stands running same = subst (λ (x : CollectorState). GoesQuietly c x) (sym same) (record {
  goes = λ p. none_gone pending.Collect c none_flown p;
  size = makes_same c c refl;
  stands = stands;
  running = running;
})

-- some units that report nothing were done
pub some_done : (c d : CollectorState) (n : ℕ) → StandsWith c [] none_flown → 0 < n → n ≤ 18446744073709551615
    → DoesQuietUnits n c none_flown d none_flown → (IsResting c none_flown → n ≡ 0) → GoesQuietly c d
some_done c d n stands some most does resting =
    let goes = does.some some in
    let advances : Advances 18446744073709551615 c none_flown None (quiet_step n) d none_flown [] None =
    quiet_advances 18446744073709551615 n c d none_flown none_flown [] [] None does some most resting stands.sound
    (unit_sound c d none_flown none_flown [] goes.done stands.sound) refl stands.out in record {
      goes = λ p. step_goes 18446744073709551615 pending.Collect c d none_flown none_flown [] None None (quiet_step n)
          p p refl advances (Appends-nil p);
      size = record { made = advances.made; entries = advances.entries; ledger = advances.ledger };
      stands = record { sound = advances.sound; out = advances.out };
      running = goes.running;
    }

-- units that report nothing were done, or none
pub units_done : (c d : CollectorState) (limit n : ℕ) → StandsWith c [] none_flown → IsSome c.run
    → limit ≤ 18446744073709551615 → DoesQuietly limit c none_flown n d none_flown → GoesQuietly c d
units_done c d limit zero stands running small does = none_done c d stands running (does.done.none refl).same
units_done c d limit (suc n) stands running small does =
    some_done c d (suc n) stands (omega arith) (omega (arith, does.most, small)) does.done does.resting

pub marked_by : (c d : CollectorState) (did : Bool) → StandsWith c [] none_flown → IsSome c.run
    → DidOrStill did (c.stack.black ≡ []) c none_flown d none_flown → GoesQuietly c d
marked_by c d false stands running did = none_done c d stands running did.0.same
marked_by c d true stands running did = some_done c d 1 stands (omega arith) (omega arith)
    (one_quiet c none_flown d none_flown did.0) (λ rests. absurd (did.1 rests.black.pile))

pub after_marking : (Flies Reads : Type 0) (c d : CollectorState) (did : Result Bool AllocError)
    → StandsWith c [] none_flown → IsSome c.run
    → IfOk did (λ did. DidOrStill did (c.stack.black ≡ []) c none_flown d none_flown)
    → OnErr did ((d ≡ c) × Flies × Reads) → GoesQuietly c d
after_marking Flies Reads c d (Ok did) stands running done same = marked_by c d did stands running done
after_marking Flies Reads c d (Err e) stands running done same = none_done c d stands running same.0

-- one after the other
pub both_quiet : (c d e : CollectorState) → GoesQuietly c d → GoesQuietly d e → GoesQuietly c e
both_quiet c d e a b = record {
  goes = λ p. goes_on pending.Collect pending.Collect pending.Collect c d e none_flown none_flown none_flown p p p
      (a.goes p) (b.goes p);
  size = makes_none c d e a.size b.size;
  stands = b.stands;
  running = b.running;
}

-- so the loop stands where it stood
pub marked_on : (e : Entry) (m : Machine) (i : Input) (p : Option (List ℕ)) (writes : ℕ) (d : CollectorState)
    → m.pending ≡ Some pending.Collect → GoesQuietly m.collector d → Standing e m i p writes [] none_flown
    → Standing e (record { collector = d; answered = m.answered; pending = m.pending }) i p writes [] none_flown
marked_on e m i p writes d is did s = subst (λ (x : Option Pending).
    Standing e (record { collector = d; answered = m.answered; pending = x }) i p writes [] none_flown) (sym is)
    (amid_pauses e m pending.Collect pending.Collect i p p writes writes 0 [] [] none_flown none_flown d pause.None
    (opened_amid is s) (did_units (λ same. cc same) (did.goes p)) did.size did.stands refl tt)

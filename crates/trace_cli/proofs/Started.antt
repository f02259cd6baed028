-- What came of a command as it was started.
use Rattle.std.proofs.Common.{◌≡◌, ℕ, List, [], Option, Some, None, Result, Ok, Err, IsSome, arith, refl, subst}
use Rattle.std.proofs.Common.{sym}
use Rattle.std.specs.Io.KnownBytes.{Appends}
use Rattle.gz_names.specs.declared.commands.Cmd.{Cmd}
use Rattle.gz_names.specs.declared.commands.Cmd.TheVariants as command
use Rattle.gz_names.specs.declared.zone_sets.ZoneSet.{ZoneSet}
use Rattle.cell_bits.specs.declared.bits.Bits.{Bits}
use Rattle.slice_driver.specs.Collector.{CollectorState}
use Rattle.slice_driver.specs.Units.{BeginsIn}
use Rattle.trace_cli.specs.Answering.{AnswersCommand, StartsCommand}
use Rattle.trace_cli.specs.Starting.{BeginsAnswer, StartedAs, collects, finishes, resets, slices}
use Rattle.trace_cli.specs.Worlds.{EachWorldWithin}
use Rattle.trace_cli.specs.declared.answer.AnswerFault.{AnswerFault}
use Rattle.trace_cli.specs.declared.pending.Pending.{Pending}
use Rattle.trace_cli.specs.declared.pending.Pending.TheVariants as pending
use Rattle.trace_cli.proofs.Flights.{running_world}
use Rattle.trace_cli.proofs.UnitBound.{runs_within}

-- a command that was answered at once
pub started : {U : Type 0} {cmd : Cmd} {left : Option Pending} {old new : CollectorState}
    {flown flying : ℕ → Option Bits} {p q : Option (List ℕ)} (r : Result U AnswerFault) → left ≡ None
    → AnswersCommand cmd old flown new flying p q r → StartsCommand cmd left old flown new flying p q r
started {U} {cmd} {left} {old} {new} {flown} {flying} {p} {q} (Ok x) e a = record {
  ok = subst (λ (l : Option Pending). StartedAs l cmd old flown new flying p q) (sym e) a.ok;
  none = tt;
  memory = a.memory;
  write = a.write;
}
started {U} {cmd} {left} {old} {new} {flown} {flying} {p} {q} (Err f) e a =
    record { ok = tt; none = e; memory = a.memory; write = a.write }

-- one whose units are left to be done
pub begun : {U : Type 0} {cmd : Cmd} {old new : CollectorState} {flown flying : ℕ → Option Bits}
    {p q : Option (List ℕ)} {left : Pending} {x : U}
    → EachWorldWithin old flown (λ w. BeginsAnswer w cmd left new flying) → Appends p q []
    → StartsCommand cmd (Some left) old flown new flying p q (Ok x)
begun does kept = record {
  ok = (does, kept);
  none = tt;
  memory = λ e. absurd (cc e);
  write = λ e. absurd (cc e);
}

-- a collection was begun for `collect`
pub collect_begins : (c d : CollectorState) (f : ℕ → Option Bits) (zones : ZoneSet) → BeginsIn c zones.bits d
    → EachWorldWithin c f (λ w. BeginsAnswer w (command.Collect zones) pending.Collect d f)
collect_begins c d f zones begins w ok stands within =
    let b = begins f w ok stands in record {
      begun = b.0;
      valid = b.2;
      represents = b.3;
      answering = collects zones refl refl b.1;
    }

-- one goes on for `slice` and `finish`, and `reset` gives one up
pub slice_begins : (c : CollectorState) (f : ℕ → Option Bits) (budget left : ℕ) → left ≡ budget → IsSome c.run
    → EachWorldWithin c f (λ w. BeginsAnswer w (command.Slice budget) (pending.Slice left 0) c f)
slice_begins c f budget left same runs w ok stands within = record {
  begun = w;
  valid = ok;
  represents = stands;
  answering = slices budget left refl refl (omega (arith, same))
      (runs_within c f w (running_world c f w stands runs) within) refl;
}

pub finish_begins : (c : CollectorState) (f : ℕ → Option Bits) → IsSome c.run
    → EachWorldWithin c f (λ w. BeginsAnswer w command.Finish (pending.Finish 0) c f)
finish_begins c f runs w ok stands within = record {
  begun = w;
  valid = ok;
  represents = stands;
  answering = finishes refl refl (runs_within c f w (running_world c f w stands runs) within) refl;
}

pub reset_begins : (c : CollectorState) (f : ℕ → Option Bits) → IsSome c.run
    → EachWorldWithin c f (λ w. BeginsAnswer w command.Reset pending.Reset c f)
reset_begins c f runs w ok stands within = record {
  begun = w;
  valid = ok;
  represents = stands;
  answering = resets refl refl (running_world c f w stands runs) refl;
}

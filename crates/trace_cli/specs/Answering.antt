-- What came of a command, and with which count of write faults.
use Rattle.std.specs.Prelude.{◌≡◌, ◌≤◌, ℕ, List, Option, None, Result, Err, OnOk, OnErr}
use Rattle.gz_io.specs.Causes.{Rose}
use Rattle.gz_names.specs.declared.commands.Cmd.{Cmd}
use Rattle.cell_bits.specs.declared.bits.Bits.{Bits}
use Rattle.slice_driver.specs.Collector.{CollectorState}
use Rattle.trace_cli.specs.Headline.{WritesAnswer, WritesFront, WritesStart}
use Rattle.trace_cli.specs.Worlds.{EachWorld, EachWorldWithin}
use Rattle.trace_cli.specs.Starting.{StartedAs}
use Rattle.trace_cli.specs.declared.answer.AnswerFault.{AnswerFault}
use Rattle.trace_cli.specs.declared.answer.AnswerFault.TheVariants as fault
use Rattle.trace_cli.specs.declared.pending.Pending.{Pending}

-- the count of write faults never falls, success leaves it, and a failed write raised it
pub record CountsFaults {T : Type 0} (old new : ℕ) (result : Result T AnswerFault) : Type 0 where
  pub later : old ≤ new
  pub same : OnOk result (new ≡ old)
  pub cause : result ≡ Err fault.Write → Rose old new

-- in each world that the collector stood for, a command was answered whole, or wanted memory, or a prefix of its answer
-- was written
pub record AnswersCommand {T : Type 0} (cmd : Cmd) (old : CollectorState) (flown : ℕ → Option Bits)
    (new : CollectorState) (flying : ℕ → Option Bits) (p q : Option (List ℕ)) (result : Result T AnswerFault)
    : Type 0 where
  pub ok : OnOk result (EachWorldWithin old flown (λ w. WritesAnswer w cmd new flying p q))
  pub memory : result ≡ Err fault.Memory → EachWorld old flown (λ w. WritesStart w cmd p q)
  pub write : result ≡ Err fault.Write → EachWorld old flown (λ w. WritesFront w cmd p q)

-- what holds once a command was begun whose units may be left to be done
pub record StartsCommand {T : Type 0} (cmd : Cmd) (left : Option Pending) (old : CollectorState)
    (flown : ℕ → Option Bits) (new : CollectorState) (flying : ℕ → Option Bits) (p q : Option (List ℕ))
    (result : Result T AnswerFault) : Type 0 where
  pub ok : OnOk result (StartedAs left cmd old flown new flying p q)
  pub none : OnErr result (left ≡ None)
  pub memory : result ≡ Err fault.Memory → EachWorld old flown (λ w. WritesStart w cmd p q)
  pub write : result ≡ Err fault.Write → EachWorld old flown (λ w. WritesFront w cmd p q)

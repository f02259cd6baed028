-- What came of a command, by what was written last.
use Rattle.std.proofs.Common.{◌≡◌, List, ℕ, Option, Result, Ok, Err}
use Rattle.std.specs.Prelude.{OnOk, OnErr}
use Rattle.gz_names.specs.declared.commands.Cmd.{Cmd}
use Rattle.cell_bits.specs.declared.bits.Bits.{Bits}
use Rattle.slice_driver.specs.Collector.{CollectorState}
use Rattle.trace_cli.specs.Answering.{AnswersCommand}
use Rattle.trace_cli.specs.Headline.{WritesAnswer, WritesFront, WritesStart}
use Rattle.trace_cli.specs.Worlds.{EachWorld, EachWorldWithin}
use Rattle.trace_cli.specs.declared.answer.AnswerFault.{AnswerFault}
use Rattle.trace_cli.specs.declared.answer.AnswerFault.TheVariants as fault

-- a reply was written, or a prefix of it
pub replied : {T A B : Type 0} {cmd : Cmd} {old new : CollectorState} {flown flying : ℕ → Option Bits}
    {p q : Option (List ℕ)}
    (r : Result T AnswerFault) → OnErr r (r ≡ Err fault.Write) → OnOk r A → OnErr r B
    → (A → EachWorldWithin old flown (λ w. WritesAnswer w cmd new flying p q))
    → (B → EachWorld old flown (λ w. WritesFront w cmd p q)) → AnswersCommand cmd old flown new flying p q r
replied (Ok x) is ok err whole front = record {
  ok = whole ok;
  memory = λ e. absurd (cc e);
  write = λ e. absurd (cc e);
}
replied (Err x) is ok err whole front = record {
  ok = tt;
  memory = λ e. absurd (cc (is, e));
  write = λ e. front err;
}

-- memory was wanted
pub wanted : {T : Type 0} {cmd : Cmd} {old new : CollectorState} {flown flying : ℕ → Option Bits}
    {p q : Option (List ℕ)}
    → EachWorld old flown (λ w. WritesStart w cmd p q)
    → AnswersCommand {T = T} cmd old flown new flying p q (Err fault.Memory)
wanted start = record { ok = tt; memory = λ e. start; write = λ e. absurd (cc e) }

-- The answer to a dump, by what the collector's call returned and what was written.
use Rattle.std.proofs.Common.{◌≡◌, ℕ, inl, inr, List, [], Option, refl, sym, subst}
use Rattle.std.specs.Io.KnownBytes.{Appends}
use Rattle.gz_io.specs.Causes.{AppendsFront}
use Rattle.gz_names.specs.declared.commands.Cmd.TheVariants as command
use Rattle.gz_names.specs.declared.dumps.DumpLine.{DumpLine}
use Rattle.gz_names.specs.declared.replies.Reply.TheVariants as reply
use Rattle.gz_names.specs.declared.replies.Refusal.TheVariants as refusal
use Rattle.trace_lang.specs.Texts.{reply_text, line_of}
use Rattle.cell_bits.specs.declared.bits.Bits.{Bits}
use Rattle.colour_defs.specs.Dumps.{IsDump}
use Rattle.colour_defs.specs.Laws.{IsValid}
use Rattle.colour_defs.specs.World.{World, IsSettled}
use Rattle.heap_core.specs.Heap.{joined}
use Rattle.slice_driver.specs.Collector.{CollectorState}
use Rattle.slice_driver.specs.Represents.{Represents}
use Rattle.slice_driver.specs.UnitsToCome.{IsWithin}
use Rattle.trace_cli.specs.Headline.{answer_lines, IsAccepted, WritesAnswer, WritesFront, WritesStart}
use Rattle.trace_cli.proofs.Answered.{Marks, Settled}
use Rattle.trace_cli.proofs.UnitBound.{same_within}

-- the lines are the dump of each settled world
abbrev pub Dumps : CollectorState → (ℕ → Option Bits) → List DumpLine → Type 0
Dumps c flown lines = (w : World) → Represents c flown w → IsSettled w → IsDump w lines

pub dumps_as : (c : CollectorState) (f : ℕ → Option Bits) (lines same : List DumpLine) → same ≡ lines → Dumps c f lines
    → Dumps c f same
dumps_as c f lines same is dumps w stands settled = subst (λ ls. IsDump w ls) (sym is) (dumps w stands settled)

dump_accepted : (w : World) → IsSettled w → IsAccepted w command.Dump
dump_accepted w settled reports why v (inl h) = cc h.1
dump_accepted w settled reports why v (inr h) = h.1 settled

pub dump_write : (c : CollectorState) (f : ℕ → Option Bits) (flown : ℕ → Option Bits) (lines : List DumpLine)
    (p q : Option (List ℕ)) → Settled c f → Dumps c f lines →
    ((w : World) → Represents c f w → Represents c flown w) → joined c.heap flown ≡ joined c.heap f → Appends p q
    (line_of (reply_text (reply.Dump lines))) → (w : World) → IsValid w → Represents c f w → IsWithin c f w
    → WritesAnswer w command.Dump c flown p q
dump_write c f flown lines p q rests dumps same heap written w ok stands within =
    let settled = rests w stands in record {
      reports = [];
      answer = reply.Dump lines;
      after = w;
      represents = same w stands;
      within = same_within c f flown w heap within;
      answers = inl (lines, refl, settled, dumps w stands settled, record { silent = refl; same = refl });
      written = written;
    }

pub dump_break : (c : CollectorState) (f : ℕ → Option Bits) (lines : List DumpLine) (p q : Option (List ℕ))
    → Settled c f → Dumps c f lines → AppendsFront p q (line_of (reply_text (reply.Dump lines))) → (w : World)
    → IsValid w → Represents c f w → WritesFront w command.Dump p q
dump_break c f lines p q rests dumps written w ok stands =
    let settled = rests w stands in record {
      text = answer_lines ([], reply.Dump lines);
      answers = inl (
        [],
        reply.Dump lines,
        w,
        inl (lines, refl, settled, dumps w stands settled, record { silent = refl; same = refl }),
        refl,
      );
      written = written;
    }

pub dump_stop : (c : CollectorState) (f : ℕ → Option Bits) (p q : Option (List ℕ)) → Settled c f → Appends p q [] →
    (w : World) → IsValid w → Represents c f w → WritesStart w command.Dump p q
dump_stop c f p q rests written w ok stands = record {
  accepted = dump_accepted w (rests w stands);
  reports = [];
  starts = refl;
  written = written;
}

-- the refusal, where some zone is marking
pub marking_write : (c : CollectorState) (flown : ℕ → Option Bits) (p q : Option (List ℕ)) → Marks c flown
    → Appends p q (line_of (reply_text (reply.Refused refusal.Marking))) → (w : World) → IsValid w
    → Represents c flown w → IsWithin c flown w → WritesAnswer w command.Dump c flown p q
marking_write c flown p q marks written w ok stands within = record {
  reports = [];
  answer = reply.Refused refusal.Marking;
  after = w;
  represents = stands;
  within = within;
  answers = inr (refl, marks w stands, record { silent = refl; same = refl });
  written = written;
}

pub marking_break : (c : CollectorState) (flown : ℕ → Option Bits) (p q : Option (List ℕ)) → Marks c flown
    → AppendsFront p q (line_of (reply_text (reply.Refused refusal.Marking))) → (w : World) → IsValid w → Represents c
    flown w → WritesFront w command.Dump p q
marking_break c flown p q marks written w ok stands = record {
  text = answer_lines ([], reply.Refused refusal.Marking);
  answers = inl (
    [],
    reply.Refused refusal.Marking,
    w,
    inr (refl, marks w stands, record { silent = refl; same = refl }),
    refl,
  );
  written = written;
}

use Rattle.std.proofs.Common.{ap, map, subst, ℕ, Err, inl, inr, refl}
use Rattle.std.proofs.KnownBytes.{Appends-nil}
use Rattle.command_words.specs.declared.line.WordsFault.{WordsFault}
use Rattle.trace_cli.proofs.Complete.{complete, complete_memory, complete_unless}
use Rattle.trace_cli.proofs.Concluding.{memory_checks, memory_concludes}
use Rattle.trace_cli.proofs.Stands.{memory_ends, usage_ends}
use Rattle.trace_cli.specs.Storms.{Storms}
use Rattle.trace_cli.proofs.Words.{check_or_storm, not_plain, one_storm, run_or_check, run_or_storm, said}
use Rattle.trace_cli.proofs.reading.replay.Goals as goal

pub returns-in-Ok-Run-clause-complete : goal.returns-in-Ok-Run-clause-complete
returns-in-Ok-Run-clause-complete g c = complete (map (λ w. w.now) c.args.words.now) _ _ _ _ _ _ _ _
    c.answer_lines.result
    c.answer_lines.ensures.lawful c.answer_lines.ensures.read c.answer_lines.ensures.write
    (λ e. absurd (c.answer_lines.ensures.runs e))

pub returns-in-Ok-Run-clause-verdict : goal.returns-in-Ok-Run-clause-verdict
returns-in-Ok-Run-clause-verdict g c = λ check. absurd (run_or_check (map (λ w. w.now) c.args.words.now) (
  c.in-Ok-Run.helpers,
  c.in-Ok-Run.markers,
  said (map (λ w. w.now) c.args.words.now) _ c.in-Ok-Run.field-0
      c.in-Ok-Run.field-0-is c.in-Ok-Run.ensures.taken c.in-Ok-Run.ensures.numbers,
) check)

pub returns-in-Ok-Run-clause-concludes : goal.returns-in-Ok-Run-clause-concludes
returns-in-Ok-Run-clause-concludes g c = λ check. absurd (run_or_check (map (λ w. w.now) c.args.words.now) (
  c.in-Ok-Run.helpers,
  c.in-Ok-Run.markers,
  said (map (λ w. w.now) c.args.words.now) _ c.in-Ok-Run.field-0
      c.in-Ok-Run.field-0-is c.in-Ok-Run.ensures.taken c.in-Ok-Run.ensures.numbers,
) check)

pub returns-in-Ok-Run-clause-storm : goal.returns-in-Ok-Run-clause-storm
returns-in-Ok-Run-clause-storm g c = λ seed lines storm. absurd (run_or_storm (map (λ w. w.now) c.args.words.now) (
  c.in-Ok-Run.helpers,
  c.in-Ok-Run.markers,
  said (map (λ w. w.now) c.args.words.now) _ c.in-Ok-Run.field-0
      c.in-Ok-Run.field-0-is c.in-Ok-Run.ensures.taken c.in-Ok-Run.ensures.numbers,
) (seed, lines, storm))

pub returns-in-Ok-Run-clause-refused : goal.returns-in-Ok-Run-clause-refused
returns-in-Ok-Run-clause-refused g c = λ no. absurd (no c.in-Ok-Run.ensures.taken)

pub returns-in-Ok-Storm-clause-lawful : goal.returns-in-Ok-Storm-clause-lawful
returns-in-Ok-Storm-clause-lawful g c =
    λ check storm. absurd
    (storm (
      c.in-Ok-Storm.seed,
      c.in-Ok-Storm.lines,
      (
        c.in-Ok-Storm.helpers,
        said (map (λ w. w.now) c.args.words.now) _ c.in-Ok-Storm.field-0
            c.in-Ok-Storm.field-0-is c.in-Ok-Storm.ensures.taken c.in-Ok-Storm.ensures.numbers,
      ),
    ))

pub returns-in-Ok-Storm-clause-verdict : goal.returns-in-Ok-Storm-clause-verdict
returns-in-Ok-Storm-clause-verdict g c = λ check. absurd (check_or_storm (map (λ w. w.now) c.args.words.now) check (
  c.in-Ok-Storm.seed,
  c.in-Ok-Storm.lines,
  (
    c.in-Ok-Storm.helpers,
    said (map (λ w. w.now) c.args.words.now) _ c.in-Ok-Storm.field-0
        c.in-Ok-Storm.field-0-is c.in-Ok-Storm.ensures.taken c.in-Ok-Storm.ensures.numbers,
  ),
))

pub returns-in-Ok-Storm-clause-concludes : goal.returns-in-Ok-Storm-clause-concludes
returns-in-Ok-Storm-clause-concludes g c = λ check. absurd (check_or_storm (map (λ w. w.now) c.args.words.now) check (
  c.in-Ok-Storm.seed,
  c.in-Ok-Storm.lines,
  (
    c.in-Ok-Storm.helpers,
    said (map (λ w. w.now) c.args.words.now) _ c.in-Ok-Storm.field-0
        c.in-Ok-Storm.field-0-is c.in-Ok-Storm.ensures.taken c.in-Ok-Storm.ensures.numbers,
  ),
))

pub returns-in-Ok-Storm-clause-complete : goal.returns-in-Ok-Storm-clause-complete
returns-in-Ok-Storm-clause-complete g c = complete_unless (map (λ w. w.now) c.args.words.now) _ _ _ _ _
    c.answer_storm.result
    (λ run. run_or_storm (map (λ w. w.now) c.args.words.now) run (
      c.in-Ok-Storm.seed,
      c.in-Ok-Storm.lines,
      (
        c.in-Ok-Storm.helpers,
        said (map (λ w. w.now) c.args.words.now) _ c.in-Ok-Storm.field-0
            c.in-Ok-Storm.field-0-is c.in-Ok-Storm.ensures.taken c.in-Ok-Storm.ensures.numbers,
      ),
    ))

pub returns-in-Ok-Storm-clause-storm : goal.returns-in-Ok-Storm-clause-storm
returns-in-Ok-Storm-clause-storm g c = λ seed lines storm.
    let same = one_storm (map (λ w. w.now) c.args.words.now) _ _ seed lines (
      c.in-Ok-Storm.helpers,
      said (map (λ w. w.now) c.args.words.now) _ c.in-Ok-Storm.field-0
          c.in-Ok-Storm.field-0-is c.in-Ok-Storm.ensures.taken c.in-Ok-Storm.ensures.numbers,
    ) storm in
    subst (λ (n : ℕ). Storms n lines (g.K.Sink.written c.args.sink.now) (g.K.Sink.written c.answer_storm.new.sink)
    c.answer_storm.result) same.0 (subst (λ (n : ℕ). Storms c.in-Ok-Storm.seed n (g.K.Sink.written c.args.sink.now)
    (g.K.Sink.written c.answer_storm.new.sink) c.answer_storm.result) same.1 c.answer_storm.ensures.storm)

pub returns-in-Ok-Storm-clause-refused : goal.returns-in-Ok-Storm-clause-refused
returns-in-Ok-Storm-clause-refused g c = λ no. absurd (no c.in-Ok-Storm.ensures.taken)

pub returns-in-Ok-Check-clause-lawful : goal.returns-in-Ok-Check-clause-lawful
returns-in-Ok-Check-clause-lawful g c =
    λ check storm. absurd (check (said (map (λ w. w.now) c.args.words.now) _ c.in-Ok-Check.field-0
    c.in-Ok-Check.field-0-is c.in-Ok-Check.ensures.taken c.in-Ok-Check.ensures.numbers))

pub returns-in-Ok-Check-clause-storm : goal.returns-in-Ok-Check-clause-storm
returns-in-Ok-Check-clause-storm g c = λ seed lines storm. absurd (check_or_storm (map (λ w. w.now) c.args.words.now)
    (said (map (λ w. w.now) c.args.words.now) _ c.in-Ok-Check.field-0
    c.in-Ok-Check.field-0-is c.in-Ok-Check.ensures.taken c.in-Ok-Check.ensures.numbers) (seed, lines, storm))

pub returns-in-Ok-Check-clause-complete : goal.returns-in-Ok-Check-clause-complete
returns-in-Ok-Check-clause-complete g c = complete_unless (map (λ w. w.now) c.args.words.now) _ _ _ _ _
    c.check_dump.result
    (λ run. run_or_check (map (λ w. w.now) c.args.words.now) run
    (said (map (λ w. w.now) c.args.words.now) _ c.in-Ok-Check.field-0
    c.in-Ok-Check.field-0-is c.in-Ok-Check.ensures.taken c.in-Ok-Check.ensures.numbers))

pub returns-in-Ok-Check-clause-no_fault : goal.returns-in-Ok-Check-clause-no_fault
returns-in-Ok-Check-clause-no_fault g c = λ e. (said (map (λ w. w.now) c.args.words.now) _ c.in-Ok-Check.field-0
    c.in-Ok-Check.field-0-is c.in-Ok-Check.ensures.taken c.in-Ok-Check.ensures.numbers)

pub returns-in-Ok-Check-clause-refused : goal.returns-in-Ok-Check-clause-refused
returns-in-Ok-Check-clause-refused g c = λ no. absurd (no c.in-Ok-Check.ensures.taken)

pub returns-in-Err-Usage-clause-lawful : goal.returns-in-Err-Usage-clause-lawful
returns-in-Err-Usage-clause-lawful g c = λ check storm. usage_ends (g.S.Source.left c.args.source.now)
    (g.K.Sink.written c.args.sink.now)

pub returns-in-Err-Usage-clause-verdict : goal.returns-in-Err-Usage-clause-verdict
returns-in-Err-Usage-clause-verdict g c =
    λ check. absurd ((c.in-Err-Usage.ensures.usage (ap (λ (f : WordsFault). Err f) c.in-Err-Usage.field-0-is)) check.0)

pub returns-in-Err-Usage-clause-concludes : goal.returns-in-Err-Usage-clause-concludes
returns-in-Err-Usage-clause-concludes g c =
    λ check. absurd ((c.in-Err-Usage.ensures.usage (ap (λ (f : WordsFault). Err f) c.in-Err-Usage.field-0-is)) check.0)

pub returns-in-Err-Usage-clause-storm : goal.returns-in-Err-Usage-clause-storm
returns-in-Err-Usage-clause-storm g c =
    λ seed lines storm. absurd
    ((c.in-Err-Usage.ensures.usage (ap (λ (f : WordsFault). Err f) c.in-Err-Usage.field-0-is)) storm.1.0)

pub returns-in-Err-Usage-clause-complete : goal.returns-in-Err-Usage-clause-complete
returns-in-Err-Usage-clause-complete g c = complete_unless (map (λ w. w.now) c.args.words.now) _ _ _ _ _ _
    (λ run. (c.in-Err-Usage.ensures.usage (ap (λ (f : WordsFault). Err f) c.in-Err-Usage.field-0-is)) run.2.0)

pub returns-in-Err-Usage-clause-usage : goal.returns-in-Err-Usage-clause-usage
returns-in-Err-Usage-clause-usage g c =
    λ e. (c.in-Err-Usage.ensures.usage (ap (λ (f : WordsFault). Err f) c.in-Err-Usage.field-0-is))

pub returns-in-Err-Usage-clause-plain : goal.returns-in-Err-Usage-clause-plain
returns-in-Err-Usage-clause-plain g c = λ p e. not_plain _ p.0
    (ap (λ (f : WordsFault). Err f) c.in-Err-Usage.field-0-is) (c.in-Err-Usage.ensures.plain p.0 p.1)

pub returns-in-Err-NoMemory-clause-lawful : goal.returns-in-Err-NoMemory-clause-lawful
returns-in-Err-NoMemory-clause-lawful g c = λ check storm. memory_ends (g.S.Source.left c.args.source.now)
    (g.K.Sink.written c.args.sink.now) (g.K.Sink.written c.args.sink.now) (Appends-nil _)

pub returns-in-Err-NoMemory-clause-verdict : goal.returns-in-Err-NoMemory-clause-verdict
returns-in-Err-NoMemory-clause-verdict g c =
    λ check. memory_checks (g.S.Source.left c.args.source.now) (g.K.Sink.written c.args.sink.now)

pub returns-in-Err-NoMemory-clause-concludes : goal.returns-in-Err-NoMemory-clause-concludes
returns-in-Err-NoMemory-clause-concludes g c = λ check. memory_concludes (g.S.Source.left c.args.source.now) _ _ _ _

pub returns-in-Err-NoMemory-clause-storm : goal.returns-in-Err-NoMemory-clause-storm
returns-in-Err-NoMemory-clause-storm g c = λ seed lines storm. Appends-nil (g.K.Sink.written c.args.sink.now)

pub returns-in-Err-NoMemory-clause-complete : goal.returns-in-Err-NoMemory-clause-complete
returns-in-Err-NoMemory-clause-complete g c = complete_memory (map (λ w. w.now) c.args.words.now) _ _ _ _ _

pub returns-in-Ok-Run-clause-handed_on : goal.returns-in-Ok-Run-clause-handed_on
returns-in-Ok-Run-clause-handed_on g c = λ written verdict. inl (c.answer_lines.ensures.handed_on written)

pub returns-in-Ok-Run-clause-unread : goal.returns-in-Ok-Run-clause-unread
returns-in-Ok-Run-clause-unread g c = λ storm. absurd (run_or_storm (map (λ w. w.now) c.args.words.now) (
  c.in-Ok-Run.helpers,
  c.in-Ok-Run.markers,
  said (map (λ w. w.now) c.args.words.now) _ c.in-Ok-Run.field-0
      c.in-Ok-Run.field-0-is c.in-Ok-Run.ensures.taken c.in-Ok-Run.ensures.numbers,
) storm)

pub returns-in-Ok-Storm-clause-handed_on : goal.returns-in-Ok-Storm-clause-handed_on
returns-in-Ok-Storm-clause-handed_on g c = λ written verdict. inl (c.answer_storm.ensures.handed_on written)

pub returns-in-Ok-Check-clause-handed_on : goal.returns-in-Ok-Check-clause-handed_on
returns-in-Ok-Check-clause-handed_on g c = λ written verdict. inl
    (c.check_dump.ensures.handed_on (verdict (said (map (λ w. w.now) c.args.words.now) _ c.in-Ok-Check.field-0
    c.in-Ok-Check.field-0-is c.in-Ok-Check.ensures.taken c.in-Ok-Check.ensures.numbers)))

pub returns-in-Ok-Check-clause-unread : goal.returns-in-Ok-Check-clause-unread
returns-in-Ok-Check-clause-unread g c = λ storm. absurd (check_or_storm (map (λ w. w.now) c.args.words.now)
    (said (map (λ w. w.now) c.args.words.now) _ c.in-Ok-Check.field-0
    c.in-Ok-Check.field-0-is c.in-Ok-Check.ensures.taken c.in-Ok-Check.ensures.numbers) storm)

pub returns-in-Err-Usage-clause-handed_on : goal.returns-in-Err-Usage-clause-handed_on
returns-in-Err-Usage-clause-handed_on g c = λ written verdict. inr refl

pub returns-in-Err-NoMemory-clause-handed_on : goal.returns-in-Err-NoMemory-clause-handed_on
returns-in-Err-NoMemory-clause-handed_on g c = λ written verdict. inr refl

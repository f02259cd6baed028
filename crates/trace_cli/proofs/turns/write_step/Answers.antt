use Rattle.std.proofs.Common.{List, subst, sym}
use Rattle.std.specs.Prelude.{OnErr, OnOk}
use Rattle.std.specs.Io.KnownBytes.{Appends}
use Rattle.gz_io.specs.Causes.{AppendsFront}
use Rattle.gz_names.specs.declared.replies.Report.{Report}
use Rattle.trace_cli.specs.Headline.{report_lines}
use Rattle.trace_cli.proofs.Units.{silent_written, told_some}
use Rattle.trace_cli.proofs.turns.write_step.Goals as goal

pub returns-then-not-step-clause-ok : goal.returns-then-not-step-clause-ok
returns-then-not-step-clause-ok g c =
    silent_written c.args.step.now c.args.report.now (g.K.Sink.written c.args.sink.now) c.if-not-step.true

pub returns-clause-ok : goal.returns-clause-ok
returns-clause-ok g c = subst (λ (rs : List Report). OnOk c.write_reports.result (Appends
    (g.K.Sink.written c.args.sink.now) (g.K.Sink.written c.write_reports.new.sink) (report_lines rs)))
    (sym (told_some c.args.step.now c.args.report.now c.if-not-step.false)) c.write_reports.ensures.ok

pub returns-clause-err : goal.returns-clause-err
returns-clause-err g c = subst (λ (rs : List Report). OnErr c.write_reports.result (AppendsFront
    (g.K.Sink.written c.args.sink.now) (g.K.Sink.written c.write_reports.new.sink) (report_lines rs)))
    (sym (told_some c.args.step.now c.args.report.now c.if-not-step.false)) c.write_reports.ensures.err

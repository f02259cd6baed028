use Rattle.std.proofs.Common.{Option, ap, ◌∙◌, ◌++◌}
use Rattle.gz_names.specs.declared.replies.Report.{Report}
use Rattle.gz_names.specs.declared.replies.Report.TheVariants as report
use Rattle.slice_driver.specs.Units.{reports_of, with_done}
use Rattle.trace_lang.specs.Texts.{report_text, line_of}
use Rattle.trace_cli.specs.Headline.{report_lines}
use Rattle.trace_cli.proofs.Written.{at_err, front_written, then_front_written, report_lines-one}
use Rattle.trace_cli.proofs.turns.write_reports.Goals as goal

pub returns-in_err-write_report-clause-err : goal.returns-in_err-write_report-clause-err
returns-in_err-write_report-clause-err g c =
    at_err _ (front_written _ _ _ _ _ (ap (λ (o : Option Report). report_lines (reports_of o c.args.finished))
    c.in-Some.is) c.in_err-write_report.ensures.err)

pub returns-in_err-write_report-2-clause-err : goal.returns-in_err-write_report-2-clause-err
returns-in_err-write_report-2-clause-err g c =
    let both =
    ap (λ (o : Option Report). report_lines (reports_of o c.args.finished)) c.in-Some.is
    ∙ ap (λ b. line_of (report_text c.in-Some.report) ++ report_lines (with_done b)) c.if-finished.true
    ∙ ap (λ t. line_of (report_text c.in-Some.report) ++ t) (report_lines-one report.Done) in
    at_err _ (then_front_written _ _ _ _ _ _ both c.in_ok-write_report.ensures.ok c.in_err-write_report-2.ensures.err)

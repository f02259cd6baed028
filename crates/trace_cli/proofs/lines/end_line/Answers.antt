use Rattle.std.proofs.Common.{subst}
use Rattle.gz_io.specs.Causes.{AppendsFront}
use Rattle.gz_names.specs.declared.replies.Reply.{Reply}
use Rattle.trace_lang.specs.Texts.{line_of, reply_text}
use Rattle.trace_cli.proofs.Written.{at_err}
use Rattle.trace_cli.proofs.lines.end_line.Goals as goal

pub returns-in_err-write_last-clause-err : goal.returns-in_err-write_last-clause-err
returns-in_err-write_last-clause-err g c = at_err c.from_residual.result (
  subst (λ (r : Reply). AppendsFront (g.K.Sink.written c.args.sink.now) (g.K.Sink.written c.write_last.new.sink)
      (line_of (reply_text r))) c.reply.ensures c.in_err-write_last.ensures.err,
  c.in_err-write_last.ensures.faults.cause c.in_err-write_last.ensures.fault,
)

use Rattle.std.proofs.Common.{rules}
use Rattle.trace_cli.proofs.Closing.{over_at_once}
use Rattle.trace_cli.proofs.reading.answer_lines.Goals as goal

pub returns-in_default : goal.returns-in_default
returns-in_default g c = over_at_once _ _ _ _ _ _ _ _ c.end_so.ensures.kept c.end_so.ensures.cause

pub returns : goal.returns
returns g c = let over = c.answer_all-exit.ensures.ended.over in search rules

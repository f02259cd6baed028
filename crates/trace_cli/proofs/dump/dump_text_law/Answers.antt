use Rattle.trace_cli.proofs.DumpRead.{judged_sound}
use Rattle.trace_cli.proofs.dump.dump_text_law.Goals as goal

pub returns : goal.returns
returns c = λ w lines ok settled dump fit. judged_sound lines (c.dump_law.ensures w lines ok settled dump) fit

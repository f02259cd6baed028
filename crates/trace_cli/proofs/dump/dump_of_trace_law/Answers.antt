use Rattle.trace_cli.proofs.DumpedNames.{dump_fits}
use Rattle.trace_cli.proofs.GraphSizes.{trace_sized}
use Rattle.trace_cli.proofs.dump.dump_of_trace_law.Goals as goal

pub returns : goal.returns
returns c = λ lines output w dump leads few settled is.
    let ok = c.valid_law.ensures leads.commands leads.answers w leads.run in
    c.dump_text_law.ensures w dump ok settled is
    (dump_fits w ok (trace_sized 4294967295 lines output w few leads) dump is)

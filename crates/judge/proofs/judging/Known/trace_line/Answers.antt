use Rattle.std.proofs.Common.{refl}
use Rattle.judge.proofs.judging.Known.trace_line.Goals as goal

pub command-requires-clause-only : goal.command-requires-clause-only
command-requires-clause-only c = λ d s. (let p = c.parse.ensures.exact d s in cc (p, c.in-Ok.is))

pub returns-in-Err-clause-said : goal.returns-in-Err-clause-said
returns-in-Err-clause-said c =
    (c.args.text.now, refl, λ d s. let p = c.parse.ensures.exact d s in cc (p, c.in-Err.is))

use Rattle.trace_lang.proofs.Fine.{spells_fine}
use Rattle.trace_lang.proofs.lines.parse.Goals as goal

pub returns-in-Some-clause-exact : goal.returns-in-Some-clause-exact
returns-in-Some-clause-exact c = λ d s. let e = c.in-Some.ensures.exact d s in cc e

pub returns-in-None-clause-exact : goal.returns-in-None-clause-exact
returns-in-None-clause-exact c = λ d s. let e = c.in-None.ensures.exact d s in absurd (cc e)

pub returns-in-Some-clause-short : goal.returns-in-Some-clause-short
returns-in-Some-clause-short c = (spells_fine _ c.in-Some.cmd c.in-Some.ensures.some).short

pub returns-in-Some-clause-plain : goal.returns-in-Some-clause-plain
returns-in-Some-clause-plain c = (spells_fine _ c.in-Some.cmd c.in-Some.ensures.some).plain

use Rattle.std.proofs.Common.{rules}
use Rattle.trace_lang.proofs.rows.GetRowRow.read.Goals as goal

pub returns-clause-exact : goal.returns-clause-exact
returns-clause-exact c = λ d s. search (rules, s.3, c.three.ensures.exact s.0 s.1 (record { 0 = s.2 }) s.4 s.5 s.6 s.7)

pub returns-in_err-r-clause-exact : goal.returns-in_err-r-clause-exact
returns-in_err-r-clause-exact c = λ d s.
    let none = c.in_err-r.ensures.exact s.0 s.1 (record { 0 = s.2 }) s.4 s.5 s.6 s.7 in absurd (cc none)

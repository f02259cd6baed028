use Rattle.trace_lang.proofs.Breaks.{break_of}
use Rattle.trace_lang.proofs.arguments.two.Goals as goal

pub returns-in_err-x-clause-exact : goal.returns-in_err-x-clause-exact
returns-in_err-x-clause-exact g c = λ x y fx fy e.
    let s = g.met.B.Argument.spaced y in
    absurd (c.in_err-x.ensures.exact x (g.B.Argument.word y) fx (break_of _ s.0 s.1) e)

pub returns-in_err-one-clause-exact : goal.returns-in_err-one-clause-exact
returns-in_err-one-clause-exact g c = λ x y fx fy e.
    let s = g.met.B.Argument.spaced y in
    let p = c.in_ok-x.ensures.exact x (g.B.Argument.word y) fx (break_of _ s.0 s.1) e in
    let q = c.in_err-one.ensures.exact y fy p.1 in absurd (cc q)

pub returns-clause-exact : goal.returns-clause-exact
returns-clause-exact g c = λ x y fx fy e.
    let s = g.met.B.Argument.spaced y in
    let p = c.in_ok-x.ensures.exact x (g.B.Argument.word y) fx (break_of _ s.0 s.1) e in
    let q = c.in_ok-one.ensures.exact y fy p.1 in cc (p.0, q)

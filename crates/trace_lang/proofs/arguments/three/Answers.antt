use Rattle.std.proofs.Common.{◌++◌, ◌∙◌, append_assoc}
use Rattle.trace_lang.proofs.Breaks.{break_append}
use Rattle.trace_lang.proofs.Options.{three_same}
use Rattle.trace_lang.proofs.arguments.three.Goals as goal

pub returns-in_err-x-clause-exact : goal.returns-in_err-x-clause-exact
returns-in_err-x-clause-exact g c = λ x y z fx fy fz e.
    let s = g.met.B.Argument.spaced y in
    absurd (c.in_err-x.ensures.exact x (g.B.Argument.word y ++ g.C.Argument.word z) fx (break_append _ s.0 _ s.1)
    (e ∙ append_assoc (g.A.Argument.word x) (g.B.Argument.word y) (g.C.Argument.word z)))

pub returns-in_err-y-clause-exact : goal.returns-in_err-y-clause-exact
returns-in_err-y-clause-exact g c = λ x y z fx fy fz e.
    let s = g.met.B.Argument.spaced y in
    let p =
    c.in_ok-x.ensures.exact x (g.B.Argument.word y ++ g.C.Argument.word z) fx (break_append _ s.0 _ s.1)
    (e ∙ append_assoc (g.A.Argument.word x) (g.B.Argument.word y) (g.C.Argument.word z)) in
    let q = c.in_err-y.ensures.exact y z fy fz p.1 in absurd (cc q)

pub returns-clause-exact : goal.returns-clause-exact
returns-clause-exact g c = λ x y z fx fy fz e.
    let s = g.met.B.Argument.spaced y in
    let p =
    c.in_ok-x.ensures.exact x (g.B.Argument.word y ++ g.C.Argument.word z) fx (break_append _ s.0 _ s.1)
    (e ∙ append_assoc (g.A.Argument.word x) (g.B.Argument.word y) (g.C.Argument.word z)) in
    let q = c.in_ok-y.ensures.exact y z fy fz p.1 in
    three_same c.in_ok-x.x x (c.in_ok-y.y, c.in_ok-y.z) (y, z) p.0 q

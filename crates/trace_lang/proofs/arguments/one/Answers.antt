use Rattle.std.proofs.Common.{◌≡◌, ap, length, sym, ◌∙◌, [], true}
use Rattle.std.specs.Prelude.{◌==◌}
use Rattle.std.proofs.lemmas.List.{append-nil}
use Rattle.trace_lang.proofs.arguments.one.Goals as goal

pub returns-in_err-x-clause-exact : goal.returns-in_err-x-clause-exact
returns-in_err-x-clause-exact g c =
    λ x fits e. absurd (c.in_err-x.ensures.exact x [] fits tt (e ∙ sym (append-nil (g.A.Argument.word x))))

pub returns-else-is_empty-clause-exact : goal.returns-else-is_empty-clause-exact
returns-else-is_empty-clause-exact g c = λ x fits e.
    let p = c.in_ok-x.ensures.exact x [] fits tt (e ∙ sym (append-nil (g.A.Argument.word x))) in
    let empty : (length c.in_ok-x.rest.now == 0) ≡ true = ap (λ t. length t == 0) p.1 in
    let other = c.if-is_empty.false in absurd (cc (sym c.is_empty.ensures ∙ other, empty))

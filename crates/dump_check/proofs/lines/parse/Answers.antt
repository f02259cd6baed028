use Rattle.dump_check.proofs.Lined.{end_only}
use Rattle.dump_check.proofs.lines.parse.Goals as goal

pub returns-in_default-clause-exact : goal.returns-in_default-clause-exact
returns-in_default-clause-exact c =
    λ l s. end_only c.args.text.now l c.end.result (λ w rest e. c.in_default.ensures.exact w rest e) c.end.ensures.exact
    s

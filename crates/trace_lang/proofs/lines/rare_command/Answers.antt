use Rattle.trace_lang.proofs.Rests.{rest_break}
use Rattle.trace_lang.proofs.lines.rare_command.Goals as goal

pub returns-in_err-word-clause-exact : goal.returns-in_err-word-clause-exact
returns-in_err-word-clause-exact c = λ d s.
    absurd (c.in_err-word.ensures.exact s.0 s.1 (rest_break s.0 s.1 d s.3) s.2)

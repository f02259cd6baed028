use Rattle.dump_cli.proofs.Judging.{not_bad, not_counted}
use Rattle.dump_cli.proofs.reading.check.Goals as goal

pub returns-in-Err-TooManyLines-clause-well_formed : goal.returns-in-Err-TooManyLines-clause-well_formed
returns-in-Err-TooManyLines-clause-well_formed g c = λ input e w source sink.
    absurd (not_counted c.in-Err-TooManyLines.field-0 c.in-Err-TooManyLines.field-0-is
    (c.in-Err-TooManyLines.ensures.judged input e w))

pub returns-in-Bad-clause-well_formed : goal.returns-in-Bad-clause-well_formed
returns-in-Bad-clause-well_formed g c = λ input e w source sink.
    absurd (not_bad c.in-Ok.verdict c.in-Bad.line c.in-Bad.is (c.in-Ok.ensures.judged input e w))

pub returns-in-Bad-clause-too_many : goal.returns-in-Bad-clause-too_many
returns-in-Bad-clause-too_many g c = λ input e too. absurd (c.in-Ok.ensures.unjudged input e too)

pub returns-in-Ok-write_all-clause-too_many : goal.returns-in-Ok-write_all-clause-too_many
returns-in-Ok-write_all-clause-too_many g c = λ input e too. absurd (c.in-Ok.ensures.unjudged input e too)

pub returns-clause-too_many : goal.returns-clause-too_many
returns-clause-too_many g c = λ input e too. absurd (c.in-Ok.ensures.unjudged input e too)

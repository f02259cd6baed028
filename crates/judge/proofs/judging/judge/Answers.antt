use Rattle.judge.proofs.Concluding.{lawful_ends}
use Rattle.judge.proofs.judging.judge.Goals as goal

pub returns-in-Ok-clause-verdict : goal.returns-in-Ok-clause-verdict
returns-in-Ok-clause-verdict g c = λ input e. c.tell.ensures.verdict input (c.in-Ok.ensures.verdict input e)

pub returns-in-Ok-clause-complete : goal.returns-in-Ok-clause-complete
returns-in-Ok-clause-complete g c = λ input e lawful.
    lawful_ends input (g.K.Sink.written c.args.sink.now) (g.K.Sink.written c.tell.new.sink) c.tell.result
    (c.tell.ensures.verdict input (c.in-Ok.ensures.verdict input e)) lawful

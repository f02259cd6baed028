use Rattle.judge.proofs.checks.started.Goals as goal

pub returns-then-is_same-clause-right : goal.returns-then-is_same-clause-right
returns-then-is_same-clause-right c = (
  c.is_same.ensures.0 c.if-is_same.true,
  record {
    zones = c.requires.1.0;
    was = c.requires.1.1;
    none_out = c.requires.0;
    started = c.in_ok-start.ensures c.requires.1.0 c.requires.1.1;
  },
)

use Rattle.std.proofs.Common.{inl, ap, refl}
use Rattle.judge.specs.Replies.{due_as}
use Rattle.judge.proofs.Runs.{some_due}
use Rattle.judge.proofs.judging.Known.command.Goals as goal

pub returns-then-is_whole-clause-fine : goal.returns-then-is_whole-clause-fine
returns-then-is_whole-clause-fine c = λ e. inl (
  c.args.text.now,
  c.args.command.now,
  ap due_as (c.is_whole.ensures.0 c.if-is_whole.true),
  refl,
  (c.requires.spelled, c.requires.only),
  c.in_ok-awaited.ensures.graph,
  c.in_ok-awaited.ensures.asks,
)

pub returns-clause-said : goal.returns-clause-said
returns-clause-said c = inl (
  c.args.text.now,
  refl,
  some_due c.args.self.now.awaited (λ is. let w = c.is_whole.ensures.1 is in cc (w, c.if-is_whole.false)),
)

use Rattle.std.proofs.Common.{refl}
use Rattle.trace_cli.proofs.replaying.ReplayingWorks.run.Goals as goal

pub returns-clause-ran : goal.returns-clause-ran
returns-clause-ran g c = (
  refl,
  refl,
  refl,
  refl,
  refl,
  c.go.ensures.ledger,
  c.go.ensures.lender,
  λ e s. c.go.ensures.pauses e s,
)

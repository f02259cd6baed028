use Rattle.std.proofs.Common.{subst}
use Rattle.std.proofs.KnownBytes.{Appends-nil}
use Rattle.judge.specs.Verdicts.{IsVerdictOn}
use Rattle.judge.specs.declared.judging.Verdict.{Verdict}
use Rattle.judge.proofs.Ends.{fault_rose, lawful_written, no_read_fault}
use Rattle.judge.proofs.Concluding.{bad_unread, cut_within}
use Rattle.judge.proofs.judging.tell.Goals as goal

pub returns-in-Lawful-clause-verdict : goal.returns-in-Lawful-clause-verdict
returns-in-Lawful-clause-verdict g c = λ input v.
    lawful_written input c.write.result _ _ _ _
    (subst (λ (x : Verdict). IsVerdictOn input x) c.in-Lawful.is v) c.write.ensures

pub returns-in-Lawful-clause-read : goal.returns-in-Lawful-clause-read
returns-in-Lawful-clause-read g c = λ e. absurd (no_read_fault c.write.result _ _ _ _ _ _ (λ q. cc q) c.write.ensures e)

pub returns-in-Lawful-clause-write : goal.returns-in-Lawful-clause-write
returns-in-Lawful-clause-write g c = λ e. fault_rose c.write.result _ _ _ _ _ _ (λ q. cc q) c.write.ensures e

pub returns-in-Wrong-clause-verdict : goal.returns-in-Wrong-clause-verdict
returns-in-Wrong-clause-verdict g c = λ input v.
    c.tell_wrong.ensures.verdict input (subst (λ (x : Verdict). IsVerdictOn input x) c.in-Wrong.is v)

pub returns-in-Cut-clause-verdict : goal.returns-in-Cut-clause-verdict
returns-in-Cut-clause-verdict g c = λ input v. (
  cut_within input (subst (λ (x : Verdict). IsVerdictOn input x) c.in-Cut.is v),
  Appends-nil (g.K.Sink.written c.args.sink.now),
)

pub returns-in-Bad-clause-verdict : goal.returns-in-Bad-clause-verdict
returns-in-Bad-clause-verdict g c = λ input v. (
  bad_unread input c.in-Bad.line (subst (λ (x : Verdict). IsVerdictOn input x) c.in-Bad.is v),
  Appends-nil (g.K.Sink.written c.args.sink.now),
)

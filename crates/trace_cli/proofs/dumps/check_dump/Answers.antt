use Rattle.std.proofs.Common.{inl, inr, refl}
use Rattle.dump_cli.specs.declared.reading.CheckEnd.TheVariants as end
use Rattle.trace_cli.proofs.Closing.{handed_exit}
use Rattle.trace_cli.proofs.Concluding.{checks, concluded, concludes_as, sound_checked, unsound_checked}
use Rattle.trace_cli.proofs.Concluding.{verdict_concludes}
use Rattle.trace_cli.proofs.dumps.check_dump.Goals as goal

pub returns-in-Sound-clause-verdict : goal.returns-in-Sound-clause-verdict
returns-in-Sound-clause-verdict g c = checks _ _ _ _ (λ input e. sound_checked input _ _ _ _
    (c.in-Sound.ensures.verdict input e) c.end_so.ensures.kept
    (handed_exit c.end_so.ensures.cause))

pub returns-in-Unsound-clause-verdict : goal.returns-in-Unsound-clause-verdict
returns-in-Unsound-clause-verdict g c = checks _ _ _ _ (λ input e. unsound_checked input _ _ _ _
    (c.in-Unsound.ensures.verdict input e) c.end_so-in-Unsound.ensures.kept
    (handed_exit c.end_so-in-Unsound.ensures.cause))

pub returns-in-Sound-clause-concludes : goal.returns-in-Sound-clause-concludes
returns-in-Sound-clause-concludes g c = concluded _ _ _ _ _ _ (λ input e.
    verdict_concludes input _ _ _ _ _ end.Sound c.end_so.result _ tt (c.in-Sound.ensures.too_many input e)
    (c.in-Sound.ensures.quiet (inl refl)).1 c.end_so.ensures.cause)

pub returns-in-Unsound-clause-concludes : goal.returns-in-Unsound-clause-concludes
returns-in-Unsound-clause-concludes g c = concluded _ _ _ _ _ _ (λ input e.
    verdict_concludes input _ _ _ _ _ end.Unsound c.end_so-in-Unsound.result _ tt
    (c.in-Unsound.ensures.too_many input e)
    (c.in-Unsound.ensures.quiet (inr refl)).1 c.end_so-in-Unsound.ensures.cause)

pub returns-in-BadLine-clause-concludes : goal.returns-in-BadLine-clause-concludes
returns-in-BadLine-clause-concludes g c = concluded _ _ _ _ _ _ (λ input e.
    concludes_as input _ _ _ _ (end.BadLine c.in-BadLine.line) (c.in-BadLine.ensures.well_formed input e)
    (c.in-BadLine.ensures.too_many input e))

pub returns-in-ReadFault-clause-concludes : goal.returns-in-ReadFault-clause-concludes
returns-in-ReadFault-clause-concludes g c = concluded _ _ _ _ _ _ (λ input e.
    concludes_as input _ _ _ _ end.ReadFault (c.in-ReadFault.ensures.well_formed input e)
    (c.in-ReadFault.ensures.too_many input e))

pub returns-in-WriteFault-clause-concludes : goal.returns-in-WriteFault-clause-concludes
returns-in-WriteFault-clause-concludes g c = concluded _ _ _ _ _ _ (λ input e.
    concludes_as input _ _ _ _ end.WriteFault (c.in-WriteFault.ensures.well_formed input e)
    (c.in-WriteFault.ensures.too_many input e))

pub returns-in-NoMemory-clause-concludes : goal.returns-in-NoMemory-clause-concludes
returns-in-NoMemory-clause-concludes g c = concluded _ _ _ _ _ _ (λ input e.
    concludes_as input _ _ _ _ end.NoMemory (c.in-NoMemory.ensures.well_formed input e)
    (c.in-NoMemory.ensures.too_many input e))

pub returns-in-TooManyLines-clause-concludes : goal.returns-in-TooManyLines-clause-concludes
returns-in-TooManyLines-clause-concludes g c = concluded _ _ _ _ _ _ (λ input e.
    concludes_as input _ _ _ _ end.TooManyLines (c.in-TooManyLines.ensures.well_formed input e)
    (c.in-TooManyLines.ensures.too_many input e))

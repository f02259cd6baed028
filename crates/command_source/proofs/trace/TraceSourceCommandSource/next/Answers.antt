use Rattle.std.proofs.Common.{sym, subst, ◌∙◌, List, ℕ}
use Rattle.trace_lang.specs.Grammar.{Spells}
use Rattle.command_source.specs.Giving.{not_ascii, too_long, unspelt}
use Rattle.command_source.proofs.trace.TraceSourceCommandSource.next.Goals as goal

pub returns-in-TooLong-clause-gives : goal.returns-in-TooLong-clause-gives
returns-in-TooLong-clause-gives g c = too_long _ c.in-TooLong.ensures.bytes

pub returns-in-NotAscii-clause-gives : goal.returns-in-NotAscii-clause-gives
returns-in-NotAscii-clause-gives g c = not_ascii _ c.in-NotAscii.ensures.bytes

pub returns-in-Err-clause-gives : goal.returns-in-Err-clause-gives
returns-in-Err-clause-gives g c =
    unspelt c.next.new.self.line c.in-Line.field-0 c.in-Line.ensures.bytes
    (λ d s. cc (sym c.in-Err.is ∙ c.parse.ensures.exact d (subst (λ (l : List ℕ). Spells l d) (sym c.line.ensures) s)))

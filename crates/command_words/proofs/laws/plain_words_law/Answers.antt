use Rattle.command_words.proofs.Plain.{plain_read}
use Rattle.command_words.proofs.laws.plain_words_law.Goals as goal

pub returns-clause-taken : goal.returns-clause-taken
returns-clause-taken c = λ words line plain. (plain_read words line plain).0

pub returns-clause-only : goal.returns-clause-only
returns-clause-only c = λ words line other plain. (plain_read words line plain).1 other

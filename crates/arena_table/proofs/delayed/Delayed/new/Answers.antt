use Rattle.std.proofs.Common.{refl, arith}
use Rattle.arena_table.proofs.delayed.Delayed.new.Goals as goal

pub returns-clause-none : goal.returns-clause-none
returns-clause-none c = rw (c.new.ensures, c.new-2.ensures, c.new-3.ensures) refl

pub returns-clause-covered : goal.returns-clause-covered
returns-clause-covered c = record { black = omega arith; gray = omega arith; wake = omega arith }

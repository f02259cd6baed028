-- The statuses with which the program ends.
use Rattle.std.specs.Prelude.{ℕ}
use Rattle.trace_cli.specs.declared.exit.Exit.{Exit}
use Rattle.trace_cli.specs.declared.exit.Exit.TheVariants as exit

abbrev pub status_of : Exit → ℕ
status_of exit.Done = 0
status_of exit.Usage = 2
status_of (exit.BadLine line) = 3
status_of exit.ReadFault = 4
status_of exit.WriteFault = 5
status_of exit.NoMemory = 6
status_of exit.TooManyLines = 7
status_of exit.Unsound = 8

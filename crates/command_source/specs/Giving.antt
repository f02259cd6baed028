-- Which command comes next.
use Rattle.std.specs.Prelude.{ℕ, List, Option}
use Rattle.gz_io.specs.Lines.{GivesKnown}
use Rattle.gz_io.specs.declared.reader.Next.TheVariants as next
use Rattle.gz_names.specs.declared.commands.Cmd.{Cmd}
use Rattle.trace_lang.specs.Grammar.{Spells}
use Rattle.command_source.specs.declared.source.NextCommand.{NextCommand}
use Rattle.command_source.specs.declared.source.NextCommand.TheVariants as given

-- a line outside the language
abbrev pub IsBad : List ℕ → Type 0
IsBad line = (c : Cmd) → Spells line c → ⊥

-- the first of these bytes are a line, which stands for the command
pub record GivesCommand (old new : Option (List ℕ)) (c : Cmd) : Type 0 where
  pub line : List ℕ
  pub size : ℕ
  pub taken : GivesKnown old new (next.Line size) line
  pub spelt : Spells line c

-- they begin with a line outside the language: it is too long, is no ASCII, or stands for no command
pub data GivesBad (old new : Option (List ℕ)) : Type 0 where
  too_long : (line : List ℕ) → GivesKnown old new next.TooLong line → GivesBad old new
  not_ascii : (line : List ℕ) → GivesKnown old new next.NotAscii line → GivesBad old new
  unspelt : (line : List ℕ) (size : ℕ) → GivesKnown old new (next.Line size) line → IsBad line → GivesBad old new

-- of the old bytes to come this is given, and the new ones are left
abbrev pub GivesNext : Option (List ℕ) → Option (List ℕ) → NextCommand → Type 0
GivesNext old new (given.Command c) = GivesCommand old new c
GivesNext old new given.BadLine = GivesBad old new
GivesNext old new given.End = (line : List ℕ) × GivesKnown old new next.End line
GivesNext old new given.ReadFault = (line : List ℕ) × GivesKnown old new next.ReadFault line

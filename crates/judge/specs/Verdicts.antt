-- What a judge writes, and how it ends.
use Rattle.std.specs.Prelude.{◌≡◌, ◌≢◌, ◌⊎◌, ℕ, ◌+◌, List, [], ⊤}
use Rattle.gz_io.specs.Lines.{EndsLine}
use Rattle.gz_names.specs.declared.commands.Cmd.{Cmd}
use Rattle.colour_defs.specs.Graph.{GraphState}
use Rattle.trace_lang.specs.Grammar.{Spells}
use Rattle.judge.specs.Lines.{IsOneLine}
use Rattle.judge.specs.Stages.{Shown}
use Rattle.judge.specs.Replies.{Due, nothing, Judged, IsUnmarked, IsWrongAnswer, marked}
use Rattle.judge.specs.declared.judging.Verdict.{Verdict}
use Rattle.judge.specs.declared.judging.Verdict.TheVariants as verdict
use Rattle.judge.specs.declared.judging.Said.{Said}
use Rattle.judge.specs.declared.judging.Said.TheVariants as said

-- a line that stands for no command, and is one of a trace
abbrev pub IsBadLine : List ℕ → Type 0
IsBadLine line = (text : List ℕ) × (line ≡ marked text) × ((c : Cmd) → Spells text c → ⊥)

-- a line that is wrong after these: a command before the answer to the last one is whole, or a wrong answer
abbrev pub IsWrongLine : GraphState → Shown → Due → List ℕ → Type 0
IsWrongLine g s due line =
    ((text : List ℕ) × (line ≡ marked text) × (due ≢ nothing)) ⊎ (IsUnmarked line × IsWrongAnswer g s due line)

-- the first n lines were judged, and the rest is left
pub record HasJudged (input : List ℕ) (n : ℕ) (rest : List ℕ) (due : Due) : Type 0 where
  pub graph : GraphState
  pub shows : Shown
  pub judged : Judged input n rest graph shows due

-- the line after n judged ones
pub record IsNext (input : List ℕ) (n : ℕ) (due : Due) (line : List ℕ) : Type 0 where
  pub rest : List ℕ
  pub more : List ℕ
  pub before : HasJudged input n rest due
  pub one : IsOneLine line
  pub ends : EndsLine rest more line

-- all lines were judged, and nothing is due
abbrev pub IsJudgedWhole : List ℕ → Type 0
IsJudgedWhole input = (n : ℕ) × HasJudged input n [] nothing

-- the n-th line, counted from 1, is wrong, and is the first such line
abbrev pub IsFirstWrong : List ℕ → ℕ → Type 0
IsFirstWrong input n =
    (before : ℕ) × (due : Due) × (line : List ℕ) × (n ≡ before + 1) × (next : IsNext input before due line)
    × IsWrongLine next.before.graph next.before.shows due line

-- the n-th line is bad, and those before it are judged
abbrev pub IsFirstBad : List ℕ → ℕ → Type 0
IsFirstBad input n =
    (before : ℕ) × (due : Due) × (line : List ℕ) × (n ≡ before + 1) × IsNext input before due line × IsBadLine line

-- the transcript ends within an answer
abbrev pub IsCut : List ℕ → Type 0
IsCut input = (n : ℕ) × (due : Due) × HasJudged input n [] due × (due ≢ nothing)

-- what the next line is, by what the judge says of it
abbrev pub IsSaid : GraphState → Shown → Due → List ℕ → Said → Type 0
IsSaid g s due line said.Fine = ⊤
IsSaid g s due line said.Bad = IsBadLine line
IsSaid g s due line (said.Wrong kind) = IsWrongLine g s due line

-- a verdict on the bytes of a transcript
abbrev pub IsVerdictOn : List ℕ → Verdict → Type 0
IsVerdictOn input verdict.Lawful = IsJudgedWhole input
IsVerdictOn input (verdict.Wrong n kind) = IsFirstWrong input n
IsVerdictOn input verdict.Cut = IsCut input
IsVerdictOn input (verdict.Bad n) = IsFirstBad input n
IsVerdictOn input verdict.ReadFault = ⊤
IsVerdictOn input verdict.TooManyLines = ⊤

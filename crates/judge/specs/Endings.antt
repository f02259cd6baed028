-- What a judge writes, and how it ends: `lawful` only for a lawful transcript, and `at line N` only for one that no
-- lawful transcript equals so far.
use Rattle.std.specs.Prelude.{◌≡◌, ◌⊎◌, ℕ, ◌+◌, List, [], ◌∷◌, ◌++◌, Option, codes, length, ⊤}
use Rattle.std.specs.Fmt.{decimal}
use Rattle.std.specs.Io.KnownBytes.{Appends}
use Rattle.gz_io.specs.Causes.{AppendsFront}
use Rattle.judge.specs.Transcripts.{HasLines, IsFirstUnlawful, IsLawful, IsLawfulInput, IsLawfulSoFar, IsNoStart}
use Rattle.judge.specs.Verdicts.{IsBadLine}
use Rattle.judge.specs.declared.judging.JudgeEnd.{JudgeEnd}
use Rattle.judge.specs.declared.judging.JudgeEnd.TheVariants as end

-- the lines of these bytes are lawful as far as they go, and are no whole transcript
pub record EndsWithin (input : List ℕ) : Type 0 where
  pub lines : List (List ℕ)
  pub has : HasLines input lines []
  pub so_far : IsLawfulSoFar lines
  pub unfinished : IsLawful lines → ⊥

-- the n-th line, counted from 1, is marked as one of a trace and stands for no command; the lines before it are lawful
-- as far as they go, and no lawful transcript begins with them and it
pub record IsFirstUnread (input : List ℕ) (n : ℕ) : Type 0 where
  pub before : List (List ℕ)
  pub line : List ℕ
  pub rest : List ℕ
  pub has : HasLines input (before ++ line ∷ []) rest
  pub number : n ≡ length before + 1
  pub so_far : IsLawfulSoFar before
  pub bad : IsBadLine line
  pub none : IsNoStart (before ++ line ∷ [])

-- the line of a verdict that is not lawful, by its kind
abbrev pub wrong_text : ℕ → List ℕ → List ℕ
wrong_text n kind = codes "at line " ++ decimal n ++ codes ": " ++ kind ++ codes "\n"

-- a verdict on these bytes, and its text
abbrev pub IsVerdictText : List ℕ → List ℕ → Type 0
IsVerdictText input text =
    (IsLawfulInput input × (text ≡ codes "lawful\n"))
    ⊎ ((n : ℕ) × (kind : List ℕ) × IsFirstUnlawful input n × (text ≡ wrong_text n kind))

-- what is written for these bytes, by how the judge ends
abbrev pub EndsBy : List ℕ → Option (List ℕ) → Option (List ℕ) → JudgeEnd → Type 0
EndsBy input old new end.Lawful = IsLawfulInput input × Appends old new (codes "lawful\n")
EndsBy input old new (end.Unlawful n) =
    IsFirstUnlawful input n × (kind : List ℕ) × Appends old new (wrong_text n kind)
EndsBy input old new end.Cut = EndsWithin input × Appends old new []
EndsBy input old new (end.BadLine n) = IsFirstUnread input n × Appends old new []
EndsBy input old new end.ReadFault = Appends old new []
EndsBy input old new end.WriteFault = (text : List ℕ) × IsVerdictText input text × AppendsFront old new text
EndsBy input old new end.NoMemory = Appends old new []
EndsBy input old new end.TooManyLines = Appends old new []

-- a verdict was written
abbrev pub HasVerdict : JudgeEnd → Type 0
HasVerdict end.Lawful = ⊤
HasVerdict (end.Unlawful n) = ⊤
HasVerdict end.Cut = ⊥
HasVerdict (end.BadLine n) = ⊥
HasVerdict end.ReadFault = ⊥
HasVerdict end.WriteFault = ⊥
HasVerdict end.NoMemory = ⊥
HasVerdict end.TooManyLines = ⊥

-- how a judge may end for a lawful transcript: with `lawful`, or because something else fails
abbrev pub MayEndLawful : JudgeEnd → Type 0
MayEndLawful end.Lawful = ⊤
MayEndLawful (end.Unlawful n) = ⊥
MayEndLawful end.Cut = ⊥
MayEndLawful (end.BadLine n) = ⊥
MayEndLawful end.ReadFault = ⊤
MayEndLawful end.WriteFault = ⊤
MayEndLawful end.NoMemory = ⊤
MayEndLawful end.TooManyLines = ⊤

-- The verdict on the bytes of a dump, and its text.
use Rattle.std.specs.Prelude.{◌≡◌, ◌≢◌, ℕ, ◌+◌, ◌==◌, List, [], ◌∷◌, ◌++◌, Option, Some, Result, Ok, Err, codes, length}
use Rattle.std.specs.Prelude.{if◌then◌else◌, IsTrue, ⊤, ◌≤◌, ◌⊎◌}
use Rattle.std.specs.Fmt.{decimal}
use Rattle.std.specs.Io.KnownBytes.{Appends, prepend_known}
use Rattle.gz_io.specs.Causes.{AppendsFront}
use Rattle.gz_io.specs.Lines.{EndsLine, IsNotAscii, IsPlain, IsTooLong}
use Rattle.gz_names.specs.declared.dumps.DumpFault.{DumpFault}
use Rattle.gz_names.specs.declared.dumps.DumpFault.TheVariants as fault
use Rattle.gz_names.specs.declared.dumps.DumpLine.{DumpLine}
use Rattle.gz_names.specs.DumpTexts.{SpellsLine}
use Rattle.gz_names.specs.Dumps.{AreSoundLines, is_in_form}
use Rattle.dump_check.specs.declared.checker.Verdict.{Verdict}
use Rattle.dump_check.specs.declared.checker.Verdict.TheVariants.{Sound, Fault, Bad}
use Rattle.dump_check.specs.Checking.{IsBadAfter, IsFaultAfter, SaysAtEnd}
use Rattle.dump_cli.specs.declared.reading.CheckEnd.{CheckEnd}
use Rattle.dump_cli.specs.declared.reading.CheckEnd.TheVariants as end
use Rattle.dump_cli.specs.declared.reading.NoVerdict.{NoVerdict}
use Rattle.dump_cli.specs.declared.reading.NoVerdict.TheVariants as none

-- of the bytes these lines of a dump come first, and the rest is left
abbrev pub HasRead : List ℕ → List DumpLine → List ℕ → Type 0
HasRead input [] rest = input ≡ rest
HasRead input (l ∷ ls) rest = (text more : List ℕ) × EndsLine input more text × SpellsLine text l × HasRead more ls rest

-- the first lines are sound ones, and the rest is left
pub record AreReadSo (input : List ℕ) (ls : List DumpLine) (rest : List ℕ) : Type 0 where
  pub read : HasRead input ls rest
  pub sound : AreSoundLines [] ls

-- the next line is one that no dump has there: it spells none that may follow, or is too long or no ASCII
abbrev pub IsBadNext : List DumpLine → List ℕ → Type 0
IsBadNext ls rest = ((text more : List ℕ) × EndsLine rest more text × IsBadAfter ls text)
    ⊎ (IsTooLong rest ⊎ IsNotAscii rest)

-- the next line is at fault, or there is none and the dump is cut
abbrev pub IsFaultNext : List DumpLine → List ℕ → ℕ → DumpFault → Type 0
IsFaultNext ls rest n why = ((text more : List ℕ) × EndsLine rest more text × IsFaultAfter ls text why)
    ⊎ ((rest ≡ []) × SaysAtEnd ls (Fault n why))

-- the verdict on the bytes of a dump: the first line that is bad or at fault decides, after sound ones
abbrev pub IsVerdictOn : List ℕ → Verdict → Type 0
IsVerdictOn input (Sound cells edges entries) = (ls : List DumpLine) × AreReadSo input ls []
    × SaysAtEnd ls (Sound cells edges entries)
IsVerdictOn input (Fault n why) = (ls : List DumpLine) × (rest : List ℕ) × AreReadSo input ls rest × (n ≡ length ls + 1)
    × IsFaultNext ls rest n why
IsVerdictOn input (Bad n) = (ls : List DumpLine) × (rest : List ℕ) × AreReadSo input ls rest × (n ≡ length ls + 1)
    × IsBadNext ls rest

-- no line of the bytes taken decides: those that have their line feed are sound ones, and what was taken behind them,
-- before the bytes that are left, has none
pub record IsUndecided (input : List ℕ) (left : Option (List ℕ)) : Type 0 where
  pub lines : List DumpLine
  pub rest : List ℕ
  pub held : List ℕ
  pub so : AreReadSo input lines rest
  pub plain : IsPlain held
  pub taken : prepend_known held left ≡ Some rest

-- so many sound lines come first that no more are counted, and bytes come after them
pub record HasTooMany (input : List ℕ) : Type 0 where
  pub lines : List DumpLine
  pub rest : List ℕ
  pub so : AreReadSo input lines rest
  pub count : length lines ≡ 4294967295
  pub more : rest ≢ []

-- each line may follow those before it
abbrev pub AreInForm : List DumpLine → List DumpLine → Type 0
AreInForm before [] = ⊤
AreInForm before (l ∷ ls) = IsTrue (is_in_form before l) × AreInForm (before ++ l ∷ []) ls

-- the bytes are lines of a dump, whatever their faults, and no more than are counted
pub record IsWellFormed (input : List ℕ) : Type 0 where
  pub lines : List DumpLine
  pub read : HasRead input lines []
  pub in_form : AreInForm [] lines
  pub few : length lines ≤ 4294967295

-- no line is refused, nor are there too many
abbrev pub IsJudged : Result Verdict NoVerdict → Type 0
IsJudged (Ok (Sound cells edges entries)) = ⊤
IsJudged (Ok (Fault n why)) = ⊤
IsJudged (Ok (Bad n)) = ⊥
IsJudged (Err none.Read) = ⊤
IsJudged (Err none.Memory) = ⊤
IsJudged (Err none.TooManyLines) = ⊥

-- there is no verdict
abbrev pub IsUnjudged : Result Verdict NoVerdict → Type 0
IsUnjudged (Ok v) = ⊥
IsUnjudged (Err e) = ⊤

abbrev pub refusal_after : ℕ → Result Verdict NoVerdict
refusal_after read = if read == 4294967295 then Err none.TooManyLines else Ok (Bad (read + 1))

abbrev pub kind_text : DumpFault → List ℕ
kind_text fault.Order = codes "order"
kind_text fault.Absent = codes "absent"
kind_text fault.Gray = codes "gray"
kind_text fault.Cut = codes "cut"

-- a verdict's line, with its line feed; nothing is written of a bad line
abbrev pub verdict_text : Verdict → List ℕ
verdict_text (Sound cells edges entries) = codes "ok " ++ decimal cells ++ codes " " ++ decimal edges ++ codes " "
    ++ decimal entries ++ codes "\n"
verdict_text (Fault n why) = codes "fault " ++ decimal n ++ codes " " ++ kind_text why ++ codes "\n"
verdict_text (Bad n) = []

-- the verdict on the bytes was written whole
abbrev pub WritesVerdict : List ℕ → Option (List ℕ) → Option (List ℕ) → Verdict → Type 0
WritesVerdict input old new v = IsVerdictOn input v × Appends old new (verdict_text v)

-- what was written, by how the check ends
abbrev pub EndsBy : List ℕ → Option (List ℕ) → Option (List ℕ) → CheckEnd → Type 0
EndsBy input old new end.Sound = (cells edges entries : ℕ) × WritesVerdict input old new (Sound cells edges entries)
EndsBy input old new end.Unsound = (n : ℕ) × (why : DumpFault) × WritesVerdict input old new (Fault n why)
EndsBy input old new (end.BadLine n) = WritesVerdict input old new (Bad n)
EndsBy input old new end.ReadFault = Appends old new []
EndsBy input old new end.WriteFault = (v : Verdict) × IsVerdictOn input v × AppendsFront old new (verdict_text v)
EndsBy input old new end.NoMemory = Appends old new []
EndsBy input old new end.TooManyLines = HasTooMany input × Appends old new []

-- What a checker knows of the lines that it was given, and what it says.
use Rattle.std.specs.Prelude.{
  ◌≡◌,
  ℕ,
  ◌+◌,
  Bool,
  not,
  ◌&&◌,
  nat_lt,
  List,
  [],
  ◌∷◌,
  ◌++◌,
  Option,
  Some,
  None,
  is_some,
  Result,
  Ok,
  Err,
  IsTrue,
  length,
}
use Rattle.gz_names.specs.declared.names.Name.{Name}
use Rattle.gz_names.specs.declared.dumps.DumpColour.{DumpColour}
use Rattle.gz_names.specs.declared.dumps.DumpFault.{DumpFault}
use Rattle.gz_names.specs.declared.dumps.DumpFault.TheVariants.{Absent, Gray, Cut}
use Rattle.gz_names.specs.declared.dumps.DumpLine.{DumpLine}
use Rattle.gz_names.specs.declared.dumps.DumpLine.TheVariants as line
use Rattle.gz_names.specs.DumpTexts.{SpellsLine}
use Rattle.gz_names.specs.Dumps.{
  AreSoundLines,
  IsSoundDump,
  cells_of,
  edge_count,
  fault_if,
  fault_of,
  is_black,
  is_gray,
  is_in_form,
  last_part,
  part_of,
  weak_count,
}
use Rattle.dump_check.specs.declared.checker.Part.{Part}
use Rattle.dump_check.specs.declared.checker.Part.TheVariants as part
use Rattle.dump_check.specs.declared.checker.Verdict.{Verdict}
use Rattle.dump_check.specs.declared.checker.Verdict.TheVariants.{Sound, Fault, Bad}

-- what is kept of the lines
pub record Progress : Type 0 where
  pub cells : List (Name × DumpColour)
  pub part : ℕ
  pub edges : ℕ
  pub entries : ℕ
  pub lines : ℕ

-- what is kept of these lines
abbrev pub read_of : List DumpLine → Progress
read_of ls = record {
  cells = cells_of ls;
  part = last_part ls;
  edges = edge_count ls;
  entries = weak_count ls;
  lines = length ls;
}

abbrev pub part_number : Part → ℕ
part_number part.Cells = 0
part_number part.Edges = 1
part_number part.WeakEntries = 2
part_number part.End = 3

-- the fault of what has a colour and leads to what has this one, if it has a line
abbrev pub way_fault : DumpColour → Option DumpColour → Option DumpFault
way_fault from to = fault_if (not (is_some to)) Absent (fault_if (is_black (Some from) && is_gray to) Gray None)

-- a line may follow one of this part
abbrev pub may_follow : ℕ → DumpLine → Bool
may_follow p l = not (nat_lt (part_of l) p) && nat_lt p 3

-- with one line more
abbrev pub with_line : Progress → DumpLine → Progress
with_line p (line.Cell x c) = record {
  cells = p.cells ++ (x, c) ∷ [];
  part = 0;
  edges = p.edges;
  entries = p.entries;
  lines = p.lines + 1;
}
with_line p (line.Edge n y) =
    record { cells = p.cells; part = 1; edges = p.edges + 1; entries = p.entries; lines = p.lines + 1 }
with_line p (line.Weak m k v) =
    record { cells = p.cells; part = 2; edges = p.edges; entries = p.entries + 1; lines = p.lines + 1 }
with_line p line.End = record { cells = p.cells; part = 3; edges = p.edges; entries = p.entries; lines = p.lines + 1 }

-- a text is a line that may follow these lines and is at fault there
pub record IsFaultAfter (ls : List DumpLine) (text : List ℕ) (why : DumpFault) : Type 0 where
  pub line : DumpLine
  pub spelled : SpellsLine text line
  pub in_form : IsTrue (is_in_form ls line)
  pub fault : fault_of ls line ≡ Some why

-- a text is no line that may follow these lines
abbrev pub IsBadAfter : List DumpLine → List ℕ → Type 0
IsBadAfter ls text = (l : DumpLine) → SpellsLine text l → IsTrue (is_in_form ls l) → ⊥

-- a text is a sound line after these lines, and the checker goes on
pub record GoesOn (ls : List DumpLine) (text : List ℕ) (new : Progress) : Type 0 where
  pub line : DumpLine
  pub spelled : SpellsLine text line
  pub sound : AreSoundLines [] (ls ++ line ∷ [])
  pub kept : new ≡ read_of (ls ++ line ∷ [])

-- what is said of a text after sound lines
abbrev pub Says : {E : Type 0} → List DumpLine → List ℕ → Result (Option Verdict) E → Progress → Type 0
Says ls text (Ok None) new = GoesOn ls text new
Says ls text (Ok (Some (Sound cells edges entries))) new = ⊥
Says ls text (Ok (Some (Fault n why))) new = (n ≡ length ls + 1) × IsFaultAfter ls text why
Says ls text (Ok (Some (Bad n))) new = (n ≡ length ls + 1) × IsBadAfter ls text
Says ls text (Err e) new = new ≡ read_of ls

-- what is said where no line follows sound lines
abbrev pub SaysAtEnd : List DumpLine → Verdict → Type 0
SaysAtEnd ls (Sound cells edges entries) = IsSoundDump ls × (cells ≡ length (cells_of ls)) × (edges ≡ edge_count ls)
    × (entries ≡ weak_count ls)
SaysAtEnd ls (Fault n why) = (n ≡ length ls + 1) × (why ≡ Cut) × (IsSoundDump ls → ⊥)
SaysAtEnd ls (Bad n) = ⊥

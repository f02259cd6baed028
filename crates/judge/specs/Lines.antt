-- Lines of any length.
use Rattle.std.specs.Prelude.{◌≡◌, ◌≢◌, ℕ, Bool, true, false, List, [], ◌∷◌, ◌++◌, Option, Some, None, ⊤}
use Rattle.gz_io.specs.Lines.{EndsLine}
use Rattle.judge.specs.declared.lines.NextLine.{NextLine}
use Rattle.judge.specs.declared.lines.NextLine.TheVariants as next

-- bytes without this one
abbrev pub Lacks : ℕ → List ℕ → Type 0
Lacks byte [] = ⊤
Lacks byte (b ∷ bs) = (b ≢ byte) × Lacks byte bs

-- bytes without a line feed
abbrev pub IsOneLine : List ℕ → Type 0
IsOneLine line = Lacks 10 line

-- what is held as far as a line feed was added to the line, if there is one; else all of it
abbrev pub TakesHeld : Bool → List ℕ → List ℕ → List ℕ → List ℕ → Type 0
TakesHeld true held new_held line new_line =
    (part : List ℕ) × IsOneLine part × (held ≡ part ++ 10 ∷ new_held) × (new_line ≡ line ++ part)
TakesHeld false held new_held line new_line = IsOneLine held × (new_held ≡ []) × (new_line ≡ line ++ held)

-- of the bytes xs this is the outcome, ys are left, and the line was given
abbrev pub GivesLine : List ℕ → List ℕ → NextLine → List ℕ → Type 0
GivesLine xs ys next.Line line = IsOneLine line × EndsLine xs ys line
GivesLine xs ys next.End line = (xs ≡ []) × (ys ≡ [])
GivesLine xs ys next.ReadFault line = ⊤
GivesLine xs ys next.TooLong line = ⊤

-- what was given, of a source that tells its bytes or does not
abbrev pub GivesKnownLine : Option (List ℕ) → Option (List ℕ) → NextLine → List ℕ → Type 0
GivesKnownLine None new result line = ⊤
GivesKnownLine (Some xs) None result line = ⊥
GivesKnownLine (Some xs) (Some ys) result line = GivesLine xs ys result line

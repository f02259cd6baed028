-- The lines of a dump as texts.
use Rattle.std.proofs.Common.{◌≡◌, ℕ, List, ◌++◌, Option, Some}
use Rattle.std.specs.Prelude.{codes}
use Rattle.gz_names.specs.declared.dumps.DumpLine.{DumpLine}
use Rattle.gz_names.specs.declared.dumps.DumpLine.TheVariants as line
use Rattle.gz_names.specs.DumpTexts.{SpellsLine}
use Rattle.dump_check.specs.declared.lines.Word.{Word}
use Rattle.dump_check.specs.declared.lines.Word.TheVariants as word
use Rattle.dump_check.specs.Words.{word_text}

-- a text without a first word is at most the end
pub end_only : (text : List ℕ) (l : DumpLine) (r : Option DumpLine)
    → ((w : Word) (rest : List ℕ) → text ≡ word_text w ++ rest → ⊥) → (text ≡ codes "end" → r ≡ Some line.End)
    → SpellsLine text l → r ≡ Some l
end_only text (line.Cell x c) r none end s = absurd (none word.Cell _ s.0)
end_only text (line.Edge n y) r none end s = absurd (none word.Edge _ s.0)
end_only text (line.Weak m k v) r none end s = absurd (none word.Weak _ s.0)
end_only text line.End r none end s = end s.0

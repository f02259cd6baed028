-- The words that lines begin with.
use Rattle.std.specs.Prelude.{ℕ, List, codes}
use Rattle.dump_check.specs.declared.lines.Word.{Word}
use Rattle.dump_check.specs.declared.lines.Word.TheVariants as word

abbrev pub word_text : Word → List ℕ
word_text word.Cell = codes "cell "
word_text word.Edge = codes "edge "
word_text word.Weak = codes "weak "

use Rattle.std.proofs.Common.{◌∙◌, sym}
use Rattle.std.proofs.lemmas.Option.{IfSome_then}
use Rattle.trace_lang.specs.Words.{word_text}
use Rattle.trace_lang.proofs.Rests.{rest_break, rest_is}
use Rattle.trace_lang.proofs.Spelling.{same_word, word_front, word_text_one, word_text_word}
use Rattle.trace_lang.proofs.lines.command_after.Goals as goal

pub returns-clause-some : goal.returns-clause-some
returns-clause-some g c =
    let front = word_front (word_text g.R.Row.first) c.args.line.now c.args.len c.requires.front c.requires.len in
    IfSome_then c.read.result c.read.ensures.some (λ d k. (g.R.Row.first, _, front.0, k))

pub returns-clause-exact : goal.returns-clause-exact
returns-clause-exact g c = λ d s.
    let front = word_front (word_text g.R.Row.first) c.args.line.now c.args.len c.requires.front c.requires.len in
    let same = same_word _ _ _ s.1 (word_text_word g.R.Row.first) (word_text_word s.0) front.1
    (rest_break s.0 s.1 d s.3) (sym front.0 ∙ s.2) in
    c.read.ensures.exact d (rest_is g.R.Row.first s.0 _ s.1 d (word_text_one g.R.Row.first s.0 same.0, same.1) s.3)

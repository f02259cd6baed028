use Rattle.std.proofs.Common.{sym, ◌∙◌}
use Rattle.trace_lang.specs.Words.{word_text}
use Rattle.trace_lang.proofs.Spelling.{same_word, word_text_word}
use Rattle.trace_lang.proofs.lines.first_word.Goals as goal

pub returns-in_err-word_of-clause-exact : goal.returns-in_err-word_of-clause-exact
returns-in_err-word_of-clause-exact c = λ w rest b e.
    let p =
    same_word c.split_at_space.result.0.now (word_text w) c.split_at_space.result.1.now rest
    c.split_at_space.ensures.word (word_text_word w) c.split_at_space.ensures.rest b
    (sym c.split_at_space.ensures.parts ∙ e) in
    let q = c.in_err-word_of.ensures.exact w p.0 in
    absurd (cc q)

pub returns-clause-exact : goal.returns-clause-exact
returns-clause-exact c = λ w rest b e.
    let p =
    same_word c.split_at_space.result.0.now (word_text w) c.split_at_space.result.1.now rest
    c.split_at_space.ensures.word (word_text_word w) c.split_at_space.ensures.rest b
    (sym c.split_at_space.ensures.parts ∙ e) in
    let q = c.in_ok-word_of.ensures.exact w p.0 in
    (cc q, p.1)

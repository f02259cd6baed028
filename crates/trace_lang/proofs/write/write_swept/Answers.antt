use Rattle.std.proofs.Common.{◌≡◌, ap, sym, subst, ◌∙◌, ◌++◌}
use Rattle.std.specs.Prelude.{OnErr, codes}
use Rattle.gz_io.specs.Causes.{AppendsFront}
use Rattle.trace_lang.specs.Words.{number_word}
use Rattle.trace_lang.specs.Texts.{line_of, name_words, names_text}
use Rattle.trace_lang.proofs.Owing.{names_some}
use Rattle.trace_lang.proofs.write.write_swept.Goals as goal

pub returns-clause-err : goal.returns-clause-err
returns-clause-err g c =
    let first : c.push.new.self ≡ codes "swept" = c.push.ensures ∙ ap (λ t. t ++ codes "swept") c.new-piece.ensures in
    let front : c.push_number.new.self ≡ codes "swept" ++ number_word c.args.arena =
    c.push_number.ensures.text ∙ ap (λ t. t ++ number_word c.from.result) first
    ∙ ap (λ n. codes "swept" ++ number_word n) c.from.ensures in
    let text : c.push_number.new.self ++ name_words c.args.names.now
    ≡ codes "swept" ++ number_word c.args.arena ++ names_text c.args.names.now =
    ap (λ t. t ++ name_words c.args.names.now) front ∙ ap (λ t. codes "swept" ++ number_word c.args.arena ++ t)
    (sym (names_some c.args.names.now (sym c.is_empty.ensures ∙ c.if-is_empty.false))) in
    subst (λ t. OnErr c.end_with_some.result (AppendsFront (g.K.Sink.written c.args.sink.now)
    (g.K.Sink.written c.end_with_some.new.sink) (line_of t))) text c.end_with_some.ensures.err

use Rattle.std.proofs.Common.{◌≡◌, ap, sym, subst, ◌∙◌, ◌++◌}
use Rattle.std.specs.Prelude.{OnErr, codes}
use Rattle.gz_io.specs.Causes.{AppendsFront}
use Rattle.trace_lang.specs.Texts.{line_of, name_words, told_line}
use Rattle.trace_lang.proofs.Owing.{told_some}
use Rattle.trace_lang.proofs.write.write_told.Goals as goal

pub returns-clause-err : goal.returns-clause-err
returns-clause-err g c =
    let first : c.push.new.self ≡ codes "told" = c.push.ensures ∙ ap (λ t. t ++ codes "told") c.new-piece.ensures in
    let text : line_of (c.push.new.self ++ name_words c.args.names.now) ≡ told_line c.args.names.now =
    ap (λ t. line_of (t ++ name_words c.args.names.now)) first
    ∙ sym (told_some c.args.names.now (sym c.is_empty.ensures ∙ c.if-is_empty.false)) in
    subst (λ t. OnErr c.end_with_some.result (AppendsFront (g.K.Sink.written c.args.sink.now)
    (g.K.Sink.written c.end_with_some.new.sink) t)) text c.end_with_some.ensures.err

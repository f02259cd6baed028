use Rattle.std.proofs.Common.{◌≡◌, ap, sym, subst, ◌∙◌, ◌++◌, ◌∷◌, [], append_assoc}
use Rattle.std.specs.Prelude.{OnErr}
use Rattle.std.specs.Fmt.{decimal}
use Rattle.gz_io.specs.Causes.{AppendsFront}
use Rattle.trace_lang.specs.Texts.{line_of}
use Rattle.trace_lang.proofs.write.write_numbered.Goals as goal

pub returns-clause-err : goal.returns-clause-err
returns-clause-err g c =
    let text : c.text.result.now ≡ line_of (c.args.word.now ++ decimal c.args.n) = c.text.ensures
    ∙ c.bytes.ensures
    ∙ ap (λ t. c.args.word.now ++ t) (c.number.ensures.text ∙ ap (λ t. decimal c.args.n ++ t) (c.byte.ensures ∙ ap
    (λ t. 10 ∷ t) c.new-tail.ensures))
    ∙ sym (append_assoc c.args.word.now (decimal c.args.n) (10 ∷ [])) in
    subst (λ t. OnErr c.write_all.result (AppendsFront (g.K.Sink.written c.args.sink.now)
    (g.K.Sink.written c.write_all.new.sink) t)) text c.write_all.ensures.err

use Rattle.std.proofs.Common.{◌≡◌, ap, sym, subst, ◌∙◌, ◌++◌, append_assoc}
use Rattle.std.specs.Prelude.{OnErr, codes}
use Rattle.std.specs.Fmt.{decimal}
use Rattle.gz_io.specs.Causes.{AppendsFront}
use Rattle.trace_lang.specs.Words.{number_word}
use Rattle.trace_lang.specs.Texts.{line_of}
use Rattle.trace_lang.proofs.write.write_kept.Goals as goal

pub returns-clause-err : goal.returns-clause-err
returns-clause-err g c =
    let number : c.number.new.self ≡ decimal c.args.arena ++ codes " -\n" =
    c.number.ensures.text ∙ ap (λ t. decimal c.from.result ++ t) (c.bytes.ensures ∙ ap (λ t. codes " -\n" ++ t)
    c.new-tail.ensures) ∙ ap (λ n. decimal n ++ codes " -\n") c.from.ensures in
    let text : c.text.result.now ≡ codes "swept " ++ (decimal c.args.arena ++ codes " -\n") =
    c.text.ensures ∙ c.bytes-2.ensures ∙ ap (λ t. codes "swept " ++ t) number in
    let line : c.text.result.now ≡ line_of (codes "swept" ++ number_word c.args.arena ++ codes " -") =
    text ∙ ap (λ t. codes "swept " ++ t) (sym (append_assoc (decimal c.args.arena) (codes " -") (codes "\n"))) in
    subst (λ t. OnErr c.write_all.result (AppendsFront (g.K.Sink.written c.args.sink.now)
    (g.K.Sink.written c.write_all.new.sink) t)) line c.write_all.ensures.err

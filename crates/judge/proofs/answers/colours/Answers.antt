use Rattle.std.proofs.Common.{◌∙◌, List, ap, inl}
use Rattle.std.proofs.lemmas.Result.{IfOk-weaker}
use Rattle.gz_names.specs.declared.names.Name.{Name}
use Rattle.gz_names.specs.declared.replies.Reply.TheVariants as the_reply
use Rattle.trace_lang.specs.Texts.{reply_text}
use Rattle.judge.specs.Replies.{reply}
use Rattle.judge.proofs.answers.colours.Goals as goal

pub returns : goal.returns
returns c =
    IfOk-weaker c.only-2.result _ _ (λ a e. inl (
      c.is_settled.ensures.0 c.if-not-is_settled.false,
      c.in_ok-names.names.items,
      c.in_ok-names.ensures,
      e ∙ ap (λ (l : List Name). reply (reply_text (the_reply.Gray l))) c.from_vec.ensures,
    )) c.only-2.ensures

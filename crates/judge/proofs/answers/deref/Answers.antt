use Rattle.std.proofs.Common.{◌∙◌, ap}
use Rattle.std.proofs.lemmas.Result.{IfOk-weaker}
use Rattle.gz_names.specs.declared.replies.Reply.{Reply}
use Rattle.colour_defs.specs.Step.{named_or_null}
use Rattle.trace_lang.specs.Texts.{reply_text}
use Rattle.judge.specs.Replies.{reply}
use Rattle.judge.specs.Stages.{shown}
use Rattle.judge.proofs.Taking.{takes_named}
use Rattle.judge.proofs.answers.deref.Goals as goal

pub returns-clause-asks : goal.returns-clause-asks
returns-clause-asks c =
    let took = c.in_ok-take_named.ensures in
    IfOk-weaker c.only.result _ _ (λ a e. (
      e ∙ ap (λ (r : Reply). reply (reply_text r)) (c.take_in_register-reply.ensures.reply
          ∙ ap named_or_null c.slot-named.ensures),
      takes_named c.args.graph.now c.take_in_register-reply.new.graph c.args.register c.slot-named.result _
          (shown c.args.world.now) (shown c.take_named.new.self) c.slot-named.ensures
          c.take_in_register-reply.ensures.graph (record {
            changes = record {
              places = took.places;
              lies = took.lies;
              takes = took.takes;
              walks = took.walks;
              blackens = took.black;
              left_out = took.left_out;
              stage_is = took.stage;
              out_is = took.out;
              whites_is = took.whites;
              weak_is = took.weak;
              told_is = took.told;
            };
            tally_is = took.tally;
          }),
    )) c.only.ensures

use Rattle.std.proofs.Common.{◌∙◌, Option, ap, subst}
use Rattle.std.proofs.lemmas.Result.{IfOk-weaker}
use Rattle.gz_names.specs.declared.names.Name.{Name}
use Rattle.gz_names.specs.declared.replies.Reply.{Reply}
use Rattle.colour_defs.specs.Graph.{GraphState}
use Rattle.colour_defs.specs.Step.{step_of}
use Rattle.judge.specs.Cells.{GivesPlaces, also_woken_in, wakes, wakes_also, woken_in}
use Rattle.judge.specs.LeftOut.{IsEither}
use Rattle.judge.specs.Bounds.{tally_of}
use Rattle.judge.specs.Stages.{Blackens, BlackensLeft, LiesIn, WakesAny, counted_by, shown, stage_of}
use Rattle.judge.specs.Walks.{left_out_of, walks_of}
use Rattle.judge.proofs.Cells.{also_woken_is, woken_is}
use Rattle.judge.proofs.LeftStages.{left_read}
use Rattle.judge.proofs.Counted.{counted_is}
use Rattle.judge.proofs.answers.follow.Goals as goal

pub returns-clause-obeys : goal.returns-clause-obeys
returns-clause-obeys c =
    let g = c.args.graph.now in
    let command = c.args.command.now in
    let old = c.args.world.now in
    let new = c.follow.new.self in
    let woken = ap (woken_in command) c.in_ok-reply.ensures.reply ∙ woken_is g command in
    let also = ap (also_woken_in command) c.in_ok-reply.ensures.reply ∙ also_woken_is g command in
    let places = subst (λ (h : GraphState). GivesPlaces h (woken_in command c.in_ok-reply.reply) old.places new.places)
    c.in_ok-reply.ensures.graph c.in_ok-follow.ensures.places in
    let tally = c.in_ok-follow.ensures.tally
    ∙ ap (λ (h : GraphState). counted_by h (stage_of old.phase) command c.in_ok-reply.reply (tally_of old.tally))
    c.in_ok-reply.ensures.graph
    ∙ ap (λ (r : Reply). counted_by (step_of g command).0 (stage_of old.phase) command r (tally_of old.tally))
    c.in_ok-reply.ensures.reply
    ∙ counted_is g (stage_of old.phase) command (tally_of old.tally) in
    IfOk-weaker c.only.result _ _ (λ a e. record {
      changes = record {
        places = subst (λ (o : Option Name). GivesPlaces (step_of g command).0 o old.places new.places) woken places;
        lies = subst (λ (h : GraphState). LiesIn h (shown old) (shown new)) c.in_ok-reply.ensures.graph
            c.in_ok-follow.ensures.lies;
        takes = c.in_ok-follow.ensures.takes;
        walks = subst (λ (o : Option Name). WakesAny (stage_of old.phase) o (walks_of old.phase)
            (walks_of new.phase)) woken c.in_ok-follow.ensures.walks;
        blackens = subst (λ (o : Option Name). Blackens (step_of g command).0 (stage_of old.phase) o old.black
            new.black) woken (subst (λ (h : GraphState). Blackens h (stage_of old.phase)
            (woken_in command c.in_ok-reply.reply) old.black new.black) c.in_ok-reply.ensures.graph
            c.in_ok-follow.ensures.black);
        left_out = left_read (step_of g command).0 (stage_of old.phase) (woken_in command c.in_ok-reply.reply)
            (also_woken_in command c.in_ok-reply.reply) (wakes g command) (wakes_also g command) (left_out_of old.phase)
            (left_out_of new.phase) (woken, also) (subst (λ (h : GraphState). BlackensLeft h (stage_of old.phase)
            (IsEither (woken_in command c.in_ok-reply.reply) (also_woken_in command c.in_ok-reply.reply))
            (left_out_of old.phase) (left_out_of new.phase)) c.in_ok-reply.ensures.graph
            c.in_ok-follow.ensures.left_out);
        stage_is = c.in_ok-follow.ensures.stage;
        out_is = c.in_ok-follow.ensures.out;
        whites_is = c.in_ok-follow.ensures.whites;
        weak_is = c.in_ok-follow.ensures.weak;
        told_is = c.in_ok-follow.ensures.told;
      };
      tally_is = tally;
    }) c.only.ensures

use Rattle.std.proofs.Common.{arith, ap, sym, ◌∙◌, ◌++◌, take}
use Rattle.std.proofs.lemmas.List.{take_all}
use Rattle.std.proofs.lemmas.Result.{on_err_weaker}
use Rattle.trace_lang.specs.Texts.{name_words}
use Rattle.trace_lang.proofs.Owing.{front_step, some_rest, owes_step, some_next, end_front}
use Rattle.trace_lang.proofs.write.end_with_some.Goals as goal

pub returns-in-Err-clause-err : goal.returns-in-Err-clause-err
returns-in-Err-clause-err g c =
    front_step _ _ _ c.loop-name.piece _ _ _ c.loop-name.invariant.0 c.in-Err.ensures.err
    (some_rest c.args.piece.now c.args.names.now c.loop-name.name-index)

pub loop-name-preserved : goal.loop-name-preserved
loop-name-preserved g c =
    let same = c.in-Ok.ensures.cause.same in (
      owes_step _ _ _ c.loop-name.piece c.make_room.new.piece c.push_name.new.self _ _ _ c.loop-name.invariant.0
          c.in-Ok.ensures.ok c.push_name.ensures.text (some_next c.args.piece.now c.args.names.now
          c.loop-name.name-index _ c.loop-name-test.true),
      omega (arith, c.push_name.ensures.size, c.in-Ok.ensures.room),
      same ∙ c.loop-name.invariant.2,
    )

pub returns-clause-err : goal.returns-clause-err
returns-clause-err g c =
    on_err_weaker c.end_line.result
    (end_front _ _ _ c.loop-name.piece
    (c.args.piece.now ++ name_words (take c.loop-name.name-index c.args.names.now)) _ c.loop-name.invariant.0 (ap
    (λ t. c.args.piece.now ++ name_words t)
    (sym (take_all c.loop-name.name-index c.args.names.now c.loop-name-test.false)))) c.end_line.ensures.err

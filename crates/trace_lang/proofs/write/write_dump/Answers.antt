use Rattle.std.proofs.Common.{arith, ap, sym, ◌∙◌, take}
use Rattle.std.proofs.lemmas.List.{take_all}
use Rattle.std.proofs.lemmas.Result.{on_err_weaker}
use Rattle.trace_lang.specs.Texts.{dump_lines_text}
use Rattle.trace_lang.proofs.Owing.{front_step, dump_rest, owes_step, dump_next, two_pieces, end_front}
use Rattle.trace_lang.proofs.write.write_dump.Goals as goal

pub returns-in-Err-clause-err : goal.returns-in-Err-clause-err
returns-in-Err-clause-err g c =
    front_step _ _ _ c.loop-i.piece _ _ _ c.loop-i.invariant.0 c.in-Err.ensures.err
    (dump_rest c.args.lines.now c.loop-i.i (omega (arith, c.loop-i-test.true)))

pub loop-i-preserved : goal.loop-i-preserved
loop-i-preserved g c =
    let same = c.in-Ok.ensures.cause.same in (
      owes_step _ _ _ c.loop-i.piece c.make_room.new.piece c.push_dump.new.self _ _ _ c.loop-i.invariant.0
          c.in-Ok.ensures.ok (two_pieces _ _ _ _ _ c.push_break.ensures.text c.push_dump.ensures.text)
          (dump_next c.args.lines.now c.loop-i.i _ c.loop-i-test.true),
      omega (arith, c.push_dump.ensures.size, c.push_break.ensures.size, c.in-Ok.ensures.room),
      same ∙ c.loop-i.invariant.2,
    )

pub returns-clause-err : goal.returns-clause-err
returns-clause-err g c =
    on_err_weaker c.end_line.result
    (end_front _ _ _ c.loop-i.piece (dump_lines_text 0 (take c.loop-i.i c.args.lines.now)) _ c.loop-i.invariant.0
    (ap (λ t. dump_lines_text 0 t) (sym (take_all c.loop-i.i c.args.lines.now c.loop-i-test.false))))
    c.end_line.ensures.err

use Rattle.std.proofs.Common.{refl}
use Rattle.std.proofs.lemmas.Result.{on_ok_weaker}
use Rattle.std.proofs.KnownBytes.{Appends-nil}
use Rattle.spec_replay.proofs.Written.{colours_answer, graph_answers, silent_answer}
use Rattle.spec_replay.proofs.answer.answer_line.Goals as goal

pub returns-in-Err-clause-bad : goal.returns-in-Err-clause-bad
returns-in-Err-clause-bad g c = λ e. ((λ d s. let p = c.parse.ensures.exact d s in cc (p, c.in-Err.is)), Appends-nil _)

pub returns-in-Ok-Graph-clause-ok : goal.returns-in-Ok-Graph-clause-ok
returns-in-Ok-Graph-clause-ok g c =
    on_ok_weaker c.answer_command.result (λ p. (
      _,
      graph_answers c.args.graph.now c.answer_command.new.graph c.args.line.now c.in-Ok-Graph.field-0 _
          c.in-Ok-Graph.ensures.ok c.in-Ok-Graph.field-0-is p.0,
      p.1,
    )) c.answer_command.ensures.ok

pub returns-in-Ok-Colours-clause-ok : goal.returns-in-Ok-Colours-clause-ok
returns-in-Ok-Colours-clause-ok g c =
    on_ok_weaker c.answer_colours.result (λ p. (
      p.0,
      colours_answer c.args.graph.now c.args.graph.now c.args.line.now p.0 c.in-Ok-Colours.field-0
          c.in-Ok-Colours.ensures.ok c.in-Ok-Colours.field-0-is p.1 refl,
      p.2,
    )) c.answer_colours.ensures.ok

pub returns-in-Ok-Gc-clause-ok : goal.returns-in-Ok-Gc-clause-ok
returns-in-Ok-Gc-clause-ok g c =
    silent_answer c.args.graph.now _ c.args.line.now c.in-Ok-Gc.field-0 _
    c.in-Ok-Gc.ensures.ok c.in-Ok-Gc.field-0-is (refl, refl)

pub returns-in-Ok-Slice-clause-ok : goal.returns-in-Ok-Slice-clause-ok
returns-in-Ok-Slice-clause-ok g c =
    silent_answer c.args.graph.now _ c.args.line.now c.in-Ok-Slice.field-0 _
    c.in-Ok-Slice.ensures.ok c.in-Ok-Slice.field-0-is (refl, refl)

pub returns-in-Ok-Finish-clause-ok : goal.returns-in-Ok-Finish-clause-ok
returns-in-Ok-Finish-clause-ok g c =
    silent_answer c.args.graph.now _ c.args.line.now c.in-Ok-Finish.field-0 _
    c.in-Ok-Finish.ensures.ok c.in-Ok-Finish.field-0-is (refl, refl)

pub returns-in-Ok-Collect-clause-ok : goal.returns-in-Ok-Collect-clause-ok
returns-in-Ok-Collect-clause-ok g c =
    silent_answer c.args.graph.now _ c.args.line.now c.in-Ok-Collect.field-0 _
    c.in-Ok-Collect.ensures.ok c.in-Ok-Collect.field-0-is (refl, refl)

pub returns-in-Ok-Weak-clause-ok : goal.returns-in-Ok-Weak-clause-ok
returns-in-Ok-Weak-clause-ok g c =
    silent_answer c.args.graph.now _ c.args.line.now c.in-Ok-Weak.field-0 _
    c.in-Ok-Weak.ensures.ok c.in-Ok-Weak.field-0-is (refl, refl)

pub returns-in-Ok-Reset-clause-ok : goal.returns-in-Ok-Reset-clause-ok
returns-in-Ok-Reset-clause-ok g c =
    silent_answer c.args.graph.now _ c.args.line.now c.in-Ok-Reset.field-0 _
    c.in-Ok-Reset.ensures.ok c.in-Ok-Reset.field-0-is (refl, refl)

pub returns-in-Ok-Dump-clause-ok : goal.returns-in-Ok-Dump-clause-ok
returns-in-Ok-Dump-clause-ok g c =
    silent_answer c.args.graph.now _ c.args.line.now c.in-Ok-Dump.field-0 _
    c.in-Ok-Dump.ensures.ok c.in-Ok-Dump.field-0-is (refl, refl)

pub returns-in-Ok-Compact-clause-ok : goal.returns-in-Ok-Compact-clause-ok
returns-in-Ok-Compact-clause-ok g c =
    silent_answer c.args.graph.now _ c.args.line.now c.in-Ok-Compact.field-0 _
    c.in-Ok-Compact.ensures.ok c.in-Ok-Compact.field-0-is (refl, refl)

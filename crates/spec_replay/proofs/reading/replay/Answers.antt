use Rattle.std.proofs.Common.{◌∙◌, Some, ap, arith, inl, inr, [], refl, sym, subst}
use Rattle.std.proofs.KnownBytes.{Appends-nil}
use Rattle.colour_defs.specs.Graph.{GraphState, empty_graph}
use Rattle.trace_lang.specs.Grammar.{Spells}
use Rattle.spec_replay.specs.Answers.{Answers, none}
use Rattle.spec_replay.proofs.Runs.{bad_of, gives_of, more_answered, none_held, none_more}
use Rattle.spec_replay.proofs.Traces.{trace_good, trace_line}
use Rattle.spec_replay.proofs.reading.replay.Goals as goal

pub loop-answered-init : goal.loop-answered-init
loop-answered-init g c = record {
  quiet = refl;
  calm = refl;
  so = λ input e. (
    input,
    none_held _ _ input c.new-reader.ensures.held e,
    [],
    subst (λ (h : GraphState). Answers empty_graph input 0 input [] h) (sym c.new-graph.ensures) none,
    Appends-nil _,
    λ n t. (n, t, omega arith),
  );
}

pub returns-in-ReadFault-clause-answers : goal.returns-in-ReadFault-clause-answers
returns-in-ReadFault-clause-answers g c = λ input e.
    let i = c.loop-answered.invariant.so input e in
    let given = gives_of _ _ _ _ i.0 c.in-ReadFault.ensures.bytes i.1 in (
      c.loop-answered.answered,
      i.0,
      _,
      (i.2, _, i.3, i.4),
      c.in-ReadFault.ensures.none_held refl,
      given.1 ∙ ap (λ r. Some r) given.2,
    )

pub returns-in-TooLong-clause-complete : goal.returns-in-TooLong-clause-complete
returns-in-TooLong-clause-complete g c = λ input n e t few calm quiet.
    let i = c.loop-answered.invariant.so input e in
    let given = gives_of _ _ _ _ i.0 c.next.ensures.bytes i.1 in
    let left = i.5 n t in absurd (trace_good left.0 i.0 left.1 (bad_of i.0 given.0 _ _ given.2 c.in-TooLong.is))

pub returns-in-Err-Bad-clause-complete : goal.returns-in-Err-Bad-clause-complete
returns-in-Err-Bad-clause-complete g c = λ input n e t few calm quiet.
    let i = c.loop-answered.invariant.so input e in
    let given = gives_of _ _ _ _ i.0 c.in-Line.ensures.bytes i.1 in
    let bad = c.in-Err-Bad.ensures.bad (cc c.in-Err-Bad.field-0-is) in
    let left = i.5 n t in
    let next = trace_line left.0 i.0 given.0 _ _ left.1 given.2 in
    absurd (bad.0 next.3 (subst (λ l. Spells l next.3) (sym c.line.ensures) next.4))

pub returns-in-TooLong-clause-answers : goal.returns-in-TooLong-clause-answers
returns-in-TooLong-clause-answers g c = λ input e.
    let i = c.loop-answered.invariant.so input e in
    let given = gives_of _ _ _ _ i.0 c.next.ensures.bytes i.1 in
    (_, i.0, (i.2, _, i.3, i.4), inr (bad_of i.0 given.0 _ _ given.2 c.in-TooLong.is), refl)

pub returns-in-Err-Bad-clause-answers : goal.returns-in-Err-Bad-clause-answers
returns-in-Err-Bad-clause-answers g c = λ input e.
    let i = c.loop-answered.invariant.so input e in
    let given = gives_of _ _ _ _ i.0 c.in-Line.ensures.bytes i.1 in
    let bad = c.in-Err-Bad.ensures.bad (cc c.in-Err-Bad.field-0-is) in (
      _,
      i.0,
      (i.2, _, i.3, none_more i.2 _ _ _ i.4 bad.1),
      inl (_, given.0, given.2.3, λ d s. bad.0 d (subst (λ t. Spells t d) (sym c.line.ensures) s)),
      refl,
    )

pub returns-in-Err-Memory-clause-answers : goal.returns-in-Err-Memory-clause-answers
returns-in-Err-Memory-clause-answers g c = λ input e.
    let i = c.loop-answered.invariant.so input e in
    let nothing = c.in-Err-Memory.ensures.memory (cc c.in-Err-Memory.field-0-is) in
    (c.loop-answered.answered, i.0, (i.2, _, i.3, none_more i.2 _ _ _ i.4 nothing))

pub loop-answered-preserved : goal.loop-answered-preserved
loop-answered-preserved g c = record {
  quiet = c.in-Line.ensures.same (λ p. cc p) ∙ c.loop-answered.invariant.quiet;
  calm = c.in-Ok.ensures.same ∙ c.loop-answered.invariant.calm;
  so = λ input e.
      let i = c.loop-answered.invariant.so input e in
      let given = gives_of _ _ _ _ i.0 c.in-Line.ensures.bytes i.1 in
      let ok = c.in-Ok.ensures.ok in
      let all = more_answered input i.0 given.0 _ _ i.2 ok.0 _ empty_graph _ _ _ _ _ i.3 i.4 given.2.3
      c.line.ensures ok.1 ok.2 in (
        given.0,
        given.1,
        all.0,
        all.1,
        all.2,
        λ n t. let left = i.5 n t in let next = trace_line left.0 i.0 given.0 _ _ left.1 given.2 in
            (next.0, next.1, omega (arith, left.2, next.2)),
      );
}

pub returns-clause-answers : goal.returns-clause-answers
returns-clause-answers g c = λ input e.
    let i = c.loop-answered.invariant.so input e in
    (c.loop-answered.answered, i.0, omega arith, (i.2, _, i.3, i.4))

pub returns-clause-complete : goal.returns-clause-complete
returns-clause-complete g c = λ input n e t few calm quiet.
    let left = (c.loop-answered.invariant.so input e).5 n t in absurd (omega (arith, left.2, few))

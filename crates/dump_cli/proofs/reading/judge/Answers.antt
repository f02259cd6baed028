use Rattle.std.proofs.Common.{◌∙◌, Some, ap, arith, refl}
use Rattle.std.specs.declared.alloc.AllocError.{AllocError}
use Rattle.dump_cli.proofs.Judging.{end_judged, end_unjudged, line_judged, line_unjudged, refusal_unjudged}
use Rattle.dump_cli.proofs.Judging.{well_counted, well_refused}
use Rattle.dump_cli.proofs.Only.{goes_on}
use Rattle.dump_cli.proofs.Read.{bad_of, end_verdict, gives_of, line_there, many_refused, refusal_verdict}
use Rattle.dump_cli.proofs.Read.{says_verdict}
use Rattle.dump_cli.proofs.reading.judge.Goals as goal

pub returns-in-End-clause-verdict : goal.returns-in-End-clause-verdict
returns-in-End-clause-verdict g c = λ input e.
    let i = c.loop-read.invariant.so input e in
    let given = gives_of _ _ _ _ i.1 c.in-End.ensures.bytes i.2 in
    end_verdict input i.0 i.1 c.end.result i.3 given.2.0 (c.end.ensures i.0 i.3.sound i.4)

pub returns-in-TooLong-clause-verdict : goal.returns-in-TooLong-clause-verdict
returns-in-TooLong-clause-verdict g c = λ input e.
    let i = c.loop-read.invariant.so input e in
    let given = gives_of _ _ _ _ i.1 c.next.ensures.bytes i.2 in
    refusal_verdict input i.0 i.1 c.loop-read.read c.refusal.result i.3 i.5
    (bad_of i.1 given.0 _ _ given.2 c.in-TooLong.is) c.refusal.ensures

pub returns-in-Ok-Some-clause-verdict : goal.returns-in-Ok-Some-clause-verdict
returns-in-Ok-Some-clause-verdict g c = λ input e.
    let i = c.loop-read.invariant.so input e in
    let given = gives_of _ _ _ _ i.1 c.in-Line.ensures.bytes i.2 in
    says_verdict AllocError input i.0 i.1 given.0 c.next.new.self.line c.line.result.now c.in-Ok-Some.field-0
    c.in-Ok-Some.verdict c.line-in-loop-read.new.self i.3 given.2.3 c.line.ensures c.in-Ok-Some.field-0-is
    (c.in-Ok-Some.ensures.says i.0 i.3.sound i.4)

pub returns-in-TooLong-clause-many : goal.returns-in-TooLong-clause-many
returns-in-TooLong-clause-many g c = λ too input e.
    let i = c.loop-read.invariant.so input e in
    let given = gives_of _ _ _ _ i.1 c.next.ensures.bytes i.2 in
    many_refused input i.0 i.1 c.loop-read.read c.refusal.result i.3 i.5
    (bad_of i.1 given.0 _ _ given.2 c.in-TooLong.is) c.refusal.ensures too

pub returns-then-read-eq4294967295-clause-many : goal.returns-then-read-eq4294967295-clause-many
returns-then-read-eq4294967295-clause-many g c = λ too input e.
    let i = c.loop-read.invariant.so input e in
    let given = gives_of _ _ _ _ i.1 c.in-Line.ensures.bytes i.2 in
    record {
      lines = i.0;
      rest = i.1;
      so = i.3;
      count = i.5 ∙ c.if-read-eq4294967295.true;
      more = line_there i.1 given.0 _ given.2.3;
    }

pub returns-in-ReadFault-clause-undecided : goal.returns-in-ReadFault-clause-undecided
returns-in-ReadFault-clause-undecided g c = λ failed input e.
    let i = c.loop-read.invariant.so input e in
    let given = gives_of _ _ _ _ i.1 c.in-ReadFault.ensures.bytes i.2 in
    record {
      lines = i.0;
      rest = i.1;
      held = _;
      so = i.3;
      plain = c.in-ReadFault.ensures.none_held refl;
      taken = given.1 ∙ ap (λ r. Some r) given.2;
    }

pub loop-read-preserved : goal.loop-read-preserved
loop-read-preserved g c = record {
  below = omega (arith, c.loop-read.invariant.below, c.if-read-eq4294967295.false);
  count = omega (arith, c.in-Ok-None.ensures.count, c.loop-read.invariant.count);
  quiet = c.in-Line.ensures.same (λ p. cc p) ∙ c.loop-read.invariant.quiet;
  so = λ input e.
      let i = c.loop-read.invariant.so input e in
      let given = gives_of _ _ _ _ i.1 c.in-Line.ensures.bytes i.2 in
      let all = goes_on AllocError input i.0 i.1 given.0 c.next.new.self.line c.line.result.now c.in-Ok-None.field-0
      c.line-in-loop-read.new.self c.loop-read.read i.3 i.6 given.2.3 given.2.2 c.in-Ok-None.ensures.only
      c.line.ensures c.in-Ok-None.field-0-is (c.in-Ok-None.ensures.says i.0 i.3.sound i.4) i.5 in
      (all.0, given.0, given.1, all.1, all.2, all.3, all.4);
}

pub returns-in-End-clause-judged : goal.returns-in-End-clause-judged
returns-in-End-clause-judged g c = λ input e w.
    let i = c.loop-read.invariant.so input e in
    end_judged i.0 c.end.result (c.end.ensures i.0 i.3.sound i.4)

pub returns-in-End-clause-unjudged : goal.returns-in-End-clause-unjudged
returns-in-End-clause-unjudged g c = λ input e too.
    let i = c.loop-read.invariant.so input e in
    let given = gives_of _ _ _ _ i.1 c.in-End.ensures.bytes i.2 in
    end_unjudged input i.0 i.1 c.end.result too i.6 (omega (arith, i.5, c.loop-read.invariant.below)) given.2.0

pub returns-in-TooLong-clause-judged : goal.returns-in-TooLong-clause-judged
returns-in-TooLong-clause-judged g c = λ input e w.
    let i = c.loop-read.invariant.so input e in
    let given = gives_of _ _ _ _ i.1 c.next.ensures.bytes i.2 in
    absurd (well_refused input i.0 i.1 w i.6 (bad_of i.1 given.0 _ _ given.2 c.in-TooLong.is))

pub returns-in-TooLong-clause-unjudged : goal.returns-in-TooLong-clause-unjudged
returns-in-TooLong-clause-unjudged g c = λ input e too.
    let i = c.loop-read.invariant.so input e in
    let given = gives_of _ _ _ _ i.1 c.next.ensures.bytes i.2 in
    refusal_unjudged input i.0 i.1 c.loop-read.read c.refusal.result too i.6 i.5 c.loop-read.invariant.below
    (bad_of i.1 given.0 _ _ given.2 c.in-TooLong.is) c.refusal.ensures

pub returns-then-read-eq4294967295-clause-judged : goal.returns-then-read-eq4294967295-clause-judged
returns-then-read-eq4294967295-clause-judged g c = λ input e w.
    let i = c.loop-read.invariant.so input e in
    let given = gives_of _ _ _ _ i.1 c.in-Line.ensures.bytes i.2 in
    absurd (well_counted input i.0 i.1 w i.6 (i.5 ∙ c.if-read-eq4294967295.true)
    (line_there i.1 given.0 _ given.2.3))

pub returns-in-Ok-Some-clause-judged : goal.returns-in-Ok-Some-clause-judged
returns-in-Ok-Some-clause-judged g c = λ input e w.
    let i = c.loop-read.invariant.so input e in
    let given = gives_of _ _ _ _ i.1 c.in-Line.ensures.bytes i.2 in
    line_judged AllocError input i.0 i.1 given.0 c.next.new.self.line c.line.result.now c.in-Ok-Some.field-0
    c.in-Ok-Some.verdict c.line-in-loop-read.new.self w i.6 given.2.3 given.2.2 (line_there i.1 given.0 _ given.2.3)
    c.line.ensures c.in-Ok-Some.field-0-is (c.in-Ok-Some.ensures.says i.0 i.3.sound i.4)

pub returns-in-Ok-Some-clause-unjudged : goal.returns-in-Ok-Some-clause-unjudged
returns-in-Ok-Some-clause-unjudged g c = λ input e too.
    let i = c.loop-read.invariant.so input e in
    let given = gives_of _ _ _ _ i.1 c.in-Line.ensures.bytes i.2 in
    line_unjudged AllocError input i.0 i.1 given.0 c.next.new.self.line c.line.result.now c.in-Ok-Some.field-0
    c.in-Ok-Some.verdict c.line-in-loop-read.new.self too i.6 given.2.3 given.2.2 c.in-Ok-Some.ensures.only
    (omega (arith, i.5, c.loop-read.invariant.below, c.if-read-eq4294967295.false)) c.line.ensures
    c.in-Ok-Some.field-0-is (c.in-Ok-Some.ensures.says i.0 i.3.sound i.4)

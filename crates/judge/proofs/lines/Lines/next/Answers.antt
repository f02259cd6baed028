use Rattle.std.proofs.Common.{◌≡◌, ◌<◌, ◌∙◌, Bool, length, subst, arith}
use Rattle.std.proofs.lemmas.Grind.{common_steps}
use Rattle.judge.specs.Lines.{TakesHeld}
use Rattle.judge.proofs.Reading.{failed_line, last_line, more_held, more_taken, still_one, whole_line}
use Rattle.judge.proofs.lines.Lines.next.Goals as goal

pub returns-then-branch-clause-bytes : goal.returns-then-branch-clause-bytes
returns-then-branch-clause-bytes g c =
    let line = c.add_held.new.line.items in
    let taken = subst (λ (b : Bool). TakesHeld b c.pieces.self c.add_held.new.self c.pieces.line.items line)
    c.if-branch.true c.in_ok-add_held.ensures in
    whole_line _ _ c.pieces.line.items c.pieces.self line c.add_held.new.self c.pieces.invariant.taken
    c.pieces.invariant.one taken

pub returns-in-Err-clause-bytes : goal.returns-in-Err-clause-bytes
returns-in-Err-clause-bytes g c =
    let line = c.add_held.new.line.items in
    let taken = subst (λ (b : Bool). TakesHeld b c.pieces.self c.add_held.new.self c.pieces.line.items line)
    c.if-branch.false c.in_ok-add_held.ensures in
    let held = more_held _ _ c.pieces.line.items c.pieces.self line c.add_held.new.self c.pieces.invariant.taken taken
    in failed_line _ _ _ line c.add_held.new.self c.fill.new.self held c.in-Err.ensures.err

pub returns-in-Ok-eq0-2-clause-bytes : goal.returns-in-Ok-eq0-2-clause-bytes
returns-in-Ok-eq0-2-clause-bytes g c =
    let line = c.add_held.new.line.items in
    let taken = subst (λ (b : Bool). TakesHeld b c.pieces.self c.add_held.new.self c.pieces.line.items line)
    c.if-branch.false c.in_ok-add_held.ensures in
    let held = more_held _ _ c.pieces.line.items c.pieces.self line c.add_held.new.self c.pieces.invariant.taken taken
    in
    let more = more_taken _ _ _ line c.add_held.new.self c.fill.new.self held taken.1 c.in-Ok-eq0.ensures.ok.1 in
    let one = still_one c.pieces.line.items c.pieces.self line c.add_held.new.self c.pieces.invariant.one taken in
    let some : 0 < length line = first_of (omega arith, grind (arith, common_steps)) in
    let none : c.in-Ok-eq0.field-0 ≡ 0 = first_of (omega arith, cc) in
    last_line _ _ line c.fill.new.self more (c.in-Ok-eq0.ensures.ok.0 ∙ none) (c.in-Ok-eq0.ensures.ok.2 none) some one

pub pieces-preserved : goal.pieces-preserved
pieces-preserved g c =
    let line = c.add_held.new.line.items in
    let taken = subst (λ (b : Bool). TakesHeld b c.pieces.self c.add_held.new.self c.pieces.line.items line)
    c.if-branch.false c.in_ok-add_held.ensures in
    let held = more_held _ _ c.pieces.line.items c.pieces.self line c.add_held.new.self c.pieces.invariant.taken taken
    in record {
      calm = c.in-Ok.ensures.cause.same ∙ c.pieces.invariant.calm;
      one = still_one c.pieces.line.items c.pieces.self line c.add_held.new.self c.pieces.invariant.one taken;
      taken = more_taken _ _ _ line c.add_held.new.self c.fill.new.self held taken.1 c.in-Ok.ensures.ok.1;
    }

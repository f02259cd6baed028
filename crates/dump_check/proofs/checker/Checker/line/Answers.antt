use Rattle.std.proofs.Common.{◌≡◌, ◌∙◌, [], ap, arith, sym, None, true}
use Rattle.dump_check.specs.Checking.{Progress, may_follow, with_line}
use Rattle.gz_names.specs.Dumps.{fault_among, fault_of, is_in_form}
use Rattle.dump_check.proofs.Reading.{one_line_more, read_push, sound_push}
use Rattle.dump_check.proofs.checker.Checker.line.Goals as goal

pub returns-clause-says : goal.returns-clause-says
returns-clause-says c = λ ls s e.
    let l = c.in-Some.line in
    let v = c.self.view_is ∙ e in
    let form : is_in_form ls l ≡ true = ap (λ (p : Progress). may_follow p.part l) (sym v) ∙ sym c.may_follow.ensures
    ∙ c.if-not-may_follow.false in
    let none : fault_of ls l ≡ None = ap (λ (p : Progress). fault_among p.cells l) (sym v) ∙ sym c.fault.ensures
    ∙ c.in_default-fault.is in
    record {
      line = l;
      spelled = c.in-Some.ensures.some;
      sound = sound_push [] ls l s form none;
      kept = c.in_ok-take.ensures.ok ∙ ap (λ p. with_line p l) e ∙ read_push ls l;
    }

pub returns-clause-count : goal.returns-clause-count
returns-clause-count c =
    let more = ap (λ (p : Progress). p.lines) c.in_ok-take.ensures.ok ∙ one_line_more c.args.self.now c.in-Some.line in
    omega (arith, more)

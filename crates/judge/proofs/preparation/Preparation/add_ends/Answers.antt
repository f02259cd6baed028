use Rattle.std.proofs.Common.{◌∙◌, sym}
use Rattle.std.proofs.lemmas.Result.{on_ok_weaker}
use Rattle.judge.proofs.LeftOut.{object_leads, wrapper_leads, wrapper_none}
use Rattle.judge.proofs.preparation.Preparation.add_ends.Goals as goal

pub returns-in-Cell : goal.returns-in-Cell
returns-in-Cell c =
    on_ok_weaker c.add_held.result (λ a. object_leads c.args.graph.now c.in-Cell.number c.args.name c.args.self.now
    c.add_held.new.self c.fields_of.result.now c.in-Cell.is c.fields_of.ensures a) c.add_held.ensures

pub returns-then-not-has_wrapper : goal.returns-then-not-has_wrapper
returns-then-not-has_wrapper c =
    wrapper_none c.args.graph.now c.in-Wrap.comp c.in-Wrap.target c.args.name c.args.self.now c.in-Wrap.is
    (sym c.has_wrapper.ensures ∙ c.if-not-has_wrapper.true)

pub returns-else-not-has_wrapper : goal.returns-else-not-has_wrapper
returns-else-not-has_wrapper c =
    on_ok_weaker c.add.result (λ a. wrapper_leads c.args.graph.now c.in-Wrap.comp c.in-Wrap.target c.args.name
    c.args.self.now c.add.new.self c.in-Wrap.is (sym c.has_wrapper.ensures ∙ c.if-not-has_wrapper.false) a)
    c.add.ensures

use Rattle.std.proofs.Common.{◌∙◌, ap, refl}
use Rattle.judge.specs.Former.{graph_by}
use Rattle.judge.proofs.Formers.{releases_all}
use Rattle.judge.proofs.former.Former.let_go.Goals as goal

pub returns : goal.returns
returns c =
    releases_all c.args.self.now _
    (c.in_ok-do_all.ensures ∙ ap (graph_by c.args.self.now.graph) c.as_slice.ensures.value) c.clear.ensures.items refl

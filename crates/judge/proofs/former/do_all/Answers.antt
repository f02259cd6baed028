use Rattle.std.proofs.Common.{◌∙◌, ◌+◌, drop, ap, sym, arith}
use Rattle.std.proofs.lemmas.List.{at_drop_all, at_drop_more}
use Rattle.colour_defs.specs.Graph.{GraphState}
use Rattle.judge.specs.Former.{changed, graph_by}
use Rattle.judge.specs.declared.former.Kept.{Kept}
use Rattle.judge.proofs.former.do_all.Goals as goal

pub loop-kept-preserved : goal.loop-kept-preserved
loop-kept-preserved c =
    let ks = c.args.changes.now in
    let i = c.loop-kept.kept-index in
    let before = c.loop-kept.graph in
    ap (λ (h : GraphState). graph_by h (drop (i + 1) ks)) c.in_ok-do_one.ensures
    ∙ ap (λ (k : Kept). graph_by (changed before k.change) (drop (i + 1) ks)) c.kept-item.is
    ∙ sym (at_drop_more (graph_by before) ks i c.kept-item.result c.loop-kept-test.true) ∙ c.loop-kept.invariant

pub returns : goal.returns
returns c =
    sym (at_drop_all (graph_by c.loop-kept.graph) c.args.changes.now c.loop-kept.kept-index (omega arith))
    ∙ c.loop-kept.invariant

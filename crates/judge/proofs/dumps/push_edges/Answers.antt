use Rattle.std.proofs.Common.{◌∙◌, ◌++◌, List, ap, arith, sym, take}
use Rattle.std.specs.List.{flat_map}
use Rattle.std.proofs.lemmas.List.{append-nil, take_all}
use Rattle.gz_names.specs.declared.names.Name.{Name}
use Rattle.colour_defs.specs.Dumps.{edge_lines}
use Rattle.judge.proofs.DumpLines.{appended, flat_map_more}
use Rattle.judge.proofs.dumps.push_edges.Goals as goal

pub loop-name-init : goal.loop-name-init
loop-name-init c = sym (append-nil c.args.lines.now.items)

pub loop-name-preserved : goal.loop-name-preserved
loop-name-preserved c =
    let names = c.args.names.now in
    let i = c.loop-name.name-index in
    let edges = edge_lines c.args.graph.now in
    appended c.args.lines.now.items c.loop-name.lines.items _ (flat_map edges (take i names)) _ _
    c.loop-name.invariant c.in_ok-push_edges_of.ensures (flat_map_more edges names i _ c.loop-name-test.true)

pub returns : goal.returns
returns c =
    c.loop-name.invariant
    ∙ ap (λ (ns : List Name). c.args.lines.now.items ++ flat_map (edge_lines c.args.graph.now) ns)
    (take_all c.loop-name.name-index c.args.names.now (omega arith))

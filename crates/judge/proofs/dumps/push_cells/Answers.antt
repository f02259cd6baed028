use Rattle.std.proofs.Common.{◌∙◌, ◌++◌, List, ap, arith, map, sym, take}
use Rattle.std.proofs.lemmas.List.{append-nil, take_all}
use Rattle.std.proofs.lemmas.List.Elements.{Contains-get_or}
use Rattle.gz_names.specs.declared.names.Name.{Name}
use Rattle.colour_defs.specs.Dumps.{cell_line}
use Rattle.judge.proofs.DumpLines.{appended, map_more}
use Rattle.judge.proofs.dumps.push_cells.Goals as goal

pub loop-name-init : goal.loop-name-init
loop-name-init c = λ g w r. sym (append-nil c.args.lines.now.items)

pub push_cell-requires : goal.push_cell-requires
push_cell-requires c =
    c.requires _ (Contains-get_or c.args.names.now c.loop-name.name-index _ c.loop-name-test.true)

pub loop-name-preserved : goal.loop-name-preserved
loop-name-preserved c = λ g w r.
    let names = c.args.names.now in
    let i = c.loop-name.name-index in
    appended c.args.lines.now.items c.loop-name.lines.items _ (map (cell_line w) (take i names)) _ _
    (c.loop-name.invariant g w r) (c.in_ok-push_cell.ensures g w r)
    (map_more (cell_line w) names i _ c.loop-name-test.true)

pub returns : goal.returns
returns c = λ g w r.
    c.loop-name.invariant g w r
    ∙ ap (λ (ns : List Name). c.args.lines.now.items ++ map (cell_line w) ns)
    (take_all c.loop-name.name-index c.args.names.now (omega arith))

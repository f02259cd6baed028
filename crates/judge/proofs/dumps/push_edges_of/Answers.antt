use Rattle.std.proofs.Common.{◌∙◌, ◌++◌, List, Option, ap, sym}
use Rattle.std.proofs.lemmas.List.{append-nil}
use Rattle.std.proofs.lemmas.Result.{on_ok_weaker}
use Rattle.gz_names.specs.declared.names.Name.{Name}
use Rattle.gz_names.specs.declared.dumps.DumpLine.{DumpLine}
use Rattle.colour_defs.specs.Dumps.{edge_lines, field_lines}
use Rattle.colour_defs.specs.Graph.{object_of}
use Rattle.judge.proofs.DumpLines.{held_lines}
use Rattle.judge.proofs.dumps.push_edges_of.Goals as goal

pub returns-in-Cell : goal.returns-in-Cell
returns-in-Cell c =
    let lines = c.args.lines.now.items in
    let number = c.in-Cell.number in
    on_ok_weaker c.push_fields.result (λ e. e
    ∙ ap (λ (fs : List (Option Name)). lines ++ field_lines number fs) c.fields_of.ensures
    ∙ ap (λ (ls : List DumpLine). lines ++ ls) (sym (held_lines number (object_of c.args.graph.now number)))
    ∙ ap (λ (x : Name). lines ++ edge_lines c.args.graph.now x) (sym c.in-Cell.is)) c.push_fields.ensures

pub returns-in-Wrap : goal.returns-in-Wrap
returns-in-Wrap c =
    let lines = c.args.lines.now.items in
    sym (append-nil lines) ∙ ap (λ (x : Name). lines ++ edge_lines c.args.graph.now x) (sym c.in-Wrap.is)

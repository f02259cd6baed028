use Rattle.std.proofs.Common.{◌∙◌, ◌++◌, ◌∷◌, [], Contains, List, ap, append_assoc, map, refl, subst, sym}
use Rattle.std.specs.List.{flat_map}
use Rattle.gz_names.specs.declared.names.Name.{Name}
use Rattle.gz_names.specs.declared.dumps.DumpLine.{DumpLine}
use Rattle.gz_names.specs.declared.dumps.DumpLine.TheVariants as line
use Rattle.colour_defs.specs.Dumps.{cell_line, edge_lines, weak_line}
use Rattle.judge.specs.Dumps.{weaks_of}
use Rattle.judge.specs.Stages.{shown}
use Rattle.judge.proofs.DumpLines.{appended, dump_of}
use Rattle.judge.proofs.dumps.dump_lines.Goals as goal

pub push_cells-requires : goal.push_cells-requires
push_cells-requires c = λ x h.
    (c.in_ok-names.ensures.has x).0 (subst (λ (ns : List Name). Contains ns x) c.as_slice.ensures.value h)

pub returns : goal.returns
returns c =
    let g = c.args.graph.now in
    let names = c.in_ok-names.names.items in
    let found = c.in_ok-found.found in
    dump_of g (shown c.args.world.now) names found c.push.new.self.items (record {
      names_are = c.in_ok-names.ensures;
      found_are = c.in_ok-found.ensures;
      ordered = c.in_ok-push_entries.ensures.ordered;
      lines_are = λ w r.
          let cells = map (cell_line w) names in
          let edges = flat_map (edge_lines g) names in
          let weaks = map weak_line (weaks_of found.entries) in
          let first = c.in_ok-push_cells.ensures g w r
          ∙ ap (λ (ns : List Name). c.new-lines.result.items ++ map (cell_line w) ns) c.as_slice.ensures.value
          ∙ ap (λ (ls : List DumpLine). ls ++ cells) c.new-lines.ensures.items in
          let second = c.in_ok-push_edges.ensures
          ∙ ap (λ (ns : List Name). c.push_cells.new.lines.items ++ flat_map (edge_lines g) ns)
          c.as_slice-2.ensures.value
          ∙ ap (λ (ls : List DumpLine). ls ++ edges) first in
          let third = appended cells _ _ edges weaks (edges ++ weaks) second c.in_ok-push_entries.ensures.lines refl in
          appended cells _ c.push.new.self.items (edges ++ weaks) (line.End ∷ []) _ third c.in_ok-push.ensures.items
          (sym (append_assoc edges weaks (line.End ∷ [])));
    })

use Rattle.std.proofs.Common.{List, length, refl, subst, sym, ◌∙◌}
use Rattle.gz_names.specs.declared.names.Name.{Name}
use Rattle.colour_defs.specs.Graph.{empty_graph}
use Rattle.collection_laws.specs.Collected.{IsGray, IsKept}
use Rattle.collection_laws.specs.Graphs.{graph_after}
use Rattle.slice_driver.specs.Units.{none_flown}
use Rattle.trace_cli.specs.Storms.{Counts}
use Rattle.trace_cli.proofs.Storming.{storm_cells, storm_gray, storm_kept, storm_sound}
use Rattle.trace_cli.proofs.storm.summary_of.Goals as goal

pub gray_names-requires : goal.gray_names-requires
gray_names-requires c = record { sound = storm_sound c.args.seed c.args.lines c.args.collector.now c.requires }

pub present-requires : goal.present-requires
present-requires c = (none_flown, storm_sound c.args.seed c.args.lines c.args.collector.now c.requires)

pub returns-clause-ok : goal.returns-clause-ok
returns-clause-ok c =
    let seed = c.args.seed in
    let lines = c.args.lines in
    let left = c.args.collector.now in
    let graph = graph_after empty_graph c.requires.commands in
    record {
      seed_is = refl;
      lines_is = refl;
      commands = c.requires.commands;
      stand = c.requires.stand;
      cells_are = c.objects.ensures ∙ storm_cells seed lines left c.requires;
      kept_are = subst (Counts (IsKept graph)) (sym c.present.ensures) (storm_kept seed lines left c.requires);
      gray_are = subst (λ (names : List Name). Counts (IsGray graph) (length names)) (sym c.as_slice.ensures)
          (storm_gray seed lines left c.requires c.in-Ok.gray c.in-Ok.ensures.names);
    }

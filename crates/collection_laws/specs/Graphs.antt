-- The graph that commands lead to.
use Rattle.std.specs.Prelude.{◌≢◌, List, [], ◌∷◌}
use Rattle.gz_names.specs.declared.commands.Cmd.{Cmd}
use Rattle.gz_names.specs.declared.commands.Cmd.TheVariants as command
use Rattle.gz_names.specs.declared.commands.GraphCmd.TheVariants as cmd
use Rattle.colour_defs.specs.Graph.{GraphState}
use Rattle.colour_defs.specs.Step.{step_of}

-- only a command on the graph changes it (and a weak one may, which is left out here)
abbrev pub graph_by : GraphState → Cmd → GraphState
graph_by g (command.Graph c) = (step_of g c).0
graph_by g (command.Weak c) = g
graph_by g (command.Gc zones) = g
graph_by g (command.Slice n) = g
graph_by g command.Finish = g
graph_by g (command.Collect zones) = g
graph_by g command.Reset = g
graph_by g command.Colours = g
graph_by g command.Dump = g
graph_by g (command.Compact zone) = g

-- one command after another
abbrev pub graph_after : GraphState → List Cmd → GraphState
graph_after g [] = g
graph_after g (c ∷ cs) = graph_after (graph_by g c) cs

abbrev pub MakesNoZone : Cmd → Type 0
MakesNoZone c = c ≢ command.Graph cmd.Zone

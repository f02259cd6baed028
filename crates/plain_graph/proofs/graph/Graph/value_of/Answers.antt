use Rattle.std.proofs.Common.{ap, ◌∙◌}
use Rattle.colour_defs.specs.Graph.{GraphState, value_of}
use Rattle.plain_graph.proofs.graph.Graph.value_of.Goals as goal

pub returns : goal.returns
returns c = c.copied.ensures ∙ c.get.ensures.value ∙ c.self.invariant.values_are c.args.map c.args.key
    ∙ ap (λ (g : GraphState). value_of g c.args.map c.args.key) c.self.view_is

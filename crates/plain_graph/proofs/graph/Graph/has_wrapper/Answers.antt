use Rattle.std.proofs.Common.{ap, ◌∙◌}
use Rattle.colour_defs.specs.Graph.{GraphState, has_wrapper}
use Rattle.plain_graph.proofs.graph.Graph.has_wrapper.Goals as goal

pub returns : goal.returns
returns c = c.contains.ensures ∙ c.self.invariant.known_are c.args.comp.0 c.args.target
    ∙ ap (λ (g : GraphState). has_wrapper g c.args.comp c.args.target) c.self.view_is

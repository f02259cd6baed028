use Rattle.par_mark.specs.TestGraphs.{edge_in}
use Rattle.par_mark.proofs.Pigeons.{few_edges}
use Rattle.par_mark.proofs.tests.PlainGraph.most_edges.Goals as goal

pub returns : goal.returns
returns c = λ ps once all. few_edges (edge_in c.args.self.now.fields.items c.args.self.now.arenas)
    c.args.self.now.arenas ps once all

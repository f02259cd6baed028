use Rattle.collection_laws.proofs.Graphs.{run_graph}
use Rattle.collection_laws.proofs.graph_law.Goals as goal

pub returns : goal.returns
returns c = λ commands answers w v plain run. run_graph w commands answers v plain run

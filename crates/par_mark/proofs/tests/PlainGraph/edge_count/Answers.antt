use Rattle.std.proofs.Common.{arith}
use Rattle.par_mark.proofs.tests.PlainGraph.edge_count.Goals as goal

pub returns-clause-past : goal.returns-clause-past
returns-clause-past c = λ i low high. absurd (omega arith)

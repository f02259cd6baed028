use Rattle.par_mark.proofs.heap.MarkedHeapGraph.edge_count.Goals as goal

pub returns-clause-past : goal.returns-clause-past
returns-clause-past c = λ i low _. c.edge_count.ensures.past i low

use Rattle.par_mark.proofs.TestCells.{inside_grid}
use Rattle.par_mark.proofs.tests.mark_in_two.Goals as goal

pub mark_black-requires-clause-targets : goal.mark_black-requires-clause-targets
mark_black-requires-clause-targets g c κs within = λ p q here l. inside_grid c.args.graph.now.arenas _ q l.2

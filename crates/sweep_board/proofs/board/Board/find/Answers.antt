use Rattle.std.proofs.Common.{sym, subst, List, ◌∙◌, ap, ◌==◌, position}
use Rattle.cell_bits.specs.Jobs.{ArenasAscend}
use Rattle.cell_bits.specs.declared.jobs.Job.{Job}
use Rattle.sweep_board.proofs.board.Board.find.Goals as goal

pub find_job-requires : goal.find_job-requires
find_job-requires c =
    subst (λ (jobs : List Job). ArenasAscend jobs) (sym c.deref.ensures.value) c.args.self.now.ascending

use Rattle.std.proofs.Common.{sym, subst, ◌∙◌, List, All}
use Rattle.cell_bits.specs.declared.jobs.Job.{Job}
use Rattle.sweeping.specs.ArenasOut.{Ascend, outs_of}
use Rattle.sweep_board.specs.declared.board.HelperSeat.{HelperSeat}
use Rattle.helper_sweep.specs.Walks.{IsIdle}
use Rattle.sweeping.proofs.Ascending.{ascend_jobs}
use Rattle.sweep_beside.proofs.Taking.{whole_slice}
use Rattle.sweep_beside.proofs.beside.sweep_beside.Goals as goal

pub new-requires-clause-ascending : goal.new-requires-clause-ascending
new-requires-clause-ascending g c =
    ascend_jobs c.as_slice.result.now
    (subst (λ (jobs : List Job). Ascend (outs_of jobs)) (sym c.as_slice.ensures) c.requires.ascending)

pub join_seats-requires-clause-seats : goal.join_seats-requires-clause-seats
join_seats-requires-clause-seats g c =
    subst (λ (seats : List HelperSeat). All (IsIdle c.in-Ok-new.board) seats)
    (sym (whole_slice c.work_on-main.new.seats c.split_seats.new.seats.items _
    (c.work_on-main.auto.seats ∙ c.as_mut_slice.ensures.len) (sym c.split_seats.new.seats.ok.0)))
    c.work_on-main.ensures.seats

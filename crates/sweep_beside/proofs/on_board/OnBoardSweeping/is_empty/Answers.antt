use Rattle.std.proofs.Common.{sym, arith, ◌∙◌}
use Rattle.std.proofs.lemmas.List.{length-map}
use Rattle.sweep_board.specs.Seats.{jobs_of}
use Rattle.sweeping.specs.ArenasOut.{outs_of, swept}
use Rattle.sweeping.proofs.Taking.{drained}
use Rattle.sweep_beside.proofs.Taking.{none_on}
use Rattle.sweep_beside.proofs.on_board.OnBoardSweeping.is_empty.Goals as goal

pub returns-clause-none_left : goal.returns-clause-none_left
returns-clause-none_left g c =
    let jobs = jobs_of c.args.self.now.flight.board.now in
    let long = length-map jobs swept in
    drained (outs_of jobs) c.args.self.now.next c.len.result (omega (arith, c.args.self.now.within, long))
    (c.len.ensures ∙ sym long)

pub returns-clause-none_held : goal.returns-clause-none_held
returns-clause-none_held g c =
    let jobs = jobs_of c.args.self.now.flight.board.now in
    let long = length-map jobs swept in
    λ t. none_on c.args.self.now
    ((drained (outs_of jobs) c.args.self.now.next c.len.result (omega (arith, c.args.self.now.within, long))
    (c.len.ensures ∙ sym long)).0 t)

use Rattle.std.proofs.Common.{ℕ, ◌+◌, ◌∷◌, ap, sym, ◌∙◌, drop, arith}
use Rattle.std.proofs.lemmas.List.{length-map}
use Rattle.sweep_board.specs.declared.board.Board.{Board}
use Rattle.cell_bits.specs.Jobs.{job_at}
use Rattle.sweep_board.specs.Seats.{jobs_of}
use Rattle.sweeping.specs.ArenasOut.{outs_of, swept}
use Rattle.sweeping.proofs.Taking.{some_left}
use Rattle.sweep_beside.proofs.Taking.{lowest_on, outs_first}
use Rattle.sweep_beside.proofs.on_board.OnBoardSweeping.take_lowest.Goals as goal

pub returns-clause-taken : goal.returns-clause-taken
returns-clause-taken g c =
    let jobs = jobs_of c.args.self.now.flight.board.now in
    let n = c.args.self.now.next in
    let took = c.wait_take_from-taken in
    let long = length-map jobs swept in
    let lt = some_left (outs_of jobs) n (omega (arith, c.args.self.now.within, long)) c.requires in
    record {
      arena = (job_at jobs n).arena;
      first = outs_first jobs n (omega (arith, lt, long))
          ∙ ap (λ (w : ℕ). let out : ℕ × ℕ = ((job_at jobs n).arena, w) in out ∷ drop (n + 1) (outs_of jobs))
          (sym took.ensures.freed) ∙ ap (λ (b : Board). let out : ℕ × ℕ = ((job_at jobs n).arena, took.result.freed) in
          out ∷ drop (n + 1) (outs_of (jobs_of b))) (sym took.ensures.board);
      bits = took.ensures.held;
      lowest = lowest_on c.args.self.now;
      others = took.ensures.flight;
    }

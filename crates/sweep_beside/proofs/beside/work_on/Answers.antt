use Rattle.std.proofs.Common.{rules, sym, subst, Option, ℕ}
use Rattle.cell_bits.specs.declared.bits.Bits.{Bits}
use Rattle.sweep_board.specs.Seats.{jobs_of, main_view_of}
use Rattle.sweeping.specs.ArenasOut.{outs_of}
use Rattle.sweep_beside.proofs.Opened.{fresh_flies}
use Rattle.sweep_beside.proofs.Taking.{all_taken}
use Rattle.sweep_beside.proofs.beside.work_on.Goals as goal

pub with_helpers-requires-clause-ready : goal.with_helpers-requires-clause-ready
with_helpers-requires-clause-ready g c =
    let jobs = jobs_of c.args.board.now in
    let so = subst (λ (f : ℕ → Option Bits). g.W.Works.ready c.args.work.now (outs_of jobs) f)
    (sym (fresh_flies (main_view_of c.args.main) jobs c.requires.main.1 c.requires.fresh)) c.requires.ready in
    search rules

pub returns-clause-ran : goal.returns-clause-ran
returns-clause-ran g c =
    let jobs = jobs_of c.args.board.now in
    let so = subst (λ (f : ℕ → Option Bits). g.W.Works.ran c.args.work.now (outs_of jobs) f c.with_helpers.new.work)
    (fresh_flies (main_view_of c.args.main) jobs c.requires.main.1 c.requires.fresh) c.with_helpers.ensures.ran in
    search rules

pub returns-clause-taken : goal.returns-clause-taken
returns-clause-taken g c =
    let all = all_taken c.with_helpers.new.flight c.with_helpers.ensures.taken in
    search rules

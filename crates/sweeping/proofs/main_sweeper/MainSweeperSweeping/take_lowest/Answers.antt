use Rattle.std.proofs.Common.{sym, subst, List}
use Rattle.cell_bits.specs.declared.jobs.Job.{Job}
use Rattle.sweeping.specs.ArenasOut.{Ascend, outs_of}
use Rattle.sweeping.proofs.Taking.{some_outs, takes_first}
use Rattle.sweeping.proofs.main_sweeper.MainSweeperSweeping.take_lowest.Goals as goal

pub returns-clause-taken : goal.returns-clause-taken
returns-clause-taken c =
    takes_first c.self.inside.jobs.items c.args.self.now c.self.inside.next c.index.result.now c.white_mask.result
    (some_outs c.self.inside.jobs.items c.args.self.now c.self.inside.next c.self.invariant.0 (sym c.self.view_is)
    c.requires)
    (sym c.self.view_is) c.index.ensures
    (subst (λ (js : List Job). Ascend (outs_of js)) c.self.view_is c.self.invariant.1) c.white_mask.ensures.word

use Rattle.std.proofs.Common.{sym, ◌∙◌}
use Rattle.sweeping.proofs.Taking.{drained_none, drained_outs}
use Rattle.sweeping.proofs.main_sweeper.MainSweeperSweeping.is_empty.Goals as goal

pub returns-clause-none_left : goal.returns-clause-none_left
returns-clause-none_left c = drained_outs c.self.inside.jobs.items c.args.self.now c.self.inside.next c.len.result
    c.self.invariant.0 (c.len.ensures ∙ c.self.inside.jobs.ok.0) (sym c.self.view_is)

pub returns-clause-none_held : goal.returns-clause-none_held
returns-clause-none_held c = drained_none c.self.inside.jobs.items c.args.self.now c.self.inside.next c.len.result
    c.self.invariant.0 (c.len.ensures ∙ c.self.inside.jobs.ok.0) (sym c.self.view_is)

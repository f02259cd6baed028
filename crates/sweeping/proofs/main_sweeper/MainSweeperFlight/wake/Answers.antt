use Rattle.std.proofs.Common.{ap, sym, subst, arith, length-set, ◌∙◌, ℕ, ◌≤◌, ◌+◌, List}
use Rattle.std.specs.List.{position}
use Rattle.cell_bits.specs.Jobs.{ArenasAscend}
use Rattle.cell_bits.specs.declared.jobs.Job.{Job}
use Rattle.sweeping.specs.ArenasOut.{Ascend, outs_of}
use Rattle.sweeping.proofs.Ascending.{ascend_jobs}
use Rattle.sweeping.proofs.Jobs.{is_of, found, some_of_and, wake_flown, wake_outs}
use Rattle.sweeping.proofs.main_sweeper.MainSweeperFlight.wake.Goals as goal

pub find_job-requires : goal.find_job-requires
find_job-requires c =
    subst (λ (js : List Job). ArenasAscend js) (c.self.view_is ∙ sym c.left.ensures)
    (ascend_jobs _ c.self.invariant.1)

pub unreachable-requires : goal.unreachable-requires
unreachable-requires c = found c.args.self.now c.args.arena (some_of_and _ _ c.requires)
    (ap (position (is_of c.args.arena)) (sym c.left.ensures) ∙ sym c.find_job.ensures ∙ c.in-None.is)

pub returns-clause-origin : goal.returns-clause-origin
returns-clause-origin c =
    let found_at = ap (position (is_of c.args.arena)) (sym c.left.ensures) ∙ sym c.find_job.ensures ∙ c.in-Some.is in
    wake_outs c.args.self.now c.self.inside.jobs.items c.self.inside.next c.args.arena c.in-Some.i c.args.mask
    c.index_mut.result.now (sym c.self.view_is) found_at c.index_mut.ensures.value c.requires

pub returns-clause-woken : goal.returns-clause-woken
returns-clause-woken c =
    let found_at = ap (position (is_of c.args.arena)) (sym c.left.ensures) ∙ sym c.find_job.ensures ∙ c.in-Some.is in
    wake_flown c.args.self.now c.self.inside.jobs.items c.self.inside.next c.args.arena c.in-Some.i c.args.mask
    c.index_mut.result.now (sym c.self.view_is) found_at c.index_mut.ensures.value

pub invariant_of-self : goal.invariant_of-self
invariant_of-self c =
    let found_at = ap (position (is_of c.args.arena)) (sym c.left.ensures) ∙ sym c.find_job.ensures ∙ c.in-Some.is in
    let outs = wake_outs c.args.self.now c.self.inside.jobs.items c.self.inside.next c.args.arena c.in-Some.i
    c.args.mask c.index_mut.result.now (sym c.self.view_is) found_at c.index_mut.ensures.value c.requires in (
      subst (λ (n : ℕ). c.self.inside.next ≤ n)
          (sym (length-set c.self.inside.jobs.items (c.self.inside.next + c.in-Some.i) _)) c.self.invariant.0,
      subst Ascend (ap outs_of c.self.view_is ∙ sym outs) c.self.invariant.1,
    )

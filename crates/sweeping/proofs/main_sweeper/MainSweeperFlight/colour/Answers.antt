use Rattle.std.proofs.Common.{◌≡◌, ap, sym, ◌∙◌, subst, List, Option}
use Rattle.std.specs.Prelude.{IfSome}
use Rattle.std.specs.List.{position}
use Rattle.cell_bits.specs.Colours.{colour_of}
use Rattle.cell_bits.specs.Jobs.{ArenasAscend}
use Rattle.cell_bits.specs.declared.bits.Bits.{Bits}
use Rattle.cell_bits.specs.declared.jobs.Job.{Job}
use Rattle.sweeping.proofs.Ascending.{ascend_jobs}
use Rattle.sweeping.proofs.Jobs.{is_of, found, flown_in_rest}
use Rattle.sweeping.proofs.main_sweeper.MainSweeperFlight.colour.Goals as goal

pub find_job-requires : goal.find_job-requires
find_job-requires c =
    subst (λ (js : List Job). ArenasAscend js) (c.self.view_is ∙ sym c.left.ensures)
    (ascend_jobs _ c.self.invariant.1)

pub unreachable-requires : goal.unreachable-requires
unreachable-requires c =
    found c.args.self.now c.args.arena c.requires.out (ap (position (is_of c.args.arena)) (sym c.left.ensures)
    ∙ sym c.find_job.ensures ∙ c.in-None.is)

pub returns-clause-colour : goal.returns-clause-colour
returns-clause-colour c =
    let found_at = ap (position (is_of c.args.arena)) (sym c.left.ensures) ∙ sym c.find_job.ensures ∙ c.in-Some.is in
    let bits = flown_in_rest c.args.self.now c.self.inside.jobs.items c.self.inside.next c.args.arena c.in-Some.i
    c.index.result.now (sym c.self.view_is) found_at c.index.ensures in
    subst (λ (o : Option Bits). IfSome o (λ (b : Bits). c.colour.result ≡ colour_of b c.args.slot)) (sym bits)
    c.colour.ensures

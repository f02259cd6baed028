use Rattle.std.proofs.Common.{◌≡◌, ◌∙◌, Some, ap}
use Rattle.trace_cli.specs.declared.pending.Pending.TheVariants as pending
use Rattle.trace_cli.proofs.Going.{stands_at}
use Rattle.trace_cli.proofs.Marked.{after_marking, both_quiet, marked_on}
use Rattle.trace_cli.proofs.replaying.Replaying.mark_by.Given.{Over}
use Rattle.trace_cli.proofs.replaying.Replaying.mark_by.Goals as goal
use Rattle.trace_cli.proofs.replaying.Replaying.mark_by.Goals.{In-Collect}

collects : (g : Over) (c : In-Collect g) → c.args.self.now.machine.now.pending ≡ Some pending.Collect
collects g c = c.in-Some.is ∙ ap (λ p. Some p) c.in-Collect.is

pub mark_until-requires-clause-stands : goal.mark_until-requires-clause-stands
mark_until-requires-clause-stands g c =
    stands_at (collects g (goal.at.mark_until-requires-clause-stands g c).In-Collect) c.requires.standing

pub mark_two-requires-clause-sound : goal.mark_two-requires-clause-sound
mark_two-requires-clause-sound g c = c.mark_until.ensures.stands.sound

pub returns-then-not-mark_until-clause-stands : goal.returns-then-not-mark_until-clause-stands
returns-then-not-mark_until-clause-stands g c = λ e s.
    marked_on e c.args.self.now.machine.now _ _ _ c.mark_until.new.collector
    (collects g (goal.at.returns-then-not-mark_until-clause-stands g c).In-Collect) c.mark_until.ensures s

pub returns-clause-stands : goal.returns-clause-stands
returns-clause-stands g c = λ e s.
    let before = c.mark_until.new.collector in
    let after = c.mark_two.new.self in
    let marked = after_marking (c.mark_two.new.flight ≡ record {}) (c.mark_two.new.steps ≡ c.mark_until.new.steps)
    before after c.mark_two.result c.mark_until.ensures.stands c.mark_until.ensures.running c.mark_two.ensures.done
    c.mark_two.ensures.err in
    marked_on e c.args.self.now.machine.now _ _ _ after
    (collects g (goal.at.returns-clause-stands g c).In-Collect)
    (both_quiet c.args.self.now.machine.now.collector before after c.mark_until.ensures marked) s

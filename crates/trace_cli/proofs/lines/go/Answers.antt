use Rattle.std.proofs.Common.{refl, ap, ◌∙◌}
use Rattle.trace_cli.proofs.Going.{stands_on}
use Rattle.trace_cli.proofs.Handing.{paused}
use Rattle.trace_cli.proofs.lines.go.Goals as goal

pub loop-machine-init : goal.loop-machine-init
loop-machine-init g c = record {
  standing = c.requires.standing;
  stands = λ e s. s;
  home = refl;
  ledger = refl;
  lender = refl;
}

pub go_on-requires-clause-counted : goal.go_on-requires-clause-counted
go_on-requires-clause-counted g c = c.loop-machine.invariant.ledger ∙ c.requires.counted

pub start_line-requires-clause-counted : goal.start_line-requires-clause-counted
start_line-requires-clause-counted g c = c.loop-machine.invariant.ledger ∙ c.requires.counted

pub returns-in_default-go_on-clause-pauses : goal.returns-in_default-go_on-clause-pauses
returns-in_default-go_on-clause-pauses g c = λ e s.
    paused e _ _ _ _ _ _ _ c.go_on.result c.in_default-go_on.not-None
    (c.go_on.ensures.pauses e (c.loop-machine.invariant.stands e s))

pub loop-machine-preserved-in-None : goal.loop-machine-preserved-in-None
loop-machine-preserved-in-None g c =
    let so = c.loop-machine.invariant in
    let more = c.in-None.ensures in record {
      standing = stands_on more.pauses so.standing;
      stands = λ e s. more.pauses e (so.stands e s);
      home = more.home ∙ so.home;
      ledger = more.ledger ∙ so.ledger;
      lender = so.lender;
    }

pub returns-in-Some-start_line-clause-pauses : goal.returns-in-Some-start_line-clause-pauses
returns-in-Some-start_line-clause-pauses g c =
    λ e s. c.in-Some-start_line.ensures.some e (c.loop-machine.invariant.stands e s)

pub loop-machine-preserved : goal.loop-machine-preserved
loop-machine-preserved g c =
    let so = c.loop-machine.invariant in
    let more = c.in_default-start_line.ensures in record {
      standing = stands_on more.none so.standing;
      stands = λ e s. more.none e (so.stands e s);
      home = ap g.F.Sweeping.home c.start_line.ensures.origin ∙ so.home;
      ledger = c.start_line.ensures.ledger ∙ so.ledger;
      lender = c.start_line.ensures.lender ∙ so.lender;
    }

use Rattle.std.proofs.Common.{◌∙◌, ℕ, refl, sym, ap, subst, arith}
use Rattle.zone_edges.specs.Looks.{AreAllLookedAt}
use Rattle.slice_driver.specs.Collector.{CollectorState}
use Rattle.slice_driver.specs.Working.{DoesQuietUnits, IsGrouping}
use Rattle.slice_driver.proofs.marking.Units.{black_done_on, more_quiet, no_quiet, quiet_marking}
use Rattle.slice_driver.proofs.collector.Collector.looks_up_to.Goals as goal

pub loop-count-init : goal.loop-count-init
loop-count-init g c = record { did = λ flown s b. no_quiet _ flown; edges = refl; steps = omega arith }

pub looks-requires-clause-sound : goal.looks-requires-clause-sound
looks-requires-clause-sound g c =
    let flown = c.requires.sound.0 in (
      flown,
      quiet_marking c.loop-count.count _ flown _ flown
          (c.loop-count.invariant.did flown c.requires.sound.1 c.requires.sound.2) c.requires.sound.1,
    )

pub looks-requires-clause-grouping : goal.looks-requires-clause-grouping
looks-requires-clause-grouping g c = subst IsGrouping (sym c.loop-count.invariant.edges) c.requires.grouping

pub returns-then-not-looks-clause-done : goal.returns-then-not-looks-clause-done
returns-then-not-looks-clause-done g c = λ flown s b.
    subst (λ (x : CollectorState). DoesQuietUnits c.loop-count.count c.args.self.now flown x flown)
    (sym c.if-not-looks.ensures.looks.1) (c.loop-count.invariant.did flown s b)

pub returns-then-not-looks-clause-looked : goal.returns-then-not-looks-clause-looked
returns-then-not-looks-clause-looked g c = λ less.
    subst (λ (x : CollectorState). AreAllLookedAt x.heap.shape x.edges) (sym c.if-not-looks.ensures.looks.1)
    c.if-not-looks.ensures.looks.0

pub loop-count-preserved : goal.loop-count-preserved
loop-count-preserved g c = record {
  did = λ flown s b. more_quiet c.loop-count.count _ flown _ flown _ flown (c.loop-count.invariant.did flown s b)
      (c.if-not-looks.ensures.looks flown
      (quiet_marking c.loop-count.count _ flown _ flown (c.loop-count.invariant.did flown s b) s)
      (black_done_on _ _ flown c.loop-count.invariant.edges b));
  edges = c.if-not-looks.ensures.edges
      ∙ ap (λ (x : CollectorState). record x { edges = c.looks.new.self.edges }) c.loop-count.invariant.edges;
  steps = (let before = c.loop-count.invariant.steps in let more = c.if-not-looks.ensures.steps in
      omega (arith, before, more));
}

pub returns-clause-done : goal.returns-clause-done
returns-clause-done g c = λ flown s b.
    subst (λ (n : ℕ). DoesQuietUnits n c.args.self.now flown c.loop-count.self flown) (omega arith)
    (c.loop-count.invariant.did flown s b)

use Rattle.std.proofs.Common.{◌≡◌, ◌+◌, ℕ, ◌∙◌, ap, sym, refl, subst, arith}
use Rattle.slice_driver.specs.Collector.{CollectorState, RunState, run_of}
use Rattle.slice_driver.specs.Quiet.{IsStarted}
use Rattle.slice_driver.specs.Working.{DoesQuietUnits}
use Rattle.slice_driver.proofs.abstraction.Named.{some_one}
use Rattle.slice_driver.proofs.abstraction.Phases.{none_started, sound_marking}
use Rattle.slice_driver.proofs.clearing.AtStart.{start_done, started_by}
use Rattle.slice_driver.proofs.marking.AtGroupEnd.{still_resting}
use Rattle.slice_driver.proofs.marking.Settled.{settled_quiet}
use Rattle.slice_driver.proofs.marking.Units.{no_quiet, quiet_marking, quiet_sound, then_quiet}
use Rattle.slice_driver.proofs.collector.Collector.quiet_units.Goals as goal

pub clears_up_to-requires-clause-sound : goal.clears_up_to-requires-clause-sound
clears_up_to-requires-clause-sound g c = (g.F.Flight.bits c.args.flight.now, c.requires.sound)

pub clears_up_to-requires-clause-preparing : goal.clears_up_to-requires-clause-preparing
clears_up_to-requires-clause-preparing g c = ap (λ (x : CollectorState). x.run) (sym c.self.view_is)
    ∙ ap run_of c.in-Preparing.is

pub returns-in-Preparing-clause-does : goal.returns-in-Preparing-clause-does
returns-in-Preparing-clause-does g c =
    let now = c.args.self.now in
    let flown = g.F.Flight.bits c.args.flight.now in
    let did = c.clears_up_to.ensures.done flown c.requires.sound in
    let at = ap (λ (x : CollectorState). x.run) (sym c.self.view_is) ∙ ap run_of c.in-Preparing.is in
    record {
      most = c.clears_up_to.ensures.most;
      done = did;
      rests = λ less. start_done c.clears_up_to.new.self flown
          (quiet_sound c.clears_up_to.result now flown c.clears_up_to.new.self flown did c.requires.sound)
          (c.clears_up_to.ensures.rests less);
      resting = λ rests. absurd (
          let formed = rests.formed in
          let same = ap (λ (r : RunState). r.formed) (some_one _ _ (sym at ∙ formed.1)) in
          cc (same, formed.2));
    }

pub returns-in-Preparing-clause-steps : goal.returns-in-Preparing-clause-steps
returns-in-Preparing-clause-steps g c =
    let grays = c.clears_up_to.ensures.grays (g.F.Flight.bits c.args.flight.now) in
    omega (arith, grays)

pub returns-then-settled-clause-does : goal.returns-then-settled-clause-does
returns-then-settled-clause-does g c =
    let now = c.args.self.now in
    let flown = g.F.Flight.bits c.args.flight.now in
    let started : IsStarted now = started_by now c.self.inside.phase
    (ap (λ (x : CollectorState). x.run) (sym c.self.view_is)) c.requires.running c.in_default.not-Preparing in
    record {
      most = omega arith;
      done = no_quiet now flown;
      rests = λ less. settled_quiet now flown
          (sound_marking now flown (λ w. none_started now flown w started) c.requires.sound) started
          (λ z. (c.settled.ensures.states.0 c.if-settled.true z).0);
      resting = λ rests. refl;
    }

pub some_quiet_units-more-requires-clause-sound : goal.some_quiet_units-more-requires-clause-sound
some_quiet_units-more-requires-clause-sound g c =
    let now = c.args.self.now in
    let flown = g.F.Flight.bits c.args.flight.now in
    let started : IsStarted now = started_by now c.self.inside.phase
    (ap (λ (x : CollectorState). x.run) (sym c.self.view_is)) c.requires.running c.in_default.not-Preparing in
    quiet_marking c.loop-count.count _ _ _ _ c.loop-count.invariant.did
    (sound_marking now flown (λ w. none_started now flown w started) c.requires.sound)

-- where no more units were done, those before were all
pub returns-then-more-eq0-clause-does : goal.returns-then-more-eq0-clause-does
returns-then-more-eq0-clause-does g c =
    let none : c.loop-count.count + c.some_quiet_units-more.result ≡ c.loop-count.count =
    omega (arith, c.if-more-eq0.true) in
    record {
      most = c.loop-count.invariant.most;
      done = subst (λ (n : ℕ). DoesQuietUnits n c.args.self.now (g.F.Flight.bits c.args.flight.now)
          c.some_quiet_units-more.new.self (g.F.Flight.bits c.some_quiet_units-more.new.flight)) none
          (then_quiet _ _ _ _ _ _ _ _ c.loop-count.invariant.did c.some_quiet_units-more.ensures.done);
      rests = λ less. c.some_quiet_units-more.ensures.rests c.if-more-eq0.true;
      resting = c.loop-count.invariant.busy;
    }

pub returns-clause-does : goal.returns-clause-does
returns-clause-does g c =
    let most = c.loop-count.invariant.most in
    let all : c.loop-count.count ≡ c.args.limit = omega (arith, most) in
    record {
      most = omega arith;
      done = subst (λ (n : ℕ). DoesQuietUnits n c.args.self.now (g.F.Flight.bits c.args.flight.now) c.loop-count.self
          (g.F.Flight.bits c.loop-count.flight)) all c.loop-count.invariant.did;
      rests = λ less. absurd (omega (arith, less));
      resting = λ rests. (let none = c.loop-count.invariant.busy rests in omega (arith, none, most));
    }

pub loop-count-preserved : goal.loop-count-preserved
loop-count-preserved g c = record {
  did = then_quiet _ _ _ _ _ _ _ _ c.loop-count.invariant.did c.some_quiet_units-more.ensures.done;
  busy = λ rests.
      (let none = c.loop-count.invariant.busy rests in
      let more = c.some_quiet_units-more.ensures.resting
      (still_resting c.args.self.now (g.F.Flight.bits c.args.flight.now) c.loop-count.self
      (g.F.Flight.bits c.loop-count.flight) (c.loop-count.invariant.did.none none) rests) in
      omega (arith, none, more));
  steps = (let before = c.loop-count.invariant.steps in let more = c.some_quiet_units-more.ensures.steps in omega
      (arith, before, more));
  most = (let more = c.some_quiet_units-more.ensures.most in omega (arith, more));
  origin = c.some_quiet_units-more.ensures.origin ∙ c.loop-count.invariant.origin;
}

pub returns-then-more-eq0-clause-steps : goal.returns-then-more-eq0-clause-steps
returns-then-more-eq0-clause-steps g c =
    let before = c.loop-count.invariant.steps in
    let none = c.some_quiet_units-more.ensures.steps in
    omega (arith, before, none, c.if-more-eq0.true)

pub returns-clause-steps : goal.returns-clause-steps
returns-clause-steps g c =
    let before = c.loop-count.invariant.steps in
    let most = c.loop-count.invariant.most in
    omega (arith, before, most)

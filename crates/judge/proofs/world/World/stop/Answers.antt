use Rattle.std.proofs.Common.{ap, refl, subst, sym}
use Rattle.plain_graph.specs.Reach.{WalkState}
use Rattle.judge.specs.Stages.{shown}
use Rattle.judge.specs.declared.world.World.{World}
use Rattle.judge.proofs.Resets.{HasStarts, blackens_rest}
use Rattle.judge.proofs.world.World.stop.Goals as goal

pub returns-clause-blackens : goal.returns-clause-blackens
returns-clause-blackens c =
    let g = c.args.graph.now in
    let old = c.args.self.now in
    let new = c.catch_up.new.self.phase in
    blackens_rest g (shown old) old.phase new _
    (record { sound = c.requires.sound; none_out = c.requires.none_out; not_over = c.requires.not_over })
    (record {
      stage_was = refl;
      left_was = refl;
      walks_were = refl;
      stage = c.in_ok-catch_up.ensures.stage;
      left_out = c.in_ok-catch_up.ensures.left_out;
      walks = c.in_ok-catch_up.ensures.walks;
    })
    (subst (λ (w : World). HasStarts g new w.places w.black c.enter.new.self.black) c.in_ok-catch_up.ensures.rest
    (subst (λ (b : WalkState). HasStarts g new c.catch_up.new.self.places c.catch_up.new.self.black b)
    (sym (ap (λ (w : World). w.black) c.enter.ensures)) c.in_ok-self.ensures))

use Rattle.std.proofs.Common.{refl, subst}
use Rattle.judge.specs.Former.{Releases}
use Rattle.judge.specs.Stages.{HasGroups}
use Rattle.judge.specs.declared.former.Former.{Former}
use Rattle.judge.proofs.world.World.settle.Goals as goal

pub returns-then-has_groups-clause-settles : goal.returns-then-has_groups-clause-settles
returns-then-has_groups-clause-settles c = record {
  left = λ h. (refl, refl, refl);
  over = λ n. absurd (n (c.has_groups.ensures.0 c.if-has_groups.true));
}

pub returns-clause-settles : goal.returns-clause-settles
returns-clause-settles c = record {
  left = λ h. absurd (let t = c.has_groups.ensures.1 (subst HasGroups c.take_black.ensures.stage h) in
      cc (t, c.if-has_groups.false));
  over = λ n. (
    subst (λ (f : Former). Releases f c.let_go.new.self) c.take_black.ensures.former c.in_ok-let_go.ensures,
    c.take_black.ensures.black,
  );
}

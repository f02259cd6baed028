use Rattle.std.proofs.Common.{◌∙◌, refl, arith}
use Rattle.judge.proofs.LetGo.{lets_all, lets_more, lets_none}
use Rattle.judge.proofs.world.World.let_go.Goals as goal

pub loop-name-init : goal.loop-name-init
loop-name-init c = record {
  phase = refl;
  former = refl;
  black = refl;
  whites = refl;
  arenas = record { owners = refl; out = refl };
  tally = refl;
  weak = refl;
  told = refl;
  places = lets_none _;
}

pub loop-name-preserved : goal.loop-name-preserved
loop-name-preserved c = record {
  phase = c.loop-name.invariant.phase;
  former = c.loop-name.invariant.former;
  black = c.loop-name.invariant.black;
  whites = c.loop-name.invariant.whites;
  arenas = record {
    owners = c.lift.ensures.arenas.owners ∙ c.loop-name.invariant.arenas.owners;
    out = c.lift.ensures.arenas.out ∙ c.loop-name.invariant.arenas.out;
  };
  tally = c.loop-name.invariant.tally;
  weak = c.loop-name.invariant.weak;
  told = c.loop-name.invariant.told;
  places = lets_more _ c.loop-name.self.places c.lift.new.places c.args.whites.now c.loop-name.name-index _
      c.loop-name-test.true c.loop-name.invariant.places c.lift.ensures.updates;
}

pub returns-clause-places : goal.returns-clause-places
returns-clause-places c =
    lets_all _ c.loop-name.self.places c.args.whites.now c.loop-name.name-index (omega arith)
    c.loop-name.invariant.places

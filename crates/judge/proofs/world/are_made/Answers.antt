use Rattle.std.proofs.Common.{arith, rules}
use Rattle.gz_names.proofs.Words.{HasZone-below}
use Rattle.judge.proofs.world.are_made.Goals as goal

pub returns : goal.returns
returns c = (
  λ e z has. c.loop-index.invariant z (omega (arith, HasZone-below c.args.zones.bits z has)) has,
  λ e. search rules,
)

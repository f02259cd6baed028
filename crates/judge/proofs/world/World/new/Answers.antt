use Rattle.std.proofs.Common.{ap, refl}
use Rattle.std.specs.Prelude.{reverse}
use Rattle.judge.proofs.world.World.new.Goals as goal

pub returns : goal.returns
returns c = record {
  none_running = refl;
  none_owned = c.new-3.ensures.owners;
  none_out = ap reverse c.new-3.ensures.out;
  none_made = c.new-2.ensures.empty;
  former = c.new.ensures.former;
  taken = c.new.ensures.kept;
  none_found = refl;
  none_black = c.new-5.ensures;
  none_named = c.new-7.ensures.slots;
  none_watched = c.new-7.ensures.watched;
  none_told = c.new-8.ensures;
}

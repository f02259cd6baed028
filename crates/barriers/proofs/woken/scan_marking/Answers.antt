use Rattle.std.proofs.Common.{inr}
use Rattle.barriers.proofs.woken.scan_marking.Goals as goal

pub kind-requires : goal.kind-requires
kind-requires g c = c.requires.holds.1.colours.seen_present c.args.place (inr c.requires.black)

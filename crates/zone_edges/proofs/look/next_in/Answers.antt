use Rattle.std.proofs.Common.{sym}
use Rattle.zone_edges.proofs.Looking.{stands_if}
use Rattle.zone_edges.proofs.look.next_in.Goals as goal

pub returns-clause-wrapper : goal.returns-clause-wrapper
returns-clause-wrapper c = stands_if _ _ _ _ c.requires c.next_of.ensures.apart (sym c.next_of.ensures.place)

use Rattle.std.proofs.Common.{ℕ}
use Rattle.std.proofs.Math.ListN.{length-replicate}
use Rattle.gz_names.proofs.Words.{HasZone-none}
use Rattle.zone_edges.proofs.Looking.{none_looked_at}
use Rattle.zone_edges.proofs.edges.Edges.start.Goals as goal

pub invariant_of-self : goal.invariant_of-self
invariant_of-self c = record {
  search = c.restart.ensures.search;
  idle = c.restart.ensures.idle;
  stepped_seen = λ z h. absurd (HasZone-none z h);
  fresh = λ e. c.restart.ensures.unseen;
  sized = length-replicate {A = ℕ} 64 0;
}

pub returns-clause-cursors : goal.returns-clause-cursors
returns-clause-cursors c = none_looked_at

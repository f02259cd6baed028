use Rattle.std.proofs.Common.{ℕ}
use Rattle.std.proofs.Math.ListN.{length-replicate}
use Rattle.gz_names.proofs.Words.{HasZone-none}
use Rattle.zone_edges.proofs.Looking.{none_looked_at}
use Rattle.zone_edges.proofs.edges.Edges.new.Goals as goal

pub invariant_of-result : goal.invariant_of-result
invariant_of-result c = record {
  search = c.new.ensures.search;
  idle = c.new.ensures.idle;
  stepped_seen = λ z h. absurd (HasZone-none z h);
  fresh = λ e. c.new.ensures.unseen;
  sized = length-replicate {A = ℕ} 64 0;
}

pub returns-clause-cursors : goal.returns-clause-cursors
returns-clause-cursors c = none_looked_at

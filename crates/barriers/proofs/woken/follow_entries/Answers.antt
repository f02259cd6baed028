use Rattle.std.proofs.Common.{refl, arith}
use Rattle.barriers.proofs.Loops.{no_entry}
use Rattle.barriers.proofs.Spreading.{grows_none}
use Rattle.barriers.proofs.woken.follow_entries.Goals as goal

pub returns-else-entries-gt0 : goal.returns-else-entries-gt0
returns-else-entries-gt0 g c = record {
  follows = λ followed holds. record {
    holds = holds;
    grows = grows_none _ _ _;
    covers = c.requires.covers;
    origin = refl;
  };
  entries = λ map key value entry part. absurd (no_entry c.args.heap.now.shape map key value
      (λ some. omega (arith, some, c.entries.ensures.count, c.if-entries-gt0.false)) entry);
}

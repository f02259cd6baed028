use Rattle.std.proofs.Common.{inl, inr, refl}
use Rattle.barriers.proofs.left_out.turn.Goals as goal

pub counts-requires : goal.counts-requires
counts-requires c = c.requires.present

pub returns-then-counts : goal.returns-then-counts
returns-then-counts c = inl (c.counts.ensures.0 c.if-counts.true, c.blacken.ensures)

pub returns-else-counts : goal.returns-else-counts
returns-else-counts c = inr ((λ counts. cc (c.counts.ensures.1 counts, c.if-counts.false)), refl, refl)

use Rattle.std.proofs.Common.{arith}
use Rattle.compact.proofs.Owned.{next-none, next-some}
use Rattle.compact.proofs.arenas.next_arena.Goals as goal

pub returns-clause-some : goal.returns-clause-some
returns-clause-some c = next-some c.args.heap.now.shape.arenas c.only.result.bits c.args.zone c.args.from
    (omega arith) c.only.ensures (let short = c.arenas.ensures in omega (arith, short)) c.next_in.result
    c.next_in.ensures.owned c.next_in.ensures.lowest

pub returns-clause-none : goal.returns-clause-none
returns-clause-none c = next-none c.args.heap.now.shape.arenas c.only.result.bits c.args.zone c.args.from
    c.only.ensures c.next_in.result c.next_in.ensures.none

use Rattle.std.proofs.Common.{ap}
use Rattle.arena_table.specs.Table.{ArenasState}
use Rattle.arena_table.proofs.Placing.{out-of_head, out-past}
use Rattle.arena_table.proofs.arenas.Arenas.is_out.Goals as goal

pub returns-then-arena-len : goal.returns-then-arena-len
returns-then-arena-len c =
    rw (← ap (λ (s : ArenasState). s.arenas) c.self.view_is)
    (out-of_head c.self.inside.store.arenas c.args.arena c.head.result.now c.head.ensures.head)

pub returns-else-arena-len : goal.returns-else-arena-len
returns-else-arena-len c =
    rw (← ap (λ (s : ArenasState). s.arenas) c.self.view_is)
    (out-past c.self.inside.store.arenas c.args.arena (rw (← c.len.ensures.value) c.if-arena-len.false))

use Rattle.std.proofs.Common.{ap}
use Rattle.arena_table.specs.Table.{ArenasState}
use Rattle.arena_table.proofs.Placing.{bits-of_head}
use Rattle.arena_table.proofs.arenas.Arenas.alloc_word.Goals as goal

pub returns-clause-bits : goal.returns-clause-bits
returns-clause-bits c =
    rw (← ap (λ (s : ArenasState). s.arenas) c.self.view_is)
    (bits-of_head c.self.inside.store.arenas c.args.arena c.head.result.now c.head.ensures.head)

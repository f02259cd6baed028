use Rattle.std.proofs.Common.{◌∙◌, ap}
use Rattle.arena_table.specs.Slots.{is_out_at}
use Rattle.arena_table.specs.Table.{ArenasState}
use Rattle.arena_table.proofs.Placing.{out-of_head}
use Rattle.arena_table.proofs.arenas.Arenas.is_place_out.Goals as goal

pub returns : goal.returns
returns c =
    rw (← ap (λ (s : ArenasState). s.arenas) c.self.view_is)
    (out-of_head c.self.inside.store.arenas c.arena.result c.head.result.now c.head.ensures.head
    ∙ ap (is_out_at c.self.inside.store.arenas) c.arena.ensures)

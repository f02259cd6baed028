use Rattle.arena_table.proofs.Walking.{among-of_head}
use Rattle.arena_table.proofs.arenas.is_in_zones.Goals as goal

pub returns : goal.returns
returns c = λ yes. among-of_head c.args.zones.bits c.args.arena c.args.store.now.arenas c.head-head.result.now
    c.head-head.ensures.head (c.contains.ensures.0 yes) c.if-head.false

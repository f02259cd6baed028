use Rattle.std.proofs.Common.{arith}
use Rattle.arena_table.proofs.Walking.{walk-started}
use Rattle.arena_table.proofs.walk.Walk.starting_at.Goals as goal

pub returns-clause-rest : goal.returns-clause-rest
returns-clause-rest c = λ arenas owned. walk-started c.args.zones.bits c.args.index.now.owned arenas
    c.word.ensures.fits owned c.word.result c.args.from (omega arith) c.word.ensures.bits

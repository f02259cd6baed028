use Rattle.std.proofs.Common.{ap}
use Rattle.arena_table.specs.Stored.{StoreState}
use Rattle.arena_table.proofs.Storing.{whole-stored}
use Rattle.arena_table.proofs.store.Store.whole_law.Goals as goal

pub returns : goal.returns
returns c =
    whole-stored c.self.inside.heads.items c.self.inside.cells.items c.args.self.now.arenas c.self.invariant
    (ap (λ (s : StoreState). s.arenas) c.self.view_is)

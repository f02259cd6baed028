use Rattle.std.proofs.Common.{arith, ap, length}
use Rattle.arena_table.specs.Stored.{StoreState}
use Rattle.arena_table.proofs.Storing.{length-arenas_of}
use Rattle.arena_table.proofs.store.Store.len.Goals as goal

pub returns-clause-value : goal.returns-clause-value
returns-clause-value c =
    let same = ap (λ (s : StoreState). length s.arenas) c.self.view_is in
    let long = length-arenas_of c.self.inside.heads.items c.self.inside.cells.items in
    omega (arith, c.self.inside.heads.ok.0)

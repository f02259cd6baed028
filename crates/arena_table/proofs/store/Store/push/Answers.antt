use Rattle.std.proofs.Common.{◌<◌, arith, ap, length}
use Rattle.arena_table.specs.Stored.{StoreState}
use Rattle.arena_table.proofs.Storing.{length-arenas_of, AreStored-push, arenas_of-empty}
use Rattle.arena_table.proofs.store.Store.push.Goals as goal

pub invariant_of-self : goal.invariant_of-self
invariant_of-self c =
    let same = ap (λ (s : StoreState). length s.arenas) c.self.view_is in
    let long = length-arenas_of c.self.inside.heads.items c.self.inside.cells.items in
    let few : length c.self.inside.heads.items < 67108863 = omega (arith, c.requires.few) in
    rw (c.push_reserved.ensures.items, c.push_alike.ensures)
    (AreStored-push _ _ _ _ c.self.invariant (omega arith) few)

pub returns : goal.returns
returns c =
    rw (c.push_reserved.ensures.items, c.push_alike.ensures)
    (arenas_of-empty _ _ _ c.args.zone _ c.self.invariant (ap (λ (s : StoreState). s.arenas) c.self.view_is))

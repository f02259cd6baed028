use Rattle.std.proofs.Common.{arith, ap}
use Rattle.arena_table.specs.Stored.{StoreState}
use Rattle.arena_table.proofs.Storing.{in_heads, IsHeadOf-stored}
use Rattle.arena_table.proofs.store.Store.head.Goals as goal

pub index-requires : goal.index-requires
index-requires c =
    let within = in_heads _ c.self.inside.cells.items _ c.args.arena
    (ap (λ (s : StoreState). s.arenas) c.self.view_is) c.requires in
    omega (arith, c.self.inside.heads.ok.0)

pub returns-clause-head : goal.returns-clause-head
returns-clause-head c =
    IsHeadOf-stored c.self.inside.heads.items c.self.inside.cells.items _ c.args.arena c.index.result.now
    c.self.invariant (ap (λ (s : StoreState). s.arenas) c.self.view_is) c.requires c.index.ensures

pub returns-clause-few : goal.returns-clause-few
returns-clause-few c =
    let within = in_heads _ c.self.inside.cells.items _ c.args.arena
    (ap (λ (s : StoreState). s.arenas) c.self.view_is) c.requires in
    omega (arith, c.self.invariant.few)

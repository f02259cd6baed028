use Rattle.std.proofs.Common.{arith, ap}
use Rattle.arena_table.specs.Slots.{taken_in}
use Rattle.arena_table.specs.Stored.{StoreState}
use Rattle.arena_table.proofs.Storing.{in_heads, arenas_of-headed, arena_of-taken}
use Rattle.arena_table.proofs.store.Store.take_in.Goals as goal

pub index_mut-head-requires : goal.index_mut-head-requires
index_mut-head-requires c =
    let within = in_heads c.self.inside.heads.items c.self.inside.cells.items _ c.args.arena
    (ap (λ (s : StoreState). s.arenas) c.self.view_is) c.requires in
    omega (arith, c.self.inside.heads.ok.0)

pub returns : goal.returns
returns c =
    arenas_of-headed c.self.inside.heads.items c.self.inside.cells.items _ c.args.arena c.index_mut-head.result.now _
    (taken_in c.args.freed c.args.bits) c.self.invariant (ap (λ (s : StoreState). s.arenas) c.self.view_is)
    c.requires c.index_mut-head.ensures.value
    (λ cells long. arena_of-taken c.index_mut-head.result.now c.args.freed c.args.bits cells c.ranges.freed.fits
    long)

use Rattle.std.proofs.Common.{arith, ap, refl}
use Rattle.arena_table.specs.Slots.{given_up}
use Rattle.arena_table.specs.Stored.{StoreState}
use Rattle.arena_table.proofs.Storing.{in_heads, arenas_of-headed}
use Rattle.arena_table.proofs.store.Store.give_up.Goals as goal

pub index_mut-requires : goal.index_mut-requires
index_mut-requires c =
    let within = in_heads c.self.inside.heads.items c.self.inside.cells.items _ c.args.arena
    (ap (λ (s : StoreState). s.arenas) c.self.view_is) c.requires in
    omega (arith, c.self.inside.heads.ok.0)

pub returns-clause-arenas : goal.returns-clause-arenas
returns-clause-arenas c =
    arenas_of-headed c.self.inside.heads.items c.self.inside.cells.items _ c.args.arena c.index_mut.result.now _
    given_up c.self.invariant (ap (λ (s : StoreState). s.arenas) c.self.view_is) c.requires
    c.index_mut.ensures.value (λ _ _. refl)

pub returns-clause-few : goal.returns-clause-few
returns-clause-few c =
    let within = in_heads c.self.inside.heads.items c.self.inside.cells.items _ c.args.arena
    (ap (λ (s : StoreState). s.arenas) c.self.view_is) c.requires in
    omega (arith, c.self.invariant.few)

use Rattle.std.proofs.Common.{◌<◌, arith, ap, length, IsSome}
use Rattle.arena_table.specs.Moving.{forwarded}
use Rattle.arena_table.specs.Slots.{cell_at}
use Rattle.arena_table.specs.Stored.{StoreState}
use Rattle.arena_table.proofs.Storing.{in_heads, in_cells, length-arenas_of, cell_at-within, arenas_of-cell}
use Rattle.arena_table.proofs.store.Store.forward.Goals as goal

pub position-requires : goal.position-requires
position-requires c =
    let within = in_heads c.self.inside.heads.items c.self.inside.cells.items _ c.args.place.0
    (ap (λ (s : StoreState). s.arenas) c.self.view_is)
    (cell_at-within c.args.self.now.arenas c.args.place c.requires.cell) in
    omega (arith, c.self.invariant.few)

pub index_mut-requires : goal.index_mut-requires
index_mut-requires c =
    let within = in_cells c.self.inside.heads.items c.self.inside.cells.items _ c.args.place.0 c.args.place.1
    c.self.invariant (ap (λ (s : StoreState). s.arenas) c.self.view_is)
    (cell_at-within c.args.self.now.arenas c.args.place c.requires.cell) c.position.ensures.slot in
    omega (arith, c.self.inside.cells.ok.0, c.position.ensures.value)

pub forward-requires : goal.forward-requires
forward-requires c = λ k d lt.
    (let made = c.requires.goals k d lt in
    let long = length-arenas_of c.self.inside.heads.items c.self.inside.cells.items in
    let same = ap (λ (s : StoreState). length s.arenas) c.self.view_is in
    omega (arith, made, long, same, c.self.invariant.few))

pub returns-clause-arenas : goal.returns-clause-arenas
returns-clause-arenas c =
    arenas_of-cell c.self.inside.heads.items c.self.inside.cells.items _ c.args.place c.position.result
    (forwarded c.args.moves.now) c.forward.new.self c.index_mut.result.now (record {
      stored = c.self.invariant;
      arenas_are = ap (λ (s : StoreState). s.arenas) c.self.view_is;
      made = cell_at-within c.args.self.now.arenas c.args.place c.requires.cell;
      slot = c.position.ensures.slot;
      at = c.position.ensures.value;
    })
    (rw (← c.index_mut.ensures.value) c.forward.ensures)

use Rattle.std.proofs.Common.{arith, ap}
use Rattle.arena_table.specs.Stored.{StoreState}
use Rattle.arena_table.proofs.Storing.{in_heads, in_cells, cell_at-within, cell-read}
use Rattle.arena_table.proofs.store.Store.cell.Goals as goal

pub position-requires : goal.position-requires
position-requires c =
    let within = in_heads c.self.inside.heads.items c.self.inside.cells.items _ c.args.place.0
    (ap (λ (s : StoreState). s.arenas) c.self.view_is) (cell_at-within _ c.args.place c.requires) in
    omega (arith, c.self.invariant.few)

pub index-requires : goal.index-requires
index-requires c =
    let within = in_cells c.self.inside.heads.items c.self.inside.cells.items _ c.args.place.0 c.args.place.1
    c.self.invariant (ap (λ (s : StoreState). s.arenas) c.self.view_is) (cell_at-within _ c.args.place c.requires)
    c.position.ensures.slot in
    omega (arith, c.self.inside.cells.ok.0, c.position.ensures.value)

pub returns : goal.returns
returns c =
    let read = cell-read c.self.inside.heads.items c.self.inside.cells.items _ c.args.place c.index.result.now
    c.self.invariant (ap (λ (s : StoreState). s.arenas) c.self.view_is) c.position.ensures.slot c.requires in
    rw (c.index.ensures, c.position.ensures.value) read

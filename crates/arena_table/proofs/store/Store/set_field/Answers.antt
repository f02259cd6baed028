use Rattle.std.proofs.Common.{◌<◌, arith, ap, length, Option, IsSome, IsSomeAnd, subst}
use Rattle.arena_table.specs.Cells.{CellState, with_value}
use Rattle.arena_table.specs.Slots.{cell_at}
use Rattle.arena_table.specs.Stored.{StoreState}
use Rattle.arena_table.proofs.Storing.{in_heads, in_cells, length-arenas_of, cell_at-within, cell-read, is_some-from}
use Rattle.arena_table.proofs.Storing.{arenas_of-cell}
use Rattle.arena_table.proofs.store.Store.set_field.Goals as goal

pub position-requires : goal.position-requires
position-requires c =
    let some : IsSome (cell_at c.args.self.now.arenas c.args.place) =
    is_some-from _ (cell_at c.args.self.now.arenas c.args.place) c.requires.field in
    let within = in_heads c.self.inside.heads.items c.self.inside.cells.items _ c.args.place.0
    (ap (λ (s : StoreState). s.arenas) c.self.view_is) (cell_at-within c.args.self.now.arenas c.args.place some) in
    omega (arith, c.self.invariant.few)

pub index_mut-requires : goal.index_mut-requires
index_mut-requires c =
    let some : IsSome (cell_at c.args.self.now.arenas c.args.place) =
    is_some-from _ (cell_at c.args.self.now.arenas c.args.place) c.requires.field in
    let within = in_cells c.self.inside.heads.items c.self.inside.cells.items _ c.args.place.0 c.args.place.1
    c.self.invariant (ap (λ (s : StoreState). s.arenas) c.self.view_is)
    (cell_at-within c.args.self.now.arenas c.args.place some) c.position.ensures.slot in
    omega (arith, c.self.inside.cells.ok.0, c.position.ensures.value)

pub set_field-requires-clause-field : goal.set_field-requires-clause-field
set_field-requires-clause-field c =
    let some : IsSome (cell_at c.args.self.now.arenas c.args.place) =
    is_some-from _ (cell_at c.args.self.now.arenas c.args.place) c.requires.field in
    let read = cell-read c.self.inside.heads.items c.self.inside.cells.items _ c.args.place c.index_mut.result.now
    c.self.invariant (ap (λ (s : StoreState). s.arenas) c.self.view_is) c.position.ensures.slot some in
    let field = subst (λ (o : Option CellState). IsSomeAnd o (λ cell. c.args.f < length cell.fields)) read
    c.requires.field in
    rw (c.index_mut.ensures.value, c.position.ensures.value) field

pub returns-clause-arenas : goal.returns-clause-arenas
returns-clause-arenas c =
    let some : IsSome (cell_at c.args.self.now.arenas c.args.place) =
    is_some-from _ (cell_at c.args.self.now.arenas c.args.place) c.requires.field in
    arenas_of-cell c.self.inside.heads.items c.self.inside.cells.items _ c.args.place c.position.result
    (with_value c.args.f c.args.value) c.set_field.new.self c.index_mut.result.now (record {
      stored = c.self.invariant;
      arenas_are = ap (λ (s : StoreState). s.arenas) c.self.view_is;
      made = cell_at-within c.args.self.now.arenas c.args.place some;
      slot = c.position.ensures.slot;
      at = c.position.ensures.value;
    })
    (rw (← c.index_mut.ensures.value) c.set_field.ensures)

pub set_field-requires-clause-value : goal.set_field-requires-clause-value
set_field-requires-clause-value c = λ p e. (let made = c.requires.value p e in
    let long = length-arenas_of c.self.inside.heads.items c.self.inside.cells.items in
    let same = ap (λ (s : StoreState). length s.arenas) c.self.view_is in
    omega (arith, c.self.invariant.few))

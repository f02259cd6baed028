use Rattle.std.proofs.Common.{◌<◌, ◌-◌, ◌/◌, ◌∙◌, List, length, min, vec_capacity, vec_len, arith, ap, refl, subst, sym}
use Rattle.arena_table.specs.Cells.{state_of}
use Rattle.arena_table.specs.Slots.{Arena}
use Rattle.arena_table.specs.Stored.{StoreState, arenas_of}
use Rattle.arena_table.specs.declared.cells.Cell.{Cell}
use Rattle.arena_table.proofs.Storing.{in_heads, in_cells, arenas_of-kept}
use Rattle.arena_table.proofs.store.Store.fetch.Goals as goal

pub position-requires : goal.position-requires
position-requires c =
    let within = in_heads c.self.inside.heads.items c.self.inside.cells.items _ c.args.place.0
    (ap (λ (s : StoreState). s.arenas) c.self.view_is) c.requires in
    omega (arith, c.self.invariant.few)

pub index_mut-requires : goal.index_mut-requires
index_mut-requires c =
    let within = in_cells c.self.inside.heads.items c.self.inside.cells.items _ c.args.place.0 c.args.place.1
    c.self.invariant (ap (λ (s : StoreState). s.arenas) c.self.view_is) c.requires c.position.ensures.slot in
    omega (arith, c.self.inside.cells.ok.0, c.position.ensures.value)

pub returns : goal.returns
returns c =
    let heads = c.self.inside.heads.items in
    let cells = c.self.inside.cells.items in
    let within : c.args.place.0 < length (arenas_of heads cells) =
    subst (λ (s : StoreState). c.args.place.0 < length s.arenas) (sym c.self.view_is) c.requires in
    ap (λ (arenas : List Arena). record {
      arenas = arenas;
      room =
          min (vec_capacity c.self.inside.heads) (vec_capacity c.self.inside.cells / 64)
          - vec_len c.self.inside.heads;
    })
    (arenas_of-kept heads cells (arenas_of heads cells) c.args.place c.position.result _ c.index_mut.result.now
    (record {
      stored = c.self.invariant;
      arenas_are = refl;
      made = within;
      slot = c.position.ensures.slot;
      at = c.position.ensures.value;
    })
    (ap (λ (x : Cell). state_of x) c.index_mut.ensures.value))
    ∙ c.self.view_is

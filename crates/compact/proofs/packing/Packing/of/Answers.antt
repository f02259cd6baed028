use Rattle.std.proofs.Common.{◌+◌, ◌/◌, ◌%◌, ◌∙◌, min, ap, sym, subst}
use Rattle.colour_defs.specs.Compaction.{FillArenas}
use Rattle.compact.specs.Packing.{count_below, held_of_zone}
use Rattle.compact.proofs.Moving.{few-kept, has-room, packed-first}
use Rattle.compact.proofs.packing.Packing.of.Goals as goal

pub move_cells-requires-clause-room : goal.move_cells-requires-clause-room
move_cells-requires-clause-room c =
    let arenas = c.args.heap.now.shape.arenas in
    has-room arenas c.args.zone c.arena_after.result c.requires.whole
    (few-kept arenas c.args.zone c.div_ceil-kept.result c.arena_after.result c.requires.whole
    (c.div_ceil-kept.ensures
    ∙ ap (λ n. n / c.from.result + min 1 (n % c.from.result)) c.count_cells.ensures
    ∙ ap (λ b. held_of_zone c.args.zone arenas / b + min 1 (held_of_zone c.args.zone arenas % b)) c.from.ensures)
    c.arena_after.ensures)

pub move_cells-requires-clause-packed : goal.move_cells-requires-clause-packed
move_cells-requires-clause-packed c = packed-first c.args.heap.now.shape c.args.zone _ c.new.ensures
    c.of.ensures.zone c.of.ensures.begun

pub returns : goal.returns
returns c =
    let arenas = c.args.heap.now.shape.arenas in
    let few = few-kept arenas c.args.zone c.div_ceil-kept.result c.arena_after.result c.requires.whole
    (c.div_ceil-kept.ensures
    ∙ ap (λ n. n / c.from.result + min 1 (n % c.from.result)) c.count_cells.ensures
    ∙ ap (λ b. held_of_zone c.args.zone arenas / b + min 1 (held_of_zone c.args.zone arenas % b)) c.from.ensures)
    c.arena_after.ensures in
    record {
      few = subst (λ n. FillArenas (held_of_zone c.args.zone arenas) (count_below c.args.zone n 0 arenas))
          (sym c.move_cells.ensures.first) few;
      moves_are = c.in_ok-move_cells.ensures.moves;
      in_order = c.as_slice.ensures.order;
      lowest = c.in_ok-move_cells.ensures.lowest;
    }

use Rattle.std.proofs.Common.{◌∙◌, ap, arith, sym}
use Rattle.heap_core.specs.Heap.{HeapState}
use Rattle.heap_core.specs.Shape.{is_prepared}
use Rattle.heap_core.specs.contracts.heap.Heap.{the_view}
use Rattle.arena_table.specs.Table.{new_cell}
use Rattle.heap_core.proofs.MakingCells.{made-by, makes-seen, put-kept-in}
use Rattle.heap_core.proofs.NotedTargets.{noted-made, null-noted}
use Rattle.heap_core.proofs.heap.Heap.make_cell.Goals as goal

pub colour_at_birth-requires : goal.colour_at_birth-requires
colour_at_birth-requires c = record {
  kept = put-kept-in c.self.inside.arenas c.reserve_place.new.self c.put_cell.new.self
      c.args.zone c.in_ok-place.place (new_cell c.args.kind c.args.comp c.args.name) c.in_ok-place.ensures.place
      c.in_ok-place.ensures.kept c.put_cell.ensures.put;
}

pub returns-clause-ok : goal.returns-clause-ok
returns-clause-ok c = makes-seen (the_view c.self.inside) c.args.self.now c.self.inside.arenas
    c.colour_at_birth.new.arenas
    c.args.zone c.in_ok-place.place (new_cell c.args.kind c.args.comp c.args.name) c.self.view_is _
    (made-by c.self.inside.arenas c.reserve_place.new.self c.put_cell.new.self c.colour_at_birth.new.arenas c.args.zone
    c.in_ok-place.place (new_cell c.args.kind c.args.comp c.args.name) c.in_ok-place.ensures.place
    (omega arith) c.in_ok-place.ensures.free c.in_ok-place.ensures.kept c.put_cell.ensures.put c.put_cell.ensures.cells
    c.is_prepared-is_prepared.result c.colour_at_birth.ensures)
    (c.is_prepared-is_prepared.ensures ∙ ap (λ (h : HeapState). is_prepared h.shape c.args.zone) (sym c.self.view_is))

pub invariant_of-self-2 : goal.invariant_of-self-2
invariant_of-self-2 c = noted-made c.self.inside.arenas c.colour_at_birth.new.arenas c.args.zone c.in_ok-place.place
    (new_cell c.args.kind c.args.comp c.args.name) _ _ _
    (made-by c.self.inside.arenas c.reserve_place.new.self c.put_cell.new.self c.colour_at_birth.new.arenas c.args.zone
    c.in_ok-place.place (new_cell c.args.kind c.args.comp c.args.name) c.in_ok-place.ensures.place
    (omega arith) c.in_ok-place.ensures.free c.in_ok-place.ensures.kept c.put_cell.ensures.put c.put_cell.ensures.cells
    c.is_prepared-is_prepared.result c.colour_at_birth.ensures)
    (null-noted _ _ _ _ _ _) (λ a b is. is) c.self.invariant

use Rattle.std.proofs.Common.{◌≡◌, ◌∙◌, Some, ap, arith, sym, subst, ℕ, Contains, IsSome}
use Rattle.wrappers.specs.WrapperMaps.{list_of, place_of}
use Rattle.heap_core.specs.contracts.heap.Heap.{the_view}
use Rattle.heap_core.specs.Heap.{HeapState}
use Rattle.heap_core.proofs.MakingWrappers.{target-within, wrapper-made, wrapper-seen, written-kept}
use Rattle.arena_table.specs.Slots.{cell_at}
use Rattle.arena_table.specs.Table.{ArenasState}
use Rattle.heap_core.specs.Changes.{wrapper_cell}
use Rattle.heap_core.specs.Shape.{is_prepared}
use Rattle.heap_core.specs.TargetZones.{owner_in}
use Rattle.heap_core.proofs.NotedTargets.{noted-made, present-stands, wrapper-noted}
use Rattle.heap_core.proofs.heap.Heap.make_wrapper.Goals as goal

pub add-requires-clause-one_zone : goal.add-requires-clause-one_zone
add-requires-clause-one_zone c = subst (λ (h : HeapState). (z : ℕ) (e : _) → Contains (list_of h.shape.wrappers z) e
    → e.0.comp ≡ c.args.comp.0 → z ≡ c.args.zone) (sym c.self.view_is) c.requires.one_zone

pub set_field-requires-clause-value : goal.set_field-requires-clause-value
set_field-requires-clause-value c = target-within (the_view c.self.inside) c.args.self.now c.self.inside.arenas
    c.reserve_place.new.self c.put_cell.new.self c.args.zone c.args.comp c.args.number c.in_ok-place.place c.args.target
    c.self.view_is c.requires.target (record {
      place_is = c.in_ok-place.ensures.place;
      below = omega arith;
      free = c.in_ok-place.ensures.free;
      kept = c.in_ok-place.ensures.kept;
      put = c.put_cell.ensures.put;
    })

pub colour_at_birth-requires : goal.colour_at_birth-requires
colour_at_birth-requires c = record {
  kept = written-kept c.self.inside.arenas c.reserve_place.new.self c.put_cell.new.self
      c.set_field.new.self c.args.zone c.args.comp c.args.number c.in_ok-place.place c.args.target
      (record {
        place_is = c.in_ok-place.ensures.place;
        below = omega arith;
        free = c.in_ok-place.ensures.free;
        kept =
            c.in_ok-place.ensures.kept;
        put = c.put_cell.ensures.put;
      }) c.set_field.ensures.state;
}

pub returns-clause-ok : goal.returns-clause-ok
returns-clause-ok c = wrapper-seen (the_view c.self.inside) c.args.self.now c.self.inside.arenas
    c.colour_at_birth.new.arenas
    c.self.inside.wrappers c.add.new.self c.args.zone c.args.comp c.args.number c.in_ok-place.place c.args.target
    c.self.view_is (ap (λ (h : HeapState). h.shape.wrappers) (sym c.self.view_is)) _
    (wrapper-made c.self.inside.arenas c.reserve_place.new.self c.put_cell.new.self c.set_field.new.self
    c.colour_at_birth.new.arenas c.args.zone c.args.comp c.args.number c.in_ok-place.place c.args.target
    (record {
      place_is = c.in_ok-place.ensures.place;
      below = omega arith;
      free = c.in_ok-place.ensures.free;
      kept =
          c.in_ok-place.ensures.kept;
      put = c.put_cell.ensures.put;
    }) c.put_cell.ensures.cells c.set_field.ensures.state
    c.set_field.ensures.cells c.is_prepared-is_prepared.result c.colour_at_birth.ensures)
    (record {
      added = c.in_ok-add.ensures.added;
      found = c.in_ok-add.ensures.found;
      absent = ap
          (λ (h : HeapState). place_of h.shape.wrappers c.args.comp.0 c.args.number) c.self.view_is ∙ c.requires.absent;
    })
    (c.is_prepared-is_prepared.ensures ∙ ap (λ (h : HeapState). is_prepared h.shape c.args.zone) (sym c.self.view_is))

pub note_target-requires : goal.note_target-requires
note_target-requires c = subst (λ (s : ArenasState). IsSome (cell_at s.arenas c.args.target))
    (sym c.in_ok-place.ensures.kept)
    (present-stands (the_view c.self.inside) c.args.self.now c.self.inside.arenas c.args.target c.self.view_is
    c.requires.target)

pub invariant_of-self-2 : goal.invariant_of-self-2
invariant_of-self-2 c =
    let target = c.note_target.ensures.noted in
    noted-made c.self.inside.arenas c.colour_at_birth.new.arenas c.args.zone c.in_ok-place.place
    (wrapper_cell c.args.comp c.args.number c.args.target) _ _ _
    (wrapper-made c.self.inside.arenas c.reserve_place.new.self c.put_cell.new.self c.set_field.new.self
    c.colour_at_birth.new.arenas c.args.zone c.args.comp c.args.number c.in_ok-place.place c.args.target
    (record {
      place_is = c.in_ok-place.ensures.place;
      below = omega arith;
      free = c.in_ok-place.ensures.free;
      kept =
          c.in_ok-place.ensures.kept;
      put = c.put_cell.ensures.put;
    }) c.put_cell.ensures.cells c.set_field.ensures.state
    c.set_field.ensures.cells c.is_prepared-is_prepared.result c.colour_at_birth.ensures)
    (wrapper-noted _ _ _ _ _ _ target.0 (subst (λ (s : ArenasState). owner_in s.arenas c.args.target.0 ≡ Some target.0)
    c.in_ok-place.ensures.kept target.1) target.2) c.note_target.ensures.kept c.self.invariant

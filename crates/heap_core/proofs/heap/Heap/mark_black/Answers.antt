use Rattle.std.proofs.Common.{refl, ◌∙◌, ap}
use Rattle.heap_core.specs.contracts.heap.Heap.{the_view}
use Rattle.arena_table.specs.Slots.{change_at, with_bits}
use Rattle.heap_core.proofs.MarkBits.{colour-at, kept-at, takes_black, was_black}
use Rattle.heap_core.proofs.NotedTargets.{noted-set_bits}
use Rattle.heap_core.proofs.heap.Heap.mark_black.Goals as goal

pub set_bits-requires : goal.set_bits-requires
set_bits-requires c = kept-at (the_view c.self.inside) _ c.self.inside.arenas c.args.place _ c.self.view_is
    c.arena-then-is_new.ensures c.requires.made c.requires.kept

pub returns-then-is_new : goal.returns-then-is_new
returns-then-is_new c =
    rw c.if-is_new.true (takes_black (the_view c.self.inside) _ c.self.inside.arenas c.args.place _ c.self.view_is
    c.arena.ensures
    c.set_bits.new.self c.bits-bits.result c.mark_black-is_new.new.self _ c.slot.ensures.value c.slot.ensures.below
    c.requires.kept c.bits-bits.ensures
    (c.set_bits.ensures ∙ ap
    (λ n. record c.self.inside.arenas {
      arenas =
          change_at (with_bits c.mark_black-is_new.new.self) c.self.inside.arenas.arenas n;
    }) c.arena-then-is_new.ensures)
    (c.mark_black-is_new.ensures.set.0 c.if-is_new.true) c.mark_black-is_new.ensures.black
    c.mark_black-is_new.ensures.gob)

pub returns-else-is_new : goal.returns-else-is_new
returns-else-is_new c = rw c.if-is_new.false (
  colour-at (the_view c.self.inside) _ c.self.inside.arenas c.args.place _ c.self.view_is c.arena.ensures
      c.bits-bits.result _ c.slot.ensures.value c.bits-bits.ensures
      ∙ was_black c.bits-bits.result c.slot.result c.mark_black-is_new.result c.mark_black-is_new.ensures.set
      c.if-is_new.false,
  refl,
)

pub invariant_of-self : goal.invariant_of-self
invariant_of-self c = noted-set_bits c.self.inside.arenas c.set_bits.new.self c.arena-then-is_new.result
    c.mark_black-is_new.new.self _ c.set_bits.ensures c.self.invariant

use Rattle.std.proofs.Common.{◌≡◌, Option, None, Some, List, IsSomeAnd, IsPermutation, ap, subst, ◌∙◌, slice_get}
use Rattle.gz_names.specs.declared.names.Name.{Name}
use Rattle.arena_table.specs.Slots.{at_bits, names_of}
use Rattle.heap_core.specs.Shape.{ArenaShape}
use Rattle.slice_driver.proofs.abstraction.Named.{some_one}
use Rattle.slice_driver.proofs.ends.list_freed.Goals as goal

pub returns-clause-names : goal.returns-clause-names
returns-clause-names c = record {
  moved = λ arena e. subst (λ (xs : List Name). IsPermutation xs c.sort_names.new.names)
      (at_arena (slice_get c.args.heap.now.shape.arenas c.args.arena) arena e c.take_in.ensures.names)
      c.sort_names.ensures.permutation;
  sorted = c.sort_names.ensures.sorted;
}
  where
    at_arena : (o : Option ArenaShape) (arena : ArenaShape) → o ≡ Some arena
        → IsSomeAnd o (λ z. c.take_in.new.names ≡ names_of (at_bits c.args.taken.freed z.slots))
        → c.take_in.new.names ≡ names_of (at_bits c.args.taken.freed arena.slots)
    at_arena None arena e n = absurd n
    at_arena (Some x) arena e n = n ∙ ap (λ (z : ArenaShape). names_of (at_bits c.args.taken.freed z.slots))
        (some_one _ _ e)

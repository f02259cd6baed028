use Rattle.std.proofs.Common.{◌≡◌, ◌++◌, ◌+◌, replicate, vec_len, vec_capacity}
use Rattle.arena_table.proofs.store.push_alike.Given as goal

abbrev pub invariant-loop-slot : goal.invariant-loop-slot
invariant-loop-slot l = record {
  items : l.cells.items ≡ l.fn.cells.items ++ replicate l._slot l.cell;
  len : vec_len l.cells ≡ vec_len l.fn.cells + l._slot;
  capacity : vec_capacity l.cells ≡ vec_capacity l.fn.cells;
}

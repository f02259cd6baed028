use Rattle.std.proofs.Common.{◌≡◌, ℕ, false, arith, refl}
use Rattle.gz_names.specs.declared.commands.Kind.{Kind}
use Rattle.gz_names.specs.declared.commands.Kind.TheVariants as kind
use Rattle.gz_names.specs.declared.names.Name.TheVariants.{Cell}
use Rattle.gz_names.specs.declared.numbers.CompNo.{CompNo}
use Rattle.arena_table.specs.Cells.{name_of}
use Rattle.heap_core.specs.Shows.{is_wrapper}
use Rattle.heap_core.proofs.heap.Heap.hold_cell.Goals as goal

named : (k : Kind) (c : CompNo) (n : ℕ) → is_wrapper k ≡ false → Cell n ≡ name_of k c n
named (kind.Object m) c n e = refl
named kind.Map c n e = refl
named kind.Wrapper c n e = cc

pub make_cell-requires-clause-name : goal.make_cell-requires-clause-name
make_cell-requires-clause-name c = named c.args.kind c.args.c c.objects-number.result c.requires.plain

pub make_cell-requires-clause-number : goal.make_cell-requires-clause-number
make_cell-requires-clause-number c = omega (arith, c.requires.sound.1.few_objects, c.objects-number.ensures)

use Rattle.std.proofs.Common.{refl, arith}
use Rattle.std.proofs.lemmas.List.Elements.{All-nil}
use Rattle.arena_table.specs.Table.{IsEmptyIfGivenUp}
use Rattle.arena_table.proofs.Outs.{AreOut-none}
use Rattle.arena_table.proofs.Placing.{IsIndexed-none}
use Rattle.arena_table.proofs.arenas.Arenas.new.Goals as goal

pub invariant_of-result : goal.invariant_of-result
invariant_of-result c = record {
  indexed = IsIndexed-none c.new-2.result.arenas c.in_ok-index.index c.new-2.ensures c.in_ok-index.ensures;
  out_of = AreOut-none c.new-2.result.arenas c.new-3.result c.new-2.ensures c.new-3.ensures;
  covered = rw c.new-2.ensures c.new-4.ensures.covered;
  empty = rw c.new-2.ensures (All-nil IsEmptyIfGivenUp);
  few = omega arith;
  counted = rw c.new-2.ensures refl;
  fewer = omega arith;
  kept = λ r e. absurd (cc);
}

use Rattle.std.proofs.Common.{◌≡◌, drop}
use Rattle.judge.specs.Cells.{Cells}
use Rattle.judge.specs.Compaction.{GoTo, MayGo}
use Rattle.judge.specs.Stages.{shown}
use Rattle.judge.proofs.world.World.move_cells.Given as goal

abbrev pub invariant-loop-was : goal.invariant-loop-was
invariant-loop-was l = record {
  same : shown l.self ≡ record (shown l.fn.self) { cells = l.self.places };
  so : (cells : Cells) → GoTo l.was-iterator (drop l.next l.free) l.self.places cells
      → GoTo l.movers.entries l.free l.fn.self.places cells;
  may : MayGo l.self.places l.self.arenas l.was-iterator (drop l.next l.free);
}

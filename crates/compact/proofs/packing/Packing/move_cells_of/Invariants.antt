use Rattle.std.proofs.Common.{◌≡◌, ℕ}
use Rattle.compact.proofs.Moving.{IsMoving}
use Rattle.compact.proofs.packing.Packing.move_cells_of.Given as goal

abbrev pub invariant-loop-left : goal.invariant-loop-left
invariant-loop-left l = record {
  moving : (n : ℕ) × IsMoving l.heap.shape l.zone l.arena l.word l.left n l.self;
  first : l.self.first_given_up ≡ l.fn.self.first_given_up;
}

abbrev pub decreases-loop-left : goal.decreases-loop-left
decreases-loop-left l = l.left

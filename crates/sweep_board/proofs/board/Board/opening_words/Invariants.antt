use Rattle.std.proofs.Common.{◌≡◌, [], take}
use Rattle.sweep_board.specs.Rule.{opening_words}
use Rattle.sweep_board.proofs.board.Board.opening_words.Given as goal

abbrev pub invariant-loop-job : goal.invariant-loop-job
invariant-loop-job l = l.words.items ≡ opening_words (take l.job-index l.jobs) []

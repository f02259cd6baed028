use Rattle.std.proofs.Common.{rules}
use Rattle.sweep_board.proofs.SeatMoves.{joining}
use Rattle.sweep_board.proofs.board.Board.join.Goals as goal

pub join_seat-requires : goal.join_seat-requires
join_seat-requires c = (
  search rules,
  search rules,
  search rules,
  search rules,
  joining _ _ _ _ _ c.args.main.now.mains c.args.seat.helpers c.requires.free,
)

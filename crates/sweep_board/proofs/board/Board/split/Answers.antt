use Rattle.std.proofs.Common.{rules}
use Rattle.sweep_board.proofs.SeatMoves.{splitting}
use Rattle.sweep_board.proofs.board.Board.split.Goals as goal

pub split_seat-seat-requires : goal.split_seat-seat-requires
split_seat-seat-requires c = (search rules, search rules, splitting _ _ _ c.args.main.now.mains)

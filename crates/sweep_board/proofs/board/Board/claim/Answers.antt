use Rattle.std.proofs.Common.{rules, sym, subst, ◌<◌, length}
use Rattle.sweep_board.proofs.HelperSteps.{claiming}
use Rattle.sweep_board.proofs.board.Board.claim.Goals as goal

pub compare_exchange-found-requires : goal.compare_exchange-found-requires
compare_exchange-found-requires c = (
  search rules,
  search rules,
  claiming _ _ _ _ c.args.index
      (subst (λ js. c.args.index < length js.items) (sym c.args.self.now.keyed) c.requires.index) c.requires.free
      c.args.seat.now.helpers,
)

use Rattle.std.proofs.Common.{rules, sym, subst, ◌<◌, length}
use Rattle.sweep_board.proofs.HelperSteps.{passing_gate}
use Rattle.sweep_board.proofs.board.Board.pass_gate.Goals as goal

pub load-requires : goal.load-requires
load-requires g c = (
  search rules,
  search rules,
  passing_gate _ _ _ _ c.args.claim.now.index
      (subst (λ js. c.args.claim.now.index < length js.items) (sym c.args.self.now.keyed) c.requires.index) _,
)

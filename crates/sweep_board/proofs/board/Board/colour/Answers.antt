use Rattle.std.proofs.Common.{rules, sym, subst, ap, ◌∙◌, ◌<◌, length}
use Rattle.sweep_board.proofs.MainSteps.{reading_black}
use Rattle.sweep_board.proofs.board.Board.colour.Goals as goal

pub load-black-requires : goal.load-black-requires
load-black-requires c = (
  search rules,
  search rules,
  reading_black _ _ _ _ c.args.index
      (subst (λ js. c.args.index < length js.items) (sym c.args.self.now.keyed) c.requires.index)
      (c.requires.board.1 ∙ sym (ap (λ v. v.items) c.args.self.now.keyed)) c.args.main.now.mains,
)

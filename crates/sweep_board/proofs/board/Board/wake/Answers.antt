use Rattle.std.proofs.Common.{rules, ◌≡◌, bit_or, sym, subst, ◌<◌, length}
use Rattle.cell_bits.specs.Jobs.{job_at}
use Rattle.sweep_board.proofs.MainSteps.{waking}
use Rattle.sweep_board.proofs.board.Board.wake.Goals as goal

pub fetch_or-requires : goal.fetch_or-requires
fetch_or-requires c = (
  search rules,
  search rules,
  waking _ _ _ _ c.args.index
      (subst (λ js. c.args.index < length js.items) (sym c.args.self.now.keyed) c.requires.index) c.args.mask
      c.args.main.now.mains
      (subst (λ js. bit_or c.args.mask (job_at js.items c.args.index).bits.gob
      ≡ (job_at js.items c.args.index).bits.gob) (sym c.args.self.now.keyed) c.requires.within),
)

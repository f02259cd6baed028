use Rattle.std.proofs.Common.{rules, ◌<◌, ◌∙◌, length, sym, subst, ap, arith}
use Rattle.sweep_board.specs.Views.{IsDone, IsNoted, IsSwept}
use Rattle.sweep_board.specs.Steps.{BoardSeat}
use Rattle.sweep_board.proofs.AfterSteps.{after_look}
use Rattle.sweep_board.proofs.HelperSteps.{quarter}
use Rattle.sweep_board.proofs.MainSteps.{looking, reading_freed, taking}
use Rattle.sweep_board.proofs.board.Board.try_take.Goals as goal

pub load-requires : goal.load-requires
load-requires c = (
  search rules,
  search rules,
  looking _ _ _ _ c.args.index
      (subst (λ js. c.args.index < length js.items) (sym c.args.self.now.keyed) c.requires.index) c.args.main.now.mains,
)

pub returns-then-load-ne-DONE-clause-known : goal.returns-then-load-ne-DONE-clause-known
returns-then-load-ne-DONE-clause-known c =
    λ has. absurd (c.if-load-ne-DONE.true
    (c.load.ensures.2.1 (subst (IsDone c.args.main.now.seat.me.0) (sym (quarter c.args.index)) has)))

pub returns-then-load-ne-DONE-clause-alone : goal.returns-then-load-ne-DONE-clause-alone
returns-then-load-ne-DONE-clause-alone c =
    λ has alone. absurd (c.if-load-ne-DONE.true
    (c.load.ensures.2.2 (subst (IsNoted c.args.main.now.seat.me.0) (sym (quarter c.args.index)) has) alone))

pub returns-clause-swept : goal.returns-clause-swept
returns-clause-swept c = λ _ alone.
    subst (IsSwept c.args.main.now.seat.me.0) (quarter c.args.index)
    (c.load.ensures.2.3 c.if-load-ne-DONE.false alone)

pub load-freed-requires : goal.load-freed-requires
load-freed-requires c =
    let seen = after_look c.args.main.now.seat.me c.load.new.seat.me _ c.load.result _ c.load.ensures.2.0
    c.if-load-ne-DONE.false in (
      search rules,
      search rules,
      reading_freed _ _ _ _ c.args.index
          (subst (λ js. c.args.index < length js.items) (sym c.args.self.now.keyed) c.requires.index)
          (ap (λ (m : BoardSeat). m.0.jobs) seen ∙ c.requires.board.1 ∙ sym (ap (λ v. v.items) c.args.self.now.keyed)),
    )

pub load-black-requires : goal.load-black-requires
load-black-requires c =
    let seen = after_look c.args.main.now.seat.me c.load.new.seat.me _ c.load.result _ c.load.ensures.2.0
    c.if-load-ne-DONE.false in
    let now = c.load-freed.ensures.2.0 ∙ seen in (
      search rules,
      search rules,
      taking _ _ _ _ c.args.index
          (subst (λ js. c.args.index < length js.items) (sym c.args.self.now.keyed) c.requires.index)
          (ap (λ (m : BoardSeat). m.0.jobs) now ∙ c.requires.board.1 ∙ sym (ap (λ v. v.items) c.args.self.now.keyed))
          (ap (λ (m : BoardSeat). m.0.role) now ∙ c.args.main.now.mains)
          (subst (λ (m : BoardSeat). IsDone m.0 c.args.index) (sym now) (0, omega arith, quarter c.args.index)),
    )

use Rattle.std.proofs.Common.{rules, ◌∙◌, ◌<◌, sym, subst, ap, length}
use Rattle.cell_bits.specs.declared.jobs.Job.{Job}
use Rattle.cell_bits.specs.Colours.{white_mask_of}
use Rattle.sweep_board.proofs.HelperSteps.{loading_black, loading_gob, storing_freed, storing_done}
use Rattle.sweep_board.proofs.AfterSteps.{after_black, after_gob, after_store, jobs_black, jobs_gob, job_read}
use Rattle.sweep_board.proofs.board.Board.sweep.Goals as goal

pub load-black-requires : goal.load-black-requires
load-black-requires c = (
  search rules,
  search rules,
  loading_black _ _ _ _ c.args.claim.index
      (subst (λ js. c.args.claim.index < length js.items) (sym c.args.self.now.keyed) c.requires.index) c.requires.own,
)

pub load-gob-requires : goal.load-gob-requires
load-gob-requires c = (
  search rules,
  search rules,
  loading_gob _ _ _ _ c.args.claim.index
      (subst (λ js. c.args.claim.index < length js.items) (sym c.args.self.now.keyed) c.requires.index) _
      (after_black _ _ _ _ c.load-black.ensures.2 c.requires.own),
)

pub store-requires : goal.store-requires
store-requires c = (
  search rules,
  search rules,
  storing_freed _ _ _ _ c.args.claim.index
      (subst (λ js. c.args.claim.index < length js.items) (sym c.args.self.now.keyed) c.requires.index) _ _ _
      (jobs_gob c.load-black.new.seat.me c.load-gob.new.seat.me c.load-gob.result c.load-gob.ensures.2
      ∙ jobs_black c.args.seat.now.seat.me c.load-black.new.seat.me c.load-black.result c.load-black.ensures.2
      ∙ c.requires.board.1 ∙ sym (ap (λ v. v.items) c.args.self.now.keyed))
      (after_gob _ _ _ _ _ c.load-gob.ensures.2 (after_black _ _ _ _ c.load-black.ensures.2 c.requires.own))
      (c.white_mask-freed.ensures.word
      ∙ ap (λ (j : Job). white_mask_of record { black = c.load-black.result; gob = c.load-gob.result } j.alloc_word)
      (sym (job_read c.args.self.now.jobs.items _ c.args.claim.index c.index.result.now c.requires.index c.index.ensures
      (ap (λ v. v.items) c.args.self.now.keyed)))),
)

pub store-requires-2 : goal.store-requires-2
store-requires-2 c = (
  search rules,
  search rules,
  storing_done _ _ _ _ c.args.claim.index
      (subst (λ js. c.args.claim.index < length js.items) (sym c.args.self.now.keyed) c.requires.index)
      (after_store _ _ _ _ _ c.store.ensures.2.0
      (after_gob _ _ _ _ _ c.load-gob.ensures.2 (after_black _ _ _ _ c.load-black.ensures.2 c.requires.own))),
)

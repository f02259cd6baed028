use Rattle.std.proofs.Common.{◌∙◌, Some, inl, inr, refl}
use Rattle.judge.proofs.Laid.{cell_in, laid_as, laid_moved, same_lying}
use Rattle.judge.proofs.Slots.{empty_after}
use Rattle.judge.proofs.places.shift.Goals as goal

pub returns-clause-elsewhere : goal.returns-clause-elsewhere
returns-clause-elsewhere c = λ q apart e.
    empty_after c.occupy.new.self.lying c.vacate.new.self.lying c.args.was q c.vacate.ensures.updates
    (elim (cell_in c.args.arenas.now.lying c.occupy.new.self.lying c.args.place q (Some c.args.name)
    c.in_ok-occupy.ensures.updates) [ inl here ↦ absurd (apart here.0) | inr elsewhere ↦ elsewhere.1 ∙ e ])

pub returns-clause-laid : goal.returns-clause-laid
returns-clause-laid c = λ laid.
    laid_moved c.args.places.now c.insert.new.self c.args.arenas.now.lying c.occupy.new.self.lying
    c.vacate.new.self.lying c.args.name c.args.was c.args.place (record {
      at = c.requires.at;
      empty = c.requires.empty;
      put = c.in_ok-insert.ensures.updates;
      lain = c.in_ok-occupy.ensures.updates;
      emptied = c.vacate.ensures.updates;
    }) laid

pub returns-in_err-occupy-clause-laid : goal.returns-in_err-occupy-clause-laid
returns-in_err-occupy-clause-laid c = λ laid.
    laid_as c.args.places.now c.args.places.now c.args.arenas.now.lying c.occupy.new.self.lying (λ x. refl)
    (same_lying c.args.arenas.now.lying c.occupy.new.self.lying c.in_err-occupy.ensures.unchanged) laid

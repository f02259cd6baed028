use Rattle.std.proofs.Common.{◌∙◌, refl, sym}
use Rattle.judge.proofs.Laid.{lain_undone, laid_as, laid_more, same_cells, same_lying}
use Rattle.judge.proofs.Results.{err_is, ok_is}
use Rattle.judge.proofs.places.lay.Goals as goal

pub returns-in_err-occupy-clause-laid : goal.returns-in_err-occupy-clause-laid
returns-in_err-occupy-clause-laid c = λ laid.
    laid_as c.args.places.now c.args.places.now c.args.arenas.now.lying c.occupy.new.self.lying (λ x. refl)
    (same_lying c.args.arenas.now.lying c.occupy.new.self.lying c.in_err-occupy.ensures.unchanged) laid

pub returns-then-is_err-clause-laid : goal.returns-then-is_err-clause-laid
returns-then-is_err-clause-laid c = λ laid.
    let unchanged = err_is c.insert.result (sym c.is_err.ensures.value ∙ c.if-is_err.true) c.insert.ensures.err in
    laid_as c.args.places.now c.insert.new.self c.args.arenas.now.lying c.vacate.new.self.lying
    (same_cells c.args.places.now c.insert.new.self unchanged)
    (lain_undone c.args.arenas.now.lying c.occupy.new.self.lying c.vacate.new.self.lying c.args.place c.args.name
    c.requires.empty c.in_ok-occupy.ensures.updates c.vacate.ensures.updates) laid

pub returns-clause-laid : goal.returns-clause-laid
returns-clause-laid c = λ laid.
    let put = ok_is c.insert.result (sym c.is_err.ensures.value ∙ c.if-is_err.false) c.insert.ensures.updates in
    laid_more c.args.places.now c.insert.new.self c.args.arenas.now.lying c.occupy.new.self.lying c.args.name
    c.args.place (record {
      absent = c.requires.absent;
      empty = c.requires.empty;
      put = put;
      lain = c.in_ok-occupy.ensures.updates;
    }) laid

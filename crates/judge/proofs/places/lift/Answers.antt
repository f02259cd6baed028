use Rattle.std.proofs.Common.{◌∙◌, refl, sym}
use Rattle.judge.proofs.Laid.{laid_as, laid_less, same_cells}
use Rattle.judge.proofs.Results.{none_is}
use Rattle.judge.proofs.places.lift.Goals as goal

pub returns-in-Some-clause-laid : goal.returns-in-Some-clause-laid
returns-in-Some-clause-laid c = λ laid.
    laid_less c.args.places.now c.remove.new.self c.args.arenas.now.lying c.vacate.new.self.lying c.args.name
    c.in-Some.place (record {
      at = sym c.remove.ensures.value ∙ c.in-Some.is;
      taken = c.remove.ensures.updates;
      emptied = c.vacate.ensures.updates;
    }) laid

pub returns-in_default-clause-laid : goal.returns-in_default-clause-laid
returns-in_default-clause-laid c = λ laid.
    laid_as c.args.places.now c.remove.new.self c.args.arenas.now.lying c.args.arenas.now.lying
    (same_cells c.args.places.now c.remove.new.self
    (none_is c.remove.result c.in_default.is c.remove.ensures.unchanged))
    (λ p. refl) laid

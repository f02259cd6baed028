use Rattle.std.proofs.Common.{◌≡◌, ◌∙◌, ap, length, Some, arith}
use Rattle.std.proofs.lemmas.Grind.{common_steps}
use Rattle.judge.specs.Stages.{collecting, groups_in}
use Rattle.judge.proofs.Reading.{no_length}
use Rattle.judge.proofs.Stages.{some_first}
use Rattle.judge.proofs.collection.Collection.due_report.Goals as goal

pub returns-in-None : goal.returns-in-None
returns-in-None c =
    let k = c.args.self.now in (k.zones, k.marking, ap (λ g. collecting k.zones k.marking (groups_in g)) c.in-None.is)

pub returns-in-Some : goal.returns-in-Some
returns-in-Some c =
    let k = c.args.self.now in
    let none : length c.in-Some.groups.items ≡ 0 = first_of (omega arith, grind (arith, common_steps)) in (
      k.zones,
      k.marking,
      ap (λ g. collecting k.zones k.marking (groups_in g)) c.in-Some.is
          ∙ ap (λ xs. collecting k.zones k.marking (Some xs)) (no_length c.in-Some.groups.items none),
    )

pub returns-in-Some-2 : goal.returns-in-Some-2
returns-in-Some-2 c =
    let k = c.args.self.now in
    let first = some_first c.in-Some-2.field-0.items (λ e. first_of (omega arith, grind (arith, common_steps))) in (
      first.0,
      (
        k.zones,
        k.marking,
        first.1,
        ap (λ g. collecting k.zones k.marking (groups_in g)) c.in-Some-2.is
            ∙ ap (λ xs. collecting k.zones k.marking (Some xs)) first.2,
      ),
    )

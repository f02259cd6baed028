use Rattle.std.proofs.Common.{◌∙◌, ◌+◌, length, ap, sym, refl}
use Rattle.dump_check.specs.Checking.{part_number, Progress}
use Rattle.dump_check.proofs.Reading.{sound_of, end_of, open_part}
use Rattle.dump_check.proofs.checker.Checker.end.Goals as goal

pub returns-in-End : goal.returns-in-End
returns-in-End c = λ ls s e.
    let v = c.self.view_is ∙ e in (
      sound_of ls s (sym (ap (λ (p : Progress). p.part) v) ∙ ap part_number c.in-End.is),
      c.len.ensures ∙ ap (λ (p : Progress). length p.cells) v,
      ap (λ (p : Progress). p.edges) v,
      ap (λ (p : Progress). p.entries) v,
    )

pub returns : goal.returns
returns c = λ ls s e.
    let v = c.self.view_is ∙ e in (
      ap (λ (p : Progress). p.lines + 1) v,
      refl,
      λ d. open_part c.self.inside.part c.in-Cells.is (ap (λ (p : Progress). p.part) v ∙ end_of ls d),
    )

use Rattle.std.proofs.Common.{◌≡◌, ◌∙◌, ◌+◌, ◌-◌, ap, arith, drop, length, sym, take}
use Rattle.std.proofs.lemmas.List.{length-drop, length-take-le, take_all}
use Rattle.judge.proofs.GroupLines.{first_bar, one_group}
use Rattle.judge.proofs.group_lines.first_group.Goals as goal

pub returns-in-None : goal.returns-in-None
returns-in-None c = λ group groups e.
    one_group c.args.text.now group groups c.in-None.ensures.none e

pub returns-in-Some : goal.returns-in-Some
returns-in-Some c = λ group groups e.
    let text = c.args.text.now in
    let bar = c.in-Some.bar in
    let found = c.in-Some.ensures.some in
    let r = first_bar text (take bar text) (drop (bar + 1) text) group groups found.1 found.2 e in
    let count : length (take bar text) - 1 ≡ c.saturating_sub.result =
    omega (arith, length-take-le bar text (omega (arith, found.0)), c.saturating_sub.ensures) in (
      ap (λ n. take n text) (sym count) ∙ r.0,
      (r.1, take_all (length text - (bar + 1)) (drop (bar + 1) text) (omega (arith, length-drop (bar + 1) text)) ∙ r.2),
    )

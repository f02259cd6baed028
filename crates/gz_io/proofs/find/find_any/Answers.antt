use Rattle.std.proofs.Common.{rules, arith, ap, get_or, ◌∙◌, ◌<◌, ◌≢◌}
use Rattle.std.proofs.lemmas.List.{take-take, length-take}
use Rattle.gz_io.proofs.Lanes.{high_byte}
use Rattle.gz_io.proofs.find.find_any.Goals as goal

pub returns-in-Some-2 : goal.returns-in-Some-2
returns-in-Some-2 c =
    let bytes = c.args.bytes.now in
    let end = c.plain_end-end.result in
    let most = length-take c.min.result bytes in
    let few : end < 255 = omega (arith, most) in
    let at = c.in-Some-2.ensures.lookup in
    let other : get_or bytes end 0 ≢ 10 = λ e. c.in-Some.field-0-test.1 (ap (λ b. b.now) c.in-Some-2.field-0-is
    ∙ at.3.1 0 ∙ e) in (
      end,
      few,
      at.3.0,
      search (rules, take-take, c.plain_end-end.ensures.plain),
      high_byte bytes c.min.result end (omega (arith, at.3.0))
          (c.plain_end-end.ensures.stop (omega (arith, most, at.3.0))) other,
    )

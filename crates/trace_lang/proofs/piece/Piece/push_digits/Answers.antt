use Rattle.std.proofs.Common.{◌∙◌, ◌++◌, ap, arith, length}
use Rattle.std.specs.Fmt.{decimal}
use Rattle.std.proofs.lemmas.List.{length-append, length-take}
use Rattle.trace_lang.proofs.Lengths.{written_on}
use Rattle.trace_lang.proofs.piece.Piece.push_digits.Goals as goal

pub overflow_add-end : goal.overflow_add-end
overflow_add-end c = omega (arith, c.self.invariant.0, c.digit_count.ensures.most)

pub write_digits-requires : goal.write_digits-requires
write_digits-requires c =
    let held = ap length c.self.view_is in
    let len = length-take c.self.inside.len c.self.inside.buf in (
      omega (arith, c.digit_count.ensures.count),
      omega (arith, held, len, c.self.invariant.0, c.self.invariant.1, c.digit_count.ensures.most, c.requires),
    )

pub returns-clause-text : goal.returns-clause-text
returns-clause-text c =
    let b = c.self.inside in
    let w = c.write_digits.ensures in
    written_on b.buf c.write_digits.new.buf (decimal c.args.n) b.len c.digit_count.result c.write_digits.result
    (omega (arith, w.start, c.digit_count.ensures.count)) c.digit_count.ensures.count w.written w.before
    ∙ ap (λ t. t ++ decimal c.args.n) c.self.view_is

pub returns-clause-size : goal.returns-clause-size
returns-clause-size c = omega (
  arith,
  ap length (returns-clause-text c),
  length-append c.args.self.now (decimal c.args.n),
  c.digit_count.ensures.count,
  c.digit_count.ensures.most,
)

use Rattle.std.proofs.Common.{arith, ap, length, drop}
use Rattle.std.specs.Fmt.{decimal}
use Rattle.std.proofs.lemmas.List.{length-append, length-drop}
use Rattle.std.proofs.lemmas.Fmt.{length-decimal-le}
use Rattle.trace_lang.proofs.tail.Tail.number.Goals as goal

pub write_digits-self-inside-requires : goal.write_digits-self-inside-requires
write_digits-self-inside-requires c =
    let held = ap length c.self.view_is in
    let fits = length-decimal-le 20 c.args.n (omega arith) (omega (arith, c.ranges.n)) (omega (arith, c.ranges.n)) in
    (omega (arith, held, length-drop c.self.inside.start c.self.inside.buf, fits), omega arith)

pub returns-clause-size : goal.returns-clause-size
returns-clause-size c =
    let held = ap length c.self.view_is in
    let fits = length-decimal-le 20 c.args.n (omega arith) (omega (arith, c.ranges.n)) (omega (arith, c.ranges.n)) in
    omega (
      arith,
      held,
      ap length c.write_digits-self-inside.ensures.written,
      length-append (decimal c.args.n)
          (drop c.self.inside.start c.self.inside.buf),
      fits,
    )

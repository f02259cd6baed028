use Rattle.std.proofs.Common.{◌/◌, length, arith, refl}
use Rattle.std.specs.Fmt.{decimal}
use Rattle.std.proofs.lemmas.Fmt.{length-decimal-le}
use Rattle.trace_lang.proofs.Lengths.{length_more}
use Rattle.trace_lang.proofs.piece.digit_count.Goals as goal

pub overflow_add-count : goal.overflow_add-count
overflow_add-count c =
    let few = length-decimal-le 20 c.args.n (omega arith) (omega (arith, c.ranges.n)) (omega (arith, c.ranges.n)) in
    let before = c.loop-left.invariant.counted in omega (arith, before, few)

pub overflow_add-result : goal.overflow_add-result
overflow_add-result c =
    let few = length-decimal-le 20 c.args.n (omega arith) (omega (arith, c.ranges.n)) (omega (arith, c.ranges.n)) in
    let before = c.loop-left.invariant.counted in omega (arith, before, few, c.short_count.ensures)

pub returns-clause-count : goal.returns-clause-count
returns-clause-count c = let before = c.loop-left.invariant.counted in omega (arith, before, c.short_count.ensures)

pub returns-clause-most : goal.returns-clause-most
returns-clause-most c =
    let few = length-decimal-le 20 c.args.n (omega arith) (omega (arith, c.ranges.n)) (omega (arith, c.ranges.n)) in
    let before = c.loop-left.invariant.counted in omega (arith, before, few, c.short_count.ensures)

pub loop-left-preserved : goal.loop-left-preserved
loop-left-preserved c =
    let n = c.loop-left.left in
    let more = length_more (length (decimal (n / 10))) n (omega (arith, c.loop-left-test.true))
    (omega (arith, c.loop-left.invariant.less, c.ranges.n)) refl in record {
      counted = (let before = c.loop-left.invariant.counted in omega (arith, before, more));
      less = (let le = c.loop-left.invariant.less in omega (arith, le));
    }

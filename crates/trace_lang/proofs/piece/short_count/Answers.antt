use Rattle.std.proofs.Common.{arith, sym}
use Rattle.trace_lang.proofs.Lengths.{five_long, four_long, one_long, three_long, two_long}
use Rattle.trace_lang.proofs.piece.short_count.Goals as goal

pub returns-then-n-lt10 : goal.returns-then-n-lt10
returns-then-n-lt10 c = sym (one_long c.args.n (omega (arith, c.if-n-lt10.true)))

pub returns-then-n-lt100 : goal.returns-then-n-lt100
returns-then-n-lt100 c =
    sym (two_long c.args.n (omega (arith, c.if-n-lt10.false)) (omega (arith, c.if-n-lt100.true)))

pub returns-then-n-lt1000 : goal.returns-then-n-lt1000
returns-then-n-lt1000 c =
    sym (three_long c.args.n (omega (arith, c.if-n-lt100.false)) (omega (arith, c.if-n-lt1000.true)))

pub returns-then-n-lt10000 : goal.returns-then-n-lt10000
returns-then-n-lt10000 c =
    sym (four_long c.args.n (omega (arith, c.if-n-lt1000.false)) (omega (arith, c.if-n-lt10000.true)))

pub returns-else-n-lt10000 : goal.returns-else-n-lt10000
returns-else-n-lt10000 c =
    sym (five_long c.args.n (omega (arith, c.if-n-lt10000.false)) (omega (arith, c.requires)))

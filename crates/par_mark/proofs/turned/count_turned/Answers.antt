use Rattle.std.proofs.Common.{ℕ, ap, arith, length}
use Rattle.mark_words.specs.Places.{places_of}
use Rattle.par_mark.proofs.TurnedCells.{few_named, length-more, ones_named}
use Rattle.par_mark.proofs.turned.count_turned.Goals as goal

pub loop-arena-preserved : goal.loop-arena-preserved
loop-arena-preserved c =
    let n = c.loop-arena.arena in
    let named = ones_named n c.turned_in.result c.turned_in.type_inv in
    let few = few_named n c.turned_in.result in
    let same = ap (λ (slots : ℕ). length (places_of n slots)) c.turned_in.ensures in
    let more = length-more c.args.before.now c.args.after.now n in
    (omega arith, omega arith)

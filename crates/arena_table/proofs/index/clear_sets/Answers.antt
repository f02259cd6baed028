use Rattle.std.proofs.Common.{◌<◌, ◌∙◌, [], length, sym, ap, arith, w64}
use Rattle.std.proofs.lemmas.List.{get_or_default}
use Rattle.std.proofs.lemmas.Nat.Bits.{bit_at-trailing_zeros}
use Rattle.std.specs.Int.{trailing_zeros}
use Rattle.arena_table.proofs.Clearing.{IsClearing-more, cleared-all}
use Rattle.arena_table.proofs.index.clear_sets.Goals as goal

pub loop-left-preserved : goal.loop-left-preserved
loop-left-preserved c =
    let now = c.loop-left.sets in
    let some : 0 < c.loop-left.left = omega (arith, c.loop-left-test.true) in
    let lowest = bit_at-trailing_zeros w64 c.loop-left.left some c.loop-left.auto.left-fits.fits in
    let t = trailing_zeros w64 c.loop-left.left in
    let inside : t < length now = omega (arith, lowest.0, c.requires, c.loop-left.invariant.long) in
    IsClearing-more c.args.sets.now now c.args.zones c.loop-left.left c.clear.new.self c.loop-left.invariant some
    c.loop-left.auto.left-fits.fits inside
    (c.clear.ensures.room ∙ ap length (sym (get_or_default now t [] c.index-sets-left.result inside)))
    c.clear.ensures.bits

pub returns-clause-bits : goal.returns-clause-bits
returns-clause-bits c = cleared-all c.args.sets.now c.loop-left.sets c.args.zones c.loop-left.left c.loop-left.invariant
    c.loop-left-test.false

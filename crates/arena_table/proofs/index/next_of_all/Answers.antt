use Rattle.std.proofs.Common.{◌≡◌, ◌≢◌, ◌<◌, ◌∙◌, [], ℕ, IfSome, sym, subst, ap, arith, slice_index, w64, List}
use Rattle.std.proofs.lemmas.List.{get_or_default}
use Rattle.std.proofs.lemmas.Nat.Bits.{bit_at-trailing_zeros}
use Rattle.std.specs.Int.{trailing_zeros}
use Rattle.arena_table.specs.Indexed.{words_at}
use Rattle.arena_table.proofs.Uniting.{IsSeeking-more, sought-all}
use Rattle.arena_table.proofs.index.next_of_all.Goals as goal

pub loop-left-preserved : goal.loop-left-preserved
loop-left-preserved c =
    let some : 0 < c.loop-left.left = omega (arith, c.loop-left-test.true) in
    let lowest = bit_at-trailing_zeros w64 c.loop-left.left some c.loop-left.auto.left-fits.fits in
    let t = trailing_zeros w64 c.loop-left.left in
    let inside : t < 64 = lowest.0 in
    let set : words_at c.args.sets.now t ≡ c.index-sets-left.result =
    get_or_default c.args.sets.now t [] c.index-sets-left.result (omega (arith, c.requires.sets))
    ∙ sym c.index-sets-left.is in
    IsSeeking-more c.args.sets.now c.args.zones c.args.from c.loop-left.left c.loop-left.lowest c.next_word-next.result
    c.lower-lowest.result c.loop-left.invariant some c.loop-left.auto.left-fits.fits c.next_word-next.ensures.on
    (subst (λ (ws : List ℕ). IfSome c.next_word-next.result (λ at. slice_index ws at ≢ 0)) (sym set)
    c.next_word-next.ensures.some)
    (λ word ge before. ap (λ (ws : List ℕ). slice_index ws word) set ∙ c.next_word-next.ensures.lowest word ge before)
    c.lower-lowest.ensures.one c.lower-lowest.ensures.lowest

pub returns-clause-lowest : goal.returns-clause-lowest
returns-clause-lowest c = sought-all c.args.sets.now c.args.zones c.args.from c.loop-left.left c.loop-left.lowest
    c.loop-left.invariant c.loop-left-test.false

use Rattle.std.proofs.Common.{◌≡◌, ◌<◌, ◌∙◌, [], sym, ap, arith, slice_index, w64}
use Rattle.std.proofs.lemmas.List.{get_or_default}
use Rattle.std.proofs.lemmas.Nat.Bits.{bit_at-trailing_zeros}
use Rattle.std.specs.Int.{bit_at, trailing_zeros}
use Rattle.arena_table.specs.Indexed.{words_at}
use Rattle.arena_table.proofs.Uniting.{IsUniting-more, united-all}
use Rattle.arena_table.proofs.index.united.Goals as goal

pub loop-left-preserved : goal.loop-left-preserved
loop-left-preserved c =
    let some : 0 < c.loop-left.left = omega (arith, c.loop-left-test.true) in
    let lowest = bit_at-trailing_zeros w64 c.loop-left.left some c.loop-left.auto.left-fits.fits in
    let t = trailing_zeros w64 c.loop-left.left in
    let inside : t < 64 = lowest.0 in
    let set : words_at c.args.sets.now t ≡ c.index-sets-left.result =
    get_or_default c.args.sets.now t [] c.index-sets-left.result (omega (arith, c.requires))
    ∙ sym c.index-sets-left.is in
    let word : c.word-word.result ≡ slice_index (words_at c.args.sets.now t) c.args.at = c.word-word.ensures
    ∙ ap (λ ws. slice_index ws c.args.at) (sym set) in
    IsUniting-more c.args.sets.now c.args.zones c.args.at c.loop-left.left c.loop-left.word c.word-word.result
    c.loop-left.invariant some c.loop-left.auto.left-fits.fits (λ k lt one. ap (λ w. bit_at w k) (sym word) ∙ one)
    (λ k lt bit. ap (λ w. bit_at w k) word ∙ bit)

pub returns : goal.returns
returns c = united-all c.args.sets.now c.args.zones c.args.at c.loop-left.left c.loop-left.word c.loop-left.invariant
    c.loop-left-test.false

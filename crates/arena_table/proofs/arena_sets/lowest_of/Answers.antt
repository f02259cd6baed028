use Rattle.std.proofs.Common.{refl, arith, get_or, w64, ◌<◌}
use Rattle.std.proofs.lemmas.Nat.Bits.{bit_at-trailing_zeros}
use Rattle.std.specs.Int.{trailing_zeros}
use Rattle.arena_table.proofs.WordBits.{within-from_some, bit-lowest, bits-below_lowest, words-before}
use Rattle.arena_table.proofs.arena_sets.lowest_of.Goals as goal

pub overflow_add-result : goal.overflow_add-result
overflow_add-result c =
    let some = (c.requires.summed c.in_ok-at.at).0 c.in_ok-at.ensures.some in
    let within = within-from_some c.args.words.now c.in_ok-at.at some in
    let few = c.requires.few in
    let zeros = bit_at-trailing_zeros w64 (get_or c.args.words.now c.in_ok-at.at 0) (omega arith)
    (c.type_inv.words c.in_ok-at.at).fits in
    let below : trailing_zeros w64 (get_or c.args.words.now c.in_ok-at.at 0) < 64 = zeros.0 in
    omega arith

pub returns-clause-few : goal.returns-clause-few
returns-clause-few c =
    let some = (c.requires.summed c.in_ok-at.at).0 c.in_ok-at.ensures.some in
    let within = within-from_some c.args.words.now c.in_ok-at.at some in
    let few = c.requires.few in
    let zeros = bit_at-trailing_zeros w64 (get_or c.args.words.now c.in_ok-at.at 0) (omega arith)
    (c.type_inv.words c.in_ok-at.at).fits in
    let below : trailing_zeros w64 (get_or c.args.words.now c.in_ok-at.at 0) < 64 = zeros.0 in
    omega arith

pub returns-clause-some : goal.returns-clause-some
returns-clause-some c =
    bit-lowest c.args.words.now c.in_ok-at.at _ refl ((c.requires.summed c.in_ok-at.at).0 c.in_ok-at.ensures.some)
    (c.type_inv.words c.in_ok-at.at).fits

pub returns-clause-lowest : goal.returns-clause-lowest
returns-clause-lowest c =
    bits-below_lowest c.args.words.now c.in_ok-at.at _ refl
    ((c.requires.summed c.in_ok-at.at).0 c.in_ok-at.ensures.some) (c.type_inv.words c.in_ok-at.at).fits
    (words-before c.args.words.now c.args.groups.now c.in_ok-at.at c.requires
    (λ w lt. c.in_ok-at.ensures.lowest w (omega arith) lt))

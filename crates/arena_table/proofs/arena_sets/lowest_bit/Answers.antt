use Rattle.std.proofs.Common.{refl}
use Rattle.arena_table.proofs.WordBits.{bit-lowest, bits-between}
use Rattle.arena_table.proofs.arena_sets.lowest_bit.Goals as goal

pub returns-then-word-ne0-clause-some : goal.returns-then-word-ne0-clause-some
returns-then-word-ne0-clause-some c = bit-lowest c.args.words.now c.loop-at.at _ refl c.if-word-ne0.true
    (c.type_inv.words c.loop-at.at).fits

pub returns-then-word-ne0-clause-lowest : goal.returns-then-word-ne0-clause-lowest
returns-then-word-ne0-clause-lowest c = bits-between c.args.words.now c.args.first c.loop-at.at _ refl
    c.if-word-ne0.true (c.type_inv.words c.loop-at.at).fits c.loop-at.invariant

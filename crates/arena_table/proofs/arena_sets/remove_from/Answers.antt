use Rattle.std.proofs.Common.{arith}
use Rattle.arena_table.proofs.WordBits.{IsSummed-emptied, IsSummed-left}
use Rattle.arena_table.proofs.arena_sets.remove_from.Goals as goal

pub returns-then-words-arena-eq0-clause-summed : goal.returns-then-words-arena-eq0-clause-summed
returns-then-words-arena-eq0-clause-summed c =
    IsSummed-emptied c.args.words.now c.args.groups.now c.clear_bit.new.words c.clear_bit-then-words-arena-eq0.new.words
    c.args.arena c.requires.summed (omega arith) (omega arith) c.if-words-arena-eq0.true c.clear_bit.ensures.others
    c.clear_bit-then-words-arena-eq0.ensures.bits

pub returns-else-words-arena-eq0-clause-summed : goal.returns-else-words-arena-eq0-clause-summed
returns-else-words-arena-eq0-clause-summed c =
    IsSummed-left c.args.words.now c.args.groups.now c.clear_bit.new.words c.args.arena c.requires.summed (omega arith)
    c.requires.room c.if-words-arena-eq0.false c.clear_bit.ensures.zero c.clear_bit.ensures.others

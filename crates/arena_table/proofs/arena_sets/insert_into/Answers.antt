use Rattle.std.proofs.Common.{◌∙◌, refl, arith}
use Rattle.arena_table.proofs.WordBits.{IsSummed-insert, if_same}
use Rattle.arena_table.proofs.arena_sets.insert_into.Goals as goal

pub returns-clause-summed : goal.returns-clause-summed
returns-clause-summed c =
    let one = c.set_bit.ensures.bits c.args.arena ∙ if_same c.args.arena c.args.arena 1 _ refl in
    IsSummed-insert c.args.words.now c.args.groups.now c.set_bit.new.words c.set_bit-2.new.words c.args.arena
    c.requires.summed (omega arith) (omega arith) one c.set_bit.ensures.others c.set_bit-2.ensures.bits

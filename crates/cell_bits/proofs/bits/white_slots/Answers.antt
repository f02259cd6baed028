use Rattle.cell_bits.proofs.Words.{bit_at-white}
use Rattle.cell_bits.proofs.bits.white_slots.Goals as goal

pub returns-clause-slots : goal.returns-clause-slots
returns-clause-slots c = λ s h. bit_at-white c.args.alloc_word c.args.black c.args.gob s c.ranges.black.fits
    c.ranges.gob.fits h

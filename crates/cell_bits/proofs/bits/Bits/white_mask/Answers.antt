use Rattle.cell_bits.proofs.Words.{colour_of-white}
use Rattle.cell_bits.proofs.bits.Bits.white_mask.Goals as goal

pub returns-clause-slots : goal.returns-clause-slots
returns-clause-slots c = λ s h.
    let slots = c.white_slots.ensures.slots s h in
    let white = colour_of-white c.args.self.now s in (
      λ one. ((slots.0 one).0, white.1 ((slots.0 one).1, (slots.0 one).2)),
      λ p. slots.1 (p.0, (white.0 p.1).0, (white.0 p.1).1),
    )

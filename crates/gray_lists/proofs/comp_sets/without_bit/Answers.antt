use Rattle.std.proofs.Common.{arith}
use Rattle.gz_names.proofs.Words.{HasZone-minus, HasZone-only}
use Rattle.gray_lists.proofs.comp_sets.without_bit.Goals as goal

pub returns : goal.returns
returns c = λ b. (
  λ h. (let x = (HasZone-minus c.args.word _ b (omega arith)).0 h in
      (x.0, λ same. x.1 ((HasZone-only c.args.bit b c.requires).1 same))),
  λ h. (HasZone-minus c.args.word _ b (omega arith)).1 (h.0, λ one. h.1 ((HasZone-only c.args.bit b c.requires).0 one)),
)

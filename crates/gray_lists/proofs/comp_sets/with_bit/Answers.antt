use Rattle.std.proofs.Common.{inl, inr}
use Rattle.gz_names.proofs.Words.{HasZone-only, HasZone-or}
use Rattle.gray_lists.proofs.comp_sets.with_bit.Goals as goal

pub returns : goal.returns
returns c = λ b. (
  λ h. elim ((HasZone-or c.args.word _ b).0 h) [
    | inl old ↦ inl old
    | inr one ↦
        inr ((HasZone-only c.args.bit b c.requires).0 one)
  ],
  λ h. (HasZone-or c.args.word _ b).1 (elim h [
    | inl old ↦ inl old
    | inr same ↦ inr ((HasZone-only c.args.bit b
        c.requires).1 same)
  ]),
)

use Rattle.std.proofs.Common.{inl, inr}
use Rattle.gz_names.proofs.Words.{HasZone-or, HasZone-only}
use Rattle.trace_lang.proofs.zone_bits.with_zone.Goals as goal

pub returns : goal.returns
returns c = λ z.
    let o = HasZone-or c.args.bits _ z in
    let k = HasZone-only c.args.zone z c.requires in (
      λ h. elim (o.0 h) [ inl a ↦ inl a | inr b ↦ inr (k.0 b) ],
      λ h. o.1 (elim h [ inl a ↦ inl a | inr b ↦ inr (k.1 b) ]),
    )

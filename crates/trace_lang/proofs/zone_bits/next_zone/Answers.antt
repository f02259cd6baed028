use Rattle.std.proofs.Common.{◌<◌, ◌-◌, ◌/◌, ◌^◌, ℕ, arith, subst, sym}
use Rattle.std.proofs.lemmas.Nat.{shr_le}
use Rattle.gz_names.specs.Zones.{HasZone}
use Rattle.gz_names.proofs.Words.{HasZone-below, HasZone-first, HasZone-lowest, HasZone-none}
use Rattle.trace_lang.proofs.ZoneLists.{zone_from-shifted, zone_shifted}
use Rattle.trace_lang.proofs.zone_bits.next_zone.Goals as goal

pub returns-then-from-ge64-clause-none : goal.returns-then-from-ge64-clause-none
returns-then-from-ge64-clause-none c = λ y ge h.
    let below = HasZone-below c.args.bits y h in omega (arith, c.if-from-ge64.true)

pub returns-then-rest-eq0-clause-none : goal.returns-then-rest-eq0-clause-none
returns-then-rest-eq0-clause-none c = λ y ge h.
    HasZone-none (y - c.args.from) (subst (λ (s : ℕ). HasZone s (y - c.args.from)) c.if-rest-eq0.true
    (zone_shifted c.args.bits c.args.from y ge h))

pub returns-clause-some : goal.returns-clause-some
returns-clause-some c =
    let rest = c.args.bits / 2 ^ c.args.from in
    let fits : rest < 2 ^ 64 = omega (arith, shr_le c.args.bits c.args.from, c.ranges.bits.fits) in
    let first = HasZone-first rest (omega (arith, c.if-rest-eq0.false)) fits in (
      omega arith,
      zone_from-shifted c.args.bits c.args.from c.from.result c.ranges.bits.fits
          (subst (λ (k : ℕ). HasZone rest k) (sym c.from.ensures) first.1),
    )

pub returns-clause-lowest : goal.returns-clause-lowest
returns-clause-lowest c = λ y ge lt h.
    let rest = c.args.bits / 2 ^ c.args.from in
    let fits : rest < 2 ^ 64 = omega (arith, shr_le c.args.bits c.args.from, c.ranges.bits.fits) in
    HasZone-lowest rest (omega (arith, c.if-rest-eq0.false)) fits (y - c.args.from)
    (let e = c.from.ensures in omega (arith, e))
    (zone_shifted c.args.bits c.args.from y ge h)

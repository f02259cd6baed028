use Rattle.std.proofs.Common.{◌∙◌, Bool, ap, arith, cond, refl}
use Rattle.gz_names.specs.Zones.{zones_from}
use Rattle.judge.proofs.Tallies.{byte_is, byte_most, zones_counted, zones_next}
use Rattle.judge.proofs.tally.zone_count.Goals as goal

pub loop-index-init : goal.loop-index-init
unfolding zones_from
loop-index-init c = record { few = omega arith; counted = refl }

pub loop-index-preserved : goal.loop-index-preserved
loop-index-preserved c =
    let one = c.from-count.ensures ∙ byte_is c.has_zone.result ∙ ap (λ (b : Bool). cond b 1 0) c.has_zone.ensures in
    record {
      few = omega (arith, c.from-count.ensures, byte_most c.has_zone.result);
      counted = omega (arith, one, zones_next c.args.zones.bits c.loop-index.index);
    }

pub returns : goal.returns
returns c =
    zones_counted c.args.zones c.loop-index.index c.loop-index.count (omega arith) c.loop-index.invariant.counted

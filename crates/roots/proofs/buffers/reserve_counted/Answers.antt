use Rattle.std.proofs.Common.{◌∙◌, ◌<◌, length, slice_index, refl, arith}
use Rattle.roots.proofs.Buffering.{HasRoom-held, HasRoom-more, lists_of-same}
use Rattle.gz_names.proofs.ZoneCounts.{fewer_zones}
use Rattle.roots.proofs.buffers.reserve_counted.Goals as goal

pub loop-zone-init : goal.loop-zone-init
loop-zone-init c = record {
  same = refl;
  room = λ z lt out. (let held = HasRoom-held c.args.buffers.now z (omega (arith, c.requires.zones)) in
      let none = c.requires.others z lt out in omega arith);
}

pub returns-in_err-reserve-clause-same : goal.returns-in_err-reserve-clause-same
returns-in_err-reserve-clause-same c =
    let inside : c.index-at.result < length c.loop-zone.buffers =
    omega (arith, c.loop-zone.auto.buffers, c.index-at.ensures.below, c.requires.zones) in
    lists_of-same c.loop-zone.buffers c.index-at.result c.index-buffers-at.result c.reserve.new.self inside
    c.index-buffers-at.is (cc) ∙ c.loop-zone.invariant.same

pub loop-zone-smaller : goal.loop-zone-smaller
loop-zone-smaller c = fewer_zones c.loop-zone.left.bits c.remove.new.self.bits c.in-Some.zone c.remove.ensures
    c.in-Some.ensures.some

pub loop-zone-preserved : goal.loop-zone-preserved
loop-zone-preserved c =
    let inside : c.index-at.result < length c.loop-zone.buffers =
    omega (arith, c.loop-zone.auto.buffers, c.index-at.ensures.below, c.requires.zones) in
    record {
      same = lists_of-same c.loop-zone.buffers c.index-at.result c.index-buffers-at.result c.reserve.new.self inside
          c.index-buffers-at.is (cc) ∙ c.loop-zone.invariant.same;
      room = HasRoom-more c.loop-zone.buffers c.loop-zone.left.bits c.remove.new.self.bits c.index-at.result
          c.index-buffers-at.result c.reserve.new.self (λ z. slice_index c.args.counts.now z) inside
          c.index-buffers-at.is (cc) (omega (arith, c.in_ok-reserve.ensures.ok, c.reserve.new.self.ok.0))
          (rw c.index-at.ensures.value c.remove.ensures) c.loop-zone.invariant.room;
    }

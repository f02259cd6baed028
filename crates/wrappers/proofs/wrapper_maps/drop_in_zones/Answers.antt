use Rattle.std.proofs.Common.{ℕ, sym, subst}
use Rattle.gz_names.specs.Zones.{HasZone}
use Rattle.wrappers.proofs.Lists.{AreDropped-more, AreDropped-none}
use Rattle.gz_names.proofs.ZoneCounts.{fewer_zones}
use Rattle.wrappers.proofs.wrapper_maps.drop_in_zones.Goals as goal

pub loop-zone-init : goal.loop-zone-init
loop-zone-init g c = AreDropped-none c.args.maps.now c.args.zones.bits _ c.requires.zones

pub loop-zone-smaller : goal.loop-zone-smaller
loop-zone-smaller g c = fewer_zones c.loop-zone.left.bits c.remove.new.self.bits c.in-Some.zone c.remove.ensures
    c.in-Some.ensures.some

pub loop-zone-preserved : goal.loop-zone-preserved
loop-zone-preserved g c =
    AreDropped-more c.args.maps.now c.loop-zone.maps c.args.zones.bits _ c.loop-zone.left.bits c.remove.new.self.bits
    c.index.result c.index-maps-index.result c.drop_entries.new.map c.loop-zone.invariant c.index.ensures.below
    (subst (λ (z : ℕ). HasZone c.loop-zone.left.bits z) (sym c.index.ensures.value) c.in-Some.ensures.some)
    (rw c.index.ensures.value c.remove.ensures)
    c.index-maps-index.is (rw c.index-maps-index.is c.drop_entries.ensures)

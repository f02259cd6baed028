use Rattle.std.proofs.Common.{◌≡◌, ◌<◌, ◌∙◌, length, length-set, arith}
use Rattle.std.proofs.lemmas.List.{length-map}
use Rattle.roots.specs.Buffers.{lists_of}
use Rattle.roots.proofs.Buffering.{IsWaiting-cleared, buffer_at-idle, lists_of-empty}
use Rattle.gz_names.proofs.ZoneCounts.{fewer_zones}
use Rattle.roots.proofs.buffers.clear_waiting.Goals as goal

pub loop-zone-smaller : goal.loop-zone-smaller
loop-zone-smaller c = fewer_zones c.loop-zone.left.bits c.remove.new.self.bits c.in-Some.zone c.remove.ensures
    c.in-Some.ensures.some

pub loop-zone-preserved : goal.loop-zone-preserved
loop-zone-preserved c =
    let inside : c.index.result < length c.loop-zone.buffers =
    omega (arith, c.index.ensures.below, c.loop-zone.invariant.zones) in
    record {
      zones = length-set c.loop-zone.buffers c.index.result c.clear.new.self ∙ c.loop-zone.invariant.zones;
      waiting = IsWaiting-cleared c.loop-zone.buffers c.loop-zone.left.bits c.remove.new.self.bits c.index.result
          c.clear.new.self inside c.loop-zone.invariant.waiting c.clear.ensures.items
          (rw c.index.ensures.value c.remove.ensures);
    }

pub returns-clause-empty : goal.returns-clause-empty
returns-clause-empty c =
    let sized : length (lists_of c.loop-zone.buffers) ≡ 64 = rw length-map c.loop-zone.invariant.zones in
    lists_of-empty (lists_of c.loop-zone.buffers) 64 sized
    (λ z. buffer_at-idle (lists_of c.loop-zone.buffers) c.loop-zone.left.bits c.loop-zone.invariant.waiting z
    (λ h. c.in_default.ensures.none z h))

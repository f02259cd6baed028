use Rattle.std.proofs.Common.{List, subst, arith}
use Rattle.gz_names.specs.declared.numbers.Place.{Place}
use Rattle.gz_names.specs.declared.numbers.ZoneNo.{ZoneNo}
use Rattle.roots.proofs.Buffering.{IsPutting, IsPutting-more, next_item}
use Rattle.roots.proofs.buffers.put_items.Goals as goal

pub loop-zone-preserved : goal.loop-zone-preserved
loop-zone-preserved c =
    let item = c.loop-zone-item.result in
    let next = next_item c.args.items.now c.loop-zone.zone-index item c.index.result (omega arith) c.loop-zone-item.is
    c.index.ensures.value in
    let left = subst (λ (rest : List (ZoneNo × Place)). IsPutting c.args.buffers.now c.args.items.now
    c.loop-zone.buffers c.loop-zone.noted.bits rest c.loop-zone.zone-index) next c.loop-zone.invariant in
    IsPutting-more _ _ _ _ _ _ c.index.result item.1 c.index-buffers-index.result c.push_reserved.new.self
    c.insert.new.self.bits left c.index.ensures.below c.index-buffers-index.is (cc) (cc)
    (rw c.index.ensures.value c.insert.ensures)

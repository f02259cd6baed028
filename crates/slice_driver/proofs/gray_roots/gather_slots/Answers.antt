use Rattle.std.proofs.Common.{arith}
use Rattle.slice_driver.proofs.beginning.GatheredRoots.{slot_all, slot_step}
use Rattle.slice_driver.proofs.gray_roots.gather_slots.Goals as goal

pub loop-index-preserved : goal.loop-index-preserved
loop-index-preserved c = record {
  gathered = slot_step c.args.heap.now.shape c.args.zones c.loop-index.index c.args.found.now.items
      c.loop-index.found.items c.gather_slot.new.found.items c.loop-index.invariant.gathered
      c.in_ok-gather_slot.ensures.gathered;
  few = (let was = c.loop-index.invariant.few in let more = c.in_ok-gather_slot.ensures.few in omega
      (arith, was, more));
  counted = λ lt. c.gather_slot.ensures.count;
}

pub returns-clause-gathered : goal.returns-clause-gathered
returns-clause-gathered c = slot_all c.args.heap.now.shape c.args.zones c.loop-index.index c.args.found.now.items
    c.loop-index.found.items (omega (arith, c.loop-index.invariant.counted (omega arith)))
    c.loop-index.invariant.gathered

use Rattle.std.proofs.Common.{Some}
use Rattle.colour_defs.proofs.Lists.{contains_at}
use Rattle.slice_driver.proofs.beginning.GatheredRoots.{on_ok, slot_at}
use Rattle.slice_driver.proofs.gray_roots.gather_slot.Goals as goal

pub gather-requires : goal.gather-requires
gather-requires c =
    c.requires.held c.in-Some.place
    (contains_at c.args.heap.now.shape.slots c.args.index (Some c.in-Some.place) c.in-Some.ensures.held)

pub returns-in-Some-clause-gathered : goal.returns-in-Some-clause-gathered
returns-in-Some-clause-gathered c = on_ok c.gather.result
    (slot_at c.args.heap.now.shape c.args.zones c.args.index c.in-Some.place c.in-Some.ensures.held
    c.args.found.now.items c.gather.new.found.items) c.gather.ensures.gathered

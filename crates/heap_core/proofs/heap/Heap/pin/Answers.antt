use Rattle.heap_core.specs.contracts.heap.Heap.{the_view}
use Rattle.heap_core.proofs.PinnedPlaces.{pins-seen}
use Rattle.heap_core.proofs.heap.Heap.pin.Goals as goal

pub returns-clause-pins : goal.returns-clause-pins
returns-clause-pins c =
    rw (← c.self.view_is)
    (pins-seen (the_view c.self.inside) c.self.inside.roots c.pin.new.self c.args.place c.pin.result c.pin.ensures.pins)

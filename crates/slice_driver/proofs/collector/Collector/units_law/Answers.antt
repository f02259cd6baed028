use Rattle.slice_driver.proofs.clearing.Few.{few_units}
use Rattle.slice_driver.proofs.collector.Collector.units_law.Goals as goal

pub returns : goal.returns
returns c = few_units c.args.self.now c.sizes_law.ensures.arenas c.sizes_law.ensures.buffered c.sizes_law.ensures.zones
    c.sizes_law.ensures.entries c.sizes_law.ensures.parallel c.entries_law.ensures.sound c.wrappers_law.ensures

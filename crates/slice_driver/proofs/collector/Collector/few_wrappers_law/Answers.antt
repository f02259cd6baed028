use Rattle.slice_driver.proofs.measure.FewUnits.{few_in_zone}
use Rattle.slice_driver.proofs.collector.Collector.few_wrappers_law.Goals as goal

pub returns : goal.returns
returns c = few_in_zone c.args.self.now c.requires.0 c.requires.1 c.sizes_law.ensures.arenas c.wrappers_law.ensures

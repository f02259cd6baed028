use Rattle.std.proofs.Common.{length, ap, arith}
use Rattle.std.proofs.lemmas.List.{length-append}
use Rattle.slice_driver.specs.Collector.{CollectorState}
use Rattle.slice_driver.proofs.collector.Collector.pending_black.Goals as goal

pub returns : goal.returns
returns c =
    let both = length-append c.self.inside.stack.black c.self.inside.heap.delayed.black in
    let same = ap (λ (x : CollectorState). length x.stack.black) c.self.view_is in
    omega (arith, c.len.ensures, both, same)

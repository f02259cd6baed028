use Rattle.std.proofs.Common.{◌∙◌, subst, sym}
use Rattle.heap_core.specs.Shape.{IsPresent}
use Rattle.slice_driver.proofs.abstraction.Named.{some_one}
use Rattle.slice_driver.proofs.root_marking.mark_target.Goals as goal

pub mark_root-requires-clause-present : goal.mark_root-requires-clause-present
mark_root-requires-clause-present g c =
    let w = c.requires.wrapper.1 in
    subst (IsPresent c.args.heap.now.shape) (some_one _ _ (sym w.target_is ∙ sym c.in-Some.ensures.edge)) w.held

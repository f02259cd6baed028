use Rattle.std.proofs.Common.{◌≡◌, ◌∙◌, rules, subst, sym}
use Rattle.cell_bits.specs.declared.bits.Colour.TheVariants as colour
use Rattle.heap_core.specs.Heap.{colour_of}
use Rattle.heap_core.specs.Shape.{IsPresent}
use Rattle.slice_driver.proofs.abstraction.Named.{some_one}
use Rattle.slice_driver.proofs.beginning.GatheredRoots.{on_ok, wrapper_gray}
use Rattle.slice_driver.proofs.gray_roots.gather_wrapper.Goals as goal

pub gather-requires : goal.gather-requires
gather-requires g c =
    let w = c.requires.wrapper.1 in
    subst (IsPresent c.args.heap.now.shape) (some_one _ _ (sym w.target_is ∙ sym c.in-Some.ensures.edge)) w.held

pub returns-in-Some-clause-gathered : goal.returns-in-Some-clause-gathered
returns-in-Some-clause-gathered g c =
    let h = c.args.heap.now in
    let gray : colour_of h c.args.wrapper ≡ colour.Gray = search rules in
    on_ok c.gather.result (wrapper_gray h c.args.zones c.args.wrapper c.in-Some.target gray
    (sym c.in-Some.ensures.edge) c.args.found.now.items c.gather.new.found.items) c.gather.ensures.gathered

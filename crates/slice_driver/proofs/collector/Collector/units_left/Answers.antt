use Rattle.std.proofs.Common.{◌≡◌, ◌+◌, ◌∙◌, ap, arith, sym}
use Rattle.heap_core.specs.Heap.{HeapState}
use Rattle.slice_driver.specs.Bounds.{bound_of, grouping_bound, marking_bound, units_bound}
use Rattle.slice_driver.specs.Collector.{run_of}
use Rattle.slice_driver.specs.contracts.collector.Collector.{the_view}
use Rattle.slice_driver.specs.declared.collector.Phase.{Phase}
use Rattle.slice_driver.proofs.clearing.Bounds.{units_bounded}
use Rattle.slice_driver.proofs.collector.Collector.units_left.Goals as goal

pub returns-in-Idle-clause-bound : goal.returns-in-Idle-clause-bound
returns-in-Idle-clause-bound c flown sound =
    let h : HeapState = (the_view c.self.inside).heap in
    let most = units_bounded c.args.self.now (record {
      parallel = c.entries_law.ensures.parallel;
      entries = c.entries_law.ensures.sound;
      apart = c.wrappers_law.ensures;
    }) flown sound in
    let is : units_bound c.args.self.now ≡ 0 =
    ap units_bound (sym c.self.view_is) ∙ ap (λ (p : Phase). bound_of h (run_of p)) c.in-Idle.is in
    omega (arith, most, is)

pub returns-in-Preparing-clause-bound : goal.returns-in-Preparing-clause-bound
returns-in-Preparing-clause-bound c flown sound =
    let h : HeapState = (the_view c.self.inside).heap in
    let most = units_bounded c.args.self.now (record {
      parallel = c.entries_law.ensures.parallel;
      entries = c.entries_law.ensures.sound;
      apart = c.wrappers_law.ensures;
    }) flown sound in
    let is : units_bound c.args.self.now ≡ c.preparing_units.result =
    ap units_bound (sym c.self.view_is)
    ∙ (ap (λ (p : Phase). bound_of h (run_of p)) c.in-Preparing.is ∙ sym c.preparing_units.ensures) in
    omega (arith, most, is)

pub returns-in-Grouping-clause-bound : goal.returns-in-Grouping-clause-bound
returns-in-Grouping-clause-bound c flown sound =
    let h : HeapState = (the_view c.self.inside).heap in
    let most = units_bounded c.args.self.now (record {
      parallel = c.entries_law.ensures.parallel;
      entries = c.entries_law.ensures.sound;
      apart = c.wrappers_law.ensures;
    }) flown sound in
    let is : units_bound c.args.self.now ≡ marking_bound h + grouping_bound h =
    ap units_bound (sym c.self.view_is) ∙ ap (λ (p : Phase). bound_of h (run_of p)) c.in-Grouping.is in
    let marking : c.marking_units.result ≡ marking_bound h = c.marking_units.ensures.value in
    let grouping : c.grouping_units.result ≡ grouping_bound h = c.grouping_units.ensures.value in
    omega (arith, most, is, marking, grouping)

pub returns-in-Grouped-clause-bound : goal.returns-in-Grouped-clause-bound
returns-in-Grouped-clause-bound c flown sound =
    let h : HeapState = (the_view c.self.inside).heap in
    let most = units_bounded c.args.self.now (record {
      parallel = c.entries_law.ensures.parallel;
      entries = c.entries_law.ensures.sound;
      apart = c.wrappers_law.ensures;
    }) flown sound in
    let is : units_bound c.args.self.now ≡ marking_bound h + 0 =
    ap units_bound (sym c.self.view_is) ∙ ap (λ (p : Phase). bound_of h (run_of p)) c.in-Grouped.is in
    let marking : c.marking_units-in-Grouped.result ≡ marking_bound h = c.marking_units-in-Grouped.ensures.value in
    omega (arith, most, is, marking)

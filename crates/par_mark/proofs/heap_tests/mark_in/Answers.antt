use Rattle.std.proofs.Common.{[]}
use Rattle.std.proofs.lemmas.List.Elements.{All-cons, All-nil}
use Rattle.heap_core.specs.Shape.{IsPresent}
use Rattle.par_mark.proofs.TestHeaps.{can_mark, held}
use Rattle.par_mark.proofs.heap_tests.mark_in.Goals as goal

pub mark_heap-requires-clause-present : goal.mark_heap-requires-clause-present
mark_heap-requires-clause-present g c κs within =
    All-cons (IsPresent c.take_to_marking.new.heap.shape) c.in-Some.root [] (held c.args.heap.now c.requires
    c.take_to_marking.new.heap c.take_to_marking.ensures c.args.reg c.in-Some.root c.in-Some.ensures.held)
    (All-nil (IsPresent c.take_to_marking.new.heap.shape))

pub mark_heap-requires-clause-made : goal.mark_heap-requires-clause-made
mark_heap-requires-clause-made g c κs within =
    (can_mark c.args.heap.now c.requires c.take_to_marking.new.heap c.take_to_marking.ensures
    c.comps.ensures.homes).made

pub mark_heap-requires-clause-targets : goal.mark_heap-requires-clause-targets
mark_heap-requires-clause-targets g c κs within =
    (can_mark c.args.heap.now c.requires c.take_to_marking.new.heap c.take_to_marking.ensures
    c.comps.ensures.homes).targets

pub mark_heap-requires-clause-whole : goal.mark_heap-requires-clause-whole
mark_heap-requires-clause-whole g c κs within =
    (can_mark c.args.heap.now c.requires c.take_to_marking.new.heap c.take_to_marking.ensures
    c.comps.ensures.homes).whole

pub mark_heap-requires-clause-uncounted : goal.mark_heap-requires-clause-uncounted
mark_heap-requires-clause-uncounted g c κs within =
    (can_mark c.args.heap.now c.requires c.take_to_marking.new.heap c.take_to_marking.ensures
    c.comps.ensures.homes).uncounted

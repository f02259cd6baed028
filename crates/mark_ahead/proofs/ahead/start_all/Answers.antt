use Rattle.std.proofs.Common.{◌∙◌, List, ap, sym, subst, take}
use Rattle.gz_names.specs.declared.numbers.Place.{Place}
use Rattle.weak_maps.specs.WeakMaps.{IsSound}
use Rattle.heap_core.specs.Heap.{HeapState}
use Rattle.heap_core.specs.Shape.{Shape}
use Rattle.mark_ahead.specs.Ahead.{StartsAll}
use Rattle.mark_ahead.proofs.AllStarted.{one_more_started, starts_from}
use Rattle.mark_ahead.proofs.TurnedSome.{take_more}
use Rattle.mark_ahead.proofs.ahead.start_all.Goals as goal

pub loop-cell-preserved : goal.loop-cell-preserved
loop-cell-preserved c =
    let h = c.args.heap.now in
    let was = c.loop-cell.invariant in
    let first = ap (λ (z : HeapState). z.shape) was.rest in
    let second = ap (λ (z : HeapState). z.shape) c.start.ensures.rest in
    record {
      rest = c.start.ensures.rest
          ∙ ap (λ (z : HeapState). record z { looks = c.start.new.self.looks }) was.rest;
      starts = subst (λ (xs : List Place). StartsAll h xs h.looks c.start.new.self.looks)
          (sym (take_more c.args.cells.now c.loop-cell.cell-index c.cell-item.result c.loop-cell-test.true
          c.cell-item.is))
          (one_more_started h (take c.loop-cell.cell-index c.args.cells.now) c.cell-item.result h.looks
          c.loop-cell.heap.looks c.start.new.self.looks was.starts
          (subst (λ (z : Shape). IsSound z.weak) (second ∙ first) c.start.ensures.sound)
          (starts_from h c.loop-cell.heap c.start.new.self c.cell-item.result first second (record {
            map = c.start.ensures.map;
            key = c.start.ensures.key;
            delegate = c.start.ensures.delegate;
            parallel = c.start.ensures.parallel;
          })));
    }

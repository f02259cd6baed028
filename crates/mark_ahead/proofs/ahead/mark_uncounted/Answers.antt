use Rattle.std.proofs.Common.{IfOk, refl, subst, sym}
use Rattle.heap_core.specs.Heap.{HeapState}
use Rattle.mark_ahead.specs.Markers.{HasFoundIn, MayBeMarked}
use Rattle.mark_ahead.proofs.ahead.mark_uncounted.Given.{Over}
use Rattle.mark_ahead.proofs.ahead.mark_uncounted.Goals as goal
use Rattle.mark_ahead.proofs.ahead.mark_uncounted.Goals.{After-uncount_edges-counted_in}

may : (g : Over) (c : After-uncount_edges-counted_in g)
    → MayBeMarked c.uncount_edges-counted_in.new.self c.args.from.now c.args.words.items
may g c = subst (λ (z : HeapState). MayBeMarked z c.args.from.now c.args.words.items)
    (sym c.uncount_edges-counted_in.ensures.heap) (record {
      uncounted = refl;
      present = c.requires.present;
      made = c.requires.made;
      targets = c.requires.targets;
      whole = c.requires.whole;
      words = c.requires.words;
    })

pub mark-found-requires : goal.mark-found-requires
mark-found-requires g c = c.requires.marks.callable _ _ _ _ (may g c)

pub returns-clause-found : goal.returns-clause-found
returns-clause-found g c = subst (λ (z : HeapState). IfOk c.mark-found.result
    (λ r. HasFoundIn z c.args.words.items c.args.from.now r.0.items r.1)) c.uncount_edges-counted_in.ensures.heap
    (c.requires.marks.blackens _ _ _ _ _
    (may g (goal.at.returns-clause-found g c).After-uncount_edges-counted_in) c.mark-found.ensures)

use Rattle.std.proofs.Common.{◌∙◌, ◌==◌, ap, sym, length, ℕ}
use Rattle.std.proofs.lemmas.List.{length-map}
use Rattle.gz_names.specs.declared.numbers.Place.{Place}
use Rattle.heap_core.specs.contracts.heap.Heap.{the_view}
use Rattle.heap_core.specs.Shape.{arena_shape}
use Rattle.heap_core.specs.Heap.{HeapState}
use Rattle.heap_core.specs.Changes.{next_place}
use Rattle.heap_core.proofs.MakingCells.{place-seen}
use Rattle.heap_core.proofs.heap.Heap.is_full.Goals as goal

pub returns : goal.returns
returns c =
    let xs = c.self.inside.arenas.arenas in
    c.is_full.ensures
    ∙ (ap (λ (p : Place). p.0 == length xs) (place-seen 0 xs c.args.zone)
    ∙ (ap (λ (n : ℕ). (next_place (the_view c.self.inside).shape c.args.zone).0 == n) (sym (length-map xs arena_shape))
    ∙ ap (λ (h : HeapState). (next_place h.shape c.args.zone).0 == length h.shape.arenas) c.self.view_is))

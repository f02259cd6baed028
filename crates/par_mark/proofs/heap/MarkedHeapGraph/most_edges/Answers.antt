use Rattle.std.proofs.Common.{◌<◌, ℕ, length, arith}
use Rattle.std.proofs.lemmas.List.Elements.{All-weaker}
use Rattle.heap_core.specs.Shape.{field_at}
use Rattle.par_mark.specs.Heaps.{HasCell}
use Rattle.par_mark.proofs.HeapCells.{inside}
use Rattle.par_mark.proofs.Pigeons.{few_edges}
use Rattle.par_mark.proofs.heap.MarkedHeapGraph.most_edges.Goals as goal

pub returns : goal.returns
returns c = λ ps once all.
    let h = c.args.self.now.heap.now in
    let n : ℕ = length h.shape.arenas in
    let w = few_edges (field_at h.shape) n ps once
    (All-weaker (HasCell h) (λ (p : ℕ × ℕ). (p.0 < n) × (p.1 < 64)) (inside h) ps all) in
    let e = c.arenas.ensures in omega arith

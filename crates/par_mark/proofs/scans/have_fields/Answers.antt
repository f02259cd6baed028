use Rattle.std.proofs.Common.{◌≡◌, ℕ, List, [], ◌++◌, get_or, sym, ap, ◌∙◌, arith}
use Rattle.mark_ahead.specs.Edges.{targets}
use Rattle.par_mark.proofs.Cells.{one_cell}
use Rattle.par_mark.proofs.Scanning.{all_fields}
use Rattle.par_mark.proofs.scans.have_fields.Goals as goal

pub loop-place-preserved : goal.loop-place-preserved
loop-place-preserved g c = λ none.
    let edge = g.H.Graph.edge c.args.heap.now in
    let i = c.loop-place.place-index in
    let p = c.place-item.result in
    let m = c.max-most.ensures in
    let count : c.edge_count.result ≡ 0 = omega arith in
    let before : c.loop-place.most ≡ 0 = omega arith in
    let empty : targets edge p ≡ [] = sym (all_fields (edge p) 0 8 (omega arith)
    (λ k _ high. c.edge_count.ensures.past k (omega arith) high)) in
    one_cell edge c.args.cells.now i p c.loop-place-test.true
    ∙ ap (λ (l : List (ℕ × ℕ)). l ++ targets edge (get_or c.args.cells.now i p)) (c.loop-place.invariant before)
    ∙ ap (targets edge) (sym c.place-item.is) ∙ empty

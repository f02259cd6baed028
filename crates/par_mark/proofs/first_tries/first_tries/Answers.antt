use Rattle.std.proofs.Common.{◌+◌, ◌≤◌, ℕ, List, ◌++◌, length, vec_capacity, sym, ap, ◌∙◌, arith, take}
use Rattle.mark_ahead.specs.Edges.{targets}
use Rattle.par_mark.specs.Edges.{all_targets}
use Rattle.par_mark.proofs.Cells.{length-all_targets, one_cell, one_room}
use Rattle.par_mark.proofs.first_tries.first_tries.Goals as goal

pub push_targets-requires-clause-room : goal.push_targets-requires-clause-room
push_targets-requires-clause-room g c =
    let edge = g.H.Graph.edge c.args.heap.now in
    let i = c.loop-place.place-index in
    let r = one_room edge c.args.from.now i c.place-item.result c.loop-place-test.true in
    let p = ap (λ (q : ℕ × ℕ). length (targets edge q)) c.place-item.is in
    let l = ap length c.loop-place.invariant.0 in
    let k = c.loop-place.invariant.1 in
    let m = length-all_targets edge c.args.from.now in
    let goal_is : length c.loop-place.tries.items + length (targets edge c.place-item.result)
    ≤ vec_capacity c.loop-place.tries = omega arith in goal_is

pub loop-place-preserved : goal.loop-place-preserved
loop-place-preserved g c =
    let edge = g.H.Graph.edge c.args.heap.now in
    let before : List (ℕ × ℕ) = all_targets edge (take c.loop-place.place-index c.args.from.now) in (
      c.push_targets.ensures.tries
          ∙ ap (λ (l : List (ℕ × ℕ)). l ++ targets edge c.place-item.result) c.loop-place.invariant.0
          ∙ ap (λ (p : ℕ × ℕ). before ++ targets edge p) c.place-item.is
          ∙ sym (one_cell edge c.args.from.now c.loop-place.place-index c.place-item.result c.loop-place-test.true),
      c.push_targets.ensures.room ∙ c.loop-place.invariant.1,
    )

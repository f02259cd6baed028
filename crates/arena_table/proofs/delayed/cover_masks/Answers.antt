use Rattle.std.proofs.Common.{◌∷◌, ◌<◌, [], arith, length, length-append}
use Rattle.arena_table.proofs.CellSets.{ArePadded-push}
use Rattle.arena_table.proofs.delayed.cover_masks.Goals as goal

pub loop-masks-preserved : goal.loop-masks-preserved
loop-masks-preserved c =
    let masks = c.loop-masks.masks.items in
    let longer = length-append masks (0 ∷ []) in
    let long : length masks < c.args.count = omega (arith, c.loop-masks.masks.ok.0) in
    rw c.in_ok-push.ensures.items
    (ArePadded-push c.args.masks.now.items masks c.loop-masks.invariant.0, omega arith)

use Rattle.std.proofs.Common.{◌<◌, sym, subst}
use Rattle.heap_core.proofs.Places.{present_within}
use Rattle.barriers.proofs.left_out.is_black.Goals as goal

pub colour-requires : goal.colour-requires
colour-requires c = subst (λ n. c.args.place.0 < n) (sym c.requires.sized)
    (present_within c.args.heap.now.shape c.args.place c.requires.present)

use Rattle.std.proofs.Common.{◌∙◌, ap, slice_get}
use Rattle.heap_core.specs.Sweeping.{is_lost_in}
use Rattle.heap_core.proofs.Views.{lost-seen}
use Rattle.heap_core.proofs.heap.is_lost.Goals as goal

pub returns : goal.returns
returns c = lost-seen c.args.arenas.now.arenas c.arena-arena.result c.slot.result c.bits.result c.is_out-is_out.result
    c.white_slot-is_white.result c.is_out-is_out.ensures c.bits.ensures c.white_slot-is_white.ensures
    ∙ (ap (λ a. is_lost_in (slice_get c.args.arenas.now.arenas a) c.slot.result) c.arena-arena.ensures
    ∙ ap (λ k. is_lost_in (slice_get c.args.arenas.now.arenas c.args.place.0) k) c.slot.ensures.value)

use Rattle.std.proofs.Common.{sym}
use Rattle.std.proofs.lemmas.Option.{get_or_from_slice_get, slice_get_within}
use Rattle.cell_bits.specs.declared.bits.Bits.{Bits}
use Rattle.mark_ahead.proofs.TurnedSome.{map_more}
use Rattle.mark_ahead.proofs.black_words.black_words.Goals as goal

pub loop-arena-preserved : goal.loop-arena-preserved
loop-arena-preserved c =
    let colours = c.args.heap.now.colours in
    let i = c.loop-arena.arena in
    let b = c.bits.result in
    map_more (λ (bits : Bits). bits.black) colours i b (slice_get_within colours i b c.bits.ensures)
    (sym (get_or_from_slice_get colours i b b c.bits.ensures)) c.loop-arena.words.items c.push.new.self.items
    c.loop-arena.invariant c.in_ok-push.ensures.items

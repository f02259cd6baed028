use Rattle.std.proofs.Common.{ap, ◌∙◌}
use Rattle.std.proofs.lemmas.List.{length-map}
use Rattle.roots.specs.Buffers.{lists_of, put_all}
use Rattle.roots.proofs.Buffering.{HasRoom-rest, buffer_at-put_both}
use Rattle.roots.proofs.buffers.put_both.Goals as goal

pub put_items-requires-2-clause-room : goal.put_items-requires-2-clause-room
put_items-requires-2-clause-room c =
    rw (c.put_items.ensures.put, c.put_items.ensures.room)
    (HasRoom-rest _ _ c.args.slots.now c.args.wrappers.now c.in_ok-reserve_all.ensures.room)

pub returns-clause-zones : goal.returns-clause-zones
returns-clause-zones c =
    buffer_at-put_both (lists_of c.args.buffers.now) (lists_of c.put_items-2.new.buffers) c.args.slots.now
    c.args.wrappers.now (rw length-map c.requires.zones)
    (c.put_items-2.ensures.put
    ∙ ap (λ ls. put_all ls c.args.wrappers.now)
    (c.put_items.ensures.put ∙ ap (λ ls. put_all ls c.args.slots.now) c.in_ok-reserve_all.ensures.same))

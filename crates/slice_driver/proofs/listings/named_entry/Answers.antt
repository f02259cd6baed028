use Rattle.std.proofs.Common.{sym, ◌∙◌}
use Rattle.slice_driver.proofs.dumping.Held.{entry_held}
use Rattle.slice_driver.proofs.listings.named_entry.Goals as goal

pub name-requires : goal.name-requires
name-requires c = (entry_held c.args.heap.now.shape c.args.index _ c.requires c.entry.ensures.sound
    (sym c.entry.ensures.entry ∙ c.in_ok-map.was)).0

pub name-requires-2 : goal.name-requires-2
name-requires-2 c = (entry_held c.args.heap.now.shape c.args.index _ c.requires c.entry.ensures.sound
    (sym c.entry.ensures.entry ∙ c.in_ok-map.was)).1

pub name-requires-3 : goal.name-requires-3
name-requires-3 c = (entry_held c.args.heap.now.shape c.args.index _ c.requires c.entry.ensures.sound
    (sym c.entry.ensures.entry ∙ c.in_ok-map.was)).2

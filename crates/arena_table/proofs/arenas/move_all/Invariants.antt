use Rattle.std.proofs.Common.{◌≡◌, All, take}
use Rattle.arena_table.specs.Indexed.{IsIndexed}
use Rattle.arena_table.specs.Moving.{MovesCells}
use Rattle.arena_table.specs.Slots.{held_by}
use Rattle.arena_table.specs.Table.{IsEmptyIfGivenUp}
use Rattle.arena_table.proofs.arenas.move_all.Given as goal

abbrev pub invariant-loop-step : goal.invariant-loop-step
invariant-loop-step l = record {
  gone : MovesCells l.initial.store.arenas (take l.step-index l.step-items) l.store.arenas;
  indexed : IsIndexed l.store.arenas l.index;
  empty : All IsEmptyIfGivenUp l.store.arenas;
  held : held_by l.store.arenas ≡ held_by l.initial.store.arenas;
}

use Rattle.weak_maps.specs.Tables.{entries_of}
use Rattle.weak_maps.proofs.Owning.{none_in}
use Rattle.weak_maps.proofs.Sound.{AreEntries-from_tied}
use Rattle.weak_maps.proofs.entries.Entries.may_own.Goals as goal

pub returns-then-may_list-clause-sound : goal.returns-then-may_list-clause-sound
returns-then-may_list-clause-sound c =
    rw (← c.self.view_is)
    (AreEntries-from_tied (entries_of c.self.inside.table) c.self.inside.by_map c.self.inside.by_key c.self.invariant)

pub returns-else-may_list-clause-none : goal.returns-else-may_list-clause-none
returns-else-may_list-clause-none c =
    rw (← c.self.view_is) (λ none entry has. (
      none_in (λ entry. entry.map) (entries_of c.self.inside.table) c.self.inside.by_map c.self.invariant.maps
          c.args.arena (c.may_list.ensures c.if-may_list.false) entry has,
      none_in (λ entry. entry.key) (entries_of c.self.inside.table) c.self.inside.by_key c.self.invariant.keys
          c.args.arena (c.may_list-else-may_list.ensures none) entry has,
    ))

pub returns-else-may_list-clause-sound : goal.returns-else-may_list-clause-sound
returns-else-may_list-clause-sound c =
    rw (← c.self.view_is)
    (AreEntries-from_tied (entries_of c.self.inside.table) c.self.inside.by_map c.self.inside.by_key c.self.invariant)

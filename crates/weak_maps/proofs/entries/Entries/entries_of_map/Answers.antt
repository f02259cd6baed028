use Rattle.std.proofs.Common.{◌∙◌, sym, arith}
use Rattle.weak_maps.specs.Entries.{numbered}
use Rattle.weak_maps.specs.Tables.{entries_of}
use Rattle.weak_maps.proofs.Sound.{AreEntries-from_tied, list_of-side, listed_entry, numbered_is}
use Rattle.weak_maps.proofs.Listed.{IfSome_each, listed_at, listed_none}
use Rattle.weak_maps.proofs.entries.Entries.entries_of_map.Goals as goal

pub returns-in_err-entry-clause-sound : goal.returns-in_err-entry-clause-sound
returns-in_err-entry-clause-sound c =
    rw (← c.self.view_is)
    (AreEntries-from_tied (entries_of c.self.inside.table) c.self.inside.by_map c.self.inside.by_key c.self.invariant)

pub returns-clause-entry : goal.returns-clause-entry
returns-clause-entry c =
    let entries = entries_of c.self.inside.table in
    let number = sym c.in_ok-entry.ensures.entry in
    let found = listed_entry (λ e. e.map) entries c.self.inside.by_map c.self.invariant.maps c.args.map c.args.index
    c.in_ok-entry.entry number in
    c.entry.ensures.entry
    ∙ rw (
      c.from.ensures,
      ← c.self.view_is,
      list_of-side (λ e. e.map) entries c.self.inside.by_map c.self.invariant.maps c.args.map,
    ) (found.1
    ∙ listed_at (numbered entries c.args.map) _ c.args.index c.in_ok-entry.entry found.0 number
    (numbered_is entries c.args.map c.in_ok-entry.entry found.0 found.1))

pub returns-in_err-entry-clause-entry : goal.returns-in_err-entry-clause-entry
returns-in_err-entry-clause-entry c =
    c.from_residual.ensures
    ∙ rw (
      ← c.self.view_is,
      list_of-side (λ e. e.map) (entries_of c.self.inside.table) c.self.inside.by_map
          c.self.invariant.maps c.args.map,
    )
    (listed_none (numbered (entries_of c.self.inside.table) c.args.map) _ c.args.index
    (sym c.in_err-entry.ensures.entry))

pub returns-clause-more : goal.returns-clause-more
returns-clause-more c =
    let few = c.in_ok-entry.ensures.few in
    IfSome_each c.entry.result (omega (arith, few))

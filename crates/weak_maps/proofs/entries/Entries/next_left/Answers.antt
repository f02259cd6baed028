use Rattle.std.proofs.Common.{◌≡◌, ◌∙◌, Some, slice_get, ap}
use Rattle.weak_maps.specs.Tables.{entries_of}
use Rattle.weak_maps.proofs.Sound.{AreEntries-from_tied}
use Rattle.weak_maps.proofs.Tying.{entry_left}
use Rattle.weak_maps.proofs.entries.Entries.next_left.Goals as goal

pub returns-in-Some-clause-none : goal.returns-in-Some-clause-none
returns-in-Some-clause-none c =
    let e = entry_left (λ e. e.map) (entries_of c.self.inside.table) c.self.inside.by_map c.in-Some.entry
    (Some c.args.colour) c.self.invariant.maps c.in-Some.ensures.some.0 in
    let is : c.entry.result ≡ Some e.0 = c.entry.ensures.entry
    ∙ (ap (slice_get (entries_of c.self.inside.table)) c.from.ensures ∙ e.1) in
    rw is tt

pub returns-in_ok-entry-in-None-clause-none : goal.returns-in_ok-entry-in-None-clause-none
returns-in_ok-entry-in-None-clause-none c =
    let e = entry_left (λ e. e.key) (entries_of c.self.inside.table) c.self.inside.by_key c.in_ok-entry-in-None.entry
    (Some c.args.colour) c.self.invariant.keys c.in_ok-entry-in-None.ensures.some.0 in
    let is : c.entry-in-None.result ≡ Some e.0 = c.entry-in-None.ensures.entry
    ∙ (ap (slice_get (entries_of c.self.inside.table)) c.from-in-None.ensures ∙ e.1) in
    rw is tt

pub returns-in_err-entry-in-None-clause-sound : goal.returns-in_err-entry-in-None-clause-sound
returns-in_err-entry-in-None-clause-sound c =
    rw (c.in-None.ensures.none.0, c.in_err-entry-in-None.ensures.none.0)
    (AreEntries-from_tied (entries_of c.self.inside.table) c.self.inside.by_map c.self.inside.by_key c.self.invariant)

use Rattle.std.proofs.Common.{length, ap, arith, ◌≡◌, ◌∙◌, ◌&&◌, Some, None, slice_get, cond, sym}
use Rattle.gz_names.specs.declared.numbers.Place.{Place}
use Rattle.weak_maps.specs.Places.{is_same}
use Rattle.weak_maps.specs.Tables.{entries_of}
use Rattle.weak_maps.specs.Entries.{value_at}
use Rattle.weak_maps.proofs.Sound.{AreEntries-from_tied}
use Rattle.std.proofs.lemmas.Option.{slice_get_within}
use Rattle.weak_maps.proofs.Reading.{length-swap_remove}
use Rattle.weak_maps.proofs.Table.{value_at-entries}
use Rattle.weak_maps.proofs.Taking.{found-none, at_position}
use Rattle.weak_maps.proofs.Tying.{Carries-same}
use Rattle.weak_maps.proofs.entries.Entries.del.Goals as goal

pub returns-in_err-entry-clause-sound : goal.returns-in_err-entry-clause-sound
returns-in_err-entry-clause-sound c =
    rw (← c.self.view_is)
    (AreEntries-from_tied (entries_of c.self.inside.table) c.self.inside.by_map c.self.inside.by_key c.self.invariant)

pub returns-in_err-entry-clause-old : goal.returns-in_err-entry-clause-old
returns-in_err-entry-clause-old c = c.from_residual.ensures
    ∙ rw (← c.self.view_is)
    (sym (value_at-entries c.self.inside.table c.args.map c.args.key ∙ sym c.in_err-entry.ensures.value))

pub returns-in_err-entry-clause-found : goal.returns-in_err-entry-clause-found
returns-in_err-entry-clause-found c =
    rw (← c.self.view_is)
    (found-none (entries_of c.self.inside.table) c.args.map c.args.key
    (value_at-entries c.self.inside.table c.args.map c.args.key ∙ sym c.in_err-entry.ensures.value))

pub returns-in_err-entry-clause-carries : goal.returns-in_err-entry-clause-carries
returns-in_err-entry-clause-carries c = Carries-same c.args.self.now

pub returns-clause-old : goal.returns-clause-old
returns-clause-old c = rw (← c.self.view_is)
    (c.in_ok-entry.ensures.value ∙ sym (value_at-entries c.self.inside.table c.args.map c.args.key))

pub returns-clause-found : goal.returns-clause-found
returns-clause-found c =
    let at = at_position c.self.inside.table (record { map = c.args.map; key = c.args.key }) c.in_ok-entry.entry
    c.in_ok-entry.ensures.index in
    let there : slice_get c.args.self.now.table.entries c.in_ok-entry.entry ≡ Some at.0 = rw (← c.self.view_is) at.1 in
    let found : (m k : Place) → value_at c.take_at.new.self.table.entries m k
    ≡ cond (is_same at.0.map m && is_same at.0.key k)
    None (value_at c.args.self.now.table.entries m k) = rw there at c.take_at.ensures.found in
    λ m k. found m k ∙ (λ j. cond (is_same (sym at.2 j) m && is_same (sym at.3 j) k) None
    (value_at c.args.self.now.table.entries m k))

pub returns-clause-count : goal.returns-clause-count
returns-clause-count c =
    let at = at_position c.self.inside.table (record { map = c.args.map; key = c.args.key }) c.in_ok-entry.entry
    c.in_ok-entry.ensures.index in
    let there : slice_get c.args.self.now.table.entries c.in_ok-entry.entry ≡ Some at.0 = rw (← c.self.view_is) at.1 in
    let taken = rw there at c.take_at.ensures.taken in
    let short = ap length taken ∙ length-swap_remove c.args.self.now.table.entries c.in_ok-entry.entry at.0 in
    let less = slice_get_within c.args.self.now.table.entries c.in_ok-entry.entry at.0 there in
    omega (arith, short, less)

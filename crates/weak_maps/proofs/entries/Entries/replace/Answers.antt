use Rattle.std.proofs.Common.{◌≡◌, ◌∙◌, None, sym, ap}
use Rattle.weak_maps.specs.Tables.{entries_of}
use Rattle.weak_maps.specs.Entries.{value_at, put_at}
use Rattle.weak_maps.proofs.Sound.{AreEntries-from_tied}
use Rattle.weak_maps.proofs.Table.{value_at-entries, value_at-put_at, put_at-written}
use Rattle.weak_maps.proofs.Table.{AreDistinct-entries}
use Rattle.weak_maps.proofs.Tying.{AreTied-put}
use Rattle.weak_maps.proofs.entries.Entries.replace.Goals as goal

pub returns-in_err-old-clause-old : goal.returns-in_err-old-clause-old
returns-in_err-old-clause-old c =
    let none : value_at (entries_of c.self.inside.table) c.args.entry.now.map c.args.entry.now.key ≡ None =
    value_at-entries c.self.inside.table c.args.entry.now.map c.args.entry.now.key ∙ sym c.in_err-old.ensures.value in
    c.from_residual.ensures ∙ rw (← c.self.view_is) (sym none)

pub returns-in_err-old-clause-sound : goal.returns-in_err-old-clause-sound
returns-in_err-old-clause-sound c =
    rw c.get_mut.follows.holds-at-none
    (AreEntries-from_tied (entries_of c.self.inside.table) c.self.inside.by_map c.self.inside.by_key c.self.invariant)

pub invariant_of-self-2 : goal.invariant_of-self-2
invariant_of-self-2 c =
    let old = c.self.inside.table in
    let there = sym c.in_ok-old.ensures.value in
    let found = value_at-entries old c.args.entry.now.map c.args.entry.now.key ∙ there in
    let holds = c.get_mut.follows.holds c.replace.new.dest in
    let new = c.get_mut.follows.lender c.replace.new.dest in
    let written = put_at-written old new c.args.entry.now.map c.args.entry.now.key c.replace.new.dest
    c.in_ok-old.old.now there holds.0 in
    let given = written
    ∙ ap (put_at (entries_of old) c.args.entry.now.map c.args.entry.now.key) c.replace.ensures.after in
    AreTied-put (entries_of old) (entries_of new) c.self.inside.by_map c.self.inside.by_key c.args.entry.now.map
    c.args.entry.now.key c.args.entry.now.value c.in_ok-old.old.now c.self.invariant found given
    (AreDistinct-entries new holds.4)

pub returns-clause-old : goal.returns-clause-old
returns-clause-old c =
    let old = c.self.inside.table in
    let there = sym c.in_ok-old.ensures.value in
    let found = value_at-entries old c.args.entry.now.map c.args.entry.now.key ∙ there in
    let holds = c.get_mut.follows.holds c.replace.new.dest in
    let new = c.get_mut.follows.lender c.replace.new.dest in
    let written = put_at-written old new c.args.entry.now.map c.args.entry.now.key c.replace.new.dest
    c.in_ok-old.old.now there holds.0 in
    let given = written
    ∙ ap (put_at (entries_of old) c.args.entry.now.map c.args.entry.now.key) c.replace.ensures.after in
    rw (← c.self.view_is, c.replace.ensures.value) (sym found)

pub returns-clause-entries : goal.returns-clause-entries
returns-clause-entries c =
    let old = c.self.inside.table in
    let there = sym c.in_ok-old.ensures.value in
    let found = value_at-entries old c.args.entry.now.map c.args.entry.now.key ∙ there in
    let holds = c.get_mut.follows.holds c.replace.new.dest in
    let new = c.get_mut.follows.lender c.replace.new.dest in
    let written = put_at-written old new c.args.entry.now.map c.args.entry.now.key c.replace.new.dest
    c.in_ok-old.old.now there holds.0 in
    let given = written
    ∙ ap (put_at (entries_of old) c.args.entry.now.map c.args.entry.now.key) c.replace.ensures.after in
    rw (← c.self.view_is) given

pub returns-clause-found : goal.returns-clause-found
returns-clause-found c =
    let old = c.self.inside.table in
    let there = sym c.in_ok-old.ensures.value in
    let found = value_at-entries old c.args.entry.now.map c.args.entry.now.key ∙ there in
    let holds = c.get_mut.follows.holds c.replace.new.dest in
    let new = c.get_mut.follows.lender c.replace.new.dest in
    let written = put_at-written old new c.args.entry.now.map c.args.entry.now.key c.replace.new.dest
    c.in_ok-old.old.now there holds.0 in
    let given = written
    ∙ ap (put_at (entries_of old) c.args.entry.now.map c.args.entry.now.key) c.replace.ensures.after in
    rw (← c.self.view_is)
    (λ m k. ap (λ es. value_at es m k) given ∙ value_at-put_at (entries_of old) c.args.entry.now.map
    c.args.entry.now.key c.args.entry.now.value m k)

pub returns-clause-sound : goal.returns-clause-sound
returns-clause-sound c =
    let old = c.self.inside.table in
    let there = sym c.in_ok-old.ensures.value in
    let found = value_at-entries old c.args.entry.now.map c.args.entry.now.key ∙ there in
    let holds = c.get_mut.follows.holds c.replace.new.dest in
    let new = c.get_mut.follows.lender c.replace.new.dest in
    let written = put_at-written old new c.args.entry.now.map c.args.entry.now.key c.replace.new.dest
    c.in_ok-old.old.now there holds.0 in
    let given = written
    ∙ ap (put_at (entries_of old) c.args.entry.now.map c.args.entry.now.key) c.replace.ensures.after in
    AreEntries-from_tied (entries_of new) c.self.inside.by_map c.self.inside.by_key
    (AreTied-put (entries_of old) (entries_of new) c.self.inside.by_map c.self.inside.by_key c.args.entry.now.map
    c.args.entry.now.key c.args.entry.now.value c.in_ok-old.old.now c.self.invariant found given
    (AreDistinct-entries new holds.4))

use Rattle.std.proofs.Common.{◌<◌, length, ap, arith}
use Rattle.std.proofs.lemmas.Option.{IfSome_then, slice_get_past}
use Rattle.weak_maps.specs.Tables.{entries_of}
use Rattle.weak_maps.specs.Entries.{EntriesState}
use Rattle.weak_maps.proofs.Sound.{AreEntries-from_tied}
use Rattle.weak_maps.proofs.Table.{AreDistinct-entries}
use Rattle.weak_maps.proofs.Taking.{taken}
use Rattle.weak_maps.proofs.Tying.{AreParallel-tied, AreTied-taken, Carries-taken, Carries-same}
use Rattle.weak_maps.proofs.entries.Entries.take_at.Goals as goal

pub invariant_of-self : goal.invariant_of-self
invariant_of-self c =
    let now = c.swap_remove_index.ensures in
    let less : c.args.index < length (entries_of c.self.inside.table) =
    (let len = ap (λ (w : EntriesState). length w.table.entries) c.self.view_is in let count =
    c.count.ensures.count in let low = c.if-index-count.true in omega (arith, len, count, low)) in
    let took = taken c.self.inside.table c.swap_remove_index.new.self c.args.index c.swap_remove_index.result now.entry
    now.entries (IfSome_then c.swap_remove_index.result now.updates (λ p u. u.0)) less in
    AreTied-taken (entries_of c.self.inside.table) (entries_of c.swap_remove_index.new.self) c.self.inside.by_map
    c.self.inside.by_key c.take.new.self c.take-then-index-count.new.self c.args.index took.entry c.self.invariant
    less took.entries (AreDistinct-entries c.swap_remove_index.new.self now.unique) c.take.ensures.heads
    c.take.ensures.owners c.take.ensures.left c.take.ensures.side c.take-then-index-count.ensures.heads
    c.take-then-index-count.ensures.owners c.take-then-index-count.ensures.left c.take-then-index-count.ensures.side

pub returns-then-index-count : goal.returns-then-index-count
returns-then-index-count c =
    let now = c.swap_remove_index.ensures in
    let less : c.args.index < length (entries_of c.self.inside.table) =
    (let len = ap (λ (w : EntriesState). length w.table.entries) c.self.view_is in let count =
    c.count.ensures.count in let low = c.if-index-count.true in omega (arith, len, count, low)) in
    let took = taken c.self.inside.table c.swap_remove_index.new.self c.args.index c.swap_remove_index.result now.entry
    now.entries (IfSome_then c.swap_remove_index.result now.updates (λ p u. u.0)) less in
    let tied = AreTied-taken (entries_of c.self.inside.table) (entries_of c.swap_remove_index.new.self)
    c.self.inside.by_map c.self.inside.by_key c.take.new.self c.take-then-index-count.new.self c.args.index
    took.entry c.self.invariant less took.entries (AreDistinct-entries c.swap_remove_index.new.self now.unique)
    c.take.ensures.heads c.take.ensures.owners c.take.ensures.left c.take.ensures.side
    c.take-then-index-count.ensures.heads c.take-then-index-count.ensures.owners
    c.take-then-index-count.ensures.left c.take-then-index-count.ensures.side in
    rw (← c.self.view_is, took.there) record {
      taken = took.entries;
      found = took.found;
      carries = Carries-taken (entries_of c.self.inside.table) (entries_of c.swap_remove_index.new.self)
          c.self.inside.by_map c.self.inside.by_key c.take.new.self c.take-then-index-count.new.self c.args.index
          took.entry c.self.invariant less took.entries (AreDistinct-entries c.swap_remove_index.new.self now.unique)
          c.take.ensures.heads c.take.ensures.owners c.take.ensures.left c.take.ensures.side
          c.take-then-index-count.ensures.heads c.take-then-index-count.ensures.owners
          c.take-then-index-count.ensures.left c.take-then-index-count.ensures.side;
      parallel = AreParallel-tied (entries_of c.swap_remove_index.new.self) c.take.new.self
          c.take-then-index-count.new.self tied;
      sound = AreEntries-from_tied (entries_of c.swap_remove_index.new.self) c.take.new.self
          c.take-then-index-count.new.self tied;
    }

pub returns-else-index-count-clause-taken : goal.returns-else-index-count-clause-taken
returns-else-index-count-clause-taken c =
    rw (slice_get_past c.args.self.now.table.entries c.args.index (let count = c.count.ensures.count in let high =
    c.if-index-count.false in omega (arith, count, high))) tt

pub returns-else-index-count-clause-found : goal.returns-else-index-count-clause-found
returns-else-index-count-clause-found c =
    rw (slice_get_past c.args.self.now.table.entries c.args.index (let count = c.count.ensures.count in let high =
    c.if-index-count.false in omega (arith, count, high))) tt

pub returns-else-index-count-clause-carries : goal.returns-else-index-count-clause-carries
returns-else-index-count-clause-carries c = Carries-same c.args.self.now

use Rattle.std.proofs.Common.{◌≡◌, false, ◌<◌, length, map, subst, sym, arith}
use Rattle.std.specs.List.Sorted.{IsPermutation, IsSorted}
use Rattle.std.specs.Ordering.{is_lt, nat_cmp, ordering_then}
use Rattle.gz_names.specs.contracts.names.NameOrd.TheImpl as derived
use Rattle.colour_defs.specs.Dumps.{WeakLine}
use Rattle.slice_driver.specs.Listings.{entries_below, weak_of}
use Rattle.slice_driver.specs.declared.listings.NamedEntry.{NamedEntry}
use Rattle.slice_driver.proofs.dumping.Entries.{entries_listed, key_cmp}
use Rattle.slice_driver.proofs.dumping.Orders.{names_as, sorted_as, two_decide}
use Rattle.slice_driver.proofs.listings.entries_by_name.Goals as goal

pub returns : goal.returns
returns c =
    let s = c.args.heap.now.shape in
    let end : c.loop-index.index ≡ length s.weak.entries =
    omega (arith, c.loop-index-test.false, c.entries-index-end.ensures.count, c.loop-index.auto.index-end) in
    let moved = subst (λ n. IsPermutation (entries_below s n) c.sort_unstable.new.self.items) end
    (subst (λ entries. IsPermutation entries c.sort_unstable.new.self.items) c.loop-index.invariant.entries
    c.sort_unstable.ensures.permutation) in
    let sorted : IsSorted key_cmp (map weak_of c.sort_unstable.new.self.items) =
    sorted_as (λ (a b : NamedEntry). ordering_then (nat_cmp a.map b.map)
    (ordering_then (derived.ghosts.cmp a.key b.key) (derived.ghosts.cmp a.value b.value)))
    c.sort_unstable.new.self.items c.sort_unstable.ensures.sorted weak_of
    (λ (e : WeakLine). record { map = e.map; key = e.key; value = e.value }) key_cmp
    (λ a b later. subst (λ o. is_lt (ordering_then (nat_cmp a.map b.map) o) ≡ false) (names_as a.key b.key)
    (two_decide (nat_cmp a.map b.map) (derived.ghosts.cmp a.key b.key) (derived.ghosts.cmp a.value b.value) later)) in
    entries_listed s c.requires.apart
    (λ some. c.loop-index.invariant.sound (subst (λ n. 0 < n) (sym end) some))
    c.sort_unstable.new.self.items moved sorted

use Rattle.std.proofs.Common.{◌≡◌, false, length, subst, arith}
use Rattle.std.specs.List.Sorted.{IsPermutation, IsSorted}
use Rattle.std.specs.declared.cmp.Ordering.{Ordering}
use Rattle.std.specs.Ordering.{is_lt, nat_cmp, ordering_then}
use Rattle.gz_names.specs.declared.numbers.Place.{Place}
use Rattle.gz_names.specs.contracts.names.NameOrd.TheImpl as derived
use Rattle.gz_names.specs.Order.{name_cmp}
use Rattle.gz_names.specs.declared.names.Name.{Name}
use Rattle.slice_driver.specs.Listings.{cells_up_to, names_of}
use Rattle.slice_driver.specs.declared.listings.NamedCell.{NamedCell}
use Rattle.slice_driver.proofs.dumping.Listed.{cells_listed}
use Rattle.slice_driver.proofs.dumping.Orders.{first_decides, names_as, sorted_as}
use Rattle.slice_driver.proofs.listings.cells_by_name.Goals as goal

abbrev place_cmp : Place → Place → Ordering
place_cmp p q = ordering_then (nat_cmp p.0 q.0) (nat_cmp p.1 q.1)

pub returns : goal.returns
returns c =
    let s = c.args.heap.now.shape in
    let end : c.loop-arena.arena ≡ length s.arenas =
    omega (arith, c.loop-arena-test.false, c.arenas-arena-end.ensures, c.loop-arena.auto.arena-end) in
    let moved = subst (λ n. IsPermutation (cells_up_to s n) c.sort_unstable.new.self.items) end
    (subst (λ cells. IsPermutation cells c.sort_unstable.new.self.items) c.loop-arena.invariant
    c.sort_unstable.ensures.permutation) in
    let sorted : IsSorted name_cmp (names_of c.sort_unstable.new.self.items) =
    sorted_as (λ (a b : NamedCell). ordering_then (derived.ghosts.cmp a.name b.name) (place_cmp a.place b.place))
    c.sort_unstable.new.self.items c.sort_unstable.ensures.sorted (λ (cell : NamedCell). cell.name)
    (λ (x : Name). record { name = x; place = (0, 0) }) name_cmp
    (λ a b later. subst (λ o. is_lt o ≡ false) (names_as a.name b.name)
    (first_decides (derived.ghosts.cmp a.name b.name) (place_cmp a.place b.place) later)) in
    cells_listed s c.requires.apart c.sort_unstable.new.self.items c.requires.whole moved sorted

use Rattle.std.proofs.Common.{◌+◌, ◌*◌, ◌^◌, ◌%◌, ◌<◌, ◌≡◌, arith, ap, length, sym, subst}
use Rattle.std.proofs.lemmas.Nat.{or_lt}
use Rattle.arena_table.specs.declared.store.Head.{Head}
use Rattle.arena_table.specs.Stored.{StoreState}
use Rattle.arena_table.proofs.Storing.{in_heads, in_cells, AreStored-put, arenas_of-put}
use Rattle.arena_table.proofs.store.Store.put.Goals as goal

pub index_mut-requires : goal.index_mut-requires
index_mut-requires c =
    let within = in_heads c.self.inside.heads.items c.self.inside.cells.items _ c.args.place.0
    (ap (λ (s : StoreState). s.arenas) c.self.view_is) c.requires in
    omega (arith, c.self.inside.heads.ok.0, c.arena.ensures)

pub position-requires : goal.position-requires
position-requires c =
    let within = in_heads c.self.inside.heads.items c.self.inside.cells.items _ c.args.place.0
    (ap (λ (s : StoreState). s.arenas) c.self.view_is) c.requires in
    omega (arith, c.self.invariant.few)

pub index_mut-requires-2 : goal.index_mut-requires-2
index_mut-requires-2 c =
    let within = in_cells c.self.inside.heads.items c.self.inside.cells.items _ c.args.place.0 c.args.place.1
    c.self.invariant (ap (λ (s : StoreState). s.arenas) c.self.view_is) c.requires c.position.ensures.slot in
    omega (arith, c.self.inside.cells.ok.0, c.position.ensures.value)

pub invariant_of-self : goal.invariant_of-self
invariant_of-self c =
    let heads = c.self.inside.heads.items in
    let within = in_heads heads c.self.inside.cells.items _ c.args.place.0
    (ap (λ (s : StoreState). s.arenas) c.self.view_is) c.requires in
    let inside : c.arena.result < length heads = rw c.arena.ensures within in
    let old : c.index_mut.result.now.alloc_word < 18446744073709551616 =
    subst (λ (x : Head). x.alloc_word < 18446744073709551616) (sym c.index_mut.ensures.value)
    (c.self.invariant.words c.arena.result _ inside) in
    let word = or_lt 64 c.index_mut.result.now.alloc_word (1 * 2 ^ c.slot.result % 18446744073709551616) old
    (omega arith) in
    AreStored-put heads c.self.inside.cells.items c.arena.result c.position.result _ _ c.self.invariant word

pub returns : goal.returns
returns c =
    let lt : c.arena.result < length c.args.self.now.arenas = rw c.arena.ensures c.requires in
    let at : c.position.result ≡ 64 * c.arena.result + c.slot.result =
    rw (c.arena.ensures, c.slot.ensures.value) c.position.ensures.value in
    rw (← c.arena.ensures, ← c.slot.ensures.value)
    (arenas_of-put c.self.inside.heads.items c.self.inside.cells.items _ c.arena.result c.slot.result
    c.position.result c.index_mut.result.now c.args.cell c.self.invariant
    (ap (λ (s : StoreState). s.arenas) c.self.view_is) lt c.slot.ensures.below at c.index_mut.ensures.value)

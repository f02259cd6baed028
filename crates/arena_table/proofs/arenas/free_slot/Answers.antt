use Rattle.std.proofs.Common.{◌≡◌, ◌≢◌, ◌<◌, ◌*◌, ◌%◌, ◌^◌, length, IsSomeAnd, is_some, slice_get, refl, sym, ap, ◌∙◌}
use Rattle.std.proofs.Common.{arith}
use Rattle.std.specs.Int.{bit_at}
use Rattle.std.proofs.lemmas.Nat.{one_shl}
use Rattle.std.proofs.lemmas.Nat.Bits.{bit_at_ones}
use Rattle.arena_table.specs.Slots.{bit_of, change_at, taken_in}
use Rattle.arena_table.specs.Stored.{IsHeadOf}
use Rattle.arena_table.proofs.Changing.{length-change_at}
use Rattle.arena_table.proofs.Indexing.{IsIndexed-freed, room-for}
use Rattle.arena_table.proofs.MovingCells.{freed-here}
use Rattle.arena_table.proofs.Placing.{bits-of_head}
use Rattle.arena_table.proofs.Storing.{cell_at-within}
use Rattle.arena_table.proofs.arenas.free_slot.Goals as goal

pub take_in-requires : goal.take_in-requires
take_in-requires c =
    let within = cell_at-within c.args.store.now.arenas c.args.place c.requires.cell in
    omega (arith, within, c.arena-arena.ensures)

pub head-requires : goal.head-requires
head-requires c =
    let within = cell_at-within c.args.store.now.arenas c.args.place c.requires.cell in
    rw (c.take_in.ensures, c.arena-arena.ensures, length-change_at) within

pub open-requires : goal.open-requires
open-requires c =
    let xs = c.args.store.now.arenas in
    let p = c.args.place in
    let within = cell_at-within xs p c.requires.cell in
    let bit : 1 * 2 ^ c.slot.result % 18446744073709551616 ≡ 2 ^ p.1 =
    one_shl c.slot.result 64 c.slot.ensures.below ∙ ap (λ n. 2 ^ n) c.slot.ensures.value in
    let freed : c.take_in.new.self.arenas ≡ change_at (taken_in (2 ^ p.1) c.args.bits) xs p.0 =
    c.take_in.ensures
    ∙ ap (λ b. change_at (taken_in b c.args.bits) xs c.arena-arena.result) bit
    ∙ ap (change_at (taken_in (2 ^ p.1) c.args.bits) xs) c.arena-arena.ensures in
    let head = rw (freed, c.arena-arena.ensures) at c.head.ensures.head in
    rw c.arena-arena.ensures
    (room-for xs c.args.index.now p.0 c.head.result.now.zone c.head.result.now (taken_in (2 ^ p.1) c.args.bits)
    c.requires.indexed within c.requires.owned (λ x. refl) head refl)

pub returns-clause-arenas : goal.returns-clause-arenas
returns-clause-arenas c =
    let xs = c.args.store.now.arenas in
    let bit : 1 * 2 ^ c.slot.result % 18446744073709551616 ≡ 2 ^ c.args.place.1 =
    one_shl c.slot.result 64 c.slot.ensures.below ∙ ap (λ n. 2 ^ n) c.slot.ensures.value in
    c.take_in.ensures
    ∙ ap (λ b. change_at (taken_in b c.args.bits) xs c.arena-arena.result) bit
    ∙ ap (change_at (taken_in (2 ^ c.args.place.1) c.args.bits) xs) c.arena-arena.ensures

pub returns-clause-indexed : goal.returns-clause-indexed
returns-clause-indexed c =
    let xs = c.args.store.now.arenas in
    let p = c.args.place in
    let within = cell_at-within xs p c.requires.cell in
    let bit : 1 * 2 ^ c.slot.result % 18446744073709551616 ≡ 2 ^ p.1 =
    one_shl c.slot.result 64 c.slot.ensures.below ∙ ap (λ n. 2 ^ n) c.slot.ensures.value in
    let freed : c.take_in.new.self.arenas ≡ change_at (taken_in (2 ^ p.1) c.args.bits) xs p.0 =
    c.take_in.ensures
    ∙ ap (λ b. change_at (taken_in b c.args.bits) xs c.arena-arena.result) bit
    ∙ ap (change_at (taken_in (2 ^ p.1) c.args.bits) xs) c.arena-arena.ensures in
    let head = rw (freed, c.arena-arena.ensures) at c.head.ensures.head in
    let clear : bit_at c.head.result.now.alloc_word p.1 ≡ 0 =
    bits-of_head (change_at (taken_in (2 ^ p.1) c.args.bits) xs p.0) p.0 c.head.result.now head p.1
    ∙ ap (λ o. bit_of (is_some o)) (freed-here c.args.bits xs p) in
    let full : c.head.result.now.alloc_word ≢ 18446744073709551615 = λ all.
    (let one = bit_at_ones 64 p.1 (omega (arith, c.slot.ensures)) in
    let same = ap (λ w. bit_at w p.1) all in omega (arith, clear, one, same)) in
    rw freed
    (IsIndexed-freed xs c.args.index.now c.open.new.self p.0 (2 ^ p.1) c.head.result.now.zone c.args.bits
    c.head.result.now c.requires.indexed within c.requires.owned head full refl c.open.ensures.owned
    (rw c.arena-arena.ensures at c.open.ensures.bits) c.open.ensures.room c.open.ensures.others)

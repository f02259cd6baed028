use Rattle.std.proofs.Common.{◌≡◌, ◌<◌, ◌^◌, ◌∙◌, ◌∷◌, [], All, IsSomeAnd, List, length}
use Rattle.std.proofs.Common.{slice_get, zero}
use Rattle.std.proofs.Common.{refl, sym, ap, subst, arith}
use Rattle.std.specs.Int.{bit_at}
use Rattle.std.proofs.lemmas.Nat.Bits.{shr_and_one}
use Rattle.arena_table.specs.Cells.{state_of}
use Rattle.arena_table.specs.Indexed.{is_open}
use Rattle.arena_table.specs.Moving.{MovesCells}
use Rattle.arena_table.specs.Slots.{Arena, change_at, held_by, taken_in, with_bits, with_cell}
use Rattle.arena_table.specs.Stored.{IsHeadOf}
use Rattle.arena_table.specs.Table.{IsEmptyIfGivenUp}
use Rattle.arena_table.proofs.Changing.{AreLike-changed, IsIndexed-like, IsLike-bits, length-change_at}
use Rattle.arena_table.proofs.GivenUp.{owned-cell}
use Rattle.arena_table.proofs.MovingCells.{Carries-from, MayGo, MovesCells-one, bits-at, empty-gone, gone, held-gone}
use Rattle.arena_table.proofs.MovingCells.{long-freed, may-go, placed, takes-cell}
use Rattle.arena_table.proofs.Storing.{cell_at-within}
use Rattle.arena_table.proofs.arenas.move_between.Goals as goal

pub head-requires : goal.head-requires
head-requires c =
    let within = cell_at-within c.args.store.now.arenas c.args.step.from
    (c.requires.moves.cells c.args.step (0, omega arith, refl)) in
    omega (arith, within, c.arena-left.ensures)

pub head-requires-2 : goal.head-requires-2
head-requires-2 c =
    let within = cell_at-within c.args.store.now.arenas c.args.step.from
    (c.requires.moves.cells c.args.step (0, omega arith, refl)) in
    omega (arith, within, c.arena-left.ensures)

pub free_slot-requires-clause-owned : goal.free_slot-requires-clause-owned
free_slot-requires-clause-owned c = owned-cell c.args.store.now.arenas c.args.step.from c.requires.empty
    (c.requires.moves.cells c.args.step (0, omega arith, refl))

pub put_in_arena-requires-clause-takes : goal.put_in_arena-requires-clause-takes
put_in_arena-requires-clause-takes c =
    let xs = c.args.store.now.arenas in
    let m = c.args.step in
    let slot : m.to.1 < 64 = (let seat = c.slot-seat.ensures in omega (arith, seat.value, seat.below)) in
    ap (λ (ys : List Arena). is_open c.head.result.now.zone (slice_get ys m.to.0)) c.free_slot.ensures.arenas
    ∙ takes-cell xs m (state_of c.cell-cell.result.now) c.marked-before.result c.marked-before.result
    c.head.result.now (record {
      zones = c.requires.indexed.owned.zones;
      empty = c.requires.empty;
      whole = c.whole_law.ensures;
      may = c.requires.moves;
      here = c.cell-cell.ensures;
      slot = slot;
    })
    (subst (λ a. IsSomeAnd (slice_get xs a) (λ x. IsHeadOf x c.head.result.now)) c.arena-left.ensures
    c.head.ensures.head)

pub head-requires-3 : goal.head-requires-3
head-requires-3 c =
    let xs = c.args.store.now.arenas in
    let m = c.args.step in
    let made = c.requires.moves.made m (0, omega arith, refl) in
    let freed-long = ap length c.free_slot.ensures.arenas
    ∙ length-change_at (taken_in (2 ^ m.from.1) c.marked-before.result) xs m.from.0 in
    let placed-long = ap length c.put_in_arena.ensures.arenas
    ∙ length-change_at (with_cell m.to.1 (state_of c.cell-cell.result.now)) c.free_slot.new.store.arenas m.to.0 in
    omega (arith, made, freed-long, placed-long, c.arena-goal.ensures)

pub set_bits-requires : goal.set_bits-requires
set_bits-requires c =
    let xs = c.args.store.now.arenas in
    let m = c.args.step in
    let made = c.requires.moves.made m (0, omega arith, refl) in
    let freed-long = ap length c.free_slot.ensures.arenas
    ∙ length-change_at (taken_in (2 ^ m.from.1) c.marked-before.result) xs m.from.0 in
    let placed-long = ap length c.put_in_arena.ensures.arenas
    ∙ length-change_at (with_cell m.to.1 (state_of c.cell-cell.result.now)) c.free_slot.new.store.arenas m.to.0 in
    omega (arith, made, freed-long, placed-long, c.arena-goal.ensures)

pub returns-clause-moves : goal.returns-clause-moves
returns-clause-moves c =
    let xs = c.args.store.now.arenas in
    let m = c.args.step in
    let cell = state_of c.cell-cell.result.now in
    let before = c.marked-before.result in
    let after = c.marked-after.result in
    let put : c.put_in_arena.new.store.arenas ≡ placed xs m cell before after =
    c.put_in_arena.ensures.arenas
    ∙ ap (λ (ys : List Arena). change_at (with_cell m.to.1 cell) ys m.to.0) c.free_slot.ensures.arenas in
    let final : c.set_bits.new.self.arenas ≡ gone xs m cell before after =
    c.set_bits.ensures.arenas
    ∙ ap (λ (ys : List Arena). change_at (with_bits after) ys c.arena-goal.result) put
    ∙ ap (change_at (with_bits after) (placed xs m cell before after)) c.arena-goal.ensures in
    let slot : m.to.1 < 64 = (let seat = c.slot-seat.ensures in omega (arith, seat.value, seat.below)) in
    let go : MayGo xs m cell = may-go xs m cell (record {
      zones = c.requires.indexed.owned.zones;
      empty = c.requires.empty;
      whole = c.whole_law.ensures;
      may = c.requires.moves;
      here = c.cell-cell.ensures;
      slot = slot;
    }) in
    let of-from = subst (λ a. IsSomeAnd (slice_get xs a) (λ x. IsHeadOf x c.head-2.result.now)) c.arena-left.ensures
    c.head-2.ensures.head in
    let of-to = subst (λ a. IsSomeAnd (slice_get (placed xs m cell before after) a)
    (λ x. IsHeadOf x c.head-3.result.now)) c.arena-goal.ensures
    (subst (λ (ys : List Arena). IsSomeAnd (slice_get ys c.arena-goal.result) (λ x. IsHeadOf x c.head-3.result.now))
    put c.head-3.ensures.head) in
    subst (MovesCells xs (m ∷ [])) (sym final)
    (MovesCells-one xs m cell before after go
    (Carries-from xs m cell before after (λ b. b.black) c.head-2.result.now c.head-3.result.now (record {
      of_from = of-from;
      of_to = of-to;
      clear = bits-at c.head-2.result.now.bits.black before.black _ _ zero zero c.slot-slot.ensures.value refl
          c.marked-before.ensures.black;
      carry = bits-at c.head-3.result.now.bits.black after.black _ _ _ _ c.slot-seat.ensures.value
          (shr_and_one c.head-2.result.now.bits.black c.slot-slot.result
          ∙ ap (bit_at c.head-2.result.now.bits.black) c.slot-slot.ensures.value) c.marked-after.ensures.black;
    }))
    (Carries-from xs m cell before after (λ b. b.gob) c.head-2.result.now c.head-3.result.now (record {
      of_from = of-from;
      of_to = of-to;
      clear = bits-at c.head-2.result.now.bits.gob before.gob _ _ zero zero c.slot-slot.ensures.value refl
          c.marked-before.ensures.gob;
      carry = bits-at c.head-3.result.now.bits.gob after.gob _ _ _ _ c.slot-seat.ensures.value
          (shr_and_one c.head-2.result.now.bits.gob c.slot-slot.result
          ∙ ap (bit_at c.head-2.result.now.bits.gob) c.slot-slot.ensures.value) c.marked-after.ensures.gob;
    })))

pub returns-clause-indexed : goal.returns-clause-indexed
returns-clause-indexed c =
    IsIndexed-like c.put_in_arena.new.store.arenas c.set_bits.new.self.arenas c.put_in_arena.new.index
    (AreLike-changed (with_bits c.marked-after.result) (IsLike-bits c.marked-after.result)
    c.put_in_arena.new.store.arenas c.set_bits.new.self.arenas c.arena-goal.result c.set_bits.ensures.arenas)
    c.put_in_arena.ensures.indexed

pub returns-clause-empty : goal.returns-clause-empty
returns-clause-empty c =
    let xs = c.args.store.now.arenas in
    let m = c.args.step in
    let cell = state_of c.cell-cell.result.now in
    let before = c.marked-before.result in
    let after = c.marked-after.result in
    let put : c.put_in_arena.new.store.arenas ≡ placed xs m cell before after =
    c.put_in_arena.ensures.arenas
    ∙ ap (λ (ys : List Arena). change_at (with_cell m.to.1 cell) ys m.to.0) c.free_slot.ensures.arenas in
    let final : c.set_bits.new.self.arenas ≡ gone xs m cell before after =
    c.set_bits.ensures.arenas
    ∙ ap (λ (ys : List Arena). change_at (with_bits after) ys c.arena-goal.result) put
    ∙ ap (change_at (with_bits after) (placed xs m cell before after)) c.arena-goal.ensures in
    subst (All IsEmptyIfGivenUp) (sym final)
    (empty-gone xs m cell before after c.requires.indexed.owned.zones c.requires.empty c.requires.moves)

pub returns-clause-held : goal.returns-clause-held
returns-clause-held c =
    let xs = c.args.store.now.arenas in
    let m = c.args.step in
    let cell = state_of c.cell-cell.result.now in
    let before = c.marked-before.result in
    let after = c.marked-after.result in
    let put : c.put_in_arena.new.store.arenas ≡ placed xs m cell before after =
    c.put_in_arena.ensures.arenas
    ∙ ap (λ (ys : List Arena). change_at (with_cell m.to.1 cell) ys m.to.0) c.free_slot.ensures.arenas in
    let final : c.set_bits.new.self.arenas ≡ gone xs m cell before after =
    c.set_bits.ensures.arenas
    ∙ ap (λ (ys : List Arena). change_at (with_bits after) ys c.arena-goal.result) put
    ∙ ap (change_at (with_bits after) (placed xs m cell before after)) c.arena-goal.ensures in
    let slot : m.to.1 < 64 = (let seat = c.slot-seat.ensures in omega (arith, seat.value, seat.below)) in
    let go : MayGo xs m cell = may-go xs m cell (record {
      zones = c.requires.indexed.owned.zones;
      empty = c.requires.empty;
      whole = c.whole_law.ensures;
      may = c.requires.moves;
      here = c.cell-cell.ensures;
      slot = slot;
    }) in
    ap held_by final
    ∙ held-gone xs m cell before after go.here go.free go.made (long-freed xs m cell before after go)

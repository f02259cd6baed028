use Rattle.std.proofs.Common.{◌≡◌, ◌+◌, ◌∙◌, List, Bool, true, false, Option, Some, None, IsSome, IsSomeAnd, is_some}
use Rattle.std.proofs.Common.{length}
use Rattle.std.proofs.Common.{slice_get, refl, sym, ap, subst, arith}
use Rattle.std.proofs.lemmas.Bool.{false≢true}
use Rattle.std.specs.Int.{bit_at}
use Rattle.arena_table.specs.Cells.{CellState}
use Rattle.arena_table.specs.Moving.{forwarded_at}
use Rattle.arena_table.specs.Slots.{Arena, bit_of, cell_at, change_at}
use Rattle.arena_table.specs.Stored.{IsHeadOf, StoreState}
use Rattle.arena_table.proofs.Changing.{length-change_at}
use Rattle.arena_table.proofs.Forwarding.{upto, upto-all, upto-cell, upto-more, upto-none, upto-skip}
use Rattle.arena_table.proofs.Placing.{bits-of_head}
use Rattle.arena_table.proofs.arenas.forward_all.Goals as goal
use Rattle.arena_table.proofs.arenas.forward_all.Goals.{then-has_bit, else-has_bit}

some-of : (o : Option CellState) → bit_of (is_some o) ≡ 1 → IsSome o
some-of None bit = (let none : 0 ≡ 1 = bit in absurd (omega (arith, none)))
some-of (Some cell) bit = cc

none-of : (o : Option CellState) → (bit_of (is_some o) ≡ 1 → ⊥) → o ≡ None
none-of None bit = refl
none-of (Some cell) bit = absurd (bit refl)

pub loop-slot-init : goal.loop-slot-init
loop-slot-init c = record { done = upto-none c.args.moves.now _ _; room = refl }

pub forward_slot-requires-clause-cell : goal.forward_slot-requires-clause-cell
forward_slot-requires-clause-cell c =
    let xs = c.args.store.now.arenas in
    let a = c.args.arena in
    let s = c.loop-slot.slot in
    let bit : bit_at c.head.result.now.alloc_word s ≡ 1 = c.has_bit.ensures.0 c.if-has_bit.true in
    subst IsSome (sym (ap (λ (ys : List Arena). cell_at ys (a, s)) c.loop-slot.invariant.done ∙ upto-cell _ s xs a))
    (some-of (cell_at xs (a, s)) (sym (bits-of_head xs a c.head.result.now c.head.ensures.head s) ∙ bit))

pub forward_slot-requires-clause-goals : goal.forward_slot-requires-clause-goals
forward_slot-requires-clause-goals c = λ k d lt.
    (let inside = c.requires.goals k d lt in
    let sized = ap length c.loop-slot.invariant.done
    ∙ length-change_at (upto c.args.moves.now c.loop-slot.slot) c.args.store.now.arenas c.args.arena in
    omega (arith, inside, sized))

pub loop-slot-preserved : goal.loop-slot-preserved
loop-slot-preserved c =
    let moves = c.args.moves.now in
    let xs = c.args.store.now.arenas in
    let a = c.args.arena in
    let s = c.loop-slot.slot in
    elim c.if-has_bit.branch [
      | then-has_bit w ↦ record {
        done = ap (λ (t : StoreState). t.arenas) w.store-is ∙ w.forward_slot.ensures.arenas
            ∙ ap (λ (ys : List Arena). change_at (forwarded_at moves s) ys a) c.loop-slot.invariant.done
            ∙ upto-more moves s (s + 1) xs a refl;
        room = ap (λ (t : StoreState). t.room) w.store-is ∙ w.forward_slot.ensures.room ∙ c.loop-slot.invariant.room;
      }
      | else-has_bit w ↦ record {
        done = ap (λ (t : StoreState). t.arenas) w.store-is ∙ c.loop-slot.invariant.done
            ∙ upto-skip moves s (s + 1) xs a refl (none-of (cell_at xs (a, s)) (λ one.
            false≢true (sym w.if-has_bit.false
            ∙ c.has_bit.ensures.1 (bits-of_head xs a c.head.result.now c.head.ensures.head s ∙ one))));
        room = ap (λ (t : StoreState). t.room) w.store-is ∙ c.loop-slot.invariant.room;
      }
    ]

pub returns-clause-arenas : goal.returns-clause-arenas
returns-clause-arenas c =
    c.loop-slot.invariant.done
    ∙ upto-all c.args.moves.now c.loop-slot.slot c.args.store.now.arenas c.args.arena (λ x at.
    (let whole = (subst (λ o. IsSomeAnd o (λ y. IsHeadOf y c.head.result.now)) at c.head.ensures.head).whole in
    omega (arith, whole)))

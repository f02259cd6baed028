use Rattle.std.proofs.Common.{◌≡◌, ℕ, ◌+◌, ◌++◌, sym, ap, ◌∙◌, arith, length}
use Rattle.mark_words.specs.Places.{places_of}
use Rattle.par_mark.specs.Turned.{turned_places}
use Rattle.par_mark.proofs.TurnedCells.{length-more, length-most, turned-more}
use Rattle.par_mark.proofs.turned.turned_cells.Goals as goal

pub push_slots-requires : goal.push_slots-requires
push_slots-requires c =
    let n = c.loop-arena.arena in
    let before = c.args.before.now in
    let after = c.args.after.now in
    let same = ap (λ (slots : ℕ). length (places_of n slots)) c.turned_in.ensures in
    let listed = ap length c.loop-arena.invariant.0 in
    let more = length-more before after n in
    let most = length-most before after (n + 1) c.in-Ok.arenas (omega arith) in
    omega arith

pub loop-arena-preserved : goal.loop-arena-preserved
loop-arena-preserved c =
    let n = c.loop-arena.arena in (
      c.push_slots.ensures.items
          ∙ (λ i. c.loop-arena.invariant.0 i ++ places_of n (c.turned_in.ensures i))
          ∙ sym (turned-more c.args.before.now c.args.after.now n),
      (let same = c.push_slots.ensures.room in omega arith),
    )

pub returns-clause-words : goal.returns-clause-words
returns-clause-words c = (
  (λ arena lt. (c.type_inv.before arena).fits),
  (λ arena lt. (c.type_inv.after arena).fits),
)

pub returns-clause-cells : goal.returns-clause-cells
returns-clause-cells c =
    let all : c.loop-arena.arena ≡ length c.args.before.now = omega (arith, c.in-Ok.ensures) in
    c.loop-arena.invariant.0 ∙ ap (turned_places c.args.before.now c.args.after.now) all

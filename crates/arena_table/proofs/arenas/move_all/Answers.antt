use Rattle.std.proofs.Common.{◌<◌, ◌+◌, ◌∙◌, ◌∷◌, ◌++◌, [], length, take, refl, sym, ap, subst}
use Rattle.std.proofs.Common.{arith}
use Rattle.std.proofs.lemmas.List.{take_all, take_more}
use Rattle.gz_names.specs.Moves.{AreInOrder}
use Rattle.gz_names.specs.declared.moves.Move.{Move}
use Rattle.arena_table.specs.Moving.{MayMove, MovesCells}
use Rattle.arena_table.proofs.MovingCells.{MayMove-next, MayMove-take, MovesCells-more, MovesCells-none, comes-after}
use Rattle.arena_table.proofs.arenas.move_all.Goals as goal

pub loop-step-init : goal.loop-step-init
loop-step-init c = record {
  gone = MovesCells-none c.args.store.now.arenas;
  indexed = c.requires.indexed;
  empty = c.requires.empty;
  held = refl;
}

pub move_between-requires-clause-moves : goal.move_between-requires-clause-moves
move_between-requires-clause-moves c =
    let xs = c.args.store.now.arenas in
    let moves = c.as_slice-step-items.result.now in
    let i = c.loop-step.step-index in
    let m = c.step-item.result in
    let within : i < length moves = omega arith in
    let may : MayMove xs moves = subst (MayMove xs) (sym c.as_slice-step-items.ensures.moves) c.requires.moves in
    let order = subst AreInOrder (sym c.as_slice-step-items.ensures.moves) c.as_slice-step-items.ensures.order in
    MayMove-next xs c.loop-step.store.arenas (take i moves) m
    (comes-after xs moves may order i m within c.step-item.is c.loop-step.store.arenas c.loop-step.invariant.gone)
    (subst (MayMove xs)
    (take_more moves i m within ∙ ap (λ (x : Move). take i moves ++ x ∷ []) (sym c.step-item.is))
    (MayMove-take xs (i + 1) moves may))

pub loop-step-preserved : goal.loop-step-preserved
loop-step-preserved c =
    let xs = c.args.store.now.arenas in
    let moves = c.as_slice-step-items.result.now in
    let i = c.loop-step.step-index in
    let m = c.step-item.result in
    let within : i < length moves = omega arith in
    let may : MayMove xs moves = subst (MayMove xs) (sym c.as_slice-step-items.ensures.moves) c.requires.moves in
    let order = subst AreInOrder (sym c.as_slice-step-items.ensures.moves) c.as_slice-step-items.ensures.order in
    record {
      gone = subst (λ l. MovesCells xs l c.move_between.new.store.arenas)
          (ap (λ (x : Move). take i moves ++ x ∷ []) c.step-item.is ∙ sym (take_more moves i m within))
          (MovesCells-more xs c.loop-step.store.arenas (take i moves) m
          (comes-after xs moves may order i m within c.step-item.is c.loop-step.store.arenas
          c.loop-step.invariant.gone) c.move_between.new.store.arenas c.move_between.ensures.moves);
      indexed = c.move_between.ensures.indexed;
      empty = c.move_between.ensures.empty;
      held = c.move_between.ensures.held ∙ c.loop-step.invariant.held;
    }

pub returns-clause-moves : goal.returns-clause-moves
returns-clause-moves c =
    let moves = c.as_slice-step-items.result.now in
    subst (λ l. MovesCells c.args.store.now.arenas l c.loop-step.store.arenas)
    (take_all c.loop-step.step-index moves (omega arith) ∙ c.as_slice-step-items.ensures.moves)
    c.loop-step.invariant.gone

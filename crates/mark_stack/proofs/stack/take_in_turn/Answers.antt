use Rattle.std.proofs.Common.{◌<◌, ◌∷◌, arith, length}
use Rattle.std.proofs.lemmas.List.Sorted.{IsPermutation-swap_remove, IsPermutation-sym}
use Rattle.mark_stack.proofs.stack.take_in_turn.Goals as goal

pub returns-clause-some : goal.returns-clause-some
returns-clause-some c =
    let pile = c.args.pile.now.items in
    let place = c.swap_remove.result in
    let inside : c.next_in_turn.result < length pile = omega (arith, c.next_in_turn.ensures, c.in_ok-last.ensures) in
    IsPermutation-sym pile (place ∷ c.swap_remove.new.self.items)
    (rw c.swap_remove.ensures.items
    (IsPermutation-swap_remove pile c.next_in_turn.result place inside c.swap_remove.ensures.value))

use Rattle.std.proofs.Common.{◌∷◌, ◌<◌, arith, length, subst, sym}
use Rattle.std.specs.List.Sorted.{IsPermutation}
use Rattle.mark_stack.proofs.Piles.{last_first}
use Rattle.mark_stack.proofs.stack.push_onto.Goals as goal

pub returns-clause-pushed : goal.returns-clause-pushed
returns-clause-pushed c =
    let within = c.requires.within in
    let below : length c.args.pile.now.items < 4096 = omega (arith, within, c.if-len-eq-PILE_LIMIT.false) in (
      below,
      subst (IsPermutation (c.args.place ∷ c.args.pile.now.items)) (sym c.push_reserved.ensures.items)
          (last_first c.args.pile.now.items c.args.place),
    )

use Rattle.std.proofs.Common.{◌∙◌, ◌+◌, ap, drop, sym, arith}
use Rattle.std.proofs.lemmas.List.{drop_all, drop_more}
use Rattle.colour_defs.specs.Compaction.{given_up_from}
use Rattle.judge.specs.Arenas.{owners_in}
use Rattle.judge.proofs.GivenUp.{given_more, given_none}
use Rattle.judge.proofs.arenas.Arenas.give_up.Goals as goal

pub loop-number-preserved : goal.loop-number-preserved
loop-number-preserved c =
    let numbers = c.args.numbers.now in
    let i = c.loop-number.number-index in
    let owners = owners_in c.loop-number.self in record {
      owners =
          ap (λ os. given_up_from 0 os (drop (i + 1) numbers)) c.give_one_up.ensures.owners
          ∙ given_more 0 owners _ (drop (i + 1) numbers)
          ∙ ap (given_up_from 0 owners) (sym (drop_more numbers i _ c.loop-number-test.true))
          ∙ c.loop-number.invariant.owners;
      out = c.give_one_up.ensures.out ∙ c.loop-number.invariant.out;
      lying = c.give_one_up.ensures.lying ∙ c.loop-number.invariant.lying;
    }

pub returns-clause-owners : goal.returns-clause-owners
returns-clause-owners c =
    let owners = owners_in c.loop-number.self in
    sym (given_none 0 owners)
    ∙ ap (given_up_from 0 owners) (sym (drop_all c.loop-number.number-index c.args.numbers.now (omega arith)))
    ∙ c.loop-number.invariant.owners

use Rattle.std.proofs.Common.{◌≡◌, inl, inr, arith, length, rules}
use Rattle.std.proofs.lemmas.Bool.{cases_lt}
use Rattle.gray_lists.proofs.Headed.{HasComp-past}
use Rattle.gray_lists.proofs.comp_sets.CompSet.first_of_words.Goals as goal

pub returns-clause-none : goal.returns-clause-none
returns-clause-none c = λ n le h. (
    let four : length c.args.self.now.words ≡ 4 = search rules in
    elim (cases_lt n 256) [
      | inl lt ↦ c.loop-word.invariant n le (omega (arith, c.loop-word-test.false)) h
      | inr far ↦ HasComp-past c.args.self.now.words n four far h
    ])

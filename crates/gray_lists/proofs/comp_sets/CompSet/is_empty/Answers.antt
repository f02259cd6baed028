use Rattle.std.proofs.Common.{◌≡◌, eqb-true, length, rules}
use Rattle.gray_lists.proofs.Headed.{HasComp-zeros}
use Rattle.gray_lists.proofs.comp_sets.CompSet.is_empty.Goals as goal

pub returns : goal.returns
returns c = λ is comp x. (
    let four : length c.args.self.now.words ≡ 4 = search rules in
    HasComp-zeros c.args.self.now.words comp four (eqb-true _ _ is) x)

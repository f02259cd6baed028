use Rattle.gray_lists.proofs.Headed.{HasZone-from}
use Rattle.gray_lists.proofs.comp_sets.bits_from.Goals as goal

pub returns : goal.returns
returns c = λ b. HasZone-from c.args.word c.args.from b c.requires

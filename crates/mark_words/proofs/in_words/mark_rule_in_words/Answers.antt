use Rattle.mark_words.proofs.Sentences.{in_words}
use Rattle.mark_words.proofs.in_words.mark_rule_in_words.Goals as goal

pub returns : goal.returns
returns g c = λ first s r. in_words _ first s r

use Rattle.sweep_board.proofs.Sentences.{in_words}
use Rattle.sweep_board.proofs.in_words.board_rule_in_words.Goals as goal

pub returns : goal.returns
returns c = in_words

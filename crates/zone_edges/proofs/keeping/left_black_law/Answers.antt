use Rattle.zone_edges.proofs.LeftBlack.{left_changes}
use Rattle.zone_edges.proofs.keeping.left_black_law.Goals as goal

pub returns : goal.returns
returns c = λ old new ch answer n sound apart able changes black left.
    left_changes old sound.0 n sound.1 apart left new old.made ch answer able black changes

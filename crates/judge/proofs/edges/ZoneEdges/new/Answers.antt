use Rattle.judge.proofs.ZoneEdges.{none_noted}
use Rattle.judge.proofs.edges.ZoneEdges.new.Goals as goal

pub returns : goal.returns
returns c = none_noted

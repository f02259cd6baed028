use Rattle.std.specs.Map.Iter.{deref_pair}
use Rattle.std.proofs.lemmas.Map.Iter.{rest_all, rest_more}
use Rattle.judge.proofs.Lying.{lays_all, lays_more, lays_none}
use Rattle.judge.proofs.compaction.lying_in.Goals as goal

pub loop-name-init : goal.loop-name-init
loop-name-init c =
    lays_none c.args.arenas.now c.args.places.now c.into_iter-name-iterator.result c.new-lying.result
    c.requires c.into_iter-name-iterator.ensures.into_iter_gives.5 c.into_iter-name-iterator.ensures.into_iter_gives.0
    c.new-lying.ensures.empty c.new-lying.ensures.ordered

pub loop-name-preserved : goal.loop-name-preserved
loop-name-preserved c =
    lays_more c.args.arenas.now c.args.places.now c.loop-name.name-iterator c.next.new.self _ c.loop-name.lying
    c.lay.new.lying (rest_more deref_pair _ _ _ _ c.in-Some.is c.next.ensures.steps) c.in_ok-lay.ensures
    c.loop-name.invariant

pub returns-clause-lying : goal.returns-clause-lying
returns-clause-lying c =
    lays_all c.args.arenas.now c.args.places.now c.loop-name.name-iterator c.loop-name.lying
    (rest_all deref_pair _ _ _ c.in-None.is c.next.ensures.steps) c.loop-name.invariant

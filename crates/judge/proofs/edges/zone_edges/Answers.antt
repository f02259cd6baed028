use Rattle.std.specs.Map.Iter.{deref_pair}
use Rattle.std.proofs.lemmas.Map.Iter.{rest_all, rest_more}
use Rattle.judge.specs.Edges.{sources_of}
use Rattle.judge.proofs.ZoneEdges.{noted_all, noted_more, noted_none}
use Rattle.judge.proofs.edges.zone_edges.Goals as goal

pub loop-name-init : goal.loop-name-init
loop-name-init c =
    noted_none (sources_of c.args.graph.now c.args.entries.now c.args.places.now c.args.collection.now) _ _
    c.into_iter-name-iterator.ensures.into_iter_gives.0 c.new-edges.ensures

pub loop-name-preserved : goal.loop-name-preserved
loop-name-preserved c =
    noted_more (sources_of c.args.graph.now c.args.entries.now c.args.places.now c.args.collection.now)
    c.loop-name.name-iterator c.next.new.self _ c.loop-name.edges c.note_edges_of.new.edges
    (rest_more deref_pair _ _ _ _ c.in-Some.is c.next.ensures.steps) c.note_edges_of.ensures c.loop-name.invariant

pub returns : goal.returns
returns c =
    noted_all (sources_of c.args.graph.now c.args.entries.now c.args.places.now c.args.collection.now)
    c.loop-name.name-iterator c.loop-name.edges (rest_all deref_pair _ _ _ c.in-None.is c.next.ensures.steps)
    c.loop-name.invariant

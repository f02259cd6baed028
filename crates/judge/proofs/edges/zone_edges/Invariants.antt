use Rattle.judge.specs.Edges.{sources_of}
use Rattle.judge.proofs.ZoneEdges.{NotesSoFar}
use Rattle.judge.proofs.edges.zone_edges.Given as goal

abbrev pub invariant-loop-name : goal.invariant-loop-name
invariant-loop-name l =
    NotesSoFar (sources_of l.graph l.entries l.places l.collection) l.name-iterator l.edges

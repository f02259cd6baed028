use Rattle.std.proofs.Common.{List, subst}
use Rattle.gz_names.specs.declared.zone_sets.ZoneSet.{ZoneSet}
use Rattle.colour_defs.specs.Graph.{GraphState}
use Rattle.judge.specs.Cells.{Cells}
use Rattle.judge.specs.Edges.{AreEdges, AreForward, AreInOrder, AreStrong, IsEdge, IsNoted, sources_of}
use Rattle.judge.specs.declared.collection.Collection.{Collection}
use Rattle.judge.specs.declared.edges.ZoneEdges.{ZoneEdges}
use Rattle.judge.proofs.ZoneEdges.{forward_as, not_strong, strong_as}
use Rattle.judge.proofs.checks.judge_edges.Goals as goal

-- the edges are noted as marking began, and as they are
record HasNoted (graph former : GraphState) (cells : Cells) (old new : Collection) (first last : ZoneEdges) : Type 0
  where
    first_are : AreEdges (sources_of graph former cells old) first
    last_are : AreEdges (sources_of graph graph cells new) last

in_order : (graph former : GraphState) (cells : Cells) (old new : Collection) (first last : ZoneEdges)
    (groups : List ZoneSet) → HasNoted graph former cells old new first last → AreStrong (IsNoted first) groups
    → AreForward (IsNoted last) groups → AreInOrder graph former cells old new groups
in_order graph former cells old new first last groups noted strong forward = record {
  strong = strong_as (IsNoted first) (IsEdge (sources_of graph former cells old)) groups
      (λ a b. (noted.first_are a b).0) strong;
  forward = forward_as (IsNoted last) (IsEdge (sources_of graph graph cells new)) groups
      (λ a b. (noted.last_are a b).1) forward;
}

pub returns-in-Some-clause-forbidden : goal.returns-in-Some-clause-forbidden
returns-in-Some-clause-forbidden c =
    not_strong c.args.graph.now c.args.former.now.graph c.args.places.now c.args.collection.now c.catch_up.new.self
    c.zone_edges-first.result c.args.groups.now
    (subst (λ (h : GraphState). AreEdges (sources_of c.args.graph.now h c.args.places.now c.args.collection.now)
    c.zone_edges-first.result) c.graph.ensures c.zone_edges-first.ensures) c.in-Some.ensures.some

pub returns-in-None-clause-allowed : goal.returns-in-None-clause-allowed
returns-in-None-clause-allowed c =
    in_order c.args.graph.now c.args.former.now.graph c.args.places.now c.args.collection.now c.catch_up.new.self
    c.zone_edges-first.result c.zone_edges-last.result c.args.groups.now
    (record {
      first_are = subst (λ (h : GraphState). AreEdges
          (sources_of c.args.graph.now h c.args.places.now c.args.collection.now) c.zone_edges-first.result)
          c.graph.ensures c.zone_edges-first.ensures;
      last_are = c.zone_edges-last.ensures;
    }) c.in_default.ensures.none c.in-None.ensures.none

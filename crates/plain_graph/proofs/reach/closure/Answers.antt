use Rattle.std.proofs.Common.{◌∙◌, ◌↔◌, List, Contains, arith, subst, sym}
use Rattle.gz_names.specs.declared.names.Name.{Name}
use Rattle.colour_defs.specs.Closure.{Closure}
use Rattle.plain_graph.proofs.Walks.{starts_all, starts_more, walk_starts}
use Rattle.plain_graph.proofs.reach.closure.Goals as goal

pub loop-start-preserved : goal.loop-start-preserved
loop-start-preserved c = record {
  next = c.in_ok-add.ensures.next ∙ c.loop-start.invariant.next;
  added = starts_more c.args.starts.now c.loop-start.start-index _ c.loop-start.walk.names c.add.new.self.names
      c.loop-start-test.true c.loop-start.invariant.added c.in_ok-add.ensures.added;
}

pub returns-clause-closure : goal.returns-clause-closure
returns-clause-closure c =
    let starts = c.args.starts.now in
    let same = starts_all starts c.loop-start.walk.names c.loop-start.start-index (omega arith)
    c.loop-start.invariant.added in
    let done = c.in_ok-finish.ensures starts
    (walk_starts c.args.graph.now starts c.loop-start.walk c.loop-start.invariant.next same) in
    λ x. subst (λ (xs : List Name). Contains xs x ↔ Closure c.args.graph.now (Contains starts) x)
    (sym c.into_names.ensures.names) (done.all x)

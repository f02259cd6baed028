use Rattle.std.proofs.Common.{subst}
use Rattle.heap_core.specs.Heap.{without_delayed}
use Rattle.barriers.specs.Pending.{pending}
use Rattle.slice_driver.specs.RootMarking.{IsTargetOf, Marks}
use Rattle.slice_driver.proofs.beginning.MarkedRoots.{among_skip, among_step, marks_seen, wrappers_still}
use Rattle.slice_driver.proofs.root_marking.mark_targets.Goals as goal
use Rattle.slice_driver.proofs.root_marking.mark_targets.Goals.{in-Some, in_default}

pub source_at-requires-clause-wrappers : goal.source_at-requires-clause-wrappers
source_at-requires-clause-wrappers g c = wrappers_still _ _ _ _ _ _ c.loop-index.invariant.marks c.requires.wrappers

pub mark_targets_of-requires-clause-wrappers : goal.mark_targets_of-requires-clause-wrappers
mark_targets_of-requires-clause-wrappers g c =
    wrappers_still _ _ _ _ _ _ c.loop-index.invariant.marks c.requires.wrappers

pub loop-index-preserved : goal.loop-index-preserved
loop-index-preserved g c =
    let m = c.loop-index.invariant.marks in
    elim c.match-source_at.branch [
      | in-Some w ↦
          let member = w.in-Some.ensures.some in
          record {
            marks = marks_seen _ _ _ _ _ _ _ _ w.heap-is w.stack-is
                (among_step _ _ _ c.loop-index.index _ _ _ _ member.1 m
                (subst (λ z. Marks (IsTargetOf (without_delayed c.loop-index.heap) z) c.args.zones
                (without_delayed c.loop-index.heap) (pending c.loop-index.heap c.loop-index.stack)
                (without_delayed w.mark_targets_of.new.heap)
                (pending w.mark_targets_of.new.heap w.mark_targets_of.new.stack))
                member.0 w.mark_targets_of.ensures));
          }
      | in_default w ↦ record {
        marks =
            marks_seen _ _ _ _ _ _ _ _ w.heap-is w.stack-is
            (among_skip _ _ _ c.loop-index.index _ _ w.in_default.ensures.none m);
      }
    ]

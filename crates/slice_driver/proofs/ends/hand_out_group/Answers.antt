use Rattle.std.proofs.Common.{◌∙◌, List, sym, subst}
use Rattle.cell_bits.specs.declared.jobs.Job.{Job}
use Rattle.heap_core.specs.Heap.{HeapState}
use Rattle.heap_core.specs.Sweeping.{AreAbsent, HaveWhiteOwners, with_handed}
use Rattle.slice_driver.proofs.group_end.WhiteOwners.{absent_in, owners_in}
use Rattle.slice_driver.proofs.ends.hand_out_group.Goals as goal

pub drop_dead-requires-clause-absent : goal.drop_dead-requires-clause-absent
drop_dead-requires-clause-absent c =
    let h : HeapState = c.args.heap.now in
    subst (λ (x : HeapState). AreAbsent c.as_slice.result.now x.shape) (sym c.in_ok-jobs.ensures.ok)
    (subst (λ (js : List Job). AreAbsent js (with_handed h c.args.group.bits).shape)
    (sym (c.as_slice.ensures ∙ c.in_ok-jobs.ensures.jobs)) (absent_in h c.args.group))

pub drop_dead-requires-clause-owners : goal.drop_dead-requires-clause-owners
drop_dead-requires-clause-owners c =
    let h : HeapState = c.args.heap.now in
    subst (λ (x : HeapState). HaveWhiteOwners c.as_slice.result.now x.shape) (sym c.in_ok-jobs.ensures.ok)
    (subst (λ (js : List Job). HaveWhiteOwners js (with_handed h c.args.group.bits).shape)
    (sym (c.as_slice.ensures ∙ c.in_ok-jobs.ensures.jobs))
    (owners_in h c.args.group c.requires.sized c.requires.kept c.requires.owners))

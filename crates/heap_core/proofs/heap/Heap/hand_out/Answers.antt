use Rattle.std.proofs.Common.{◌∙◌, ap}
use Rattle.std.proofs.lemmas.Result.{IfOk-weaker, on_ok_weaker}
use Rattle.heap_core.specs.contracts.heap.Heap.{the_view}
use Rattle.heap_core.specs.Heap.{HeapState}
use Rattle.heap_core.specs.Sweeping.{jobs_of}
use Rattle.heap_core.proofs.Taking.{handed-stored}
use Rattle.heap_core.proofs.Views.{hand_out-seen, kept-in, jobs-seen}
use Rattle.heap_core.proofs.NotedTargets.{noted-hand_out}
use Rattle.heap_core.proofs.heap.Heap.hand_out.Goals as goal

pub hand_out-requires : goal.hand_out-requires
hand_out-requires c = kept-in (the_view c.self.inside) c.args.self.now c.self.inside.arenas c.args.zones.bits
    c.self.view_is c.requires

pub returns-clause-jobs : goal.returns-clause-jobs
returns-clause-jobs c = IfOk-weaker c.hand_out.result _ _
    (λ jobs e. e ∙ (jobs-seen c.args.zones.bits 0 c.self.inside.arenas.arenas ∙ ap
    (λ (h : HeapState). jobs_of c.args.zones.bits 0 h.shape.arenas h.colours) c.self.view_is)) c.hand_out.ensures.jobs

pub returns-clause-ok : goal.returns-clause-ok
returns-clause-ok c = on_ok_weaker c.hand_out.result (λ e. hand_out-seen (the_view c.self.inside) c.args.self.now
    c.self.inside.arenas c.hand_out.new.self c.args.zones.bits c.self.view_is e) c.hand_out.ensures.ok

pub returns-clause-stored : goal.returns-clause-stored
returns-clause-stored c = handed-stored (the_view c.self.inside) c.args.self.now c.self.inside.arenas
    c.hand_out.new.self c.self.view_is c.hand_out.ensures.cells

pub invariant_of-self : goal.invariant_of-self
invariant_of-self c = noted-hand_out c.self.inside.arenas c.hand_out.new.self c.args.zones.bits _ c.hand_out.result
    c.hand_out.ensures.ok c.hand_out.ensures.err c.self.invariant

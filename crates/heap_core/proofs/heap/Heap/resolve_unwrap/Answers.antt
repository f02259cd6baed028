use Rattle.gz_names.specs.declared.commands.GraphCmd.TheVariants as cmd
use Rattle.heap_core.specs.Heap.{with_marks}
use Rattle.heap_core.proofs.Resolved.{hands_coloured, plans-unwrap}
use Rattle.heap_core.proofs.heap.Heap.resolve_unwrap.Goals as goal

pub returns-in-Ok-clause-plan : goal.returns-in-Ok-clause-plan
returns-in-Ok-clause-plan c =
    rw c.of.ensures (λ ds d. plans-unwrap (with_marks c.args.self.now ds d) c.args.r c.args.s c.in-Ok.held
    (hands_coloured c.args.self.now ds d (λ r. cmd.Unwrap r c.args.s) c.in-Ok.held c.in-Ok.ensures.step)
    c.in-Ok.ensures.value c.in-Ok.ensures.present)

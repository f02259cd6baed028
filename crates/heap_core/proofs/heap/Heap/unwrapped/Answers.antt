use Rattle.std.proofs.Common.{refl}
use Rattle.gz_names.specs.declared.commands.Kind.TheVariants as kind
use Rattle.heap_core.proofs.Fetched.{unwraps, unwraps_not}
use Rattle.heap_core.proofs.heap.Heap.unwrapped.Goals as goal

pub returns-in-Wrapper-clause-step : goal.returns-in-Wrapper-clause-step
returns-in-Wrapper-clause-step c =
    rw c.field.ensures (unwraps c.args.self.now c.args.s c.in-Some.place (cc) c.in-Wrapper.ensures)

pub returns-in-Object-clause-step : goal.returns-in-Object-clause-step
returns-in-Object-clause-step c = unwraps_not c.args.self.now c.args.s c.in-Some.place (kind.Object c.in-Object.field-0)
    (cc) c.in-Object.ensures refl

pub returns-in-Map-clause-step : goal.returns-in-Map-clause-step
returns-in-Map-clause-step c = unwraps_not c.args.self.now c.args.s c.in-Some.place kind.Map (cc) c.in-Map.ensures refl

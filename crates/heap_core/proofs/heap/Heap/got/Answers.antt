use Rattle.heap_core.proofs.Fetched.{gets, gets_not}
use Rattle.heap_core.proofs.heap.Heap.got.Goals as goal

pub returns-in-None-clause-step : goal.returns-in-None-clause-step
returns-in-None-clause-step c =
    rw c.field.ensures (gets c.args.self.now c.args.s c.in-Some.place c.args.f (cc) c.in-None.ensures)

pub returns-in-Some-field_refusal-clause-step : goal.returns-in-Some-field_refusal-clause-step
returns-in-Some-field_refusal-clause-step c =
    gets_not c.args.self.now c.args.s c.in-Some.place c.args.f c.in-Some-field_refusal.why (cc)
    c.in-Some-field_refusal.ensures

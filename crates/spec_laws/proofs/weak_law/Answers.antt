use Rattle.spec_laws.proofs.WeakKept.{line_keeps, deref_keeps}
use Rattle.colour_defs.specs.Step.{with_register}
use Rattle.colour_defs.specs.WeakRefs.{weak_cell, with_read}
use Rattle.spec_laws.proofs.weak_law.Goals as goal

pub returns-clause-line : goal.returns-clause-line
returns-clause-line c = λ w v k reports answer ok plain h. line_keeps w k reports answer v ok plain h

pub returns-clause-deref : goal.returns-clause-deref
returns-clause-deref c = λ w v r q answer h. deref_keeps w v (with_read w.graph (weak_cell w q) w.collection)
    (with_register w.graph r (weak_cell w q)) w.preparing (weak_cell w q) h.1

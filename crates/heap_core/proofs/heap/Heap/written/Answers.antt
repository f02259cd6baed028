use Rattle.std.proofs.Common.{sym, ap, ◌∙◌}
use Rattle.heap_core.specs.Lookups.{fits_in}
use Rattle.heap_core.proofs.Written.{set_refused, set_cross, value_present}
use Rattle.heap_core.proofs.heap.Heap.written.Goals as goal

pub returns-in-Some-field_refusal-clause-err : goal.returns-in-Some-field_refusal-clause-err
returns-in-Some-field_refusal-clause-err c = set_refused c.args.self.now c.args.s c.args.f c.args.t.now c.in-Some.place
    c.in-Some-field_refusal.why (cc) (cc) c.in-Some-field_refusal.ensures

pub fits-requires : goal.fits-requires
fits-requires c = rw c.value_to_set.ensures
    (value_present c.args.self.now c.requires.sound.0 c.args.t.now c.requires.sound.1)

pub returns-then-not-fits-clause-err : goal.returns-then-not-fits-clause-err
returns-then-not-fits-clause-err c = set_cross c.args.self.now c.args.s c.args.f c.args.t.now c.in-Some.place
    c.comp.result (cc) (cc) c.in_default-field_refusal.ensures c.comp.ensures
    (ap (fits_in c.args.self.now.shape c.comp.result) (sym c.value_to_set.ensures) ∙ sym c.fits.ensures
    ∙ c.if-not-fits.true)

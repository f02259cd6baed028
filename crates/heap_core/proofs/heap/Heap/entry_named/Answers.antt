use Rattle.std.proofs.Common.{sym, ◌∙◌}
use Rattle.heap_core.proofs.Shown.{reg_present}
use Rattle.heap_core.proofs.Keyed.{no_entry}
use Rattle.heap_core.proofs.heap.Heap.entry_named.Goals as goal

pub entry_refusal-requires-clause-map : goal.entry_refusal-requires-clause-map
entry_refusal-requires-clause-map c = reg_present c.args.self.now c.requires.sound.0 c.args.m c.in-Some.map
    c.requires.sound.1 (cc)

pub entry_refusal-requires-clause-key : goal.entry_refusal-requires-clause-key
entry_refusal-requires-clause-key c = reg_present c.args.self.now c.requires.sound.0 c.args.k c.in-Some-reg.key
    c.requires.sound.1 (cc)

pub entry_refusal-requires-clause-value : goal.entry_refusal-requires-clause-value
entry_refusal-requires-clause-value c = reg_present c.args.self.now c.requires.sound.0 c.args.v c.in-Some-reg-2.value
    c.requires.sound.1 (cc)

pub returns-in-Some-entry_refusal-clause-err : goal.returns-in-Some-entry_refusal-clause-err
returns-in-Some-entry_refusal-clause-err c = no_entry c.args.self.now c.args.m c.args.k c.args.v c.in-Some.map
    c.in-Some-reg.key c.in-Some-reg-2.value c.in-Some-entry_refusal.why (cc) (cc) (cc)
    (sym c.entry_refusal.ensures ∙ c.in-Some-entry_refusal.is)

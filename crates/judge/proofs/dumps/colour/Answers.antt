use Rattle.std.proofs.Common.{Bool, ap, cond, sym}
use Rattle.gz_names.specs.declared.dumps.DumpColour.TheVariants.{Black, Gray}
use Rattle.judge.proofs.DumpLines.{not_true}
use Rattle.judge.proofs.dumps.colour.Goals as goal

pub returns-then-contains : goal.returns-then-contains
returns-then-contains c = λ g w r.
    ap (λ (b : Bool). cond b Black Gray)
    (sym ((r.black c.args.name c.requires).1 (c.contains.ensures.0 c.if-contains.true)))

pub returns-else-contains : goal.returns-else-contains
returns-else-contains c = λ g w r.
    ap (λ (b : Bool). cond b Black Gray) (sym (not_true _ (λ h.
    let t = c.contains.ensures.1 ((r.black c.args.name c.requires).0 h) in cc (t, c.if-contains.false))))

use Rattle.std.proofs.Common.{◌∙◌, ◌++◌, List, Option, ap, arith, sym, take}
use Rattle.std.proofs.lemmas.List.{append-nil, take_all}
use Rattle.gz_names.specs.declared.names.Name.{Name}
use Rattle.colour_defs.specs.Dumps.{field_lines}
use Rattle.judge.proofs.DumpLines.{appended, fields_more}
use Rattle.judge.proofs.dumps.push_fields.Goals as goal

pub loop-held-init : goal.loop-held-init
loop-held-init c = sym (append-nil c.args.lines.now.items)

pub loop-held-preserved : goal.loop-held-preserved
loop-held-preserved c =
    let fields = c.args.fields.now in
    let i = c.loop-held.held-index in
    appended c.args.lines.now.items c.loop-held.lines.items _ (field_lines c.args.number (take i fields)) _ _
    c.loop-held.invariant c.in_ok-push_field.ensures (fields_more c.args.number fields i _ c.loop-held-test.true)

pub returns : goal.returns
returns c =
    c.loop-held.invariant
    ∙ ap (λ (fs : List (Option Name)). c.args.lines.now.items ++ field_lines c.args.number fs)
    (take_all c.loop-held.held-index c.args.fields.now (omega arith))

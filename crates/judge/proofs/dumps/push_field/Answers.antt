use Rattle.std.proofs.Common.{◌∙◌, ◌++◌, ◌∷◌, [], Option, ap, sym}
use Rattle.std.proofs.lemmas.List.{append-nil}
use Rattle.gz_names.specs.declared.names.Name.{Name}
use Rattle.colour_defs.specs.Dumps.{field_lines}
use Rattle.judge.proofs.dumps.push_field.Goals as goal

pub returns-in-None : goal.returns-in-None
returns-in-None c =
    let lines = c.args.lines.now.items in
    sym (append-nil lines)
    ∙ ap (λ (h : Option Name). lines ++ field_lines c.args.number (h ∷ [])) (sym c.in-None.is)

pub returns-in_ok-push-in-Some : goal.returns-in_ok-push-in-Some
returns-in_ok-push-in-Some c =
    c.in_ok-push-in-Some.ensures.items
    ∙ ap (λ (h : Option Name). c.args.lines.now.items ++ field_lines c.args.number (h ∷ [])) (sym c.in-Some.is)

use Rattle.std.proofs.Common.{◌∙◌, ◌++◌, ap, map, sym}
use Rattle.std.proofs.lemmas.List.{append-nil}
use Rattle.gz_names.specs.declared.names.Name.{Name}
use Rattle.colour_defs.specs.Dumps.{weak_line}
use Rattle.judge.specs.Dumps.{weak_at}
use Rattle.judge.proofs.dumps.push_entry.Goals as goal

pub returns-in_ok-push-in-Cell : goal.returns-in_ok-push-in-Cell
returns-in_ok-push-in-Cell c =
    c.in_ok-push-in-Cell.ensures.items
    ∙ ap (λ (x : Name). c.args.lines.now.items ++ map weak_line (weak_at x c.args.names.1 c.args.value))
    (sym c.in-Cell.is)

pub returns-in-Wrap : goal.returns-in-Wrap
returns-in-Wrap c =
    sym (append-nil c.args.lines.now.items)
    ∙ ap (λ (x : Name). c.args.lines.now.items ++ map weak_line (weak_at x c.args.names.1 c.args.value))
    (sym c.in-Wrap.is)

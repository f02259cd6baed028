use Rattle.std.proofs.Common.{◌∙◌, ◌∷◌, ◌++◌, [], ap}
use Rattle.gz_names.specs.declared.dumps.DumpColour.{DumpColour}
use Rattle.gz_names.specs.declared.dumps.DumpLine.TheVariants as line
use Rattle.judge.proofs.dumps.push_cell.Goals as goal

pub returns : goal.returns
returns c = λ g w r.
    c.in_ok-push.ensures.items
    ∙ ap (λ (k : DumpColour). c.args.lines.now.items ++ line.Cell c.args.name k ∷ []) (c.colour.ensures g w r)

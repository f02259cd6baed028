use Rattle.std.proofs.Common.{◌≡◌, ◌++◌, take}
use Rattle.colour_defs.specs.Dumps.{field_lines}
use Rattle.judge.proofs.dumps.push_fields.Given as goal

abbrev pub invariant-loop-held : goal.invariant-loop-held
invariant-loop-held l =
    l.lines.items ≡ l.fn.lines.items ++ field_lines l.number (take l.held-index l.fields)

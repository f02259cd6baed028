use Rattle.std.proofs.Common.{◌≡◌, ◌++◌, map}
use Rattle.colour_defs.specs.Dumps.{weak_line}
use Rattle.judge.specs.Dumps.{weaks_of}
use Rattle.judge.proofs.dumps.push_entries.Given as goal

abbrev pub invariant-loop-names : goal.invariant-loop-names
invariant-loop-names l =
    l.lines.items ++ map weak_line (weaks_of l.names-iterator)
    ≡ l.fn.lines.items ++ map weak_line (weaks_of l.found.entries)

use Rattle.std.proofs.Common.{◌≡◌, ◌++◌, map, take}
use Rattle.slice_driver.specs.Dumps.{entry_line}
use Rattle.slice_driver.proofs.dump.push_entry_lines.Given as goal

abbrev pub invariant-loop-entry : goal.invariant-loop-entry
invariant-loop-entry l = l.lines.items ≡ l.fn.lines.items ++ map entry_line (take l.entry-index l.entries)

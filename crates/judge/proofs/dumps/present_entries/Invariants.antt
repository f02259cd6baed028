use Rattle.std.proofs.Common.{take}
use Rattle.judge.proofs.DumpLines.{HasEntriesOf}
use Rattle.judge.proofs.dumps.present_entries.Given as goal

abbrev pub invariant-loop-entry : goal.invariant-loop-entry
invariant-loop-entry l =
    HasEntriesOf l.graph l.world.places (take l.entry-index l.graph.entries) l.found

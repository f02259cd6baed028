use Rattle.std.proofs.Common.{◌≡◌, length}
use Rattle.judge.proofs.GroupLines.{ReadSoFar}
use Rattle.judge.proofs.group_lines.groups_in.Given as goal

abbrev pub invariant-loop-read : goal.invariant-loop-read
invariant-loop-read l = record { count : length l.groups ≡ l.read; so : ReadSoFar l.text l.rest l.groups }

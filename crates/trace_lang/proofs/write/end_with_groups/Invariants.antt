use Rattle.std.proofs.Common.{◌≡◌, ◌≤◌, ◌++◌, length, take}
use Rattle.trace_lang.specs.Owing.{Owes}
use Rattle.trace_lang.specs.Texts.{groups_text}
use Rattle.trace_lang.proofs.write.end_with_groups.Given as goal

abbrev pub invariant-loop-i : goal.invariant-loop-i
invariant-loop-i g l =
    Owes (g.K.Sink.written l.fn.sink) (g.K.Sink.written l.sink) l.piece
    (l.fn.piece ++ groups_text 0 (take l.i l.groups))
    × (length l.piece ≤ 500)
    × (g.K.Sink.faults l.sink ≡ g.K.Sink.faults l.fn.sink)

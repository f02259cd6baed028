use Rattle.std.proofs.Common.{◌≡◌, ◌≤◌, length, take}
use Rattle.trace_lang.specs.Owing.{Owes}
use Rattle.trace_lang.specs.Texts.{dump_lines_text}
use Rattle.trace_lang.proofs.write.write_dump.Given as goal

abbrev pub invariant-loop-i : goal.invariant-loop-i
invariant-loop-i g l =
    Owes (g.K.Sink.written l.fn.sink) (g.K.Sink.written l.sink) l.piece (dump_lines_text 0 (take l.i l.lines))
    × (length l.piece ≤ 500)
    × (g.K.Sink.faults l.sink ≡ g.K.Sink.faults l.fn.sink)

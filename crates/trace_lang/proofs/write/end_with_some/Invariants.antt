use Rattle.std.proofs.Common.{◌≡◌, ◌≤◌, ◌++◌, length, take}
use Rattle.trace_lang.specs.Owing.{Owes}
use Rattle.trace_lang.specs.Texts.{name_words}
use Rattle.trace_lang.proofs.write.end_with_some.Given as goal

abbrev pub invariant-loop-name : goal.invariant-loop-name
invariant-loop-name g l =
    Owes (g.K.Sink.written l.fn.sink) (g.K.Sink.written l.sink) l.piece
    (l.fn.piece ++ name_words (take l.name-index l.names))
    × (length l.piece ≤ 506)
    × (g.K.Sink.faults l.sink ≡ g.K.Sink.faults l.fn.sink)

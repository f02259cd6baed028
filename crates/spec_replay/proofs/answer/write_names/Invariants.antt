use Rattle.std.proofs.Common.{◌≡◌, take}
use Rattle.std.specs.Io.KnownBytes.{Appends}
use Rattle.trace_lang.specs.Texts.{name_words}
use Rattle.spec_replay.proofs.answer.write_names.Given as goal

abbrev pub invariant-loop-name : goal.invariant-loop-name
invariant-loop-name g l =
    Appends (g.K.Sink.written l.fn.sink) (g.K.Sink.written l.sink) (name_words (take l.name-index l.names))
    × (g.K.Sink.faults l.sink ≡ g.K.Sink.faults l.fn.sink)

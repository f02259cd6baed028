use Rattle.std.proofs.Common.{◌≡◌, ◌+◌, ℕ, List, Some}
use Rattle.std.specs.Io.KnownBytes.{Appends, prepend_known}
use Rattle.colour_defs.specs.Graph.{empty_graph}
use Rattle.spec_replay.specs.Answers.{Answers, IsTrace}
use Rattle.spec_replay.proofs.reading.replay.Given as goal

abbrev pub invariant-loop-answered : goal.invariant-loop-answered
invariant-loop-answered g l = record {
  quiet : g.S.Source.faults l.source ≡ g.S.Source.faults l.fn.source;
  calm : g.K.Sink.faults l.sink ≡ g.K.Sink.faults l.fn.sink;
  so : (input : List ℕ) → g.S.Source.left l.fn.source ≡ Some input → (rest : List ℕ)
      × (prepend_known l.reader.held (g.S.Source.left l.source) ≡ Some rest) × (text : List ℕ)
      × Answers empty_graph input l.answered rest text l.graph
      × Appends (g.K.Sink.written l.fn.sink) (g.K.Sink.written l.sink) text
      × ((n : ℕ) → IsTrace n input → (k : ℕ) × IsTrace k rest × (l.answered + k ≡ n));
}

use Rattle.std.proofs.Common.{◌≡◌, ℕ, List, Some}
use Rattle.std.specs.Io.KnownBytes.{prepend_known}
use Rattle.judge.specs.Sound.{IsSound}
use Rattle.judge.specs.Stages.{shown}
use Rattle.judge.specs.Replies.{Judged, due_as}
use Rattle.judge.proofs.judging.judge_lines.Given as goal

abbrev pub invariant-loop-read : goal.invariant-loop-read
invariant-loop-read g l = record {
  calm : g.S.Source.faults l.source ≡ g.S.Source.faults l.fn.source;
  sound : IsSound l.known.graph (shown l.known.world);
  so : (input : List ℕ) → g.S.Source.left l.fn.source ≡ Some input → (rest : List ℕ)
      × (prepend_known l.lines (g.S.Source.left l.source) ≡ Some rest)
      × Judged input l.read rest l.known.graph (shown l.known.world) (due_as l.known.awaited);
}

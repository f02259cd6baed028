use Rattle.std.proofs.Common.{◌≡◌}
use Rattle.std.specs.Io.KnownBytes.{prepend_known}
use Rattle.judge.specs.Lines.{IsOneLine}
use Rattle.judge.proofs.Reading.{HasTaken}
use Rattle.judge.proofs.lines.Lines.next.Given as goal

abbrev pub invariant-pieces : goal.invariant-pieces
invariant-pieces g l = record {
  calm : g.S.Source.faults l.source ≡ g.S.Source.faults l.fn.source;
  one : IsOneLine l.line.items;
  taken : HasTaken (prepend_known l.fn.self (g.S.Source.left l.fn.source)) l.line.items l.self
      (g.S.Source.left l.source);
}

use Rattle.std.proofs.Common.{◌≡◌, ◌≤◌, ℕ, List, Some, length}
use Rattle.std.specs.Io.KnownBytes.{prepend_known}
use Rattle.gz_names.specs.declared.dumps.DumpLine.{DumpLine}
use Rattle.dump_check.specs.Checking.{read_of}
use Rattle.dump_cli.specs.Verdicts.{AreReadSo}
use Rattle.dump_cli.proofs.Only.{IsOnlyReading}
use Rattle.dump_cli.proofs.reading.judge.Given as goal

abbrev pub invariant-loop-read : goal.invariant-loop-read
invariant-loop-read g l = record {
  below : l.read ≤ 4294967295;
  count : l.checker.lines ≤ l.read;
  quiet : g.S.Source.faults l.source ≡ g.S.Source.faults l.fn.source;
  so : (input : List ℕ) → g.S.Source.left l.fn.source ≡ Some input → (ls : List DumpLine) × (rest : List ℕ)
      × (prepend_known l.reader.held (g.S.Source.left l.source) ≡ Some rest) × AreReadSo input ls rest
      × (l.checker ≡ read_of ls) × (length ls ≡ l.read) × IsOnlyReading input ls rest;
}

use Rattle.std.proofs.Common.{◌≡◌, ◌-◌, length}
use Rattle.std.specs.Io.KnownBytes.{Keeps, prepend_known}
use Rattle.gz_io.specs.declared.find.Found.TheVariants as found
use Rattle.gz_io.specs.Finding.{Finds}
use Rattle.gz_io.proofs.reader.LineReader.fetch.Given as goal

abbrev pub invariant-loop-found : goal.invariant-loop-found
invariant-loop-found g l =
    Keeps (prepend_known l.fn.self.held (g.S.Source.left l.fn.source))
    (prepend_known l.self.held (g.S.Source.left l.source))
    × ((Finds l.fn.self.held found.More → ⊥) → (l.source ≡ l.fn.source) × (l.self ≡ l.fn.self))
    × (g.S.Source.faults l.source ≡ g.S.Source.faults l.fn.source)

abbrev pub decreases-loop-found : goal.decreases-loop-found
decreases-loop-found g l = 4096 - length l.self.held

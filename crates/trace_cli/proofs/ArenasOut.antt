-- The arenas that are out, whoever sweeps them.
use Rattle.std.proofs.Common.{◌≡◌, ℕ, List, [], Option, Contains, subst, sym}
use Rattle.cell_bits.specs.declared.bits.Bits.{Bits}
use Rattle.colour_defs.specs.World.{World}
use Rattle.heap_core.specs.Shape.{Shape}
use Rattle.slice_driver.specs.Advances.{AreOut}
use Rattle.slice_driver.specs.Collector.{CollectorState}
use Rattle.slice_driver.specs.Represents.{Represents}
use Rattle.slice_driver.specs.Units.{IsSound, KeepsFreedWords}
use Rattle.trace_cli.specs.Standing.{StandsWith}
use Rattle.trace_cli.proofs.Runs.{none_in_none}

-- arenas that stay out
pub out_kept : (s t : Shape) (old new : List (ℕ × ℕ)) → KeepsFreedWords s t → new ≡ old → AreOut s old → AreOut t new
out_kept s t old new keeps e are = record {
  freed = λ a word has. keeps a word
      (are.freed a word (subst (λ (xs : List (ℕ × ℕ)). Contains xs (a, word)) e has));
}

pub out_none : (s : Shape) → AreOut s []
out_none s = record { freed = λ a word has. absurd (none_in_none (a, word) has) }

-- a collector that goes on to stand for what it stood for
pub same_sound : (c d : CollectorState) (f g : ℕ → Option Bits) → IsSound c f
    → ((w : World) → Represents c f w → Represents d g w) → IsSound d g
same_sound c d f g s same = record { world = s.world; valid = s.valid; represents = same s.world s.represents }

-- a collector that is as it was
pub stands_as : (c d : CollectorState) (outs : List (ℕ × ℕ)) (f : ℕ → Option Bits) → d ≡ c → StandsWith c outs f
    → StandsWith d outs f
stands_as c d outs f same stands = subst (λ (x : CollectorState). StandsWith x outs f) (sym same) stands

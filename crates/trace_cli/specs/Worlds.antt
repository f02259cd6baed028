-- The worlds that a collector stands for.
use Rattle.std.specs.Prelude.{ℕ, Option}
use Rattle.cell_bits.specs.declared.bits.Bits.{Bits}
use Rattle.colour_defs.specs.World.{World}
use Rattle.colour_defs.specs.Laws.{IsValid}
use Rattle.slice_driver.specs.Collector.{CollectorState}
use Rattle.slice_driver.specs.Represents.{Represents}
use Rattle.slice_driver.specs.UnitsToCome.{IsWithin}

-- this holds of each valid world that the collector stands for, with these bits in flight
abbrev pub EachWorld : CollectorState → (ℕ → Option Bits) → (World → Type 0) → Type 0
EachWorld c flown P = (w : World) → IsValid w → Represents c flown w → P w

-- this holds of each such world in which the collection that runs is within its bound on units
abbrev pub EachWorldWithin : CollectorState → (ℕ → Option Bits) → (World → Type 0) → Type 0
EachWorldWithin c flown P = (w : World) → IsValid w → Represents c flown w → IsWithin c flown w → P w

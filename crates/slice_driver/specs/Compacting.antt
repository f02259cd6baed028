-- What compacting a zone does in the worlds that a collector stands for.
use Rattle.std.specs.Prelude.{◌≡◌, ◌↔◌, ◌≤◌, ℕ, [], Option, None, Result, Err, IfOk, IsSome, OnErr, length}
use Rattle.cell_bits.specs.declared.bits.Bits.{Bits}
use Rattle.colour_defs.specs.Compaction.{Compacts}
use Rattle.colour_defs.specs.Laws.{IsValid}
use Rattle.colour_defs.specs.World.{World}
use Rattle.compact.specs.declared.Compacted.{Compacted}
use Rattle.slice_driver.specs.Accounts.{FreesOn}
use Rattle.slice_driver.specs.Collector.{CollectorState}
use Rattle.slice_driver.specs.Represents.{Represents}
use Rattle.slice_driver.specs.Sessions.{SessionState}
use Rattle.slice_driver.specs.Units.{IsSound, KeepsFreedWords}
use Rattle.slice_driver.specs.declared.compacting.CompactFault.{CompactFault}
use Rattle.slice_driver.specs.declared.compacting.CompactFault.TheVariants as fault

-- a zone was compacted, in each valid world that the collector stood for; the world after it is valid
abbrev pub CompactsIn : CollectorState → ℕ → Compacted → CollectorState → Type 0
CompactsIn old zone done new = (flown : ℕ → Option Bits) (w : World) → IsValid w → Represents old flown w → (v : World)
    × Compacts w zone done.moved done.given_up v × IsValid v × Represents new flown v

-- what compacting a zone does, with each of its results
pub record CompactDone (old : CollectorState) (zone : ℕ) (result : Result Compacted CompactFault) (new : CollectorState)
    : Type 0 where
  -- what it did in each world
  pub done : IfOk result (λ done. CompactsIn old zone done new)
  -- why it was not done
  pub running : (result ≡ Err fault.Running) ↔ IsSome old.run
  pub no_zone : (result ≡ Err fault.NoZone) ↔ ((old.run ≡ None) × (length old.heap.shape.states ≤ zone))
  pub err : OnErr result (new ≡ old)
  -- how the collector stands then
  pub sound : (flown : ℕ → Option Bits) → IsSound old flown → IsSound new flown
  pub words : KeepsFreedWords old.heap.shape new.heap.shape
  pub run : new.run ≡ old.run
  pub made : new.heap.made ≡ old.heap.made
  pub ledger : new.heap.ledger ≡ old.heap.ledger
  pub entries : length new.heap.shape.weak.entries ≡ length old.heap.shape.weak.entries

-- a session's call did the same: nobody sweeps while none runs, and no number was given
pub record CompactCalled {S : Type 0} (bits_of : S → ℕ → Option Bits) (old : SessionState S) (zone : ℕ)
    (result : Result Compacted CompactFault) (new : SessionState S) : Type 0 where
  pub done : CompactDone old.collector zone result new.collector
  pub sweeper : new.sweeper ≡ old.sweeper
  pub report : new.report ≡ old.report
  pub accounts : FreesOn old.collector (bits_of old.sweeper) [] new.collector (bits_of new.sweeper)

-- How a line is begun that asks for units, and which units it asks for.
use Rattle.std.specs.Prelude.{◌≡◌, ◌≤◌, ℕ, ◌+◌, List, [], Option, Some, None}
use Rattle.std.specs.Io.KnownBytes.{Appends}
use Rattle.gz_names.specs.Zones.{zones_in}
use Rattle.gz_names.specs.declared.commands.Cmd.{Cmd}
use Rattle.gz_names.specs.declared.commands.Cmd.TheVariants as command
use Rattle.gz_names.specs.declared.zone_sets.ZoneSet.{ZoneSet}
use Rattle.cell_bits.specs.declared.bits.Bits.{Bits}
use Rattle.colour_defs.specs.World.{Collection, Preparation, World}
use Rattle.colour_defs.specs.Laws.{IsValid}
use Rattle.colour_defs.specs.Lawful.{Prepares, IsRunning}
use Rattle.slice_driver.specs.Collector.{CollectorState}
use Rattle.slice_driver.specs.Represents.{Represents}
use Rattle.slice_driver.specs.UnitsToCome.{IsWithinBound, units_to_come}
use Rattle.trace_cli.specs.Headline.{WritesAnswer}
use Rattle.trace_cli.specs.Worlds.{EachWorldWithin}
use Rattle.trace_cli.specs.declared.pending.Pending.{Pending}
use Rattle.trace_cli.specs.declared.pending.Pending.TheVariants as pending

-- a collection runs in a world, and with this number of units to come it is within its bound on units, or within its
-- arenas while it is being prepared
pub record RunsWithin (w : World) (most : ℕ) : Type 0 where
  pub running : IsRunning w
  pub marking : (k : Collection) → w.collection ≡ Some k → IsWithinBound k.tally most
  pub preparing : (p : Preparation) → w.preparing ≡ Some p → p.spent + most ≤ p.arenas

-- a command that asks for units in a world, or for a reset: they are done from a world on, where so many units were to
-- come at most, and so many were done
pub data IsAnswering (w : World) (cmd : Cmd) (left : Pending) (n : ℕ) (begun : World) (most : ℕ) : Type 0 where
  collects : (zones : ZoneSet) → cmd ≡ command.Collect zones → left ≡ pending.Collect
      → Prepares w (zones_in zones) begun → IsAnswering w cmd left n begun most
  slices : (budget more : ℕ) → cmd ≡ command.Slice budget → left ≡ pending.Slice more n → more + n ≡ budget
      → RunsWithin w most → begun ≡ w → IsAnswering w cmd left n begun most
  finishes : cmd ≡ command.Finish → left ≡ pending.Finish n → RunsWithin w most → begun ≡ w
      → IsAnswering w cmd left n begun most
  resets : cmd ≡ command.Reset → left ≡ pending.Reset → IsRunning w → begun ≡ w → IsAnswering w cmd left n begun most

-- the units of a command are to be done; the collector stands for the world from which on they are
pub record BeginsAnswer (w : World) (cmd : Cmd) (left : Pending) (c : CollectorState) (flown : ℕ → Option Bits)
    : Type 0 where
  pub begun : World
  pub valid : IsValid begun
  pub represents : Represents c flown begun
  pub answering : IsAnswering w cmd left 0 begun (units_to_come c flown)

-- in each world that the collector stood for, with a collection within its bound on units, a command was answered
-- whole, or its units are to be done
abbrev pub StartedAs : Option Pending → Cmd → CollectorState → (ℕ → Option Bits) → CollectorState
    → (ℕ → Option Bits) → Option (List ℕ) → Option (List ℕ) → Type 0
StartedAs None cmd old flown new flying p q = EachWorldWithin old flown (λ w. WritesAnswer w cmd new flying p q)
StartedAs (Some left) cmd old flown new flying p q =
    EachWorldWithin old flown (λ w. BeginsAnswer w cmd left new flying) × Appends p q []

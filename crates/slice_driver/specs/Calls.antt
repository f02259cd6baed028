-- What the calls of a collector promise, each in one record.
use Rattle.std.specs.Prelude.{◌≡◌, ◌↔◌, ◌≤◌, ◌+◌, ℕ, Option, Some, None, Result, Err, IfOk, IsSome, OnErr, OnOk}
use Rattle.std.specs.Prelude.{false, length}
use Rattle.gz_names.specs.declared.commands.GraphCmd.{GraphCmd}
use Rattle.gz_names.specs.declared.replies.CmdFault.{CmdFault}
use Rattle.gz_names.specs.declared.replies.CmdFault.TheVariants as fault
use Rattle.gz_names.specs.declared.replies.Refusal.{Refusal}
use Rattle.gz_names.specs.declared.replies.Reply.{Reply}
use Rattle.gz_names.specs.declared.zone_sets.ZoneSet.{ZoneSet}
use Rattle.cell_bits.specs.declared.bits.Bits.{Bits}
use Rattle.colour_defs.specs.Step.{refusal_in}
use Rattle.heap_core.specs.Effects.{takes_memory}
use Rattle.heap_core.specs.Peeks.{cells_made}
use Rattle.slice_driver.specs.declared.begin.BeginFault.{BeginFault}
use Rattle.slice_driver.specs.declared.begin.BeginFault.TheVariants as begin
use Rattle.slice_driver.specs.Begins.{AreMade}
use Rattle.slice_driver.specs.Collector.{CollectorState}
use Rattle.slice_driver.specs.Commands.{WantsMemory}
use Rattle.slice_driver.specs.Units.{BeginsIn, BeginsWithin, DoesCommand, IsSound, KeepsFreedWords, RaisesWithin}

-- what a command does, with each of its results
pub record CommandDone {S O : Type 0} (bits_of : S → ℕ → Option Bits) (origin_of : S → O) (old : CollectorState) (f : S)
    (cmd : GraphCmd) (result : Result Reply CmdFault) (new : CollectorState) (g : S) : Type 0 where
  -- what it did in each world, and what it left of the bound on units
  pub done : DoesCommand old (bits_of f) cmd result new (bits_of g)
  pub to_come : RaisesWithin old (bits_of f) cmd result new (bits_of g)
  -- a refusal is no answer, and changes nothing
  pub answered : IfOk result (λ answer. refusal_in answer ≡ None)
  pub refused : (why : Refusal) → result ≡ Err (fault.Refused why) → (new ≡ old) × (bits_of g ≡ bits_of f)
  -- memory runs out only at a command that is not refused, and that makes something
  pub wanted : result ≡ Err fault.NoMemory → WantsMemory old (bits_of f) cmd new (bits_of g)
  pub sure : takes_memory cmd ≡ false → result ≡ Err fault.NoMemory → ⊥
  -- how the collector stands then
  pub sound : IsSound new (bits_of g)
  pub words : KeepsFreedWords old.heap.shape new.heap.shape
  pub run : new.run ≡ old.run
  pub origin : origin_of g ≡ origin_of f
  pub made : new.heap.made ≡ old.heap.made + cells_made old.heap cmd result
  pub ledger : new.heap.ledger ≡ old.heap.ledger
  pub entries : length new.heap.shape.weak.entries ≤ length old.heap.shape.weak.entries + 1

-- the preparation of a collection of these zones began, or none did and nothing changed
pub record BeginDone {T : Type 0} (old : CollectorState) (zones : ZoneSet) (result : Result T BeginFault)
    (new : CollectorState) : Type 0 where
  -- what it did in each world, and that what is to come is within the bound on units
  pub begun : OnOk result (BeginsIn old zones.bits new)
  pub within : OnOk result (BeginsWithin old zones.bits new)
  pub started : OnOk result (new.run ≡ Some (record {
    zones = zones;
    formed = false;
    clearing = Some (record { from = 0; end = length old.heap.shape.arenas });
  }))
  pub made_zones : OnOk result (AreMade old.heap.shape zones)
  -- why it was not
  pub running : (result ≡ Err begin.Running) ↔ IsSome old.run
  pub no_zone : (result ≡ Err begin.NoZone) ↔ ((old.run ≡ None) × (AreMade old.heap.shape zones → ⊥))
  pub refused : OnErr result (new ≡ old)
  -- how the collector stands then
  pub sound : (flown : ℕ → Option Bits) → IsSound old flown → IsSound new flown
  pub words : OnOk result (KeepsFreedWords old.heap.shape new.heap.shape)
  pub made : new.heap.made ≡ old.heap.made
  pub ledger : new.heap.ledger ≡ old.heap.ledger
  pub weak : new.heap.shape.weak ≡ old.heap.shape.weak

-- What pinning, loading and unpinning a root do in the worlds that a collector stands for. A pinned root is a register
-- behind the sixteenth, root n the register 16 + n: so it is a black root wherever registers are.
use Rattle.std.specs.Prelude.{◌≡◌, ◌≢◌, ◌⊎◌, ◌↔◌, ◌+◌, ℕ, List, [], Option, None, Result, Err, IfOk, IsErr, IsSome}
use Rattle.std.specs.Prelude.{OnErr, OnOk}
use Rattle.gz_names.specs.declared.names.Name.{Name}
use Rattle.gz_names.specs.declared.numbers.Place.{Place}
use Rattle.gz_names.specs.declared.replies.CmdFault.{CmdFault}
use Rattle.gz_names.specs.declared.replies.CmdFault.TheVariants as fault
use Rattle.gz_names.specs.declared.replies.Refusal.TheVariants as refusal
use Rattle.cell_bits.specs.declared.bits.Bits.{Bits}
use Rattle.colour_defs.specs.Graph.{register_cell}
use Rattle.colour_defs.specs.Laws.{IsValid}
use Rattle.colour_defs.specs.Step.{with_register}
use Rattle.colour_defs.specs.World.{World}
use Rattle.slice_driver.specs.Accounts.{FreesOn}
use Rattle.slice_driver.specs.Collector.{CollectorState}
use Rattle.slice_driver.specs.Represents.{Represents}
use Rattle.slice_driver.specs.Sessions.{SessionState}
use Rattle.slice_driver.specs.UnitsToCome.{units_to_come}
use Rattle.slice_driver.specs.declared.session.SessionFault.{SessionFault}
use Rattle.slice_driver.specs.declared.session.SessionFault.TheVariants as session

-- what a pinned root holds
abbrev pub pinned_cell : World → ℕ → Option Name
pinned_cell w root = register_cell w.graph (16 + root)

-- the world with other registers and pinned roots
abbrev pub with_registers : World → List (Option Name) → World
with_registers w registers = record w { graph = record w.graph { registers = registers } }

-- a pinned root that held nothing holds what a register holds, and every other register and root what it held
pub record PinsIn (register root : ℕ) (w v : World) : Type 0 where
  pub some : IsSome (register_cell w.graph register)
  pub free : pinned_cell w root ≡ None
  pub held : pinned_cell v root ≡ register_cell w.graph register
  pub others : (n : ℕ) → n ≢ 16 + root → register_cell v.graph n ≡ register_cell w.graph n
  pub rest : v ≡ with_registers w v.graph.registers

-- a register holds what a pinned root holds
pub record LoadsIn (register root : ℕ) (w v : World) : Type 0 where
  pub some : IsSome (pinned_cell w root)
  pub world_is : v ≡ record w { graph = with_register w.graph register (pinned_cell w root) }

-- a pinned root holds nothing any more
pub record UnpinsIn (root : ℕ) (w v : World) : Type 0 where
  pub some : IsSome (pinned_cell w root)
  pub world_is : v ≡ record w { graph = with_register w.graph (16 + root) None }

-- so it was in each valid world that the collector stood for; the world after it is valid
abbrev pub HoldsIn : (World → World → Type 0) → CollectorState → (ℕ → Option Bits) → CollectorState → Type 0
HoldsIn Does old flown new =
    (w : World) → IsValid w → Represents old flown w → (v : World) × Does w v × IsValid v × Represents new flown v

-- a collector with other registers and pinned roots
abbrev pub holding : CollectorState → List (Option Place) → CollectorState
holding c regs = record c { heap = record c.heap { shape = record c.heap.shape { regs = regs } } }

-- registers or pinned roots changed so, whatever is in flight. No unit is added, and all else is as it was
pub record Holds (Does : World → World → Type 0) (old new : CollectorState) : Type 0 where
  pub done : (flown : ℕ → Option Bits) → HoldsIn Does old flown new
  pub to_come : (flown : ℕ → Option Bits) → units_to_come new flown ≡ units_to_come old flown
  pub rest : new ≡ holding old new.heap.shape.regs

-- a register holds nothing in any world that a collector stands for, exactly where this is so
abbrev pub IsWhereEmpty : CollectorState → (ℕ → Option Bits) → ℕ → Type 0 → Type 0
IsWhereEmpty c flown register Is = (w : World) → Represents c flown w → Is ↔ (register_cell w.graph register ≡ None)

-- a root was pinned; it is refused exactly where the register is empty, and fails else only where memory was wanted
pub record PinDone (old : CollectorState) (register : ℕ) (result : Result ℕ CmdFault) (new : CollectorState) : Type 0
  where
    pub done : IfOk result (λ root. Holds (PinsIn register root) old new)
    pub empty : (flown : ℕ → Option Bits) → IsWhereEmpty old flown register (result ≡ Err (fault.Refused refusal.Empty))
    pub fails : (why : CmdFault) → result ≡ Err why → (why ≡ fault.Refused refusal.Empty) ⊎ (why ≡ fault.NoMemory)
    pub err : OnErr result (new ≡ old)

-- something was done with a pinned root; it is refused exactly where that holds nothing
pub record RootDone {T E : Type 0} (Does : World → World → Type 0) (old : CollectorState) (root : ℕ)
    (result : Result T E) (new : CollectorState) : Type 0 where
  pub done : OnOk result (Holds Does old new)
  pub empty : (flown : ℕ → Option Bits) → IsWhereEmpty old flown (16 + root) (IsErr result)
  pub err : OnErr result (new ≡ old)

-- a session's call did so: no number was given and nothing freed, and who sweeps and the last report are as they were
pub record SessionHolds {S : Type 0} (bits_of : S → ℕ → Option Bits) (Does : World → World → Type 0)
    (old new : SessionState S) : Type 0 where
  pub done : HoldsIn Does old.collector (bits_of old.sweeper) new.collector
  pub to_come : units_to_come new.collector (bits_of new.sweeper) ≡ units_to_come old.collector (bits_of old.sweeper)
  pub accounts : FreesOn old.collector (bits_of old.sweeper) [] new.collector (bits_of new.sweeper)
  pub rest : new ≡ record old { collector = holding old.collector new.collector.heap.shape.regs }

-- a fault of a command, as a session tells it
abbrev pub as_fault : CmdFault → SessionFault
as_fault (fault.Refused why) = session.Refused why
as_fault fault.NoMemory = session.NoMemory

pub record PinCalled {S : Type 0} (bits_of : S → ℕ → Option Bits) (old : SessionState S) (register : ℕ)
    (result : Result ℕ SessionFault) (new : SessionState S) : Type 0 where
  pub done : IfOk result (λ root. SessionHolds bits_of (PinsIn register root) old new)
  pub empty : IsWhereEmpty old.collector (bits_of old.sweeper) register (result ≡ Err (session.Refused refusal.Empty))
  pub fails : (why : SessionFault) → result ≡ Err why
      → (why ≡ session.Refused refusal.Empty) ⊎ (why ≡ session.NoMemory)
  pub err : OnErr result (new ≡ old)

pub record RootCalled {S T E : Type 0} (bits_of : S → ℕ → Option Bits) (Does : World → World → Type 0)
    (old : SessionState S) (root : ℕ) (result : Result T E) (new : SessionState S) : Type 0 where
  pub done : OnOk result (SessionHolds bits_of Does old new)
  pub empty : IsWhereEmpty old.collector (bits_of old.sweeper) (16 + root) (IsErr result)
  pub err : OnErr result (new ≡ old)

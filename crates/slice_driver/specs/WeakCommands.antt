-- What commands on weak slots and watched cells do in the worlds that a collector stands for.
use Rattle.std.specs.Prelude.{◌≡◌, ◌≤◌, ℕ, Option, Some, None, Result, Ok, Err, IfOk}
use Rattle.gz_names.specs.declared.names.Name.{Name}
use Rattle.gz_names.specs.declared.commands.WeakCmd.{WeakCmd}
use Rattle.gz_names.specs.declared.commands.WeakCmd.TheVariants as cmd
use Rattle.gz_names.specs.declared.replies.CmdFault.{CmdFault}
use Rattle.gz_names.specs.declared.replies.CmdFault.TheVariants as fault
use Rattle.gz_names.specs.declared.replies.Refusal.{Refusal}
use Rattle.gz_names.specs.declared.replies.Reply.{Reply}
use Rattle.gz_names.specs.declared.replies.Reply.TheVariants as reply
use Rattle.cell_bits.specs.declared.bits.Bits.{Bits}
use Rattle.colour_defs.specs.Graph.{register_cell}
use Rattle.colour_defs.specs.Laws.{IsValid}
use Rattle.colour_defs.specs.Step.{named_or_null, refusal_in}
use Rattle.colour_defs.specs.WeakRefs.{WeakInWorld}
use Rattle.colour_defs.specs.World.{World, Has}
use Rattle.heap_core.specs.Heap.{with_reg}
use Rattle.heap_core.specs.Shape.{held_name}
use Rattle.heap_core.specs.WeakNames.{weak_slot_of}
use Rattle.slice_driver.specs.Collector.{CollectorState}
use Rattle.slice_driver.specs.Represents.{Represents}
use Rattle.slice_driver.specs.Steps.{GoesThrough}
use Rattle.slice_driver.specs.Units.{IsSound, KeepsFreedWords}
use Rattle.slice_driver.specs.UnitsToCome.{units_to_come}

-- a weak command has its answer: it is one in the world, or memory was wanted
abbrev pub WeakAnswersIn : World → WeakCmd → Result Reply CmdFault → CollectorState → (ℕ → Option Bits) → Type 0
WeakAnswersIn w c (Ok answer) d flown = (v : World) × WeakInWorld w c answer v × Represents d flown v
WeakAnswersIn w c (Err (fault.Refused why)) d flown = WeakInWorld w c (reply.Refused why) w × Represents d flown w
WeakAnswersIn w c (Err fault.NoMemory) d flown = Represents d flown w

-- in each world that the collector stood for
abbrev pub DoesWeak : CollectorState → (ℕ → Option Bits) → WeakCmd → Result Reply CmdFault → CollectorState
    → (ℕ → Option Bits) → Type 0
DoesWeak old flown c result new flying = (w : World) → IsValid w → Represents old flown w
    → WeakAnswersIn w c result new flying

-- a command watches a cell that is not watched yet
abbrev pub WatchesNew : World → WeakCmd → Type 0
WatchesNew w (cmd.Weaken q r) = ⊥
WatchesNew w (cmd.Deref r q) = ⊥
WatchesNew w (cmd.Watch r) = (x : Name) × (register_cell w.graph r ≡ Some x) × (Has w.weak.watched x → ⊥)
WatchesNew w (cmd.Unwatch r) = ⊥

-- memory was wanted for it: nothing changed, and in each valid world that the collector stands for it watches a new
-- cell
pub record WantsWeakMemory (old : CollectorState) (flown : ℕ → Option Bits) (c : WeakCmd) (new : CollectorState)
    (flying : ℕ → Option Bits) : Type 0 where
  pub same : new ≡ old
  pub flying_is : flying ≡ flown
  pub watches : (w : World) → IsValid w → Represents old flown w → WatchesNew w c

-- what a weak command does, with each of its results
pub record WeakCommandDone {S O : Type 0} (bits_of : S → ℕ → Option Bits) (origin_of : S → O) (old : CollectorState)
    (f : S) (c : WeakCmd) (result : Result Reply CmdFault) (new : CollectorState) (g : S) : Type 0 where
  -- what it did in each world, and that it left no more to come
  pub done : DoesWeak old (bits_of f) c result new (bits_of g)
  pub to_come : units_to_come new (bits_of g) ≤ units_to_come old (bits_of f)
  -- a refusal is no answer, and changes nothing
  pub answered : IfOk result (λ answer. refusal_in answer ≡ None)
  pub refused : (why : Refusal) → result ≡ Err (fault.Refused why) → (new ≡ old) × (bits_of g ≡ bits_of f)
  -- memory runs out only where a new cell is to be watched
  pub wanted : result ≡ Err fault.NoMemory → WantsWeakMemory old (bits_of f) c new (bits_of g)
  -- how the collector stands then
  pub sound : IsSound new (bits_of g)
  pub words : KeepsFreedWords old.heap.shape new.heap.shape
  pub run : new.run ≡ old.run
  pub origin : origin_of g ≡ origin_of f
  pub made : new.heap.made ≡ old.heap.made
  pub ledger : new.heap.ledger ≡ old.heap.ledger
  pub weak : new.heap.shape.weak ≡ old.heap.shape.weak

-- a register took what a weak slot names, after that went through a barrier
pub record Derefs (c : CollectorState) (flown : ℕ → Option Bits) (r q : ℕ) (answer : Reply) (d : CollectorState)
    (flying : ℕ → Option Bits) : Type 0 where
  pub between : CollectorState
  pub through : GoesThrough (weak_slot_of c.heap q) c flown between flying
  pub rest : d ≡ record between { heap = with_reg between.heap r (weak_slot_of c.heap q) }
  pub answer_is : answer ≡ named_or_null (held_name c.heap.shape (weak_slot_of c.heap q))

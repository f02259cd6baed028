-- What the reading loop knows, as single facts.
use Rattle.std.specs.Prelude.{◌≡◌, ◌≢◌, ◌<◌, ◌≤◌, ◌⊎◌, ◌+◌, ◌-◌, ◌*◌, ◌^◌, ℕ, List, [], Option, Some, None, length}
use Rattle.std.specs.Io.KnownBytes.{Appends}
use Rattle.gz_io.specs.Causes.{AppendsFront, Rose}
use Rattle.gz_names.specs.declared.commands.Cmd.{Cmd}
use Rattle.cell_bits.specs.declared.bits.Bits.{Bits}
use Rattle.colour_defs.specs.Laws.{IsValid}
use Rattle.colour_defs.specs.World.{World, first_world}
use Rattle.command_source.specs.Giving.{GivesCommand}
use Rattle.command_source.specs.Input.{Input, to_come}
use Rattle.slice_driver.specs.Advances.{AreOut}
use Rattle.slice_driver.specs.Collector.{CollectorState}
use Rattle.slice_driver.specs.Left.{units_left}
use Rattle.slice_driver.specs.Represents.{Represents}
use Rattle.slice_driver.specs.Units.{IsSound, none_flown}
use Rattle.slice_driver.specs.UnitsToCome.{IsWithin}
use Rattle.trace_lang.specs.Texts.{reply_text, line_of}
use Rattle.trace_cli.specs.Headline.{Replays}
use Rattle.trace_cli.specs.Pending.{reply_of}
use Rattle.trace_cli.specs.Reaching.{Stands}
use Rattle.trace_cli.specs.Starting.{IsAnswering}
use Rattle.trace_cli.specs.Writing.{WritesSoFar}
use Rattle.trace_cli.specs.declared.exit.Exit.{Exit}
use Rattle.trace_cli.specs.declared.exit.Exit.TheVariants as exit
use Rattle.trace_cli.specs.declared.machine.Machine.{Machine}
use Rattle.trace_cli.specs.declared.pending.Pending.{Pending}
use Rattle.trace_cli.specs.declared.pending.Pending.TheVariants as pending

-- this number of cells and weak entries were made at most
pub record HasMadeAtMost (c : CollectorState) (n : ℕ) : Type 0 where
  pub made : c.heap.made ≤ n
  pub entries : length c.heap.shape.weak.entries ≤ n

-- a collector that stands for the first world, which is valid
pub data IsFirst (c : CollectorState) : Type 0 where
  first : IsValid first_world → Represents c none_flown first_world → HasMadeAtMost c 0 → IsFirst c

-- the loop before its first line, over such a collector
pub record IsNew (m : Machine) : Type 0 where
  pub collector : IsFirst m.collector
  pub answered : m.answered ≡ 0
  pub pending : m.pending ≡ None

-- a collector that stands for some world, with these arenas and bits in flight
pub record StandsWith (c : CollectorState) (outs : List (ℕ × ℕ)) (flown : ℕ → Option Bits) : Type 0 where
  pub sound : IsSound c flown
  pub out : AreOut c.heap.shape outs

-- one cell and one weak entry can still be made
pub record HasRoomForOne (c : CollectorState) : Type 0 where
  pub made : c.heap.made < 4294967295
  pub entries : length c.heap.shape.weak.entries < 4294967295

-- at most one cell was made, and one weak entry; edges are counted where they were
pub record MakesAtMostOne (old new : CollectorState) : Type 0 where
  pub made : new.heap.made ≤ old.heap.made + 1
  pub entries : length new.heap.shape.weak.entries ≤ length old.heap.shape.weak.entries + 1
  pub ledger : new.heap.ledger ≡ old.heap.ledger

-- no cell was made, and no weak entry; edges are counted where they were
pub record MakesNone (old new : CollectorState) : Type 0 where
  pub made : new.heap.made ≡ old.heap.made
  pub entries : length new.heap.shape.weak.entries ≤ length old.heap.shape.weak.entries
  pub ledger : new.heap.ledger ≡ old.heap.ledger

-- the last line of an answer was written, or a prefix of it
abbrev pub last_line : Pending → List ℕ
last_line left = line_of (reply_text (reply_of left))

abbrev pub EndsLine : Machine → Pending → Machine → Option (List ℕ) → Option (List ℕ) → Type 0
EndsLine m left n p q =
    (n ≡ record m { pending = None; answered = m.answered + 1 }) × Appends p q (last_line left)

abbrev pub BreaksLine : Pending → Option (List ℕ) → Option (List ℕ) → Type 0
BreaksLine left p q = AppendsFront p q (last_line left)

-- the bytes and the counts of faults as a replay began
pub record Entry : Type 0 where
  pub left : Option (List ℕ)
  pub written : Option (List ℕ)
  pub reads : ℕ
  pub writes : ℕ

abbrev pub entry_of : Option (List ℕ) → Option (List ℕ) → ℕ → ℕ → Entry
entry_of left written reads writes = record { left = left; written = written; reads = reads; writes = writes }

-- between two lines: the collector stands for a valid world that the lines answered so far lead to, and the collection
-- that runs there is within its bound on units
pub record Between (e : Entry) (rest written : Option (List ℕ)) (n : ℕ) (c : CollectorState) (outs : List (ℕ × ℕ))
    (flown : ℕ → Option Bits) : Type 0 where
  pub world : World
  pub represents : Represents c flown world
  pub valid : IsValid world
  pub within : IsWithin c flown world
  pub stands : Stands e.left rest e.written written n world
  pub made : HasMadeAtMost c n
  pub out : AreOut c.heap.shape outs

-- amid the answer to a line: it was asked for in such a world, where this number of units were to come at most, and so
-- many of its units were done since
pub record Amid (e : Entry) (rest written : Option (List ℕ)) (n : ℕ) (c : CollectorState) (left : Pending)
    (outs : List (ℕ × ℕ)) (flown : ℕ → Option Bits) : Type 0 where
  pub world : World
  pub valid : IsValid world
  pub asked : Option (List ℕ)
  pub before : Option (List ℕ)
  pub stands : Stands e.left asked e.written before n world
  pub command : Cmd
  pub given : GivesCommand asked rest command
  pub begun : World
  pub most : ℕ
  pub count : ℕ
  pub answering : IsAnswering world command left count begun most
  pub so_far : WritesSoFar left begun c flown most count before written
  pub few : left ≢ pending.Reset → count + units_left c flown < 2 ^ 64
  pub made : HasMadeAtMost c (n + 1)
  pub out : AreOut c.heap.shape outs

-- where a replay stands, with these arenas and bits in flight
pub data Standing (e : Entry) (m : Machine) (i : Input) (written : Option (List ℕ))
    (writes : ℕ) (outs : List (ℕ × ℕ)) (flown : ℕ → Option Bits) : Type 0 where
  between : m.pending ≡ None → m.answered ≤ 4294967295
      → Between e (to_come i) written m.answered m.collector outs flown
      → i.faults ≡ e.reads → writes ≡ e.writes → Standing e m i written writes outs flown
  amid : (more : Pending) → m.pending ≡ Some more → m.answered < 4294967295
      → Amid e (to_come i) written m.answered m.collector more outs flown
      → i.faults ≡ e.reads → writes ≡ e.writes → Standing e m i written writes outs flown

-- it stands somewhere
pub data IsStanding (m : Machine) (i : Input) (written : Option (List ℕ)) (writes : ℕ)
    (outs : List (ℕ × ℕ)) (flown : ℕ → Option Bits) : Type 0 where
  somewhere : (e : Entry) → Standing e m i written writes outs flown
      → IsStanding m i written writes outs flown

-- every line was answered: the collector stands for a valid world that all lines lead to
pub record EndsIn (e : Entry) (m : Machine) (written : Option (List ℕ)) : Type 0 where
  pub rest : Option (List ℕ)
  pub outs : List (ℕ × ℕ)
  pub flown : ℕ → Option Bits
  pub here : Between e rest written m.answered m.collector outs flown
  pub read : (xs : List ℕ) → rest ≡ Some xs → xs ≡ []

-- a replay ended so, with these bytes left and written
pub record ReplayEnds (e : Entry) (x : Exit) (left written : Option (List ℕ)) (reads writes behind : ℕ) : Type 0 where
  pub lawful : Replays e.left left e.written written x
  pub quiet : x ≡ exit.Done → (reads ≡ e.reads) × (writes ≡ e.writes)
  pub handed_on : x ≢ exit.WriteFault → behind ≡ 0
  pub read : x ≡ exit.ReadFault → Rose e.reads reads
  pub write : x ≡ exit.WriteFault → Rose e.writes writes
  pub runs : x ≢ exit.Usage
  pub no_verdict : x ≢ exit.Unsound

-- so the loop is over
pub record HasEnded (e : Entry) (x : Exit) (m : Machine) (i : Input)
    (written : Option (List ℕ)) (writes behind : ℕ) : Type 0 where
  pub over : ReplayEnds e x i.left written i.faults writes behind
  pub ends_in : x ≡ exit.Done → EndsIn e m written

-- what is held back was handed on as a replay ends by an exit, or the sink failed
abbrev pub HandsOn : Exit → Exit → ℕ → ℕ → ℕ → Type 0
HandsOn x result old new behind =
    ((result ≡ x) × (new ≡ old) × (behind ≡ 0)) ⊎ ((result ≡ exit.WriteFault) × Rose old new)

-- a turn of the loop begins a line, or ends one: twice the lines to come, and one where none is begun, gets less
abbrev pub unbegun : Option Pending → ℕ
unbegun None = 1
unbegun (Some left) = 0

abbrev pub turns_left : Machine → ℕ
turns_left m = 2 * (2 ^ 32 - m.answered) + unbegun m.pending

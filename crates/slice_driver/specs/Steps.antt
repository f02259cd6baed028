-- What the call of a command does, step by step.
use Rattle.std.specs.Prelude.{◌≡◌, ◌≤◌, ◌*◌, ℕ, true, false, length, Option, None, Result, IfErr, IfOk, OnErr}
use Rattle.gz_names.specs.declared.numbers.Place.{Place}
use Rattle.gz_names.specs.declared.commands.GraphCmd.{GraphCmd}
use Rattle.gz_names.specs.declared.replies.Reply.{Reply}
use Rattle.gz_names.specs.declared.replies.CmdFault.{CmdFault}
use Rattle.gz_names.specs.declared.replies.CmdFault.TheVariants as fault
use Rattle.cell_bits.specs.declared.bits.Bits.{Bits}
use Rattle.wrappers.specs.WrapperMaps.{AreApart}
use Rattle.colour_defs.specs.Step.{HasFewFields}
use Rattle.heap_core.specs.declared.plans.Plan.{Plan}
use Rattle.heap_core.specs.Shape.{is_prepared}
use Rattle.heap_core.specs.Heap.{joined}
use Rattle.heap_core.specs.Plans.{ChangesBy, IsAble, IsPlanOf, MayWant, handed_by}
use Rattle.barriers.specs.Invariant.{MarkingInvariant}
use Rattle.barriers.specs.LeftOut.{PreparingInvariant}
use Rattle.barriers.specs.Spreading.{Covers}
use Rattle.slice_driver.specs.Collector.{CollectorState}
use Rattle.slice_driver.specs.Commands.{Exposed, ExposedLeftOut}
use Rattle.slice_driver.specs.Rooms.{Widens}

-- what a barrier asks where marking may go on: the marking invariant holds, and no zone is being prepared
pub record IsMarkable (c : CollectorState) (flown : ℕ → Option Bits) : Type 0 where
  pub invariant : MarkingInvariant (joined c.heap flown) c.stack
  pub none_prepared : (z : ℕ) → is_prepared c.heap.shape z ≡ false

-- and where some zone is being prepared: the colours that count are closed
pub record IsPrepared (c : CollectorState) : Type 0 where
  pub invariant : PreparingInvariant c.heap c.stack
  pub prepared : (z : ℕ) × (is_prepared c.heap.shape z ≡ true)

-- a cell went through a barrier, if there was one to expose, and the flight covers what it covered; where there was
-- none, nothing changed
pub record GoesThrough (o : Option Place) (c : CollectorState) (flown : ℕ → Option Bits) (d : CollectorState)
    (flying : ℕ → Option Bits) : Type 0 where
  pub marking : IsMarkable c flown → Exposed o (joined c.heap flown) c.stack (joined d.heap flying) d.stack
  pub preparing : IsPrepared c → ExposedLeftOut o c.heap c.stack d.heap d.stack × (flying ≡ flown)
  pub rest : d ≡ record c { heap = d.heap; stack = d.stack }
  pub heap_is : d.heap ≡ record c.heap { colours = d.heap.colours }
  pub sized : length d.heap.colours ≡ length c.heap.colours
  pub still : o ≡ None → (d ≡ c) × (flying ≡ flown)
  pub covers : Covers d.heap.shape flying

-- room was made on the lists for what a plan of the command changes; what it overwrites or removes was
-- exposed, then what a `wrap` is about, then what it hands out; and its change was made. Only memory may be wanted in
-- place of it, and only by a change that may want some
pub record CommandSteps (c : CollectorState) (flown : ℕ → Option Bits) (command : GraphCmd)
    (result : Result Reply CmdFault) (d : CollectorState) (flying : ℕ → Option Bits) : Type 0 where
  pub wide : CollectorState
  pub widens : Widens c wide
  pub plan : Plan
  pub planned : IsPlanOf wide.heap command plan
  pub able : IsAble wide.heap.shape wide.heap.made plan.change
  pub few : HasFewFields command
  pub apart : AreApart wide.heap.shape.wrappers.lists
  pub first : CollectorState
  pub first_flown : ℕ → Option Bits
  pub old_through : GoesThrough plan.overwritten wide flown first first_flown
  pub second : CollectorState
  pub second_flown : ℕ → Option Bits
  pub target_through : GoesThrough plan.wrapped first first_flown second second_flown
  pub third : CollectorState
  pub handed_through : GoesThrough (handed_by plan.change) second second_flown third flying
  pub rest : d ≡ record third { heap = d.heap }
  pub change : IfOk result (λ answer. ChangesBy third.heap plan.change answer d.heap)
  pub err : OnErr result (d.heap ≡ third.heap)
  pub wanted : IfErr result (λ why. (why ≡ fault.NoMemory) × MayWant third.heap.shape plan.change)
  pub more_room : 64 * length d.heap.colours ≤ d.lists.room

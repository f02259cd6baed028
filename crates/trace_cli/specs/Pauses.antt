-- Why the loop pauses, and where it stands then.
use Rattle.std.specs.Prelude.{◌≡◌, ℕ, List, [], Option, None, IsSome, ⊤}
use Rattle.cell_bits.specs.declared.bits.Bits.{Bits}
use Rattle.command_source.specs.Input.{Input}
use Rattle.slice_driver.specs.Units.{none_flown}
use Rattle.sweeping.specs.ArenasOut.{Ascend, flown_by, outs_of}
use Rattle.trace_cli.specs.Standing.{Entry, HasEnded, Standing}
use Rattle.trace_cli.specs.declared.machine.Machine.{Machine}
use Rattle.trace_cli.specs.declared.machine.Pause.{Pause}
use Rattle.trace_cli.specs.declared.machine.Pause.TheVariants as pause

-- the bits in flight after units, with those of the flight that they were done over
abbrev pub bits_in : Pause → (ℕ → Option Bits) → ℕ → Option Bits
bits_in pause.None flown = flown
bits_in pause.BoardEmpty flown = flown
bits_in pause.MarkingBegan flown = flown
bits_in (pause.Sweep jobs) flown = flown_by jobs
bits_in (pause.Over x) flown = flown

-- the arenas that are out then
abbrev pub outs_in : Pause → List (ℕ × ℕ) → List (ℕ × ℕ)
outs_in pause.None outs = outs
outs_in pause.BoardEmpty outs = outs
outs_in pause.MarkingBegan outs = outs
outs_in (pause.Sweep jobs) outs = outs_of jobs
outs_in (pause.Over x) outs = outs

-- none is out after the last one came in, nor as marking begins; those that are handed out ascend; no unit ends a
-- replay
abbrev pub IsLeftBy : Pause → List (ℕ × ℕ) → (ℕ → Option Bits) → Type 0
IsLeftBy pause.None outs flown = ⊤
IsLeftBy pause.BoardEmpty outs flown = (outs ≡ []) × ((a : ℕ) → flown a ≡ None)
IsLeftBy pause.MarkingBegan outs flown = (outs ≡ []) × ((a : ℕ) → flown a ≡ None)
IsLeftBy (pause.Sweep jobs) outs flown = Ascend (outs_of jobs)
IsLeftBy (pause.Over x) outs flown = ⊥

-- arenas are to be swept amid a line, and no other ones are out
pub record Sweeps (e : Entry) (m : Machine) (i : Input) (written : Option (List ℕ)) (writes : ℕ)
    (outs : List (ℕ × ℕ)) (flown : ℕ → Option Bits) : Type 0 where
  pub amid : IsSome m.pending
  pub stands : Standing e m i written writes outs flown
  pub ascend : Ascend outs

-- where the loop stands as it pauses, with these arenas and bits in flight
abbrev pub PausesSo : Pause → Entry → Machine → Input → Option (List ℕ) → ℕ → ℕ → List (ℕ × ℕ) → (ℕ → Option Bits)
    → Type 0
PausesSo pause.None e m i written writes behind outs flown = Standing e m i written writes outs flown
PausesSo pause.BoardEmpty e m i written writes behind outs flown = Standing e m i written writes [] none_flown
PausesSo pause.MarkingBegan e m i written writes behind outs flown = Standing e m i written writes [] none_flown
PausesSo (pause.Sweep jobs) e m i written writes behind outs flown =
    Sweeps e m i written writes (outs_of jobs) (flown_by jobs)
PausesSo (pause.Over x) e m i written writes behind outs flown = HasEnded e x m i written writes behind

-- What the loop leaves behind between two stretches of a replay.
use Rattle.std.proofs.Common.{◌≡◌, ◌≢◌, ◌⊎◌, ℕ, List, [], Option, Some, None, IsSome, refl, sym, subst, ◌∙◌, arith, inl}
use Rattle.std.proofs.Common.{inr}
use Rattle.std.specs.Io.KnownBytes.{Appends}
use Rattle.std.proofs.KnownBytes.{Appends-nil}
use Rattle.cell_bits.specs.declared.bits.Bits.{Bits}
use Rattle.cell_bits.specs.declared.jobs.Job.{Job}
use Rattle.command_source.specs.Input.{Input}
use Rattle.slice_driver.specs.Units.{none_flown}
use Rattle.sweeping.specs.ArenasOut.{Ascend, flown_by, outs_of}
use Rattle.trace_cli.specs.declared.exit.Exit.{Exit}
use Rattle.trace_cli.specs.declared.exit.Exit.TheVariants as exit
use Rattle.trace_cli.specs.declared.machine.Machine.{Machine}
use Rattle.trace_cli.specs.declared.machine.Pause.{Pause}
use Rattle.trace_cli.specs.declared.machine.Pause.TheVariants as pause
use Rattle.trace_cli.specs.declared.pending.Pending.{Pending}
use Rattle.trace_cli.specs.Pauses.{PausesSo, Sweeps}
use Rattle.trace_cli.specs.Standing.{Entry, HandsOn, HasEnded, IsStanding, Standing, amid, between, somewhere}
use Rattle.trace_cli.specs.Writing.{stopped_before}
use Rattle.trace_cli.proofs.Going.{opened_amid}
use Rattle.trace_cli.proofs.Going.{amid_wanting}

-- where the loop pauses nothing is said of the arenas that it was over
pub paused : (e : Entry) (m : Machine) (i : Input) (written : Option (List ℕ)) (writes behind : ℕ)
    (outs : List (ℕ × ℕ)) (flown : ℕ → Option Bits) (t : Pause) → t ≢ pause.None
    → PausesSo t e m i written writes behind outs flown → PausesSo t e m i written writes behind [] none_flown
paused e m i written writes behind outs flown pause.None other so = absurd (other refl)
paused e m i written writes behind outs flown pause.BoardEmpty other so = so
paused e m i written writes behind outs flown pause.MarkingBegan other so = so
paused e m i written writes behind outs flown (pause.Sweep jobs) other so = so
paused e m i written writes behind outs flown (pause.Over x) other so = so

pub none_at_first : (e : Entry) (m : Machine) (i : Input) (written : Option (List ℕ)) (writes behind : ℕ) (t : Pause)
    → t ≡ pause.None → Standing e m i written writes [] none_flown
    → PausesSo t e m i written writes behind [] none_flown
none_at_first e m i written writes behind t is s =
    subst (λ (u : Pause). PausesSo u e m i written writes behind [] none_flown) (sym is) s

module _ (e : Entry) (m : Machine) (i : Input) (written : Option (List ℕ)) (writes behind : ℕ) (t : Pause)
    (so : PausesSo t e m i written writes behind [] none_flown) where
  at_pause : (u : Pause) → t ≡ u → PausesSo u e m i written writes behind [] none_flown
  at_pause u is = subst (λ (v : Pause). PausesSo v e m i written writes behind [] none_flown) is so

  -- the replay is over
  pub pause_over : (x : Exit) → t ≡ pause.Over x → HasEnded e x m i written writes behind
  pause_over x is = at_pause (pause.Over x) is

  -- the marking of a `collect` began
  pub pause_marks : t ≡ pause.MarkingBegan → Standing e m i written writes [] none_flown
  pause_marks is = at_pause pause.MarkingBegan is

  -- arenas are to be swept
  pub pause_sweeps : (jobs : List Job) → t ≡ pause.Sweep jobs
      → Sweeps e m i written writes (outs_of jobs) (flown_by jobs)
  pause_sweeps jobs is = at_pause (pause.Sweep jobs) is

  -- it goes on over no arenas, as over a flight without jobs
  pub pause_ends : (jobs : List Job) (v : Pause) → v ≡ t → (v ≡ pause.None) ⊎ (v ≡ pause.BoardEmpty) → jobs ≡ []
      → Standing e m i written writes (outs_of jobs) (flown_by jobs)
  pause_ends jobs v same or none =
      subst (λ (js : List Job). Standing e m i written writes (outs_of js) (flown_by js)) (sym none)
      (subst (λ (f : ℕ → Option Bits). Standing e m i written writes [] f) (λ i a. flown_by [] a) (standing or))
    where
      standing : (v ≡ pause.None) ⊎ (v ≡ pause.BoardEmpty) → Standing e m i written writes [] none_flown
      standing (inl is) = at_pause pause.None (sym same ∙ is)
      standing (inr is) = at_pause pause.BoardEmpty (sym same ∙ is)

-- the loop paused so, wherever the replay began
pub record Pausing (t : Pause) (k : Machine) (j : Input) (text : Option (List ℕ)) (fell behind : ℕ) : Type 0 where
  pub entry : Entry
  pub so : PausesSo t entry k j text fell behind [] none_flown

pub pausing : (m k : Machine) (i j : Input) (written text : Option (List ℕ)) (writes fell behind : ℕ) (t : Pause)
    → ((e : Entry) → Standing e m i written writes [] none_flown
    → PausesSo t e k j text fell behind [] none_flown) → IsStanding m i written writes [] none_flown
    → Pausing t k j text fell behind
pausing m k i j written text writes fell behind t so (somewhere e s) = record { entry = e; so = so e s }

-- then it goes on over no arenas
pub some_ends : (k : Machine) (j : Input) (text : Option (List ℕ)) (fell behind : ℕ) (t : Pause)
    → Pausing t k j text fell behind → (jobs : List Job) (v : Pause) → v ≡ t
    → (v ≡ pause.None) ⊎ (v ≡ pause.BoardEmpty) → jobs ≡ [] → IsStanding k j text fell (outs_of jobs) (flown_by jobs)
some_ends k j text fell behind t p jobs v same or none =
    somewhere p.entry (pause_ends p.entry k j text fell behind t p.so jobs v same or none)

-- or marks by markers
pub some_marks : (k : Machine) (j : Input) (text : Option (List ℕ)) (fell behind : ℕ) (t : Pause)
    → Pausing t k j text fell behind → t ≡ pause.MarkingBegan → IsStanding k j text fell [] none_flown
some_marks k j text fell behind t p is = somewhere p.entry (pause_marks p.entry k j text fell behind t p.so is)

-- or goes on over arenas that are to be swept
pub some_sweeps : (k : Machine) (j : Input) (text : Option (List ℕ)) (fell behind : ℕ) (t : Pause)
    → Pausing t k j text fell behind → (jobs : List Job) → t ≡ pause.Sweep jobs
    → IsStanding k j text fell (outs_of jobs) (flown_by jobs) × Ascend (outs_of jobs)
some_sweeps k j text fell behind t p jobs is =
    let sweeps = pause_sweeps p.entry k j text fell behind t p.so jobs is in
    (somewhere p.entry sweeps.stands, sweeps.ascend)

none_left : (o : Option Pending) → o ≡ None → IsSome o → ⊥
none_left None none some = cc some
none_left (Some left) none some = cc none

-- memory for a board is wanted amid a line
pub unswept : (e : Entry) (m : Machine) (i : Input) (p q : Option (List ℕ)) (f g behind : ℕ) (outs : List (ℕ × ℕ))
    (flown : ℕ → Option Bits) (r : Exit) → Sweeps e m i p f outs flown → Appends p q []
    → HandsOn exit.NoMemory r f g behind → HasEnded e r m i q g behind
unswept e m i p q f g behind outs flown r sweeps kept cause = at sweeps.stands sweeps.amid
  where
    at : Standing e m i p f outs flown → IsSome m.pending → HasEnded e r m i q g behind
    at (between none few b reads writes) some = absurd (none_left m.pending none some)
    at (amid more is few a reads writes) some =
        amid_wanting e m m more i p p f g behind outs flown (opened_amid is (amid more is few a reads writes)) q f r
        (λ w ok stands. stopped_before (Appends-nil p)) (omega arith) kept cause

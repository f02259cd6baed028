-- How far an answer is, by what is due: its lines so far are those of a lawful answer, or of lawful units or sweeps.
use Rattle.std.proofs.Common.{◌≡◌, ℕ, Bool, true, false, List, [], ◌∷◌, ◌++◌, Option, Some, None, map}
use Rattle.gz_names.specs.Zones.{zones_in}
use Rattle.gz_names.specs.declared.zone_sets.ZoneSet.{ZoneSet}
use Rattle.gz_names.specs.declared.commands.Cmd.{Cmd}
use Rattle.gz_names.specs.declared.commands.Cmd.TheVariants as command
use Rattle.gz_names.specs.declared.replies.Reply.{Reply}
use Rattle.gz_names.specs.declared.replies.Report.{Report}
use Rattle.colour_defs.specs.Graph.{GraphState}
use Rattle.colour_defs.specs.Lawful.{Answers, IsRunning, Prepares}
use Rattle.colour_defs.specs.World.{World, first_world}
use Rattle.trace_lang.specs.Grammar.{Spells}
use Rattle.judge.specs.Positions.{KeepsLaws, StandsBetween}
use Rattle.judge.specs.Running.{HasUnits}
use Rattle.judge.specs.Replies.{Due, dump, marked, nothing, reply, resets, units}
use Rattle.judge.specs.Stages.{Shown}
use Rattle.judge.specs.Transcripts.{Answer, HasSmallNumber, IsLawfulRun, dump_line, lines_of_answer, transcript}
use Rattle.judge.proofs.ResetLines.{HasSweptSoFar}
use Rattle.judge.proofs.UnitLines.{HasUnitsSoFar}

-- the answer is known, and these lines of it are left
pub record IsDueNow (before : World) (c : Cmd) (g : GraphState) (s : Shown) (due part : List (List ℕ)) : Type 0 where
  pub reports : List Report
  pub answer : Reply
  pub after : World
  pub lawful : Answers before c reports answer after
  pub small : HasSmallNumber answer
  pub stands : StandsBetween g s after
  pub lines : lines_of_answer (reports, answer) ≡ part ++ due

-- the units of a command go on from this world
pub data AreUnitsOf (before : World) : Cmd → Option ℕ → Bool → World → Type 0 where
  slice : {n : ℕ} → AreUnitsOf before (command.Slice n) (Some n) false before
  finish : AreUnitsOf before command.Finish None false before
  collect : {zones : ZoneSet} {begun : World} → Prepares before (zones_in zones) begun
      → AreUnitsOf before (command.Collect zones) None true begun

pub record IsInUnits (before : World) (c : Cmd) (g : GraphState) (s : Shown) (most : Option ℕ) (collects : Bool)
    (reports : ℕ) (part : List (List ℕ)) : Type 0 where
  pub begun : World
  pub of : AreUnitsOf before c most collects begun
  pub running : IsRunning begun
  pub fits : HasUnits most reports
  pub so_far : HasUnitsSoFar begun g s reports part

abbrev pub Progress : World → Cmd → GraphState → Shown → Due → List (List ℕ) → Type 0
Progress before c g s nothing part = ⊥
Progress before c g s (reply text) part = IsDueNow before c g s (text ∷ []) part
Progress before c g s (dump lines) part = IsDueNow before c g s (map dump_line lines) part
Progress before c g s (units most collects reports) part = IsInUnits before c g s most collects reports part
Progress before c g s resets part = (c ≡ command.Reset) × IsRunning before × HasSweptSoFar before g s part

-- between two answers
pub record IsWhole (lines : List (List ℕ)) (g : GraphState) (s : Shown) : Type 0 where
  pub trace : List (List ℕ)
  pub answers : List Answer
  pub world : World
  pub lawful : IsLawfulRun first_world trace answers world
  pub stands : StandsBetween g s world
  pub lines_are : lines ≡ transcript trace answers

-- within an answer
pub record IsInAnswer (lines : List (List ℕ)) (g : GraphState) (s : Shown) (due : Due) : Type 0 where
  pub trace : List (List ℕ)
  pub answers : List Answer
  pub before : World
  pub lawful : IsLawfulRun first_world trace answers before
  pub laws : KeepsLaws before
  pub text : List ℕ
  pub command : Cmd
  pub spells : Spells text command
  pub part : List (List ℕ)
  pub progress : Progress before command g s due part
  pub lines_are : lines ≡ transcript trace answers ++ marked text ∷ part

abbrev pub UpTo : List (List ℕ) → GraphState → Shown → Due → Type 0
UpTo lines g s nothing = IsWhole lines g s
UpTo lines g s (reply text) = IsInAnswer lines g s (reply text)
UpTo lines g s (dump ls) = IsInAnswer lines g s (dump ls)
UpTo lines g s (units most collects reports) = IsInAnswer lines g s (units most collects reports)
UpTo lines g s resets = IsInAnswer lines g s resets

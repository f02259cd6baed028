-- What is left of a lawful transcript behind some of its lines, where the judge stands for the world that these lead
-- to. The judge goes line by line, the definitions command by command: within an answer the invariant has the world
-- that the units so far lead to, and the units that are left.
use Rattle.std.specs.Prelude.{◌≡◌, ℕ, ◌+◌, ◌<◌, ◌≤◌, ◌^◌, Bool, true, false, List, [], ◌∷◌, ◌++◌, map, length, Option}
use Rattle.std.specs.Prelude.{Some, None, Contains, codes, is_some}
use Rattle.std.specs.List.{flat_map}
use Rattle.gz_names.specs.declared.replies.Reply.TheVariants as reply
use Rattle.gz_names.specs.declared.replies.Report.{Report}
use Rattle.gz_names.specs.declared.replies.Report.TheVariants as report
use Rattle.colour_defs.specs.Graph.{GraphState}
use Rattle.colour_defs.specs.Lawful.{AreLawfulSweeps, AreLawfulUnits, Finishes, HasTally, IsOver, LastOfReset}
use Rattle.colour_defs.specs.Lawful.{with_spent, with_spent_preparing}
use Rattle.colour_defs.specs.Laws.{IsValid}
use Rattle.colour_defs.specs.Units.{MeetsUnitBound, Tally, sweeps_in}
use Rattle.colour_defs.specs.World.{IsIdle, World}
use Rattle.trace_lang.specs.Texts.{reply_text}
use Rattle.judge.specs.Live.{IsValidLive}
use Rattle.judge.specs.Represents.{Represents}
use Rattle.judge.specs.Replies.{Due, IsUnmarked, nothing, reply as reply_due, dump, units as units_due, resets}
use Rattle.judge.specs.Sound.{IsSound}
use Rattle.judge.specs.Stages.{Shown, is_prepared}
use Rattle.judge.specs.Transcripts.{IsLawfulFrom, dump_line, lines_of_reports, told_lines}

-- what holds of each world that a lawful run reaches, also between two reports: the invariant of colour_defs; what a
-- collection has found live is present as long as it marks; and there are as many registers and gray slots as ever
pub record KeepsLaws (w : World) : Type 0 where
  pub valid : IsValid w
  pub live : IsValidLive w
  pub registers : length w.graph.registers ≡ 16
  pub slots : length w.graph.slots ≡ 64

-- the judge stands for this world, which keeps the laws
pub record StandsIn (g : GraphState) (s : Shown) (w : World) : Type 0 where
  pub represents : Represents g s w
  pub laws : KeepsLaws w
  pub sound : IsSound g s

-- and does so between two answers: no `done` and no line that tells watched cells is due
pub record StandsBetween (g : GraphState) (s : Shown) (w : World) : Type 0 where
  pub stands : StandsIn g s w
  pub not_over : IsOver w → ⊥
  pub none_told : s.told ≡ []

-- units that are left; before them `done` may be left of the unit that has begun
abbrev pub AreLeftUnits : Bool → World → List (List Report) → World → Type 0
AreLeftUnits false w units v = (IsOver w → ⊥) × AreLawfulUnits w units v
AreLeftUnits true w units v = (u : World) × Finishes w u × AreLawfulUnits u units v

-- their reports
abbrev pub left_reports : Bool → List (List Report) → List Report
left_reports false units = flat_map (λ u. u) units
left_reports true units = report.Done ∷ flat_map (λ u. u) units

-- the number of units of a slice, where it may have this many at most, or goes on to the end of the collection
abbrev pub IsNumberOf : Option ℕ → ℕ → World → Type 0
IsNumberOf None k v = IsIdle v
IsNumberOf (Some n) k v = (k ≤ n) × (k < n → IsIdle v)

-- what is counted since a slice began, beside its reports: the tally as it began, which is the one with which marking
-- would begin now, if it has not; then the same, and the arenas that were swept since
pub record HasCounted (s : Shown) (now : World) (tally : Tally) (so_far : List Report) : Type 0 where
  pub prepared : is_prepared s.stage ≡ true → (so_far ≡ []) × HasTally now tally
  pub begun : is_prepared s.stage ≡ false → s.tally ≡ record tally { sweeps = tally.sweeps + sweeps_in so_far }

-- a slice ends by this last line in this world, after k units with these reports
pub record EndsSlice (most : Option ℕ) (tally : Tally) (reports : List Report) (k : ℕ) (after : World) (last : List ℕ)
    (next : World) : Type 0 where
  pub small : k < 2 ^ 64
  pub number : IsNumberOf most k next
  pub within : MeetsUnitBound (is_some after.preparing) tally reports k
  pub last_is : last ≡ reply_text (reply.Sliced k)
  pub next_is : next ≡ record after {
    preparing = with_spent_preparing k after.preparing;
    collection = with_spent k after.collection;
  }

-- `collect` ends once the collection is over
pub record EndsCollect (most : Option ℕ) (after : World) (last : List ℕ) (next : World) : Type 0 where
  pub unlimited : most ≡ None
  pub idle : IsIdle after
  pub last_is : last ≡ codes "collected"
  pub next_is : next ≡ after

abbrev pub EndsUnits : Bool → Option ℕ → Tally → List Report → ℕ → World → List ℕ → World → Type 0
EndsUnits true most tally reports k after last next = EndsCollect most after last next
EndsUnits false most tally reports k after last next = EndsSlice most tally reports k after last next

-- an answer with units, of which these reports are written and `done` units were done: these lines are left
pub record IsLeftOfUnits (now : World) (most : Option ℕ) (collects : Bool) (tally : Tally) (so_far : List Report)
    (done : ℕ) (lines : List (List ℕ)) : Type 0 where
  pub is_last : Bool
  pub units : List (List Report)
  pub after : World
  pub left : AreLeftUnits is_last now units after
  pub last : List ℕ
  pub next : World
  pub ends : EndsUnits collects most tally (so_far ++ left_reports is_last units) (done + length units) after last next
  pub more : List (List ℕ)
  pub goes_on : IsLawfulFrom next more
  pub lines_are : lines ≡ lines_of_reports (left_reports is_last units) ++ last ∷ more

-- within an answer with units, that has had this many reports, but for `told` and `done`: these lines are left
pub record IsInUnits (g : GraphState) (s : Shown) (most : Option ℕ) (collects : Bool) (reports : ℕ)
    (lines : List (List ℕ)) : Type 0 where
  pub now : World
  pub stands : StandsIn g s now
  pub tally : Tally
  pub so_far : List Report
  pub counted : collects ≡ false → HasCounted s now tally so_far
  pub done : ℕ
  pub enough : reports ≤ done
  pub left : List (List ℕ)
  pub rest : IsLeftOfUnits now most collects tally so_far done left
  pub lines_are : lines ≡ told_lines s.told ++ left

-- within a reset: these lines are left
pub record IsInReset (g : GraphState) (s : Shown) (lines : List (List ℕ)) : Type 0 where
  pub now : World
  pub stands : StandsIn g s now
  pub none_told : s.told ≡ []
  pub sweeps : List Report
  pub swept : World
  pub are_swept : AreLawfulSweeps now sweeps swept
  pub final : Report
  pub after : World
  pub ends : LastOfReset swept final after
  pub more : List (List ℕ)
  pub goes_on : IsLawfulFrom after more
  pub lines_are : lines ≡ lines_of_reports (sweeps ++ final ∷ []) ++ reply_text reply.ResetDone ∷ more

-- these lines of the answer are left, none of which begins as a line of a trace does, and then those of a lawful
-- transcript
pub record IsBefore (g : GraphState) (s : Shown) (due : List (List ℕ)) (lines : List (List ℕ)) : Type 0 where
  pub world : World
  pub stands : StandsBetween g s world
  pub unmarked : (line : List ℕ) → Contains due line → IsUnmarked line
  pub more : List (List ℕ)
  pub goes_on : IsLawfulFrom world more
  pub lines_are : lines ≡ due ++ more

-- these lines may be left of a lawful transcript where this is due
abbrev pub AreLeft : GraphState → Shown → Due → List (List ℕ) → Type 0
AreLeft g s nothing lines = IsBefore g s [] lines
AreLeft g s (reply_due text) lines = IsBefore g s (text ∷ []) lines
AreLeft g s (dump []) lines = ⊥
AreLeft g s (dump (l ∷ ls)) lines = IsBefore g s (map dump_line (l ∷ ls)) lines
AreLeft g s (units_due most collects reports) lines = IsInUnits g s most collects reports lines
AreLeft g s resets lines = IsInReset g s lines

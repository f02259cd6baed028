-- A report of a unit, in the judge's world and in one of the definitions: the judge stands for the world after it.
use Rattle.std.proofs.Common.{◌≡◌, ◌∙◌, inl, inr, ℕ, ◌+◌, Bool, true, false, List, [], ◌∷◌, ◌++◌, map}
use Rattle.std.proofs.Common.{Contains, refl, sym, ap, subst, arith}
use Rattle.gz_names.specs.Zones.{zones_in}
use Rattle.gz_names.specs.declared.names.Name.{Name}
use Rattle.gz_names.specs.declared.zone_sets.ZoneSet.{ZoneSet}
use Rattle.gz_names.specs.declared.replies.Report.{Report}
use Rattle.gz_names.specs.declared.replies.Report.TheVariants as report
use Rattle.colour_defs.specs.Graph.{GraphState}
use Rattle.colour_defs.specs.Lawful.{Begins, Finishes as FinishesIn, HasTally, IsLawfulReport}
use Rattle.colour_defs.specs.Units.{Tally, sweeps_in}
use Rattle.colour_defs.specs.World.{Preparation, World, first_tally}
use Rattle.colour_defs.proofs.Lists.{contains_cases, contains_head, contains_tail, nothing_in_none}
use Rattle.colour_defs.proofs.Tallies.{sweeps_both}
use Rattle.trace_lang.specs.Texts.{report_text}
use Rattle.colour_defs.proofs.ZoneSets.{zones_in-has}
use Rattle.judge.specs.Bounds.{with_sweep}
use Rattle.judge.specs.Positions.{HasCounted, StandsIn}
use Rattle.judge.specs.Represents.{IsAtStage, Represents}
use Rattle.judge.specs.Sound.{IsSound}
use Rattle.judge.specs.Stages.{EndsGroup, Finishes, Forms, IsReported, Shown, Stage, Starts, Sweeps, collecting, idle}
use Rattle.judge.specs.Stages.{is_prepared, preparing}
use Rattle.judge.specs.Transcripts.{lines_of_report, told_lines}
use Rattle.judge.specs.Walks.{CatchUp}
use Rattle.judge.proofs.Ending.{represents_end, same_told}
use Rattle.judge.proofs.Finishing.{represents_finish}
use Rattle.judge.proofs.Grouping.{represents_forms}
use Rattle.judge.proofs.Lawfulness.{laws_report}
use Rattle.judge.proofs.LineKinds.{is_done, is_ended, is_groups, is_started, is_swept}
use Rattle.judge.proofs.SameGroups.{AreFull, same_groups_line}
use Rattle.judge.proofs.Standing.{prepared_at}
use Rattle.judge.proofs.Starting.{counted_first, represents_start}
use Rattle.judge.proofs.Sweeping.{represents_sweep}

-- the watched cells that a report tells
abbrev pub told_of : Report → List Name
told_of report.Started = []
told_of (report.Groups groups) = []
told_of (report.Ended zones grays told) = told
told_of (report.Swept arena freed) = []
told_of report.Done = []
told_of (report.Stopped zones) = []

-- its first line
abbrev pub first_of : Report → List ℕ
first_of report.Started = report_text report.Started
first_of (report.Groups groups) = report_text (report.Groups groups)
first_of (report.Ended zones grays told) = report_text (report.Ended zones grays [])
first_of (report.Swept arena freed) = report_text (report.Swept arena freed)
first_of report.Done = report_text report.Done
first_of (report.Stopped zones) = report_text (report.Stopped zones)

pub lines_first : (r : Report) → lines_of_report r ≡ first_of r ∷ told_lines (told_of r)
lines_first report.Started = refl
lines_first (report.Groups groups) = refl
lines_first (report.Ended zones grays told) = refl
lines_first (report.Swept arena freed) = refl
lines_first report.Done = refl
lines_first (report.Stopped zones) = refl

-- the tally with more sweeps
abbrev plus : Tally → ℕ → Tally
plus t n = record t { sweeps = t.sweeps + n }

counted_plus : (old new : Shown) (now u : World) (tally : Tally) (so_far : List Report) (r : Report)
    → is_prepared old.stage ≡ false → is_prepared new.stage ≡ false → new.tally ≡ plus old.tally (sweeps_in (r ∷ []))
    → HasCounted old now tally so_far → HasCounted new u tally (so_far ++ r ∷ [])
counted_plus old new now u tally so_far r before after more counted = record {
  prepared = λ e. absurd (cc (e, after));
  begun = λ e. more ∙ ap (λ t. plus t (sweeps_in (r ∷ []))) (counted.begun before)
      ∙ ap (λ n. record tally { sweeps = n }) (omega (arith, sweeps_both so_far (r ∷ [])));
}

plus_none : (t : Tally) → t ≡ plus t 0
plus_none t = ap (λ n. record t { sweeps = n }) (omega arith)

-- what is known after a report
pub record IsAfter (g : GraphState) (old new : Shown) (now u : World) (r : Report) : Type 0 where
  pub stands : StandsIn g new u
  pub told_is : new.told ≡ told_of r
  pub counted : (tally : Tally) (so_far : List Report) → HasCounted old now tally so_far
      → HasCounted new u tally (so_far ++ r ∷ [])

module _ (g : GraphState) (old new : Shown) (now u : World) (stands : StandsIn g old now) (sound : IsSound g new)
    (none_told : old.told ≡ []) where
  stands_then : (r : Report) → IsLawfulReport now r u → Represents g new u → StandsIn g new u
  stands_then r lawful then = record {
    represents = then;
    laws = laws_report now r u stands.laws lawful;
    sound = sound;
  }

  started : (zs : List ℕ) → Begins now zs u → Starts g old new → IsAfter g old new now u report.Started
  started zs lawful starts = record {
    stands = stands_then report.Started (zs, lawful)
        (subst (λ a. StandsIn a old now → Starts a old new → Represents a new u) stands.represents.graph_is
        (λ st s. represents_start old new now u zs st s lawful) stands starts);
    told_is = ap (λ (s : Shown). s.told) starts.started.new_is ∙ none_told;
    counted = λ tally so_far counted.
        let before : is_prepared old.stage ≡ true = ap is_prepared starts.was in
        let p = counted.prepared before in
        let tally_is : tally ≡ first_tally now lawful.preparation = tally_now tally p.1 in
        let first = subst (λ a. StandsIn a old now → Starts a old new → new.tally ≡ first_tally now lawful.preparation)
        stands.represents.graph_is (λ st s. counted_first old new now u zs st s lawful) stands starts in record {
          prepared = λ e. absurd (let stage = ap (λ (s : Shown). is_prepared s.stage) starts.started.new_is in
              cc (e, stage));
          begun = λ e. first ∙ sym tally_is ∙ plus_none tally
              ∙ ap (λ rs. plus tally (sweeps_in (rs ++ report.Started ∷ []))) (sym p.0);
        };
  }
    where
      tally_now : (tally : Tally) → HasTally now tally → tally ≡ first_tally now lawful.preparation
      tally_now tally (inl k) = absurd (let alone = (prepared_at stands.represents starts.zones starts.was).alone in
          cc (alone, k.1))
      tally_now tally (inr q) = q.2 ∙ ap (λ (p : Preparation). first_tally now p) (cc (q.1, lawful.was))

  formed : (groups theirs : List ZoneSet) → report_text (report.Groups groups) ≡ report_text (report.Groups theirs)
      → IsLawfulReport now (report.Groups theirs) u → Forms g old groups new
      → CatchUp old.former.graph old.walks new.walks → IsAfter g old new now u (report.Groups theirs)
  formed groups theirs e lawful forms caught =
      let same = same_groups_line theirs groups (their_full theirs lawful) my_full (sym e) in
      let before : is_prepared old.stage ≡ false = ap is_prepared forms.was in
      let after : is_prepared new.stage ≡ false = ap (λ (s : Shown). is_prepared s.stage) forms.new_is in
      let tally : new.tally ≡ old.tally = ap (λ (s : Shown). s.tally) forms.new_is in record {
        stands = stands_then (report.Groups theirs) lawful
            (represents_forms g groups (map zones_in theirs) old new now u stands forms caught lawful same);
        told_is = ap (λ (s : Shown). s.told) forms.new_is ∙ none_told;
        counted = λ t so_far counted. counted_plus old new now u t so_far (report.Groups theirs) before after
            (tally ∙ plus_none old.tally) counted;
      }
    where
      my_full : AreFull groups
      my_full h c none = let some = forms.parts.full h c in
          nothing_in_none some.0 (subst (λ zs. Contains zs some.0) none ((zones_in-has h some.0).1 some.1))

      in_map : (hs : List ZoneSet) (h : ZoneSet) → Contains hs h → Contains (map zones_in hs) (zones_in h)
      in_map [] h c = absurd (nothing_in_none h c)
      in_map (k ∷ ks) h c = elim (contains_cases k ks h c) [
        | inl same ↦ subst (λ z. Contains (zones_in k ∷ map zones_in ks) (zones_in z)) same
            (contains_head (zones_in k) (map zones_in ks))
        | inr t ↦ contains_tail (zones_in k) (map zones_in ks) (zones_in h) (in_map ks h t)
      ]

      their_full : (hs : List ZoneSet) → IsLawfulReport now (report.Groups hs) u → AreFull hs
      their_full hs l h c none = l.lawful.full (zones_in h) (in_map hs h c) none

  ended : (group zones : ZoneSet) (judged grays told : List Name)
      → IsLawfulReport now (report.Ended zones grays told) u → EndsGroup g old group judged new
      → IsAfter g old new now u (report.Ended zones grays told)
  ended group zones judged grays told lawful ends =
      let laws = laws_report now (report.Ended zones grays told) u stands.laws lawful in
      let before : is_prepared old.stage ≡ false = ap is_prepared ends.ends.was in
      let after : is_prepared new.stage ≡ false = ap is_prepared ends.ends.new_is in record {
        stands = record {
          represents = represents_end g group judged grays told old new now u (zones_in zones) stands laws ends lawful;
          laws = laws;
          sound = sound;
        };
        told_is = sym (same_told g group judged grays told old new now u (zones_in zones) stands laws ends lawful);
        counted = λ t so_far counted. counted_plus old new now u t so_far (report.Ended zones grays told) before after
            (ends.tally_is ∙ plus_none old.tally) counted;
      }

  swept : (arena mine : ℕ) (freed judged : List Name) → IsLawfulReport now (report.Swept arena freed) u
      → Sweeps old mine judged new → IsAfter g old new now u (report.Swept arena freed)
  swept arena mine freed judged lawful sweeps =
      let same : new.stage ≡ old.stage = ap (λ (s : Shown). s.stage) sweeps.new_is in
      let tally = ap (λ (s : Shown). s.tally) sweeps.new_is in record {
        stands = stands_then (report.Swept arena freed) lawful
            (represents_sweep g arena mine freed judged old new now u stands.represents sweeps lawful);
        told_is = ap (λ (s : Shown). s.told) sweeps.new_is ∙ none_told;
        counted = λ t so_far counted. by_stage (is_prepared old.stage) refl same tally t so_far counted;
      }
    where
      running : (t : Stage) → IsAtStage t old now → is_prepared t ≡ true → ⊥
      running idle at e = cc e
      running (preparing zones) at e = cc (at.none_out, sweeps.first)
      running (collecting zones marking groups) at e = cc e

      by_stage : (b : Bool) → is_prepared old.stage ≡ b → new.stage ≡ old.stage → new.tally ≡ with_sweep old.tally
          → (t : Tally) (so_far : List Report) → HasCounted old now t so_far
          → HasCounted new u t (so_far ++ report.Swept arena freed ∷ [])
      by_stage true e same tally t so_far counted = absurd (running old.stage stands.represents.stage_is e)
      by_stage false e same tally t so_far counted =
          counted_plus old new now u t so_far (report.Swept arena freed) e (ap is_prepared same ∙ e) tally counted

  finished : FinishesIn now u → Finishes old new → IsAfter g old new now u report.Done
  finished lawful ends =
      let before : is_prepared old.stage ≡ false = ap is_prepared ends.over.ended in
      let after : is_prepared new.stage ≡ false = ap (λ (s : Shown). is_prepared s.stage) ends.new_is in
      let tally : new.tally ≡ old.tally = ap (λ (s : Shown). s.tally) ends.new_is in record {
        stands = stands_then report.Done lawful
            (represents_finish g old new now u stands.represents stands.laws.valid ends lawful);
        told_is = ap (λ (s : Shown). s.told) ends.new_is ∙ none_told;
        counted = λ t so_far counted. counted_plus old new now u t so_far report.Done before after
            (tally ∙ plus_none old.tally) counted;
      }

  -- the line of one is the line of the other
  pub reported : (r : Report) (mine : Report) → first_of r ≡ report_text mine → IsLawfulReport now r u
      → IsReported g old mine new → IsAfter g old new now u r
  reported report.Started mine e lawful judged =
      let is = is_started mine (sym e) in
      started lawful.0 lawful.1 (subst (λ r. IsReported g old r new) is judged)
  reported (report.Groups groups) mine e lawful judged =
      let is = is_groups mine groups (sym e) in
      let j = subst (λ r. IsReported g old r new) is.1 judged in
      formed is.0 groups (sym (e ∙ ap report_text is.1)) lawful j.0 j.1
  reported (report.Ended zones grays told) mine e lawful judged =
      let is = is_ended mine zones grays (sym e) in
      let j = subst (λ r. IsReported g old r new) is.3 judged in
      ended is.0 zones is.1 grays told lawful j.1
  reported (report.Swept arena freed) mine e lawful judged =
      let is = is_swept mine arena freed (sym e) in
      let j = subst (λ r. IsReported g old r new) is.2 judged in
      swept arena is.0 freed is.1 lawful j
  reported report.Done mine e lawful judged =
      let is = is_done mine (sym e) in
      finished lawful (subst (λ r. IsReported g old r new) is judged)
  reported (report.Stopped zones) mine e lawful judged = absurd lawful

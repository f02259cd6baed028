-- What is wrong with a line that is not the report that is due.
use Rattle.std.proofs.Common.{◌≡◌, ◌≢◌, ◌∙◌, ℕ, List, [], ◌∷◌, get_or, Bool, true, false, Option, Some, None}
use Rattle.std.proofs.Common.{sym, ap, subst, arith, ◌⊎◌, inl, inr}
use Rattle.std.specs.Prelude.{codes, ⊤}
use Rattle.std.specs.Fmt.{decimal}
use Rattle.gz_names.specs.Zones.{zones_in}
use Rattle.gz_names.specs.declared.names.Name.{Name}
use Rattle.gz_names.specs.declared.zone_sets.ZoneSet.{ZoneSet}
use Rattle.gz_names.specs.declared.replies.Report.{Report}
use Rattle.gz_names.specs.declared.replies.Report.TheVariants as report
use Rattle.colour_defs.specs.Graph.{GraphState}
use Rattle.colour_defs.specs.Ends.{Lists}
use Rattle.trace_lang.specs.Texts.{report_text, told_text}
use Rattle.judge.specs.Cells.{HasCell, IsGray}
use Rattle.judge.specs.Replies.{IsLast, LooksLast}
use Rattle.judge.specs.Stages.{AreForbidden, IsDue, IsFirstGroup, IsOver, IsToldLine, IsWrongResetLine, MayEnd}
use Rattle.judge.specs.Stages.{IsWrongReport}
use Rattle.judge.specs.Stages.{IsWrongReportLine, Shown, Stage, collecting, idle, preparing, unfinished_in}
use Rattle.judge.specs.Walks.{Walks}
use Rattle.judge.specs.Whites.{whites_in}
use Rattle.judge.specs.declared.collection.GroupEnd.{GroupEnd}
use Rattle.judge.specs.declared.world.DueReport.{DueReport}
use Rattle.judge.specs.declared.world.DueReport.TheVariants as due
use Rattle.judge.proofs.OneList.{one_list}

-- the report that is due, by the arenas that are out and the stage
abbrev due_in : List ℕ → Stage → DueReport
due_in (a ∷ rest) s = due.Swept a
due_in [] idle = due.Idle
due_in [] (preparing zones) = due.Started
due_in [] (collecting zones marking None) = due.Groups
due_in [] (collecting zones marking (Some [])) = due.Done
due_in [] (collecting zones marking (Some (group ∷ rest))) = due.Ended

abbrev due_of : Shown → DueReport
due_of s = due_in s.out s.stage

at_rest : (s : Shown) (t : Stage) → s.out ≡ [] → s.stage ≡ t → due_of s ≡ due_in [] t
at_rest s t none at = ap (λ (o : List ℕ). due_in o s.stage) none ∙ ap (due_in []) at

is_due : (d : DueReport) (s : Shown) → IsDue d s → due_of s ≡ d
is_due due.Idle s (none, at) = at_rest s idle none at
is_due due.Started s (none, (zones, at)) = at_rest s (preparing zones) none at
is_due due.Groups s (none, (zones, marking, at)) = at_rest s (collecting zones marking None) none at
is_due due.Ended s (none, (group, (zones, marking, rest, at))) =
    at_rest s (collecting zones marking (Some (group ∷ rest))) none at
is_due (due.Swept a) s (rest, first) = ap (λ (o : List ℕ). due_in o s.stage) first
is_due due.Done s (none, (zones, marking, at)) = at_rest s (collecting zones marking (Some [])) none at

sweep_due : (s : Shown) (a : ℕ) (rest : List ℕ) → s.out ≡ a ∷ rest → due_of s ≡ due.Swept a
sweep_due s a rest first = ap (λ (o : List ℕ). due_in o s.stage) first

over_due : (s : Shown) → IsOver s → due_of s ≡ due.Done
over_due s over = at_rest s (collecting over.zones over.marking (Some [])) over.none_out over.ended

-- what the judge knows of a line that it refuses, by the report that is due
abbrev pub Refuses : DueReport → GraphState → Shown → List ℕ → Type 0
Refuses due.Idle g s line = ⊤
Refuses due.Started g s line = line ≢ codes "started"
Refuses due.Groups g s line =
    (groups : List ZoneSet) → line ≡ report_text (report.Groups groups) → AreForbidden g s groups
Refuses due.Ended g s line =
    (group : ZoneSet) (grays : List Name) → line ≡ report_text (report.Ended group grays []) → MayEnd g s group grays
    → ⊥
Refuses (due.Swept a) g s line = line ≢ report_text (report.Swept a (whites_in s.whites a))
Refuses due.Done g s line = line ≢ codes "done"

module _ (d : DueReport) (g : GraphState) (s : Shown) (line : List ℕ) (at : due_of s ≡ d)
    (refuses : Refuses d g s line) where
  refused_as : (e : DueReport) → due_of s ≡ e → Refuses e g s line
  refused_as e is = subst (λ (x : DueReport). Refuses x g s line) (sym at ∙ is) refuses

  wrong_report : (r : Report) → line ≡ report_text r → IsWrongReport g s r
  wrong_report report.Started e = λ may. refused_as due.Started (at_rest s (preparing may.0) may.2 may.1) e
  wrong_report (report.Groups groups) e = λ none zones marking walks stage.
      refused_as due.Groups (at_rest s (collecting zones marking None) none stage) groups e zones marking walks stage
  wrong_report (report.Ended group grays told) e = λ none may.
      let (zones, marking, rest, at) = may.first in
      refused_as due.Ended (at_rest s (collecting zones marking (Some (group ∷ rest))) may.none_out at) group grays
      (e ∙ ap (λ t. report_text (report.Ended group grays t)) none) may
  wrong_report (report.Swept a freed) e = λ may.
      refused_as (due.Swept a) (sweep_due s a may.0 may.1) (e ∙ ap (λ xs. report_text (report.Swept a xs)) may.2)
  wrong_report report.Done e = λ over. refused_as due.Done (over_due s over) e
  wrong_report (report.Stopped zones) e = tt

none_told : (s : Shown) (line : List ℕ) (new : Shown) → s.told ≡ [] → IsToldLine s line new → ⊥
none_told s line new none tells = let e = sym (ap told_text none) ∙ tells.0 in cc e

-- no watched cell is due, and the line is not the report that is due
pub not_due : (d : DueReport) (g : GraphState) (s : Shown) (line : List ℕ) → IsDue d s → s.told ≡ []
    → Refuses d g s line → IsWrongReportLine g s line
not_due d g s line at none refuses = record {
  report = λ r e told. wrong_report d g s line (is_due d s at) refuses r e;
  told = λ new tells. none_told s line new none tells;
}

-- a line that tells watched cells is due, and this one does not tell them
pub not_told : (g : GraphState) (s : Shown) (line : List ℕ) → s.told ≢ []
    → ((new : Shown) → IsToldLine s line new → ⊥) → IsWrongReportLine g s line
not_told g s line some none = record { report = λ r e told. absurd (some told); told = none }

-- what the judge knows of the end of the first group
pub record KnowsEnd (g : GraphState) (s : Shown) (end : GroupEnd) : Type 0 where
  pub first : IsFirstGroup s.stage end.zones
  pub walks : Walks
  pub found : s.walks ≡ Some walks
  pub grays : Lists (λ x. HasCell s.cells x × IsGray g (zones_in end.zones) s.former.graph walks x) end.grays.items

-- a line that is not the report of that end
pub not_ended : (g : GraphState) (s : Shown) (line : List ℕ) (end : GroupEnd) → KnowsEnd g s end
    → line ≢ report_text (report.Ended end.zones end.grays.items []) → (group : ZoneSet) (grays : List Name)
    → line ≡ report_text (report.Ended group grays []) → MayEnd g s group grays → ⊥
not_ended g s line end knows differs group grays e may =
    let (zones, marking, rest, at) = knows.first in
    let (all_zones, all_marking, others, is) = may.first in
    let same : group ≡ end.zones = cc (at, is) in
    let walks : may.walks ≡ knows.walks = cc (knows.found, may.found) in
    let all = subst (λ (v : Walks). Lists (λ x. HasCell s.cells x × IsGray g (zones_in end.zones) s.former.graph v x)
    grays) walks (subst (λ (z : ZoneSet). Lists (λ x. HasCell s.cells x
    × IsGray g (zones_in z) s.former.graph may.walks x) grays) same may.grays_are) in
    let names : grays ≡ end.grays.items = one_list (λ x. HasCell s.cells x
    × IsGray g (zones_in end.zones) s.former.graph knows.walks x) grays end.grays.items all knows.grays in
    differs (e ∙ ap (λ (z : ZoneSet). report_text (report.Ended z grays [])) same
    ∙ ap (λ (xs : List Name). report_text (report.Ended end.zones xs [])) names)

-- a line of a reset that is not the one that is due: an arena is out, the collection is over, or it is given up
pub not_swept : (a : ℕ) (s : Shown) (line : List ℕ) → IsDue (due.Swept a) s
    → line ≢ report_text (report.Swept a (whites_in s.whites a)) → IsWrongResetLine s line
not_swept a s line (rest, first) differs report.Started e = tt
not_swept a s line (rest, first) differs (report.Groups groups) e = tt
not_swept a s line (rest, first) differs (report.Ended group grays told) e = tt
not_swept a s line (rest, first) differs (report.Swept b freed) e = λ may.
    let same : b ≡ a = cc (first, may.1) in
    differs (e ∙ ap (λ xs. report_text (report.Swept b xs)) may.2
    ∙ ap (λ n. report_text (report.Swept n (whites_in s.whites n))) same)
not_swept a s line (rest, first) differs report.Done e = λ over. cc (first, over.none_out)
not_swept a s line (rest, first) differs (report.Stopped zones) e = λ may. cc (first, may.0)

pub not_done : (s : Shown) (line : List ℕ) → IsOver s → line ≢ codes "done" → IsWrongResetLine s line
not_done s line over differs report.Started e = tt
not_done s line over differs (report.Groups groups) e = tt
not_done s line over differs (report.Ended group grays told) e = tt
not_done s line over differs (report.Swept b freed) e = λ may. cc (over.none_out, may.1)
not_done s line over differs report.Done e = λ is. differs e
not_done s line over differs (report.Stopped zones) e = λ may. may.1 over

pub not_stopped : (s : Shown) (line : List ℕ) → s.out ≡ [] → (IsOver s → ⊥)
    → line ≢ report_text (report.Stopped (unfinished_in s.stage)) → IsWrongResetLine s line
not_stopped s line none not_over differs report.Started e = tt
not_stopped s line none not_over differs (report.Groups groups) e = tt
not_stopped s line none not_over differs (report.Ended group grays told) e = tt
not_stopped s line none not_over differs (report.Swept b freed) e = λ may. cc (none, may.1)
not_stopped s line none not_over differs report.Done e = not_over
not_stopped s line none not_over differs (report.Stopped zones) e = λ may.
    differs (e ∙ ap (λ z. report_text (report.Stopped z)) may.2)

-- a line that begins as a last one does is no report
same_at : (i : ℕ) (line xs ys : List ℕ) → line ≡ xs → line ≡ ys → get_or xs i 0 ≡ get_or ys i 0
same_at i line xs ys e f = ap (λ (l : List ℕ). get_or l i 0) (sym e ∙ f)

no_report : (collects : Bool) (g : GraphState) (s : Shown) (line : List ℕ) → LooksLast collects line → (r : Report)
    → line ≡ report_text r → IsWrongReport g s r
no_report true g s line is report.Started e =
    absurd (let differ : 99 ≡ 115 = same_at 0 line _ _ is e in omega (arith, differ))
no_report true g s line is (report.Groups groups) e =
    absurd (let differ : 99 ≡ 103 = same_at 0 line _ _ is e in omega (arith, differ))
no_report true g s line is (report.Ended group grays told) e =
    absurd (let differ : 99 ≡ 101 = same_at 0 line _ _ is e in omega (arith, differ))
no_report true g s line is (report.Swept a freed) e =
    absurd (let differ : 99 ≡ 115 = same_at 0 line _ _ is e in omega (arith, differ))
no_report true g s line is report.Done e =
    absurd (let differ : 99 ≡ 100 = same_at 0 line _ _ is e in omega (arith, differ))
no_report true g s line is (report.Stopped zones) e = tt
no_report false g s line (rest, is) report.Started e =
    absurd (let differ : 108 ≡ 116 = same_at 1 line _ _ is e in omega (arith, differ))
no_report false g s line (rest, is) (report.Groups groups) e =
    absurd (let differ : 108 ≡ 114 = same_at 1 line _ _ is e in omega (arith, differ))
no_report false g s line (rest, is) (report.Ended group grays told) e =
    absurd (let differ : 108 ≡ 110 = same_at 1 line _ _ is e in omega (arith, differ))
no_report false g s line (rest, is) (report.Swept a freed) e =
    absurd (let differ : 108 ≡ 119 = same_at 1 line _ _ is e in omega (arith, differ))
no_report false g s line (rest, is) report.Done e =
    absurd (let differ : 108 ≡ 111 = same_at 1 line _ _ is e in omega (arith, differ))
no_report false g s line (rest, is) (report.Stopped zones) e = tt

tells_t : (xs : List Name) (line : List ℕ) → told_text xs ≡ 10 ∷ line → get_or line 0 0 ≡ 116
tells_t [] line e = absurd (cc e)
tells_t (x ∷ xs) line e = ap (λ (l : List ℕ). get_or l 1 0) (sym e)

begins_last : (collects : Bool) (line : List ℕ) → LooksLast collects line
    → (get_or line 0 0 ≡ 99) ⊎ (get_or line 0 0 ≡ 115)
begins_last true line is = inl (ap (λ (l : List ℕ). get_or l 0 0) is)
begins_last false line (rest, is) = inr (ap (λ (l : List ℕ). get_or l 0 0) is)

tells_nothing : (collects : Bool) (s : Shown) (line : List ℕ) → LooksLast collects line
    → told_text s.told ≡ 10 ∷ line → ⊥
tells_nothing collects s line is e =
    let told = tells_t s.told line e in
    elim (begins_last collects line is) [
      | inl c ↦ omega (arith, told, c)
      | inr c ↦ omega (arith, told, c)
    ]

pub looks_last : (collects : Bool) (g : GraphState) (s : Shown) (line : List ℕ) → LooksLast collects line
    → IsWrongReportLine g s line
looks_last collects g s line is = record {
  report = λ r e told. no_report collects g s line is r e;
  told = λ new tells. tells_nothing collects s line is tells.0;
}

-- and a last line begins so
pub last_looks : (most : Option ℕ) (collects : Bool) (reports : ℕ) (s : Shown) (line : List ℕ) (new : Shown)
    → IsLast most collects reports s line new → LooksLast collects line
last_looks most true reports s line new last = last.0
last_looks most false reports s line new last = (decimal last.number, last.line_is)

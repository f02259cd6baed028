-- A line of an answer with units, in a lawful transcript: where the judge takes it, it stands for the world after it.
use Rattle.std.proofs.Common.{◌≡◌, ◌∙◌, inl, inr, ℕ, ◌+◌, Bool, true, false, List, [], ◌∷◌, ◌++◌}
use Rattle.std.proofs.Common.{Option, codes, drop, refl, sym, ap, subst, arith}
use Rattle.std.specs.Fmt.{decimal}
use Rattle.std.proofs.lemmas.Fmt.{decimal_injective}
use Rattle.gz_names.specs.declared.names.Name.{Name}
use Rattle.gz_names.specs.declared.replies.Report.{Report}
use Rattle.gz_names.specs.declared.replies.Report.TheVariants as report
use Rattle.colour_defs.specs.Graph.{GraphState}
use Rattle.colour_defs.specs.Units.{Tally}
use Rattle.colour_defs.specs.World.{World}
use Rattle.colour_defs.proofs.Lists.{nothing_in_none}
use Rattle.trace_lang.specs.Texts.{name_words, report_text, told_text}
use Rattle.judge.specs.Positions.{AreLeft, EndsUnits, HasCounted, IsBefore, IsInUnits, StandsBetween}
use Rattle.judge.specs.Replies.{Counts, Due, IsAnswered, IsLast, units as units_due}
use Rattle.judge.specs.Sound.{IsSound}
use Rattle.judge.specs.Stages.{IsReportedLine, IsToldLine, Shown}
use Rattle.judge.specs.Transcripts.{told_lines}
use Rattle.judge.proofs.Asked.{still_not_over}
use Rattle.judge.proofs.Lawfulness.{laws_spent}
use Rattle.judge.proofs.LineKinds.{not_collected, not_slice}
use Rattle.judge.proofs.Reported.{first_of, lines_first, reported, told_of}
use Rattle.judge.proofs.Reweak.{represents_told}
use Rattle.judge.proofs.Spending.{represents_spent, spent_in}
use Rattle.judge.proofs.UnitsLeft.{DoneNext, LastNext, NextLeft, ReportNext, done_next, last_next, next_left}
use Rattle.judge.proofs.UnitsLeft.{report_next}

-- a list that goes on as another one
pub head_is : {X : Type 0} (x y : X) (xs ys : List X) → x ∷ xs ≡ y ∷ ys → x ≡ y
head_is x y xs ys e = cc e

pub tail_is : {X : Type 0} (x y : X) (xs ys : List X) → x ∷ xs ≡ y ∷ ys → xs ≡ ys
tail_is x y xs ys e = cc e

-- a report without the line that tells watched cells
abbrev pub base_of : Report → Report
base_of report.Started = report.Started
base_of (report.Groups groups) = report.Groups groups
base_of (report.Ended zones grays told) = report.Ended zones grays []
base_of (report.Swept arena freed) = report.Swept arena freed
base_of report.Done = report.Done
base_of (report.Stopped zones) = report.Stopped zones

pub base_text : (r : Report) → first_of r ≡ report_text (base_of r)
base_text report.Started = refl
base_text (report.Groups groups) = refl
base_text (report.Ended zones grays told) = refl
base_text (report.Swept arena freed) = refl
base_text report.Done = refl
base_text (report.Stopped zones) = refl

-- a line that is a report is no last line
last_no_report : (most : Option ℕ) (collects : Bool) (reports : ℕ) (s new : Shown) (line : List ℕ) (r : Report)
    → line ≡ report_text r → IsLast most collects reports s line new → ⊥
last_no_report most true reports s new line r e last = not_collected r (sym e ∙ last.0)
last_no_report most false reports s new line r e last = not_slice r (decimal last.number) (sym e ∙ last.line_is)

last_untold : (most : Option ℕ) (collects : Bool) (reports : ℕ) (s new : Shown) (line : List ℕ)
    → IsLast most collects reports s line new → s.told ≡ []
last_untold most true reports s new line last = last.3
last_untold most false reports s new line last = last.none_told

told_nothing : (s new : Shown) (line : List ℕ) → s.told ≡ [] → IsToldLine s line new → ⊥
told_nothing s new line none tells = let e = sym (ap told_text none) ∙ tells.0 in cc e

-- the last line of what is left is no report
ends_no_report : (most : Option ℕ) (collects : Bool) (tally : Tally) (so_far : List Report) (k : ℕ) (after : World)
    (last : List ℕ) (next : World) (r : Report) → last ≡ report_text r
    → EndsUnits collects most tally so_far k after last next → ⊥
ends_no_report most true tally so_far k after last next r e ends = not_collected r (sym e ∙ ends.last_is)
ends_no_report most false tally so_far k after last next r e ends = not_slice r (decimal k) (sym e ∙ ends.last_is)

module _ (g : GraphState) (old new : Shown) (most : Option ℕ) (collects : Bool) (reports : ℕ) (line : List ℕ)
    (lines : List (List ℕ)) (is : IsInUnits g old most collects reports (line ∷ lines)) (sound : IsSound g new) where
  abbrev now : World
  now = is.now

  -- the line that tells watched cells
  pub told_next : (x : Name) (xs : List Name) → old.told ≡ x ∷ xs
      → (line ≡ codes "told" ++ name_words (x ∷ xs)) × (lines ≡ is.left)
  told_next x xs e =
      let all = is.lines_are ∙ ap (λ t. told_lines t ++ is.left) e in (
        head_is line (codes "told" ++ name_words (x ∷ xs)) lines is.left all,
        tail_is line (codes "told" ++ name_words (x ∷ xs)) lines is.left all,
      )

  told_step : (x : Name) (xs : List Name) (more : ℕ) → old.told ≡ x ∷ xs → new ≡ record old { told = [] }
      → Counts reports line more → IsInUnits g new most collects more lines
  told_step x xs more e same counts = let at = told_next x xs e in record {
    now = is.now;
    stands = record {
      represents = represents_told g old new is.now is.stands.represents same;
      laws = is.stands.laws;
      sound = sound;
    };
    tally = is.tally;
    so_far = is.so_far;
    counted = λ not. let c = is.counted not in
        subst (λ s. HasCounted s is.now is.tally is.so_far) (sym same)
        (record { prepared = c.prepared; begun = c.begun });
    done = is.done;
    enough = elim counts [
      | inl c ↦ omega (arith, c.1, is.enough)
      | inr c ↦ absurd (c.0 (inr (told_rest x xs, at.0)))
    ];
    left = is.left;
    rest = is.rest;
    lines_are = at.1 ∙ ap (λ t. told_lines t ++ is.left) (sym (ap (λ (s : Shown). s.told) same));
  }
    where
      told_rest : (x : Name) (xs : List Name) → List ℕ
      told_rest y ys = drop 1 (name_words (y ∷ ys))

  -- the next line, where no watched cell waits
  pub left_next : old.told ≡ [] → line ∷ lines ≡ is.left
  left_next none = is.lines_are ∙ ap (λ t. told_lines t ++ is.left) none

  done_step : (more : ℕ) → old.told ≡ [] → (d : DoneNext is.now most collects is.tally is.so_far is.done is.left)
      → IsReportedLine g old line new → Counts reports line more → IsInUnits g new most collects more lines
  done_step more none d (inr tells) counts = absurd (told_nothing old new line none tells)
  done_step more none d (inl (mine, e, judged, untold)) counts =
      let all = left_next none ∙ d.lines_are in
      let text : line ≡ report_text report.Done = head_is line _ lines d.rest all in
      let after = reported g old new is.now d.after is.stands sound none report.Done mine
      (sym text ∙ e) d.finishes judged
      in record {
        now = d.after;
        stands = after.stands;
        tally = is.tally;
        so_far = is.so_far ++ report.Done ∷ [];
        counted = λ not. after.counted is.tally is.so_far (is.counted not);
        done = is.done;
        enough = elim counts [
          | inl c ↦ omega (arith, c.1, is.enough)
          | inr c ↦ absurd (c.0 (inl text))
        ];
        left = d.rest;
        rest = d.left;
        lines_are = tail_is line _ lines d.rest all ∙ ap (λ t. told_lines t ++ d.rest) (sym after.told_is);
      }

  pub report_lines : old.told ≡ [] → (r : ReportNext is.now most collects is.tally is.so_far is.done is.left)
      → line ∷ lines ≡ first_of r.said ∷ (told_lines (told_of r.said) ++ r.rest)
  report_lines none r = left_next none ∙ r.lines_are ∙ ap (λ ls. ls ++ r.rest) (lines_first r.said)

  report_step : (more : ℕ) → old.told ≡ [] → (r : ReportNext is.now most collects is.tally is.so_far is.done is.left)
      → IsReportedLine g old line new → Counts reports line more → IsInUnits g new most collects more lines
  report_step more none r (inr tells) counts = absurd (told_nothing old new line none tells)
  report_step more none r (inl (mine, e, judged, untold)) counts =
      let all = report_lines none r in
      let text : line ≡ first_of r.said = head_is line _ lines _ all in
      let after = reported g old new is.now r.after is.stands sound none r.said mine (sym text ∙ e) r.lawful judged in
      record {
        now = r.after;
        stands = after.stands;
        tally = is.tally;
        so_far = is.so_far ++ r.said ∷ [];
        counted = λ not. after.counted is.tally is.so_far (is.counted not);
        done = r.before + 1;
        enough = elim counts [
          | inl c ↦ omega (arith, c.1, is.enough, r.enough)
          | inr c ↦ omega (arith, c.1, is.enough, r.enough)
        ];
        left = r.rest;
        rest = r.left;
        lines_are = tail_is line _ lines _ all ∙ ap (λ t. told_lines t ++ r.rest) (sym after.told_is);
      }

  -- the last line
  last_lines : old.told ≡ [] → (l : LastNext is.now most collects is.tally is.so_far is.done is.left)
      → line ∷ lines ≡ l.last ∷ l.more
  last_lines none l = left_next none ∙ l.lines_are

  last_step : old.told ≡ [] → (l : LastNext is.now most collects is.tally is.so_far is.done is.left)
      → IsLast most collects reports old line new → IsBefore g new [] lines
  last_step none l judged = go collects l.ends judged
    where
      text : line ≡ l.last
      text = head_is line l.last lines l.more (last_lines none l)

      before : StandsBetween g new l.next → IsBefore g new [] lines
      before stands = record {
        world = l.next;
        stands = stands;
        unmarked = λ q c. absurd (nothing_in_none q c);
        more = l.more;
        goes_on = l.goes_on;
        lines_are = tail_is line l.last lines l.more (last_lines none l);
      }

      go : (b : Bool) → EndsUnits b most is.tally is.so_far l.count is.now l.last l.next
          → IsLast most b reports old line new → IsBefore g new [] lines
      go true ends last =
          before (subst (λ z. StandsBetween g new z) (sym ends.next_is)
          (subst (λ s. StandsBetween g s is.now) (sym last.2)
          (record { stands = is.stands; not_over = l.not_over; none_told = none })))
      go false ends last =
          let number : last.number ≡ l.count = decimal_injective last.number l.count last.small ends.small
          (ap (λ t. drop 6 t) (sym last.line_is ∙ text ∙ ends.last_is)) in
          let same = last.spends.new_is in
          let then = represents_spent g last.number old new is.now is.stands.represents same in
          let over = still_not_over g g old new is.now (spent_in last.number is.now) is.stands.represents then
          (ap (λ (s : Shown). s.stage) same) (ap (λ (s : Shown). s.out) same) l.not_over in
          before (subst (λ z. StandsBetween g new z) (ap (λ n. spent_in n is.now) number ∙ sym ends.next_is) (record {
            stands = record {
              represents = then;
              laws = laws_spent is.now last.number is.stands.laws;
              sound = sound;
            };
            not_over = over;
            none_told = ap (λ (s : Shown). s.told) same ∙ none;
          }))

  no_last : old.told ≡ [] → (r : Report) → line ≡ report_text r → IsLast most collects reports old line new → ⊥
  no_last none r e last = last_no_report most collects reports old new line r e last

  -- a line that is a report
  counted_step : (more : ℕ) → IsReportedLine g old line new → Counts reports line more
      → IsInUnits g new most collects more lines
  counted_step more judged counts = by_told old.told refl
    where
      by_next : old.told ≡ [] → NextLeft is.now most collects is.tally is.so_far is.done is.left
          → IsInUnits g new most collects more lines
      by_next none (done_next d) = done_step more none d judged counts
      by_next none (report_next r) = report_step more none r judged counts
      by_next none (last_next l) = absurd (elim judged [
        | inl j ↦ ends_no_report most collects is.tally is.so_far l.count is.now l.last l.next j.0
            (sym (head_is line l.last lines l.more (last_lines none l)) ∙ j.1) l.ends
        | inr t ↦ told_nothing old new line none t
      ])

      by_told : (t : List Name) → old.told ≡ t → IsInUnits g new most collects more lines
      by_told [] none = by_next none (next_left is.now most collects is.tally is.so_far is.done is.left is.rest)
      by_told (x ∷ xs) e = elim judged [
        | inl j ↦ absurd (let untold = j.3 in cc (untold, e))
        | inr t ↦ told_step x xs more e t.1 counts
      ]

  -- the last one
  whole_step : IsLast most collects reports old line new → IsBefore g new [] lines
  whole_step last =
      by_next (last_untold most collects reports old new line last)
      (next_left is.now most collects is.tally is.so_far is.done is.left is.rest)
    where
      by_next : old.told ≡ [] → NextLeft is.now most collects is.tally is.so_far is.done is.left
          → IsBefore g new [] lines
      by_next none (done_next d) =
          absurd (no_last none report.Done (head_is line _ lines d.rest (left_next none ∙ d.lines_are)) last)
      by_next none (report_next r) = absurd (no_last none (base_of r.said)
          (head_is line _ lines _ (report_lines none r) ∙ base_text r.said) last)
      by_next none (last_next l) = last_step none l last

  pub answered_units : (next : Due) → IsAnswered g old (units_due most collects reports) line new next
      → AreLeft g new next lines
  answered_units next (inl (judged, more, counts, fits, e)) =
      subst (λ d. AreLeft g new d lines) (sym e) (counted_step more judged counts)
  answered_units next (inr (last, e)) = subst (λ d. AreLeft g new d lines) (sym e) (whole_step last)

-- Lines that are left within an answer do not begin as those of a trace do.
use Rattle.std.proofs.Common.{◌≡◌, ◌≢◌, ◌∙◌, ℕ, Bool, true, false, List, [], ◌∷◌, ◌++◌, Option, map}
use Rattle.std.proofs.Common.{codes, refl, sym, subst}
use Rattle.gz_names.specs.declared.names.Name.{Name}
use Rattle.gz_names.specs.declared.replies.Report.{Report}
use Rattle.gz_names.specs.declared.replies.Report.TheVariants as report
use Rattle.gz_names.specs.declared.replies.Reply.TheVariants as reply
use Rattle.colour_defs.specs.Graph.{GraphState}
use Rattle.colour_defs.specs.Lawful.{AreLawfulSweeps, LastOfReset}
use Rattle.colour_defs.specs.Units.{Tally}
use Rattle.colour_defs.specs.World.{World}
use Rattle.colour_defs.proofs.Lists.{contains_head}
use Rattle.trace_lang.specs.Texts.{name_words, reply_text, report_text}
use Rattle.judge.specs.Positions.{AreLeft, EndsUnits, IsBefore, IsInReset, IsInUnits}
use Rattle.judge.specs.Replies.{Due, IsUnmarked, dump, nothing, reply as reply_due, resets, units as units_due}
use Rattle.judge.specs.Stages.{Shown}
use Rattle.judge.specs.Transcripts.{dump_line, lines_of_reports}
use Rattle.judge.proofs.Answered.{head_is, left_next, report_lines, told_next}
use Rattle.judge.proofs.PlainTexts.{done_plain, ended_plain, groups_line_plain, reply_plain, started_plain}
use Rattle.judge.proofs.PlainTexts.{stopped_plain}
use Rattle.judge.proofs.PlainTexts.{ArePlain, swept_plain, told_plain, unmarked}
use Rattle.judge.proofs.Reported.{first_of}
use Rattle.judge.proofs.UnitsLeft.{NextLeft, done_next, last_next, next_left, report_next}

first_plain : (r : Report) → ArePlain (first_of r)
first_plain report.Started = started_plain
first_plain (report.Groups groups) = groups_line_plain groups
first_plain (report.Ended zones grays told) = ended_plain zones grays
first_plain (report.Swept arena freed) = swept_plain arena freed
first_plain report.Done = done_plain
first_plain (report.Stopped zones) = stopped_plain zones

plain_line : (text line : List ℕ) → line ≡ text → ArePlain text → IsUnmarked line
plain_line text line e plain = subst IsUnmarked (sym e) (unmarked text plain)

ends_plain : (most : Option ℕ) (collects : Bool) (tally : Tally) (reports : List Report) (k : ℕ) (after : World)
    (last : List ℕ) (next : World) → EndsUnits collects most tally reports k after last next → IsUnmarked last
ends_plain most true tally reports k after last next ends =
    plain_line (codes "collected") last ends.last_is (reply_plain reply.Collected (λ ls e. cc e))
ends_plain most false tally reports k after last next ends =
    plain_line (reply_text (reply.Sliced k)) last ends.last_is (reply_plain (reply.Sliced k) (λ ls e. cc e))

module _ (g : GraphState) (s : Shown) (most : Option ℕ) (collects : Bool) (reports : ℕ) (line : List ℕ)
    (lines : List (List ℕ)) (is : IsInUnits g s most collects reports (line ∷ lines)) where
  unmarked_in_units : IsUnmarked line
  unmarked_in_units = by_told s.told refl
    where
      by_next : s.told ≡ [] → NextLeft is.now most collects is.tally is.so_far is.done is.left → IsUnmarked line
      by_next none (done_next d) = plain_line (report_text report.Done) line
          (head_is line _ lines d.rest (left_next g s s most collects reports line lines is is.stands.sound none
          ∙ d.lines_are)) done_plain
      by_next none (report_next r) = plain_line (first_of r.said) line
          (head_is line _ lines _ (report_lines g s s most collects reports line lines is is.stands.sound none r))
          (first_plain r.said)
      by_next none (last_next l) = subst IsUnmarked
          (sym (head_is line l.last lines l.more
          (left_next g s s most collects reports line lines is is.stands.sound none ∙ l.lines_are)))
          (ends_plain most collects is.tally is.so_far l.count is.now l.last l.next l.ends)

      by_told : (t : List Name) → s.told ≡ t → IsUnmarked line
      by_told [] none = by_next none (next_left is.now most collects is.tally is.so_far is.done is.left is.rest)
      by_told (x ∷ xs) e = plain_line (codes "told" ++ name_words (x ∷ xs)) line
          (told_next g s s most collects reports line lines is is.stands.sound x xs e).0 (told_plain x xs)

unmarked_before : (g : GraphState) (s : Shown) (text line : List ℕ) (due lines : List (List ℕ))
    → IsBefore g s (text ∷ due) (line ∷ lines) → IsUnmarked line
unmarked_before g s text line due lines is =
    subst IsUnmarked (sym (head_is line text lines (due ++ is.more) is.lines_are))
    (is.unmarked text (contains_head text due))

unmarked_in_reset : (g : GraphState) (s : Shown) (line : List ℕ) (lines : List (List ℕ))
    → IsInReset g s (line ∷ lines) → IsUnmarked line
unmarked_in_reset g s line lines is = go is.sweeps is.are_swept is.lines_are
  where
    last : (r : Report) (w : World) → LastOfReset w r is.after
        → line ∷ lines ≡ lines_of_reports (r ∷ []) ++ reply_text reply.ResetDone ∷ is.more → IsUnmarked line
    last report.Started w ends e = absurd ends
    last (report.Groups groups) w ends e = absurd ends
    last (report.Ended zones grays told) w ends e = absurd ends
    last (report.Swept arena freed) w ends e = absurd ends
    last report.Done w ends e = plain_line (report_text report.Done) line (head_is line _ lines _ e) done_plain
    last (report.Stopped zones) w ends e =
        plain_line (report_text (report.Stopped zones)) line (head_is line _ lines _ e) (stopped_plain zones)

    go : (rs : List Report) → AreLawfulSweeps is.now rs is.swept
        → line ∷ lines ≡ lines_of_reports (rs ++ is.final ∷ []) ++ reply_text reply.ResetDone ∷ is.more
        → IsUnmarked line
    go [] same e = last is.final is.swept is.ends e
    go (report.Swept arena freed ∷ rs) more e = plain_line (report_text (report.Swept arena freed)) line
        (head_is line _ lines _ e) (swept_plain arena freed)
    go (report.Started ∷ rs) never e = absurd never
    go (report.Groups groups ∷ rs) never e = absurd never
    go (report.Ended zones grays told ∷ rs) never e = absurd never
    go (report.Done ∷ rs) never e = absurd never
    go (report.Stopped zones ∷ rs) never e = absurd never

-- within an answer
pub left_unmarked : (g : GraphState) (s : Shown) (due : Due) (line : List ℕ) (lines : List (List ℕ))
    → AreLeft g s due (line ∷ lines) → due ≢ nothing → IsUnmarked line
left_unmarked g s nothing line lines left some = absurd (some refl)
left_unmarked g s (reply_due text) line lines left some = unmarked_before g s text line [] lines left
left_unmarked g s (dump []) line lines left some = absurd left
left_unmarked g s (dump (l ∷ ls)) line lines left some =
    unmarked_before g s (dump_line l) line (map dump_line ls) lines left
left_unmarked g s (units_due most collects reports) line lines left some =
    unmarked_in_units g s most collects reports line lines left
left_unmarked g s resets line lines left some = unmarked_in_reset g s line lines left

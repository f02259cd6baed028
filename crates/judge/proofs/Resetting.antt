-- A line of another answer, in a lawful transcript: of a reset, of a dump, or a reply.
use Rattle.std.proofs.Common.{◌≡◌, ◌∙◌, inl, inr, ℕ, List, [], ◌∷◌, ◌++◌, map, sym, ap, subst}
use Rattle.gz_names.specs.Zones.{zones_in}
use Rattle.gz_names.specs.declared.names.Name.{Name}
use Rattle.gz_names.specs.declared.dumps.DumpLine.{DumpLine}
use Rattle.gz_names.specs.declared.replies.Report.{Report}
use Rattle.gz_names.specs.declared.replies.Report.TheVariants as report
use Rattle.gz_names.specs.declared.replies.Reply.TheVariants as reply
use Rattle.colour_defs.specs.Graph.{GraphState}
use Rattle.colour_defs.specs.Lawful.{AreLawfulSweeps, IsLawfulSweep, LastOfReset}
use Rattle.colour_defs.specs.World.{World}
use Rattle.colour_defs.proofs.Lists.{contains_cases, contains_tail, nothing_in_none}
use Rattle.trace_lang.specs.Texts.{reply_text}
use Rattle.judge.specs.Positions.{AreLeft, IsBefore, IsInReset, StandsIn}
use Rattle.judge.specs.Replies.{Due, IsAnswered, IsDumped, IsUnmarked, after_reset, dump_due as due_of}
use Rattle.judge.specs.Replies.{resets}
use Rattle.judge.specs.Represents.{IsAtStage}
use Rattle.judge.specs.Sound.{IsSound}
use Rattle.judge.specs.Stages.{IsResetLine, IsResetReport, Shown, Stage, Sweeps, collecting, idle}
use Rattle.judge.specs.Stages.{preparing}
use Rattle.judge.specs.Transcripts.{dump_line, lines_of_reports}
use Rattle.judge.proofs.Answered.{head_is, tail_is}
use Rattle.judge.proofs.Finishing.{represents_finish}
use Rattle.judge.proofs.Idling.{over_shown}
use Rattle.judge.proofs.Lawfulness.{laws_last, laws_sweep}
use Rattle.judge.proofs.LineKinds.{is_done, is_stopped, is_swept}
use Rattle.judge.proofs.PlainTexts.{reply_plain, unmarked}
use Rattle.judge.proofs.Stopping.{represents_stop}
use Rattle.judge.proofs.Sweeping.{represents_sweep}

-- a reply
pub answered_reply : (g : GraphState) (old new : Shown) (text line : List ℕ) (lines : List (List ℕ))
    → IsBefore g old (text ∷ []) (line ∷ lines) → new ≡ old → IsBefore g new [] lines
answered_reply g old new text line lines is same = subst (λ s. IsBefore g s [] lines) (sym same) (record {
  world = is.world;
  stands = is.stands;
  unmarked = λ q c. absurd (nothing_in_none q c);
  more = is.more;
  goes_on = is.goes_on;
  lines_are = tail_is line text lines is.more is.lines_are;
})

-- a line of a dump
pub answered_dump : (g : GraphState) (old new : Shown) (ls : List DumpLine) (line : List ℕ) (lines : List (List ℕ))
    (next : Due) → IsBefore g old (map dump_line ls) (line ∷ lines) → IsDumped ls line next → new ≡ old
    → AreLeft g new next lines
answered_dump g old new [] line lines next is dumped same = absurd dumped
answered_dump g old new (l ∷ ls) line lines next is dumped same =
    subst (λ d. AreLeft g new d lines) (sym dumped.1)
    (subst (λ s. AreLeft g s (due_of ls) lines) (sym same) (go ls rest))
  where
    rest : IsBefore g old (map dump_line ls) lines
    rest = record {
      world = is.world;
      stands = is.stands;
      unmarked = λ q c. is.unmarked q (contains_tail (dump_line l) (map dump_line ls) q c);
      more = is.more;
      goes_on = is.goes_on;
      lines_are = tail_is line (dump_line l) lines (map dump_line ls ++ is.more) is.lines_are;
    }

    go : (ds : List DumpLine) → IsBefore g old (map dump_line ds) lines → AreLeft g old (due_of ds) lines
    go [] b = b
    go (d ∷ ds) b = b

-- a report of a reset
module _ (g : GraphState) (old new : Shown) (line : List ℕ) (lines : List (List ℕ))
    (is : IsInReset g old (line ∷ lines))
    (sound : IsSound g new) where
  done_due : StandsIn g new is.after → new.stage ≡ idle → new.told ≡ old.told
      → lines ≡ reply_text reply.ResetDone ∷ is.more → AreLeft g new (after_reset new.stage) lines
  done_due stands rest told e = subst (λ t. AreLeft g new (after_reset t) lines) (sym rest) (record {
    world = is.after;
    stands = record {
      stands = stands;
      not_over = λ over. let o = over_shown stands.represents over in let ended = o.ended in cc (rest, ended);
      none_told = told ∙ is.none_told;
    };
    unmarked = λ q c. elim (contains_cases (reply_text reply.ResetDone) [] q c) [
      | inl s ↦ subst IsUnmarked s (unmarked (reply_text reply.ResetDone) (reply_plain reply.ResetDone (λ ls f. cc f)))
      | inr n ↦ absurd (nothing_in_none q n)
    ];
    more = is.more;
    goes_on = is.goes_on;
    lines_are = e;
  })

  -- the last report
  last_report : (final : Report) → LastOfReset is.now final is.after
      → line ∷ lines ≡ lines_of_reports (final ∷ []) ++ reply_text reply.ResetDone ∷ is.more
      → IsResetLine g old line new
      → AreLeft g new (after_reset new.stage) lines
  last_report report.Started ends e judged = absurd ends
  last_report (report.Groups groups) ends e judged = absurd ends
  last_report (report.Ended zones grays told) ends e judged = absurd ends
  last_report (report.Swept arena freed) ends e judged = absurd ends
  last_report report.Done ends e (mine, text, judged) =
      let same = is_done mine (sym text ∙ head_is line _ lines _ e) in
      let finishes = subst (λ r. IsResetReport g old r new) same judged in
      let then = represents_finish g old new is.now is.after is.stands.represents is.stands.laws.valid finishes ends in
      done_due (record {
        represents = then;
        laws = laws_last is.now report.Done is.after is.stands.laws ends;
        sound = sound;
      }) (ap (λ (s : Shown). s.stage) finishes.new_is) (ap (λ (s : Shown). s.told) finishes.new_is)
      (tail_is line _ lines _ e)
  last_report (report.Stopped zones) ends e (mine, text, judged) =
      let same = is_stopped mine zones (sym text ∙ head_is line _ lines _ e) in
      let stops = subst (λ r. IsResetReport g old r new) same.1 judged in
      let then = represents_stop g same.0 old new is.now is.after (zones_in zones) is.stands stops ends in
      done_due (record {
        represents = then;
        laws = laws_last is.now (report.Stopped zones) is.after is.stands.laws ends;
        sound = sound;
      }) (ap (λ (s : Shown). s.stage) stops.new_is) (ap (λ (s : Shown). s.told) stops.new_is)
      (tail_is line _ lines _ e)

  -- an arena is taken in
  sweep_report : (arena : ℕ) (freed : List Name) (rs : List Report) (u : World) → IsLawfulSweep is.now arena freed u
      → AreLawfulSweeps u rs is.swept
      → line ∷ lines ≡ lines_of_reports (report.Swept arena freed ∷ (rs ++ is.final ∷ []))
      ++ reply_text reply.ResetDone ∷ is.more → IsResetLine g old line new → AreLeft g new (after_reset new.stage) lines
  sweep_report arena freed rs u sweep rest e (mine, text, judged) =
      let same = is_swept mine arena freed (sym text ∙ head_is line _ lines _ e) in
      let sweeps = subst (λ r. IsResetReport g old r new) same.2 judged in
      let then = represents_sweep g arena same.0 freed same.1 old new is.now u is.stands.represents sweeps sweep in
      let stage : new.stage ≡ old.stage = ap (λ (s : Shown). s.stage) sweeps.new_is in
      subst (λ t. AreLeft g new (after_reset t) lines) (sym stage)
      (go sweeps old.stage is.stands.represents.stage_is (record {
        now = u;
        stands = record {
          represents = then;
          laws = laws_sweep is.now arena freed u is.stands.laws sweep;
          sound = sound;
        };
        none_told = ap (λ (s : Shown). s.told) sweeps.new_is ∙ is.none_told;
        sweeps = rs;
        swept = is.swept;
        are_swept = rest;
        final = is.final;
        after = is.after;
        ends = is.ends;
        more = is.more;
        goes_on = is.goes_on;
        lines_are = tail_is line _ lines _ e;
      }))
    where
      go : {b : ℕ} {names : List Name} → Sweeps old b names new → (t : Stage) → IsAtStage t old is.now
          → IsInReset g new lines
          → AreLeft g new (after_reset t) lines
      go s idle at r = absurd (let none = at.none_out in let first = s.first in cc (none, first))
      go s (preparing zones) at r = r
      go s (collecting zones marking groups) at r = r

  pub answered_reset : (next : Due) → IsAnswered g old resets line new next → AreLeft g new next lines
  answered_reset next (judged, e) =
      subst (λ d. AreLeft g new d lines) (sym e) (go is.sweeps is.are_swept is.lines_are)
    where
      go : (rs : List Report) → AreLawfulSweeps is.now rs is.swept
          → line ∷ lines ≡ lines_of_reports (rs ++ is.final ∷ []) ++ reply_text reply.ResetDone ∷ is.more
          → AreLeft g new (after_reset new.stage) lines
      go [] same ls = last_report is.final (subst (λ w. LastOfReset w is.final is.after) same is.ends) ls judged
      go (report.Swept arena freed ∷ rs) (u, sweep, rest) ls = sweep_report arena freed rs u sweep rest ls judged
      go (report.Started ∷ rs) never ls = absurd never
      go (report.Groups groups ∷ rs) never ls = absurd never
      go (report.Ended zones grays told ∷ rs) never ls = absurd never
      go (report.Done ∷ rs) never ls = absurd never
      go (report.Stopped zones ∷ rs) never ls = absurd never

-- A line of a lawful transcript: where the judge takes it, the rest is left; and it is no wrong one.
use Rattle.std.proofs.Common.{◌≡◌, ◌∙◌, inl, inr, ℕ, List, [], ◌∷◌, ◌++◌, map, drop}
use Rattle.std.proofs.Common.{refl, sym, ap, subst}
use Rattle.gz_names.specs.Zones.{zones_in}
use Rattle.gz_names.specs.declared.zone_sets.ZoneSet.{ZoneSet}
use Rattle.gz_names.specs.declared.commands.Cmd.{Cmd}
use Rattle.gz_names.specs.declared.commands.Cmd.TheVariants as command
use Rattle.gz_names.specs.declared.replies.Report.{Report}
use Rattle.gz_names.specs.declared.replies.Report.TheVariants as report
use Rattle.gz_names.specs.declared.replies.Reply.TheVariants as reply
use Rattle.colour_defs.specs.Graph.{GraphState}
use Rattle.colour_defs.specs.Lawful.{AreLawfulSweeps, LastOfReset, Run}
use Rattle.colour_defs.specs.World.{World}
use Rattle.colour_defs.proofs.ZoneSets.{zones_in-ascending}
use Rattle.trace_lang.specs.Grammar.{Spells}
use Rattle.trace_lang.specs.Texts.{reply_text, report_text}
use Rattle.trace_lang.specs.Words.{number_words}
use Rattle.judge.specs.Positions.{AreLeft, IsBefore, IsInReset, StandsBetween}
use Rattle.judge.specs.Replies.{Asks, Due, IsAnswered, IsWrongAnswer, Steps, dump, dump_due}
use Rattle.judge.specs.Replies.{graph_after, marked, nothing, reply as reply_due, resets, units as units_due}
use Rattle.judge.specs.Sound.{IsSound}
use Rattle.judge.specs.Stages.{IsWrongResetLine, Shown, unfinished_in}
use Rattle.judge.specs.Transcripts.{Answer, HaveSmallNumbers, IsLawfulFrom, StandForAll, dump_line, lines_of_answer}
use Rattle.judge.specs.Transcripts.{lines_of_reports, transcript}
use Rattle.judge.specs.Verdicts.{IsWrongLine}
use Rattle.judge.proofs.Answered.{answered_units, head_is, tail_is}
use Rattle.judge.proofs.Asked.{ComesNext, asked_graph, asked_weak}
use Rattle.judge.proofs.Begun.{asked_collect, asked_compact, asked_gc}
use Rattle.judge.proofs.Idling.{over_shown, over_world}
use Rattle.judge.proofs.Listing.{asked_colours, asked_dump}
use Rattle.judge.proofs.Numbers.{same_numbers}
use Rattle.judge.proofs.Refuting.{may_sweep, right_in_units}
use Rattle.judge.proofs.Resetting.{answered_dump, answered_reply, answered_reset}
use Rattle.judge.proofs.Slicing.{asked_finish, asked_reset, asked_slice}
use Rattle.judge.proofs.SpelledZones.{spelled_zones}
use Rattle.judge.proofs.Stopping.{unfinished_by}
use Rattle.judge.proofs.Unmarked.{left_unmarked}

-- a lawful transcript goes on with a command and its answer
pub record GoesOn (w : World) (line : List ℕ) (lines : List (List ℕ)) : Type 0 where
  pub text : List ℕ
  pub command : Cmd
  pub stands : Spells text command
  pub line_is : line ≡ marked text
  pub answer : Answer
  pub after : World
  pub more : List (List ℕ)
  pub next : ComesNext w command answer after more
  pub lines_are : lines ≡ lines_of_answer answer ++ more

pub lawful_next : (w : World) (line : List ℕ) (lines : List (List ℕ)) → IsLawfulFrom w (line ∷ lines)
    → GoesOn w line lines
lawful_next w line lines is = go is.trace is.answers is.lawful.commands is.lawful.stand is.lawful.run is.lawful.small
    is.lines_are
  where
    go : (trace : List (List ℕ)) (answers : List Answer) (cs : List Cmd) → StandForAll trace cs
        → Run w cs answers is.after → HaveSmallNumbers answers → line ∷ lines ≡ transcript trace answers
        → GoesOn w line lines
    go [] answers cs stand run small e = absurd (cc e)
    go (t ∷ ts) [] cs stand run small e = absurd (cc e)
    go (t ∷ ts) (a ∷ answers) [] stand run small e = absurd stand
    go (t ∷ ts) (a ∷ answers) (c ∷ cs) stand (u, first, rest) small e = record {
      text = t;
      command = c;
      stands = stand.0;
      line_is = head_is line (marked t) lines (lines_of_answer a ++ transcript ts answers) e;
      answer = a;
      after = u;
      more = transcript ts answers;
      next = record {
        lawful = first;
        small = small.0;
        goes_on = record {
          trace = ts;
          answers = answers;
          after = is.after;
          lawful = record { commands = cs; stand = stand.1; run = rest; small = small.1 };
          lines_are = refl;
        };
      };
      lines_are = tail_is line (marked t) lines (lines_of_answer a ++ transcript ts answers) e;
    }

-- a command
module _ (old new : Shown) (w v : World) (answer : Answer) (more : List (List ℕ)) (due : Due) (text : List ℕ)
    (between : StandsBetween w.graph old w) where
  asked : (c : Cmd) → Spells text c → ComesNext w c answer v more → Asks w.graph old c due new
      → IsSound (graph_after w.graph old c) new
      → AreLeft (graph_after w.graph old c) new due (lines_of_answer answer ++ more)
  asked (command.Graph c) spells next asks sound = asked_graph old new w v answer more due between c next asks sound
  asked (command.Weak c) spells next asks sound = asked_weak old new w v answer more due between c next asks sound
  asked (command.Gc zones) spells next asks sound = asked_gc w.graph zones old new w v answer more due between
      (spelled_zones text (command.Gc zones) zones spells (inl refl)).1 sound next asks
  asked (command.Collect zones) spells next asks sound = asked_collect w.graph zones old new w v answer more due between
      (spelled_zones text (command.Collect zones) zones spells (inr refl)).1 sound next asks
  asked (command.Slice n) spells next asks sound =
      asked_slice w.graph old new w v answer more due between n next asks.0 asks.1
  asked command.Finish spells next asks sound = asked_finish w.graph old new w v answer more due between next asks.0
      asks.1
  asked command.Reset spells next asks sound = asked_reset w.graph old new w v answer more due between next asks.0
      asks.1
  asked command.Colours spells next asks sound =
      asked_colours w.graph old new w v answer more due between next asks.0 asks.1
  asked command.Dump spells next asks sound = asked_dump w.graph old new w v answer more due between next asks.0 asks.1
  asked (command.Compact zone) spells next asks sound =
      asked_compact w.graph zone old new w v answer more due between sound next asks

-- a line that the judge takes
pub left_steps : (g h : GraphState) (old new : Shown) (due next : Due) (line : List ℕ) (lines : List (List ℕ))
    → AreLeft g old due (line ∷ lines) → Steps g old due line h new next → IsSound h new → AreLeft h new next lines
left_steps g h old new due next line lines left (inl (text, c, whole, is, read, after, asks)) sound =
    let before : IsBefore g old [] (line ∷ lines) = subst (λ d. AreLeft g old d (line ∷ lines)) whole left in
    let goes = lawful_next before.world line lines
    (subst (λ ls. IsLawfulFrom before.world ls) (sym before.lines_are) before.goes_on) in
    let same : goes.text ≡ text = ap (λ t. drop 2 t) (sym goes.line_is ∙ is) in
    let one : goes.command ≡ c = read.1 goes.command (subst (λ t. Spells t goes.command) same goes.stands) in
    let comes = subst (λ d. ComesNext before.world d goes.answer goes.after goes.more) one goes.next in
    subst (λ k. AreLeft k new next lines) (sym after)
    (subst (λ ls. AreLeft (graph_after g old c) new next ls) (sym goes.lines_are)
    (subst (λ a. StandsBetween a old before.world → Asks a old c next new → IsSound (graph_after a old c) new
    → AreLeft (graph_after a old c) new next (lines_of_answer goes.answer ++ goes.more))
    before.stands.stands.represents.graph_is
    (λ b a s. asked old new before.world goes.after goes.answer goes.more next text b c read.0 comes a s) before.stands
    asks
    (subst (λ k. IsSound k new) after sound)))
left_steps g h old new due next line lines left (inr (unmarked, same, answered)) sound =
    subst (λ k. AreLeft k new next lines) (sym same)
    (go due left answered (subst (λ k. IsSound k new) same sound))
  where
    go : (d : Due) → AreLeft g old d (line ∷ lines) → IsAnswered g old d line new next → IsSound g new
        → AreLeft g new next lines
    go nothing l a s = absurd a
    go (reply_due text) l a s = subst (λ d. AreLeft g new d lines) (sym a.1)
        (answered_reply g old new text line lines l a.2)
    go (dump []) l a s = absurd l
    go (dump (d ∷ ds)) l a s = answered_dump g old new (d ∷ ds) line lines next l a.0 a.1
    go (units_due most collects reports) l a s =
        answered_units g old new most collects reports line lines l s next a
    go resets l a s = answered_reset g old new line lines l s next a

-- the line of a reset that comes is no wrong one
right_in_reset : (g : GraphState) (s : Shown) (line : List ℕ) (lines : List (List ℕ))
    → IsInReset g s (line ∷ lines) → IsWrongResetLine s line → ⊥
right_in_reset g s line lines is wrong = go is.sweeps is.are_swept is.lines_are
  where
    last : (r : Report) → LastOfReset is.now r is.after
        → line ∷ lines ≡ lines_of_reports (r ∷ []) ++ reply_text reply.ResetDone ∷ is.more → ⊥
    last report.Started ends e = ends
    last (report.Groups groups) ends e = ends
    last (report.Ended zones grays told) ends e = ends
    last (report.Swept arena freed) ends e = ends
    last report.Done ends e =
        wrong report.Done (head_is line _ lines _ e) (over_shown is.stands.represents ends.over)
    last (report.Stopped zones) ends e =
        let mine : ZoneSet = unfinished_in s.stage in
        let same : zones_in zones ≡ zones_in (unfinished_in s.stage) =
        same_numbers (zones_in zones) (zones_in (unfinished_in s.stage)) (zones_in-ascending zones)
        (zones_in-ascending (unfinished_in s.stage)) (λ z.
        let by = unfinished_by s is.now s.stage is.stands.represents.stage_is z in
        (λ c. by.0 ((ends.zones_are z).0 c), λ c. (ends.zones_are z).1 (by.1 c))) in
        let text : line ≡ report_text (report.Stopped (unfinished_in s.stage)) =
        head_is line _ lines _ e ∙ ap (λ zs. Rattle.std.specs.Prelude.codes "stopped" ++ number_words zs) same in
        wrong (report.Stopped (unfinished_in s.stage)) text (
          sym is.stands.represents.out_are ∙ ends.none_out,
          λ over. ends.not_over (over_world is.stands.represents over),
          refl,
        )

    go : (rs : List Report) → AreLawfulSweeps is.now rs is.swept
        → line ∷ lines ≡ lines_of_reports (rs ++ is.final ∷ []) ++ reply_text reply.ResetDone ∷ is.more → ⊥
    go [] same e = last is.final (subst (λ w. LastOfReset w is.final is.after) same is.ends) e
    go (report.Swept arena freed ∷ rs) (u, sweep, rest) e =
        wrong (report.Swept arena freed) (head_is line _ lines _ e)
        (may_sweep g s is.now is.stands is.none_told arena freed u sweep)
    go (report.Started ∷ rs) never e = never
    go (report.Groups groups ∷ rs) never e = never
    go (report.Ended zones grays told ∷ rs) never e = never
    go (report.Done ∷ rs) never e = never
    go (report.Stopped zones ∷ rs) never e = never

-- a line of a lawful transcript is no wrong one
pub left_right : (g : GraphState) (s : Shown) (due : Due) (line : List ℕ) (lines : List (List ℕ))
    → AreLeft g s due (line ∷ lines) → IsWrongLine g s due line → ⊥
left_right g s due line lines left (inl (text, is, some)) = left_unmarked g s due line lines left some text is
left_right g s due line lines left (inr (unmarked, wrong)) = go due left wrong
  where
    go : (d : Due) → AreLeft g s d (line ∷ lines) → IsWrongAnswer g s d line → ⊥
    go nothing l w =
        let goes = lawful_next l.world line lines (subst (λ ls. IsLawfulFrom l.world ls) (sym l.lines_are) l.goes_on) in
        unmarked goes.text goes.line_is
    go (reply_due text) l w = w (head_is line text lines l.more l.lines_are)
    go (dump []) l w = l
    go (dump (d ∷ ds)) l w =
        w (dump_due ds) (head_is line (dump_line d) lines (map dump_line ds ++ l.more) l.lines_are, refl)
    go (units_due most collects reports) l w = right_in_units g s most collects reports line lines l w
    go resets l w = right_in_reset g s line lines l w

-- The judge is sound: what it judges whole is a lawful transcript, line by line.
use Rattle.std.proofs.Common.{◌≡◌, ◌≢◌, ◌∙◌, ℕ, ◌+◌, inl, inr, Bool, List, [], ◌∷◌, ◌++◌, Option, Some, None}
use Rattle.std.proofs.Common.{ap, append_assoc, arith, codes, length, map, refl, subst, sym}
use Rattle.std.specs.List.{flat_map}
use Rattle.gz_names.specs.declared.commands.Cmd.{Cmd}
use Rattle.gz_names.specs.declared.commands.Cmd.TheVariants as command
use Rattle.gz_names.specs.declared.dumps.DumpLine.{DumpLine}
use Rattle.gz_names.specs.declared.replies.Reply.{Reply}
use Rattle.gz_names.specs.declared.replies.Reply.TheVariants as answer
use Rattle.gz_names.specs.declared.replies.Report.{Report}
use Rattle.gz_names.specs.declared.replies.Report.TheVariants as report
use Rattle.colour_defs.specs.Graph.{GraphState}
use Rattle.colour_defs.specs.Lawful.{Answers, IsRunning, Slices}
use Rattle.colour_defs.specs.World.{IsIdle, World}
use Rattle.colour_defs.proofs.Lists.{length_push}
use Rattle.trace_lang.specs.Grammar.{Spells}
use Rattle.trace_lang.specs.Texts.{reply_text, report_text}
use Rattle.judge.specs.Positions.{KeepsLaws, StandsBetween}
use Rattle.judge.specs.Represents.{Represents}
use Rattle.judge.specs.Replies.{Asks, Due, IsAnswered, IsDumped, IsLast, IsSliced, Judged, after_reset, answered, asked}
use Rattle.judge.specs.Replies.{dump}
use Rattle.judge.specs.Replies.{graph_after, marked, none, nothing, reply, resets, units}
use Rattle.judge.specs.Sound.{IsSound}
use Rattle.judge.specs.Stages.{IsResetReport, Shown, Stage, collecting, idle, preparing}
use Rattle.judge.specs.Transcripts.{HasLines, HasSmallNumber, HasLawfulLines, dump_line, lines_of_answer}
use Rattle.judge.specs.Transcripts.{transcript}
use Rattle.judge.specs.Verdicts.{IsJudgedWhole}
use Rattle.judge.proofs.FirstWorld.{first_whole}
use Rattle.judge.proofs.LastWorlds.{closing, slice_ends, whole_ends}
use Rattle.judge.proofs.Idling.{idle_world}
use Rattle.judge.proofs.Progress.{AreUnitsOf, IsDueNow, IsInAnswer, IsWhole, Progress, UpTo, collect, finish, slice}
use Rattle.judge.proofs.ResetLines.{HasReset, done_ends, stop_ends, sweep_next}
use Rattle.judge.proofs.Sound.{sound_first, sound_steps}
use Rattle.judge.proofs.StartAnswers.{PlacesCells, starts, still_open}
use Rattle.judge.proofs.Transcribing.{has_more, lawful_more, lines_more}
use Rattle.judge.proofs.UnitLines.{HasUnitsSoFar, line_next}

-- how an answer ends
abbrev pub IsEnd : World → Cmd → GraphState → Shown → List (List ℕ) → Type 0
IsEnd before c g t lines = (reports : List Report) × (r : Reply) × (after : World) × Answers before c reports r after
    × HasSmallNumber r × StandsBetween g t after × (lines_of_answer (reports, r) ≡ lines)

module _ (before : World) (laws : KeepsLaws before) (g : GraphState) (s t : Shown) (reports : ℕ) (part : List (List ℕ))
    (line : List ℕ) (sound : IsSound g t) where
  -- a slice of at most some units, or of as many as it takes
  sliced : (c : Cmd) (most : Option ℕ) → IsRunning before → HasUnitsSoFar before g s reports part
      → (l : IsSliced most reports s line t)
      → ((rs : List Report) (after : World) → Slices before rs l.number after → (s.stage ≡ idle → IsIdle after)
      → Answers before c rs (answer.Sliced l.number) after) → IsEnd before c g t (part ++ line ∷ [])
  sliced c most run h l lawful =
      let e = slice_ends before g s t most reports part line run l h in
      let same = l.spends.new_is in
      let answers = lawful e.0 e.1 e.2 e.7 in (
        e.0,
        answer.Sliced l.number,
        e.1,
        answers,
        l.small,
        closing g t before e.1 c e.0 (answer.Sliced l.number) laws answers e.4 sound
            (ap (λ (u : Shown). u.told) same ∙ l.none_told)
            (still_open s t (ap (λ (u : Shown). u.stage) same) (ap (λ (u : Shown). u.out) same) l.not_over) e.5 e.6,
        ap (λ ls. ls ++ reply_text (answer.Sliced l.number) ∷ []) (sym e.3)
            ∙ ap (λ m. part ++ m ∷ []) (sym l.line_is),
      )

  last_at : (c : Cmd) (most : Option ℕ) (collects : Bool) (begun : World) → AreUnitsOf before c most collects begun
      → IsRunning begun → HasUnitsSoFar begun g s reports part → IsLast most collects reports s line t
      → IsEnd before c g t (part ++ line ∷ [])
  last_at c most collects begun (slice {n}) run h l =
      sliced (command.Slice n) (Some n) run h l
      (λ rs after slices rest. inl (l.number, refl, slices, l.within.0, λ less. rest (l.within.1 less)))
  last_at c most collects begun finish run h l =
      sliced command.Finish None run h l (λ rs after slices rest. inl (l.number, refl, slices, rest l.within))
  last_at c most collects begun (collect {zones} prepares) run h (text, idle_is, same, untold) =
      let w = whole_ends begun g s reports part idle_is untold h in
      let reports_all = flat_map (λ (u : List Report). u) w.0 in
      let lawful : Answers before (command.Collect zones) (flat_map (λ (u : List Report). u) w.0) answer.Collected w.1 =
      inl (
        refl,
        record {
          begun = begun;
          begins = prepares;
          units = w.0;
          done = w.2;
          reports_are = refl;
          over = idle_world w.4.represents idle_is;
        },
      ) in (
        flat_map (λ (u : List Report). u) w.0,
        answer.Collected,
        w.1,
        lawful,
        tt,
        closing g t before w.1 (command.Collect zones) (flat_map (λ (u : List Report). u) w.0) answer.Collected laws
            lawful (subst (λ u. Represents g u w.1) (sym same) w.4.represents) sound
            (ap (λ (u : Shown). u.told) same ∙ untold)
            (λ o. cc (o.ended, ap (λ (u : Shown). u.stage) same, idle_is))
            (ap (λ a. length a.registers) (sym w.4.represents.graph_is) ∙ w.4.laws.registers)
            (ap (λ a. length a.slots) (sym w.4.represents.graph_is) ∙ w.4.laws.slots),
        ap (λ ls. ls ++ codes "collected" ∷ []) (sym w.3) ∙ ap (λ m. part ++ m ∷ []) (sym text),
      )

  -- a reset ends
  reset_ends : IsRunning before → (h : HasReset before g t part) → line ≡ reply_text answer.ResetDone
      → IsEnd before command.Reset g t (part ++ line ∷ [])
  reset_ends run h text =
      let lawful : Answers before command.Reset (h.sweeps ++ h.final ∷ []) answer.ResetDone h.after =
      inl (
        refl,
        record {
          running = run;
          sweeps = h.sweeps;
          after = h.now;
          swept = h.swept;
          final = h.final;
          ends = h.ends;
          reports_are = refl;
        },
      ) in (
        h.sweeps ++ h.final ∷ [],
        answer.ResetDone,
        h.after,
        lawful,
        tt,
        closing g t before h.after command.Reset (h.sweeps ++ h.final ∷ []) answer.ResetDone laws lawful h.represents
            sound h.none_told (λ o. cc (o.ended, h.idle_is)) h.registers h.slots,
        ap (λ ls. ls ++ reply_text answer.ResetDone ∷ []) (sym h.lines) ∙ ap (λ m. part ++ m ∷ []) (sym text),
      )

module _ (lines : List (List ℕ)) (g : GraphState) (s t : Shown) (line : List ℕ) where
  -- an answer is whole
  closes : (due : Due) (a : IsInAnswer lines g s due) (reports : List Report) (r : Reply) (after : World)
      → Answers a.before a.command reports r after → HasSmallNumber r → StandsBetween g t after
      → lines_of_answer (reports, r) ≡ a.part ++ line ∷ [] → IsWhole (lines ++ line ∷ []) g t
  closes due a reports r after lawful small stands is = record {
    trace = a.trace ++ a.text ∷ [];
    answers = a.answers ++ (reports, r) ∷ [];
    world = after;
    lawful = lawful_more a.trace a.answers a.before after a.text a.command (reports, r) a.lawful a.spells lawful small;
    stands = stands;
    lines_are = ap (λ ls. ls ++ line ∷ []) a.lines_are
        ∙ append_assoc (transcript a.trace a.answers) (marked a.text ∷ a.part) (line ∷ [])
        ∙ ap (λ ls. transcript a.trace a.answers ++ marked a.text ∷ ls) (sym is)
        ∙ sym (lines_more a.trace a.answers a.before a.text (reports, r) a.lawful);
  }

  -- an answer goes on
  goes_on : (due next : Due) (a : IsInAnswer lines g s due)
      → Progress a.before a.command g t next (a.part ++ line ∷ []) → IsInAnswer (lines ++ line ∷ []) g t next
  goes_on due next a p = record {
    trace = a.trace;
    answers = a.answers;
    before = a.before;
    lawful = a.lawful;
    laws = a.laws;
    text = a.text;
    command = a.command;
    spells = a.spells;
    part = a.part ++ line ∷ [];
    progress = p;
    lines_are = ap (λ ls. ls ++ line ∷ []) a.lines_are
        ∙ append_assoc (transcript a.trace a.answers) (marked a.text ∷ a.part) (line ∷ []);
  }

  reply_next : (text : List ℕ) (a : IsInAnswer lines g s (reply text)) → line ≡ text → t ≡ s
      → UpTo (lines ++ line ∷ []) g t nothing
  reply_next text a e same = let p = a.progress in
      closes (reply text) a p.reports p.answer p.after p.lawful p.small
      (subst (λ u. StandsBetween g u p.after) (sym same) p.stands) (p.lines ∙ ap (λ l. a.part ++ l ∷ []) (sym e))

  dump_next : (ls : List DumpLine) (a : IsInAnswer lines g s (dump ls)) (next : Due) → IsDumped ls line next → t ≡ s
      → UpTo (lines ++ line ∷ []) g t next
  dump_next [] a next d same = absurd d
  dump_next (l ∷ []) a next (e, is) same = let p = a.progress in
      subst (λ n. UpTo (lines ++ line ∷ []) g t n) (sym is)
      (closes (dump (l ∷ [])) a p.reports p.answer p.after p.lawful p.small
      (subst (λ u. StandsBetween g u p.after) (sym same) p.stands) (p.lines ∙ ap (λ m. a.part ++ m ∷ []) (sym e)))
  dump_next (l ∷ (m ∷ ms)) a next (e, is) same = let p = a.progress in
      subst (λ n. UpTo (lines ++ line ∷ []) g t n) (sym is)
      (goes_on (dump (l ∷ (m ∷ ms))) (dump (m ∷ ms)) a (record {
        reports = p.reports;
        answer = p.answer;
        after = p.after;
        lawful = p.lawful;
        small = p.small;
        stands = subst (λ u. StandsBetween g u p.after) (sym same) p.stands;
        lines = p.lines ∙ sym (append_assoc a.part (line ∷ []) (map dump_line (m ∷ ms))
            ∙ ap (λ k. a.part ++ k ∷ map dump_line (m ∷ ms)) e);
      }))

  last_next : (most : Option ℕ) (collects : Bool) (reports : ℕ)
      (a : IsInAnswer lines g s (units most collects reports)) → IsSound g t → IsLast most collects reports s line t
      → IsWhole (lines ++ line ∷ []) g t
  last_next most collects reports a sound l =
      let p = a.progress in
      let e = last_at a.before a.laws g s t reports a.part line sound a.command most collects p.begun p.of p.running
      p.so_far l in
      closes (units most collects reports) a e.0 e.1 e.2 e.3 e.4 e.5 e.6

  units_next : (most : Option ℕ) (collects : Bool) (reports : ℕ)
      (a : IsInAnswer lines g s (units most collects reports)) → IsSound g t → (next : Due)
      → IsAnswered g s (units most collects reports) line t next
      → UpTo (lines ++ line ∷ []) g t next
  units_next most collects reports a sound next (inl (reported, more, counts, fits, is)) =
      let p = a.progress in
      subst (λ n. UpTo (lines ++ line ∷ []) g t n) (sym is)
      (goes_on (units most collects reports) (units most collects more) a (record {
        begun = p.begun;
        of = p.of;
        running = p.running;
        fits = fits;
        so_far = line_next p.begun (record { graph = g; old = s; new = t; part = a.part; line = line }) reports more
            sound
            reported counts p.so_far;
      }))
  units_next most collects reports a sound next (inr (l, is)) =
      subst (λ n. UpTo (lines ++ line ∷ []) g t n) (sym is) (last_next most collects reports a sound l)

  -- a line of a reset
  sweeps_due : (u : Stage) → u ≢ idle → after_reset u ≡ resets
  sweeps_due idle some = absurd (some refl)
  sweeps_due (preparing zones) some = refl
  sweeps_due (collecting zones marking groups) some = refl

  reset_due : (a : IsInAnswer lines g s resets) → IsSound g t
      → HasReset a.before g t (a.part ++ line ∷ [])
      → UpTo (lines ++ line ∷ []) g t (after_reset t.stage)
  reset_due a sound h =
      let e = reset_ends a.before a.laws g s t 0 (a.part ++ line ∷ []) (reply_text answer.ResetDone) sound
      a.progress.1 h refl in
      subst (λ u. UpTo (lines ++ line ∷ []) g t (after_reset u)) (sym h.idle_is)
      (goes_on resets (reply (reply_text answer.ResetDone)) a
      (subst (λ c. IsDueNow a.before c g t (reply_text answer.ResetDone ∷ []) (a.part ++ line ∷ [])) (sym a.progress.0)
      (record {
        reports = e.0;
        answer = e.1;
        after = e.2;
        lawful = e.3;
        small = e.4;
        stands = e.5;
        lines = e.6;
      })))

  resets_next : (a : IsInAnswer lines g s resets) → IsSound g t → (r : Report)
      → line ≡ report_text r → IsResetReport g s r t
      → UpTo (lines ++ line ∷ []) g t (after_reset t.stage)
  resets_next a sound report.Started text b = absurd b
  resets_next a sound (report.Groups groups) text b = absurd b
  resets_next a sound (report.Ended zones grays told) text b = absurd b
  resets_next a sound (report.Swept arena freed) text b =
      let h = sweep_next a.before g s t a.part line sound a.progress.2 arena freed text b in
      subst (λ n. UpTo (lines ++ line ∷ []) g t n) (sym (sweeps_due t.stage h.some))
      (goes_on resets resets a (a.progress.0, a.progress.1, h))
  resets_next a sound report.Done text b =
      reset_due a sound (done_ends a.before g s t a.part line sound a.progress.2 text b)
  resets_next a sound (report.Stopped zones) text b =
      reset_due a sound (stop_ends a.before g s t a.part line sound a.progress.2 zones text b)

  -- a line of an answer
  answer_next : (due next : Due) → UpTo lines g s due → IsSound g t → IsAnswered g s due line t next
      → UpTo (lines ++ line ∷ []) g t next
  answer_next nothing next up sound a = absurd a
  answer_next (reply text) next up sound (e, is, same) =
      subst (λ n. UpTo (lines ++ line ∷ []) g t n) (sym is) (reply_next text up e same)
  answer_next (dump ls) next up sound (d, same) = dump_next ls up next d same
  answer_next (units most collects reports) next up sound a = units_next most collects reports up sound next a
  answer_next resets next up sound ((r, text, b), is) =
      subst (λ n. UpTo (lines ++ line ∷ []) g t n) (sym is) (resets_next up sound r text b)

-- a line of the trace
within : (lines : List (List ℕ)) (g : GraphState) (t : Shown) (due : Due) → IsInAnswer lines g t due
    → UpTo lines g t due
within lines g t nothing a = absurd a.progress
within lines g t (reply text) a = a
within lines g t (dump ls) a = a
within lines g t (units most collects reports) a = a
within lines g t resets a = a

trace_next : PlacesCells → (lines : List (List ℕ)) (g : GraphState) (s t : Shown) (text : List ℕ) (c : Cmd) (due : Due)
    → IsWhole lines g s → Spells text c → Asks g s c due t → IsSound (graph_after g s c) t
    → UpTo (lines ++ marked text ∷ []) (graph_after g s c) t due
trace_next places lines g s t text c due up spells asks sound =
    within (lines ++ marked text ∷ []) (graph_after g s c) t due (record {
      trace = up.trace;
      answers = up.answers;
      before = up.world;
      lawful = up.lawful;
      laws = up.stands.stands.laws;
      text = text;
      command = c;
      spells = spells;
      part = [];
      progress = starts places g s t up.world up.stands text c spells due asks sound;
      lines_are = ap (λ ls. ls ++ marked text ∷ []) up.lines_are;
    })

-- what was judged so far
pub record IsReached (input : List ℕ) (n : ℕ) (rest : List ℕ) (g : GraphState) (s : Shown) (due : Due) : Type 0 where
  pub lines : List (List ℕ)
  pub number : n ≡ length lines
  pub has : HasLines input lines rest
  pub sound : IsSound g s
  pub up_to : UpTo lines g s due

pub one_more : (n : ℕ) (lines : List (List ℕ)) (line : List ℕ) → n ≡ length lines → n + 1 ≡ length (lines ++ line ∷ [])
one_more n lines line e = let l = length_push lines line in omega (arith, e, l)

pub reached : PlacesCells → (input : List ℕ) {n : ℕ} {rest : List ℕ} {g : GraphState} {s : Shown} {due : Due}
    → Judged input n rest g s due → IsReached input n rest g s due
reached places input (none {s} first) = record {
  lines = [];
  number = refl;
  has = refl;
  sound = sound_first s first;
  up_to = first_whole s first;
}
reached places input (asked {n} {rest} {more} {line} {text} {g} {c} {old} {new} {due} j one ends mark spells asks) =
    let r = reached places input j in
    let sound = sound_steps g (graph_after g old c) old new nothing due line
    (inl (text, c, refl, mark, spells, refl, asks)) r.sound in record {
      lines = r.lines ++ line ∷ [];
      number = one_more n r.lines line r.number;
      has = has_more input r.lines rest more line r.has one ends;
      sound = sound;
      up_to = subst (λ l. UpTo (r.lines ++ l ∷ []) (graph_after g old c) new due) (sym mark)
          (trace_next places r.lines g old new text c due r.up_to spells.0 asks sound);
    }
reached places input (answered {n} {rest} {more} {line} {g} {due} {next} {old} {new} j one ends unmarked a) =
    let r = reached places input j in
    let sound = sound_steps g g old new due next line (inr (unmarked, refl, a)) r.sound in record {
      lines = r.lines ++ line ∷ [];
      number = one_more n r.lines line r.number;
      has = has_more input r.lines rest more line r.has one ends;
      sound = sound;
      up_to = answer_next r.lines g old new line due next r.up_to sound a;
    }

-- what is judged whole is lawful
pub sound_judge : PlacesCells → (input : List ℕ) → IsJudgedWhole input → HasLawfulLines input
sound_judge places input (n, j) =
    let r = reached places input j.judged in (
      r.lines,
      r.has,
      record {
        trace = r.up_to.trace;
        answers = r.up_to.answers;
        after = r.up_to.world;
        lawful = r.up_to.lawful;
        lines_are = r.up_to.lines_are;
      },
    )

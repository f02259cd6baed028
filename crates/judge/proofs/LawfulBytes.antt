-- Bytes have the lines of a lawful transcript just where they are its text.
use Rattle.std.proofs.Common.{◌≡◌, ◌≢◌, ◌∙◌, ◌⊎◌, inl, inr, ℕ, zero, suc, ◌+◌, ◌<◌, ◌≤◌, ◌/◌, ◌%◌, Bool, true, false}
use Rattle.std.proofs.Common.{List, []}
use Rattle.std.proofs.Common.{◌∷◌, ◌++◌, append_assoc, cond, length, map, Option, None, Some, refl, sym, ap, subst}
use Rattle.std.proofs.Common.{arith}
use Rattle.std.specs.Prelude.{codes, ◌==◌, ⊤}
use Rattle.std.specs.FinSet as set
use Rattle.gz_names.specs.Zones.{zones_in}
use Rattle.colour_defs.specs.Graph.{register_cell}
use Rattle.std.specs.Fmt.{decimal, digit_glyph, digits, digits_onto}
use Rattle.std.proofs.lemmas.List.{append-nil}
use Rattle.gz_io.specs.Lines.{IsPlain}
use Rattle.gz_names.specs.declared.names.Name.{Name}
use Rattle.gz_names.specs.declared.names.Name.TheVariants.{Cell, Wrap}
use Rattle.gz_names.specs.declared.commands.Cmd.{Cmd}
use Rattle.gz_names.specs.declared.commands.Cmd.TheVariants as command
use Rattle.gz_names.specs.declared.commands.WeakCmd.{WeakCmd}
use Rattle.gz_names.specs.declared.commands.WeakCmd.TheVariants as weak_cmd
use Rattle.gz_names.specs.declared.dumps.DumpLine.{DumpLine}
use Rattle.gz_names.specs.declared.dumps.DumpLine.TheVariants as line
use Rattle.gz_names.specs.declared.replies.Refusal.{Refusal}
use Rattle.gz_names.specs.declared.replies.Refusal.TheVariants as refusal
use Rattle.gz_names.specs.declared.replies.Report.{Report}
use Rattle.gz_names.specs.declared.replies.Report.TheVariants as report
use Rattle.gz_names.specs.declared.replies.Reply.{Reply}
use Rattle.gz_names.specs.declared.replies.Reply.TheVariants as reply
use Rattle.gz_names.specs.DumpTexts.{name_text}
use Rattle.colour_defs.specs.Lawful.{Answers, RefusesIdle, RefusesToBegin, Run}
use Rattle.colour_defs.specs.WeakRefs.{WeakInWorld, unwatch_cell, watch_cell, without_watched}
use Rattle.colour_defs.specs.World.{World, first_world}
use Rattle.trace_lang.specs.Grammar.{Spells}
use Rattle.trace_lang.specs.Texts.{line_of, name_words, reply_text, report_text}
use Rattle.trace_lang.proofs.Fine.{spells_fine}
use Rattle.judge.specs.Lines.{IsOneLine}
use Rattle.judge.specs.Replies.{marked}
use Rattle.judge.specs.Transcripts.{Answer, HasLawfulLines, HasLines, IsLawfulFrom, IsLawfulInput, IsLawfulRun}
use Rattle.judge.specs.Transcripts.{StandForAll}
use Rattle.judge.specs.Transcripts.{dump_line, lines_of_answer, lines_of_reply, lines_of_report, lines_of_reports}
use Rattle.judge.specs.Transcripts.{IsText, answer_lines, told_lines, transcript, transcript_text}
use Rattle.judge.proofs.LineTexts.{AreOneLines, EndsFull, IsNotEmpty, answer_flat, flat, flat_both, lines_of_cut}
use Rattle.judge.proofs.LineTexts.{lines_of_text, one_lines_both, text_of_lines}
use Rattle.judge.proofs.Listing.{never_empty}
use Rattle.judge.proofs.OneReply.{named_one, step_one}
use Rattle.judge.proofs.PlainTexts.{IsNoDump, done_plain, ended_plain, groups_line_plain, line_plain, one_line}
use Rattle.judge.proofs.PlainTexts.{reply_plain}
use Rattle.judge.proofs.PlainTexts.{started_plain, stopped_plain, swept_plain, told_plain}

-- a lawful answer is no empty dump
no_dump_is : (r : Reply) → IsNoDump r → IsNotEmpty r
no_dump_is r none e = none [] e

same_reply : (r a : Reply) → a ≡ r → IsNotEmpty r → IsNotEmpty a
same_reply r a e some f = some (sym e ∙ f)

refuses_some : (w : World) (zones : List ℕ) (reports : List Report) (a : Reply) (v : World)
    → RefusesToBegin w zones reports a v → IsNotEmpty a
refuses_some w zones reports a v (inl h) e = let is = h.0 in cc (is, e)
refuses_some w zones reports a v (inr h) e = let is = h.0 in cc (is, e)

idle_some : (w : World) (reports : List Report) (a : Reply) (v : World) → RefusesIdle w reports a v → IsNotEmpty a
idle_some w reports a v h e = let is = h.0 in cc (is, e)

watch_some : (w : World) (x : Option Name) → IsNotEmpty (watch_cell w x).1
watch_some w None e = cc e
watch_some w (Some x) e = cc e

unwatch_some : (w : World) (x : Option Name) → IsNotEmpty (unwatch_cell w x).1
unwatch_some w None e = cc e
unwatch_some w (Some x) e = go (set.contains w.weak.watched x) e
  where
    go : (b : Bool) → (cond {A = World × Reply} b (without_watched w x, reply.Accepted) (w, reply.Absent)).1
        ≡ reply.Dump [] → ⊥
    go true f = cc f
    go false f = cc f

weak_some : (w : World) (c : WeakCmd) (a : Reply) (v : World) → WeakInWorld w c a v → IsNotEmpty a
weak_some w (weak_cmd.Weaken q r) a v h e = let is = h.0 in cc (is, e)
weak_some w (weak_cmd.Deref r q) a v h e = named_one _ [] (sym h.0 ∙ e)
weak_some w (weak_cmd.Watch r) a v h e = watch_some w (register_cell w.graph r) (sym h.0 ∙ e)
weak_some w (weak_cmd.Unwatch r) a v h e = unwatch_some w (register_cell w.graph r) (sym h.0 ∙ e)

pub answer_some : (w : World) (c : Cmd) (reports : List Report) (a : Reply) (v : World) → Answers w c reports a v
    → IsNotEmpty a
answer_some w (command.Graph c) reports a v h e = step_one w.graph c [] (sym h.1.0 ∙ e)
answer_some w (command.Weak c) reports a v h e = weak_some w c a v h.1 e
answer_some w (command.Gc zones) reports a v (inl h) e = let is = h.0 in cc (is, e)
answer_some w (command.Gc zones) reports a v (inr h) e = refuses_some w (zones_in zones) reports a v h e
answer_some w (command.Slice n) reports a v (inl h) e = let is = h.1 in cc (is, e)
answer_some w (command.Slice n) reports a v (inr h) e = idle_some w reports a v h e
answer_some w command.Finish reports a v (inl h) e = let is = h.1 in cc (is, e)
answer_some w command.Finish reports a v (inr h) e = idle_some w reports a v h e
answer_some w (command.Collect zones) reports a v (inl h) e = let is = h.0 in cc (is, e)
answer_some w (command.Collect zones) reports a v (inr h) e = refuses_some w (zones_in zones) reports a v h e
answer_some w command.Reset reports a v (inl h) e = let is = h.0 in cc (is, e)
answer_some w command.Reset reports a v (inr h) e = idle_some w reports a v h e
answer_some w command.Colours reports a v (inl h) e = let is = h.1 in cc (is, e)
answer_some w command.Colours reports a v (inr h) e = let is = h.0 in cc (is, e)
answer_some w command.Dump reports a v (inl h) e = never_empty w h.0 h.3 (same_lines h.0 [] (sym h.1 ∙ e))
  where
    same_lines : (xs ys : List DumpLine) → reply.Dump xs ≡ reply.Dump ys → xs ≡ ys
    same_lines xs ys f = cc f
answer_some w command.Dump reports a v (inr h) e = let is = h.0 in cc (is, e)
answer_some w (command.Compact zone) reports a v (inl h) e = let is = h.2 in cc (is, e)
answer_some w (command.Compact zone) reports a v (inr h) e = refuses_some w (zone ∷ []) reports a v h e

-- the last line of an answer is not empty
digits_some : (k n : ℕ) (acc : List ℕ) → 0 < length acc → 0 < length (digits_onto k 10 false n acc)
digits_some zero n acc some = some
digits_some (suc k) n acc some = go (digits_some k (n / 10) (digit_glyph false (n % 10) ∷ acc) (omega arith))
    (n / 10 == 0)
  where
    go : 0 < length (digits_onto k 10 false (n / 10) (digit_glyph false (n % 10) ∷ acc)) → (b : Bool)
        → 0 < length (cond b (digit_glyph false (n % 10) ∷ acc)
        (digits_onto k 10 false (n / 10) (digit_glyph false (n % 10) ∷ acc)))
    go rest true = omega arith
    go rest false = rest

first_some : (k n : ℕ) → 0 < length (digits_onto (suc k) 10 false n [])
first_some k n = go (digits_some k (n / 10) (digit_glyph false (n % 10) ∷ []) (omega arith)) (n / 10 == 0)
  where
    go : 0 < length (digits_onto k 10 false (n / 10) (digit_glyph false (n % 10) ∷ [])) → (b : Bool)
        → 0 < length (cond b (digit_glyph false (n % 10) ∷ [])
        (digits_onto k 10 false (n / 10) (digit_glyph false (n % 10) ∷ [])))
    go rest true = omega arith
    go rest false = rest

decimal_some : (n : ℕ) → 0 < length (decimal n)
unfolding digits
decimal_some n = first_some 63 n

longer : (xs ys : List ℕ) → 0 < length xs → 0 < length (xs ++ ys)
longer [] ys some = absurd (omega (arith, some))
longer (x ∷ xs) ys some = omega arith

name_some : (x : Name) → 0 < length (name_text x)
name_some (Cell n) = decimal_some n
name_some (Wrap c t) = longer (decimal c.0) (58 ∷ decimal t) (decimal_some c.0)

line_some : (l : DumpLine) → 0 < length (dump_line l)
line_some (line.Cell x c) = omega arith
line_some (line.Edge n y) = omega arith
line_some (line.Weak m k v) = omega arith
line_some line.End = omega arith

refusal_some : (why : Refusal) → 0 < length (reply_text (reply.Refused why))
refusal_some refusal.Full = omega arith
refusal_some refusal.NoZone = omega arith
refusal_some refusal.NoComp = omega arith
refusal_some refusal.Empty = omega arith
refusal_some refusal.Kind = omega arith
refusal_some refusal.NoField = omega arith
refusal_some refusal.Cross = omega arith
refusal_some refusal.Running = omega arith
refusal_some refusal.Idle = omega arith
refusal_some refusal.Marking = omega arith

dump_full : (l : DumpLine) (ls : List DumpLine) → EndsFull (map dump_line (l ∷ ls))
dump_full l [] = line_some l
dump_full l (m ∷ ms) = dump_full m ms

reply_full : (r : Reply) → IsNotEmpty r → EndsFull (lines_of_reply r)
reply_full (reply.Zone z) some = omega arith
reply_full (reply.Comp c) some = omega arith
reply_full (reply.Made n) some = omega arith
reply_full (reply.Named x) some = name_some x
reply_full reply.Null some = omega arith
reply_full reply.Accepted some = omega arith
reply_full reply.Absent some = omega arith
reply_full reply.GcBegun some = omega arith
reply_full (reply.Sliced k) some = omega arith
reply_full reply.Collected some = omega arith
reply_full reply.ResetDone some = omega arith
reply_full (reply.Gray names) some = omega arith
reply_full (reply.Dump []) some = absurd (some refl)
reply_full (reply.Dump (l ∷ ls)) some = dump_full l ls
reply_full (reply.Compacted moved given) some = omega arith
reply_full (reply.Refused why) some = refusal_some why

some_lines : (r : Reply) → IsNotEmpty r → lines_of_reply r ≡ [] → ⊥
some_lines (reply.Zone z) some e = cc e
some_lines (reply.Comp c) some e = cc e
some_lines (reply.Made n) some e = cc e
some_lines (reply.Named x) some e = cc e
some_lines reply.Null some e = cc e
some_lines reply.Accepted some e = cc e
some_lines reply.Absent some e = cc e
some_lines reply.GcBegun some e = cc e
some_lines (reply.Sliced k) some e = cc e
some_lines reply.Collected some e = cc e
some_lines reply.ResetDone some e = cc e
some_lines (reply.Gray names) some e = cc e
some_lines (reply.Dump []) some e = some refl
some_lines (reply.Dump (l ∷ ls)) some e = cc e
some_lines (reply.Compacted moved given) some e = cc e
some_lines (reply.Refused why) some e = cc e

full_both : (xs ys : List (List ℕ)) → (ys ≡ [] → ⊥) → EndsFull ys → EndsFull (xs ++ ys)
full_both [] ys some full = full
full_both (x ∷ []) [] some full = absurd (some refl)
full_both (x ∷ []) (y ∷ ys) some full = full
full_both (x ∷ z ∷ xs) ys some full = full_both (z ∷ xs) ys some full

answer_full : (a : Answer) → IsNotEmpty a.1 → (lines_of_answer a ≡ [] → ⊥) × EndsFull (lines_of_answer a)
answer_full a some = (
  λ e. none_left (lines_of_reports a.0) (lines_of_reply a.1) (some_lines a.1 some) e,
  full_both (lines_of_reports a.0) (lines_of_reply a.1) (some_lines a.1 some) (reply_full a.1 some),
)
  where
    none_left : (xs ys : List (List ℕ)) → (ys ≡ [] → ⊥) → xs ++ ys ≡ [] → ⊥
    none_left [] ys n e = n e
    none_left (x ∷ xs) ys n e = cc e

-- each line of a transcript is one line
plain_one : (bs : List ℕ) → IsPlain bs → IsOneLine bs
plain_one [] p = tt
plain_one (b ∷ bs) p = (p.1, plain_one bs p.2)

marked_one : (text : List ℕ) (c : Cmd) → Spells text c → IsOneLine (marked text)
marked_one text c spells =
    (λ e. omega (arith, e), (λ e. omega (arith, e), plain_one text (spells_fine text c spells).plain))

told_one : (told : List Name) → AreOneLines (told_lines told)
told_one [] = tt
told_one (x ∷ xs) = (one_line (codes "told" ++ name_words (x ∷ xs)) (told_plain x xs), tt)

report_one : (r : Report) → AreOneLines (lines_of_report r)
report_one report.Started = (one_line (report_text report.Started) started_plain, tt)
report_one (report.Groups groups) = (one_line (report_text (report.Groups groups)) (groups_line_plain groups), tt)
report_one (report.Ended zones grays told) =
    (one_line (report_text (report.Ended zones grays [])) (ended_plain zones grays), told_one told)
report_one (report.Swept arena freed) = (
  one_line (report_text (report.Swept arena freed))
      (swept_plain arena freed),
  tt,
)
report_one report.Done = (one_line (report_text report.Done) done_plain, tt)
report_one (report.Stopped zones) = (one_line (report_text (report.Stopped zones)) (stopped_plain zones), tt)

reports_one : (rs : List Report) → AreOneLines (lines_of_reports rs)
reports_one [] = tt
reports_one (r ∷ rs) = one_lines_both (lines_of_report r) (lines_of_reports rs) (report_one r) (reports_one rs)

dump_one : (ls : List DumpLine) → AreOneLines (map dump_line ls)
dump_one [] = tt
dump_one (l ∷ ls) = (one_line (dump_line l) (line_plain l), dump_one ls)

plain_reply : (r : Reply) → IsNoDump r → IsOneLine (reply_text r)
plain_reply r none = one_line (reply_text r) (reply_plain r none)

reply_one : (r : Reply) → AreOneLines (lines_of_reply r)
reply_one (reply.Zone z) = (plain_reply (reply.Zone z) (λ ls e. cc e), tt)
reply_one (reply.Comp c) = (plain_reply (reply.Comp c) (λ ls e. cc e), tt)
reply_one (reply.Made n) = (plain_reply (reply.Made n) (λ ls e. cc e), tt)
reply_one (reply.Named x) = (plain_reply (reply.Named x) (λ ls e. cc e), tt)
reply_one reply.Null = (plain_reply reply.Null (λ ls e. cc e), tt)
reply_one reply.Accepted = (plain_reply reply.Accepted (λ ls e. cc e), tt)
reply_one reply.Absent = (plain_reply reply.Absent (λ ls e. cc e), tt)
reply_one reply.GcBegun = (plain_reply reply.GcBegun (λ ls e. cc e), tt)
reply_one (reply.Sliced k) = (plain_reply (reply.Sliced k) (λ ls e. cc e), tt)
reply_one reply.Collected = (plain_reply reply.Collected (λ ls e. cc e), tt)
reply_one reply.ResetDone = (plain_reply reply.ResetDone (λ ls e. cc e), tt)
reply_one (reply.Gray names) = (plain_reply (reply.Gray names) (λ ls e. cc e), tt)
reply_one (reply.Dump lines) = dump_one lines
reply_one (reply.Compacted moved given) = (plain_reply (reply.Compacted moved given) (λ ls e. cc e), tt)
reply_one (reply.Refused why) = (plain_reply (reply.Refused why) (λ ls e. cc e), tt)

answer_one : (a : Answer) → AreOneLines (lines_of_answer a)
answer_one a = one_lines_both (lines_of_reports a.0) (lines_of_reply a.1) (reports_one a.0) (reply_one a.1)

-- the transcript of a lawful run: its text, its lines and its last line
record HasText (trace : List (List ℕ)) (answers : List Answer) : Type 0 where
  text : flat (transcript trace answers) ≡ transcript_text trace answers
  one : AreOneLines (transcript trace answers)
  full : EndsFull (transcript trace answers)

run_text : (w : World) (trace : List (List ℕ)) (answers : List Answer) (cs : List Cmd) (v : World)
    → StandForAll trace cs → Run w cs answers v → HasText trace answers
run_text w [] [] [] v stand run = record { text = refl; one = tt; full = tt }
run_text w [] [] (c ∷ cs) v stand run = absurd stand
run_text w [] (a ∷ answers) [] v stand run = absurd run
run_text w [] (a ∷ answers) (c ∷ cs) v stand run = absurd stand
run_text w (t ∷ ts) [] [] v stand run = absurd stand
run_text w (t ∷ ts) [] (c ∷ cs) v stand run = absurd run
run_text w (t ∷ ts) (a ∷ answers) [] v stand run = absurd stand
run_text w (t ∷ ts) (a ∷ answers) (c ∷ cs) v stand (u, first, rest) =
    let some = answer_some w c a.0 a.1 u first in
    let more = run_text u ts answers cs v stand.1 rest in
    let whole = answer_full a some in record {
      text = ap (λ x. line_of (marked t) ++ x)
          (flat_both (lines_of_answer a) (transcript ts answers)
          ∙ (λ i. answer_flat a some i ++ more.text i));
      one = (
        marked_one t c stand.0,
        one_lines_both (lines_of_answer a) (transcript ts answers)
            (answer_one a) more.one,
      );
      full = full_both (marked t ∷ []) (lines_of_answer a ++ transcript ts answers)
          (λ e. whole.0 (first_none (lines_of_answer a) (transcript ts answers) e))
          (end_full (lines_of_answer a) (transcript ts answers) whole.1 more.full);
    }
  where
    first_none : (xs ys : List (List ℕ)) → xs ++ ys ≡ [] → xs ≡ []
    first_none [] ys e = refl
    first_none (x ∷ xs) ys e = absurd (cc e)

    end_full : (xs ys : List (List ℕ)) → EndsFull xs → EndsFull ys → EndsFull (xs ++ ys)
    end_full xs [] a b = subst EndsFull (sym (append-nil xs)) a
    end_full xs (y ∷ ys) a b = full_both xs (y ∷ ys) (λ e. cc e) b

lawful_text : (w : World) (trace : List (List ℕ)) (answers : List Answer) (v : World)
    → IsLawfulRun w trace answers v → HasText trace answers
lawful_text w trace answers v is = run_text w trace answers is.commands v is.stand is.run

-- bytes that have the lines of a lawful transcript are its text, and the other way round
pub lawful_bytes : (input : List ℕ) → HasLawfulLines input → IsLawfulInput input
lawful_bytes input (lines, has, lawful) =
    let t = lawful_text first_world lawful.trace lawful.answers lawful.after lawful.lawful in record {
      trace = lawful.trace;
      answers = lawful.answers;
      after = lawful.after;
      lawful = lawful.lawful;
      text = subst (λ x. IsText input x) (ap flat lawful.lines_are ∙ t.text) (text_of_lines input lines has);
    }

pub lawful_lines : (input : List ℕ) → IsLawfulInput input → HasLawfulLines input
lawful_lines input is =
    let t = lawful_text first_world is.trace is.answers is.after is.lawful in (
      transcript is.trace is.answers,
      elim is.text [
        | inl same ↦ subst (λ i. HasLines i (transcript is.trace is.answers) []) (t.text ∙ sym same)
            (lines_of_text (transcript is.trace is.answers) t.one)
        | inr cut ↦ lines_of_cut input (transcript is.trace is.answers) t.one t.full (cut ∙ sym t.text)
      ],
      record {
        trace = is.trace;
        answers = is.answers;
        after = is.after;
        lawful = is.lawful;
        lines_are = refl;
      },
    )

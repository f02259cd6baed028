-- The lines of a lawful transcript, and its bytes.
use Rattle.std.proofs.Common.{◌≡◌, ◌≢◌, ◌∙◌, ◌⊎◌, inl, inr, ℕ, zero, suc, ◌+◌, ◌<◌, ◌/◌, ◌%◌, Bool, true, false, List}
use Rattle.std.proofs.Common.{[]}
use Rattle.std.proofs.Common.{◌∷◌, ◌++◌, Contains, append_assoc, cond, length, map, refl, sym, ap, subst, arith}
use Rattle.std.specs.Prelude.{codes, ◌==◌, ⊤}
use Rattle.std.specs.Fmt.{decimal, digit_glyph, digits, digits_onto}
use Rattle.std.specs.List.{flat_map}
use Rattle.std.proofs.lemmas.Bool.{eqb-true}
use Rattle.std.proofs.lemmas.List.{append-nil}
use Rattle.gz_io.specs.Lines.{EndsLine, IsPlain}
use Rattle.gz_names.specs.Zones.{zones_in}
use Rattle.gz_names.specs.declared.names.Name.{Name}
use Rattle.gz_names.specs.declared.names.Name.TheVariants.{Cell, Wrap}
use Rattle.gz_names.specs.declared.zone_sets.ZoneSet.{ZoneSet}
use Rattle.gz_names.specs.declared.dumps.DumpLine.{DumpLine}
use Rattle.gz_names.specs.declared.replies.Report.{Report}
use Rattle.gz_names.specs.declared.replies.Report.TheVariants as report
use Rattle.gz_names.specs.declared.replies.Reply.{Reply}
use Rattle.gz_names.specs.declared.replies.Reply.TheVariants as reply
use Rattle.gz_names.specs.DumpTexts.{dump_text}
use Rattle.trace_lang.specs.Texts.{break_text, dump_lines_text, line_of, name_words, names_text, reply_text}
use Rattle.trace_lang.specs.Texts.{report_text}
use Rattle.trace_lang.specs.Texts.{told_text}
use Rattle.trace_lang.specs.Words.{number_words}
use Rattle.judge.specs.Lines.{IsOneLine}
use Rattle.judge.specs.Transcripts.{Answer, HasLines, IsText, answer_lines, dump_line, lines_of_answer, lines_of_reply}
use Rattle.judge.specs.Transcripts.{lines_of_report, lines_of_reports, report_lines, told_lines}
use Rattle.judge.proofs.OneReading.{never_ends}

-- lines, each with its line feed
abbrev pub flat : List (List ℕ) → List ℕ
flat lines = flat_map line_of lines

pub flat_both : (xs ys : List (List ℕ)) → flat (xs ++ ys) ≡ flat xs ++ flat ys
flat_both [] ys = refl
flat_both (x ∷ xs) ys = ap (λ t. line_of x ++ t) (flat_both xs ys) ∙ sym (append_assoc (line_of x) (flat xs) (flat ys))

line_more : (l rest : List ℕ) → line_of l ++ rest ≡ l ++ 10 ∷ rest
line_more l rest = append_assoc l (10 ∷ []) rest

-- bytes that have these lines are their text, of which the last line feed may be lacking
pub text_of_lines : (input : List ℕ) (ls : List (List ℕ)) → HasLines input ls [] → IsText input (flat ls)
text_of_lines input [] has = inl (sym has)
text_of_lines input (l ∷ ls) (more, one, inl e, tail) = elim (text_of_lines more ls tail) [
  | inl same ↦ inl (e ∙ ap (λ t. l ++ 10 ∷ t) same ∙ sym (line_more l (flat ls)))
  | inr cut ↦ inr (ap (λ t. t ++ 10 ∷ []) e ∙ append_assoc l (10 ∷ more) (10 ∷ [])
      ∙ ap (λ t. l ++ 10 ∷ t) cut ∙ sym (line_more l (flat ls)))
]
text_of_lines input (l ∷ []) (more, one, inr e, tail) =
    inr (ap (λ t. t ++ 10 ∷ []) e.0 ∙ sym (append-nil (line_of l)))
text_of_lines input (l ∷ m ∷ ms) (more, one, inr e, (rest, other, ends, tail)) =
    absurd (never_ends rest m (subst (λ i. EndsLine i rest m) e.2 ends))

-- each is one line
abbrev pub AreOneLines : List (List ℕ) → Type 0
AreOneLines [] = ⊤
AreOneLines (l ∷ ls) = IsOneLine l × AreOneLines ls

pub one_lines_both : (xs ys : List (List ℕ)) → AreOneLines xs → AreOneLines ys → AreOneLines (xs ++ ys)
one_lines_both [] ys a b = b
one_lines_both (x ∷ xs) ys a b = (a.0, one_lines_both xs ys a.1 b)

pub lines_of_text : (ls : List (List ℕ)) → AreOneLines ls → HasLines (flat ls) ls []
lines_of_text [] one = refl
lines_of_text (l ∷ ls) one = (flat ls, one.0, inl (line_more l (flat ls)), lines_of_text ls one.1)

-- without the last line feed
same_front : (xs ys : List ℕ) (a : ℕ) → xs ++ a ∷ [] ≡ ys ++ a ∷ [] → xs ≡ ys
same_front [] [] a e = refl
same_front [] (y ∷ []) a e = absurd (cc e)
same_front [] (y ∷ z ∷ ys) a e = absurd (cc e)
same_front (x ∷ []) [] a e = absurd (cc e)
same_front (x ∷ z ∷ xs) [] a e = absurd (cc e)
same_front (x ∷ xs) (y ∷ ys) a e =
    let first : x ≡ y = cc e in
    let rest = same_front xs ys a (cc e) in
    λ i. first i ∷ rest i

ends_so : (l : List ℕ) (ls : List (List ℕ)) → (front : List ℕ) × (flat (l ∷ ls) ≡ front ++ 10 ∷ [])
ends_so l [] = (l, append-nil (line_of l))
ends_so l (m ∷ ms) = let r = ends_so m ms in
    (line_of l ++ r.0, ap (λ t. line_of l ++ t) r.1 ∙ sym (append_assoc (line_of l) r.0 (10 ∷ [])))

-- the last line, which is not empty
abbrev pub EndsFull : List (List ℕ) → Type 0
EndsFull [] = ⊤
EndsFull (l ∷ []) = 0 < length l
EndsFull (l ∷ m ∷ ms) = EndsFull (m ∷ ms)

pub lines_of_cut : (input : List ℕ) (ls : List (List ℕ)) → AreOneLines ls → EndsFull ls → input ++ 10 ∷ [] ≡ flat ls
    → HasLines input ls []
lines_of_cut [] [] one full e = absurd (cc e)
lines_of_cut (b ∷ bs) [] one full e = absurd (cc e)
lines_of_cut input (l ∷ []) one full e =
    ([], one.0, inr (same_front input l 10 (e ∙ append-nil (line_of l)), full, refl), refl)
lines_of_cut input (l ∷ m ∷ ms) one full e =
    let r = ends_so m ms in
    let whole : input ++ 10 ∷ [] ≡ (l ++ 10 ∷ r.0) ++ 10 ∷ [] =
    e ∙ line_more l (flat (m ∷ ms)) ∙ ap (λ t. l ++ 10 ∷ t) r.1 ∙ sym (append_assoc l (10 ∷ r.0) (10 ∷ [])) in
    (r.0, one.0, inl (same_front input (l ++ 10 ∷ r.0) 10 whole), lines_of_cut r.0 (m ∷ ms) one.1 full (sym r.1))

-- the lines of a report
told_flat : (a : List ℕ) (told : List Name)
    → line_of a ++ flat (told_lines told) ≡ line_of (a ++ told_text told)
told_flat a [] = append-nil (line_of a) ∙ ap line_of (sym (append-nil a))
told_flat a (x ∷ xs) =
    ap (λ t. line_of a ++ t) (append-nil (line_of (codes "told" ++ name_words (x ∷ xs))))
    ∙ line_more a (line_of (codes "told" ++ name_words (x ∷ xs)))
    ∙ sym (append_assoc a (10 ∷ (codes "told" ++ name_words (x ∷ xs))) (10 ∷ []))

report_flat : (r : Report) → flat (lines_of_report r) ≡ line_of (report_text r)
report_flat report.Started = append-nil (line_of (report_text report.Started))
report_flat (report.Groups groups) = append-nil (line_of (report_text (report.Groups groups)))
report_flat (report.Ended zones grays told) =
    ap (λ t. line_of t ++ flat (told_lines told)) (append-nil (codes "ended" ++ number_words (zones_in zones)
    ++ codes " gray" ++ names_text grays))
    ∙ told_flat (codes "ended" ++ number_words (zones_in zones) ++ codes " gray" ++ names_text grays) told
report_flat (report.Swept arena freed) = append-nil (line_of (report_text (report.Swept arena freed)))
report_flat report.Done = append-nil (line_of (report_text report.Done))
report_flat (report.Stopped zones) = append-nil (line_of (report_text (report.Stopped zones)))

pub reports_flat : (rs : List Report) → flat (lines_of_reports rs) ≡ report_lines rs
reports_flat [] = refl
reports_flat (r ∷ rs) = flat_both (lines_of_report r) (lines_of_reports rs)
    ∙ ap (λ t. t ++ flat (lines_of_reports rs)) (report_flat r)
    ∙ ap (λ t. line_of (report_text r) ++ t) (reports_flat rs)

-- the lines of a dump, which is not empty
break_more : (n : ℕ) → break_text (n + 1) ≡ 10 ∷ []
break_more n = go (n + 1 == 0) refl
  where
    go : (b : Bool) → (n + 1 == 0) ≡ b → cond {A = List ℕ} b [] (10 ∷ []) ≡ 10 ∷ []
    go true e = absurd (omega (arith, eqb-true (n + 1) 0 e))
    go false e = refl

dump_one : (l : DumpLine) → dump_line l ≡ dump_text l
dump_one l = append-nil (dump_text l)

dump_rest : (n : ℕ) (ls : List DumpLine) → dump_lines_text (n + 1) ls ++ 10 ∷ [] ≡ 10 ∷ flat (map dump_line ls)
dump_rest n [] = refl
dump_rest n (l ∷ ls) =
    ap (λ t. ((t ++ dump_text l) ++ dump_lines_text (n + 1 + 1) ls) ++ 10 ∷ []) (break_more n)
    ∙ ap (λ t. 10 ∷ t) (append_assoc (dump_text l) (dump_lines_text (n + 1 + 1) ls) (10 ∷ [])
    ∙ ap (λ t. dump_text l ++ t) (dump_rest (n + 1) ls)
    ∙ sym (line_more (dump_text l) (flat (map dump_line ls)))
    ∙ ap (λ t. line_of t ++ flat (map dump_line ls)) (sym (dump_one l)))

dump_flat : (l : DumpLine) (ls : List DumpLine)
    → flat (map dump_line (l ∷ ls)) ≡ line_of (reply_text (reply.Dump (l ∷ ls)))
dump_flat l ls =
    ap (λ t. line_of t ++ flat (map dump_line ls)) (dump_one l)
    ∙ line_more (dump_text l) (flat (map dump_line ls))
    ∙ ap (λ t. dump_text l ++ t) (sym (dump_rest 0 ls))
    ∙ sym (append_assoc (dump_text l) (dump_lines_text 1 ls) (10 ∷ []))

-- a reply that is no empty dump
abbrev pub IsNotEmpty : Reply → Type 0
IsNotEmpty r = r ≡ reply.Dump [] → ⊥

pub reply_flat : (r : Reply) → IsNotEmpty r → flat (lines_of_reply r) ≡ line_of (reply_text r)
reply_flat (reply.Zone z) some = append-nil (line_of (reply_text (reply.Zone z)))
reply_flat (reply.Comp c) some = append-nil (line_of (reply_text (reply.Comp c)))
reply_flat (reply.Made n) some = append-nil (line_of (reply_text (reply.Made n)))
reply_flat (reply.Named x) some = append-nil (line_of (reply_text (reply.Named x)))
reply_flat reply.Null some = append-nil (line_of (reply_text reply.Null))
reply_flat reply.Accepted some = append-nil (line_of (reply_text reply.Accepted))
reply_flat reply.Absent some = append-nil (line_of (reply_text reply.Absent))
reply_flat reply.GcBegun some = append-nil (line_of (reply_text reply.GcBegun))
reply_flat (reply.Sliced k) some = append-nil (line_of (reply_text (reply.Sliced k)))
reply_flat reply.Collected some = append-nil (line_of (reply_text reply.Collected))
reply_flat reply.ResetDone some = append-nil (line_of (reply_text reply.ResetDone))
reply_flat (reply.Gray names) some = append-nil (line_of (reply_text (reply.Gray names)))
reply_flat (reply.Dump []) some = absurd (some refl)
reply_flat (reply.Dump (l ∷ ls)) some = dump_flat l ls
reply_flat (reply.Compacted moved given) some = append-nil (line_of (reply_text (reply.Compacted moved given)))
reply_flat (reply.Refused why) some = append-nil (line_of (reply_text (reply.Refused why)))

pub answer_flat : (a : Answer) → IsNotEmpty a.1 → flat (lines_of_answer a) ≡ answer_lines a
answer_flat a some = flat_both (lines_of_reports a.0) (lines_of_reply a.1)
    ∙ (λ i. reports_flat a.0 i ++ reply_flat a.1 some i)

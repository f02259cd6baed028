-- Within an answer with units: the units so far are lawful, and their reports are the lines so far.
use Rattle.std.proofs.Common.{◌≡◌, ◌≢◌, ◌∙◌, ℕ, ◌+◌, inl, inr, List, [], ◌∷◌, ◌++◌}
use Rattle.std.proofs.Common.{ap, append_assoc, arith, codes, length, refl, subst, sym}
use Rattle.std.proofs.lemmas.List.{append-nil}
use Rattle.std.specs.List.{flat_map}
use Rattle.gz_names.specs.declared.names.Name.{Name}
use Rattle.gz_names.specs.declared.replies.Report.{Report}
use Rattle.gz_names.specs.declared.replies.Report.TheVariants as report
use Rattle.colour_defs.specs.Graph.{GraphState}
use Rattle.colour_defs.specs.Lawful.{AreLawfulUnits, HasTally, IsLawfulReport, IsOver, IsRunning, last, says}
use Rattle.colour_defs.specs.Units.{Tally}
use Rattle.colour_defs.specs.World.{World}
use Rattle.colour_defs.proofs.Lists.{length_push}
use Rattle.trace_lang.specs.Texts.{name_words, report_text, told_text}
use Rattle.judge.specs.Positions.{HasCounted, StandsIn}
use Rattle.judge.specs.Replies.{Counts, IsUncounted}
use Rattle.judge.specs.Represents.{Represents}
use Rattle.judge.specs.Sound.{IsSound}
use Rattle.judge.specs.Stages as judged
use Rattle.judge.specs.Stages.{IsReported, IsReportedLine, IsToldLine, Shown, collecting, is_prepared}
use Rattle.judge.specs.Transcripts.{lines_of_report, lines_of_reports, told_lines}
use Rattle.judge.proofs.Idling.{over_shown, over_world}
use Rattle.judge.proofs.Lawfulness.{laws_report}
use Rattle.judge.proofs.OverBoth.{over_or}
use Rattle.judge.proofs.Reweak.{represents_told}
use Rattle.judge.proofs.ReportWorlds.{report_made, still_counted, with_none}
use Rattle.judge.proofs.Transcribing.{flat_more, lines_both, units_more}
use Rattle.judge.proofs.WorldForms.{finished_lawful, finished_represents, finished_world}

-- the units that are whole lead here, and the collection is not over; or one more has begun with a report with which it
-- is over, and `done` is due
pub data IsInUnit (begun : World) (units : List (List Report)) : List Report → World → Type 0 where
  between : {now : World} → AreLawfulUnits begun units now → (IsOver now → ⊥) → IsInUnit begun units [] now
  ending : (u : World) {now : World} {r : Report} → AreLawfulUnits begun units u → IsRunning u → r ≢ report.Done
      → IsLawfulReport u r now → IsOver now → IsInUnit begun units (r ∷ []) now

-- what an answer with units has written so far, from a world on
pub record HasUnitsSoFar (begun : World) (g : GraphState) (s : Shown) (reports : ℕ) (part : List (List ℕ)) : Type 0
  where
    pub units : List (List Report)
    pub tail : List Report
    pub now : World
    pub state : IsInUnit begun units tail now
    pub stands : StandsIn g s now
    pub lines : part ++ told_lines s.told ≡ lines_of_reports (flat_map (λ u. u) units ++ tail)
    pub count : reports ≡ length units + length tail
    pub tally : Tally
    pub has_tally : HasTally begun tally
    pub counted : HasCounted s now tally (flat_map (λ u. u) units ++ tail)

-- the line that tells watched cells
told_is : (told : List Name) (line : List ℕ) → told_text told ≡ 10 ∷ line
    → (told_lines told ≡ line ∷ []) × IsUncounted line
told_is [] line e = absurd (cc e)
told_is (x ∷ xs) line e =
    let same : codes "told" ++ name_words (x ∷ xs) ≡ line = cc e in
    (ap (λ l. l ∷ []) same, inr (_, sym same))

-- a line that is read, the lines of its answer before it, and what is shown before it and after it
pub record Reading : Type 0 where
  pub graph : GraphState
  pub old : Shown
  pub new : Shown
  pub part : List (List ℕ)
  pub line : List ℕ

-- what an answer with units has written so far, without the line that is read, and with it
abbrev pub HasUnitsBefore : World → Reading → ℕ → Type 0
HasUnitsBefore begun n reports = HasUnitsSoFar begun n.graph n.old reports n.part

abbrev pub HasUnitsThen : World → Reading → ℕ → Type 0
HasUnitsThen begun n more = HasUnitsSoFar begun n.graph n.new more (n.part ++ n.line ∷ [])

-- the line that tells watched cells
module _ (begun : World) (n : Reading) (reports : ℕ) where
  told_next : (more : ℕ) → HasUnitsBefore begun n reports → IsSound n.graph n.new → IsToldLine n.old n.line n.new
      → Counts reports n.line more → HasUnitsThen begun n more
  told_next more h sound (text, same) counts =
      let is = told_is n.old.told n.line text in
      record {
        units = h.units;
        tail = h.tail;
        now = h.now;
        state = h.state;
        stands = record {
          represents = represents_told n.graph n.old n.new h.now h.stands.represents same;
          laws = h.stands.laws;
          sound = sound;
        };
        lines = all_said (ap (λ (u : Shown). u.told) same) ∙ ap (λ ls. n.part ++ ls) (sym is.0) ∙ h.lines;
        count = still (is.1) ∙ h.count;
        tally = h.tally;
        has_tally = h.has_tally;
        counted = subst (λ u. HasCounted u h.now h.tally (flat_map (λ u. u) h.units ++ h.tail)) (sym same)
            (record { prepared = h.counted.prepared; begun = h.counted.begun });
      }
    where
      all_said : n.new.told ≡ [] → (n.part ++ n.line ∷ []) ++ told_lines n.new.told ≡ n.part ++ n.line ∷ []
      all_said e = ap (λ ns. (n.part ++ n.line ∷ []) ++ told_lines ns) e ∙ append-nil (n.part ++ n.line ∷ [])

      still : IsUncounted n.line → more ≡ reports
      still un = elim counts [ inl c ↦ c.1 | inr c ↦ absurd (c.0 un) ]

-- a report but `done` is counted
abbrev head : List ℕ → ℕ
head [] = 0
head (b ∷ bs) = b

other_head : (line : List ℕ) (c : ℕ) → head line ≡ c → c ≢ 100 → c ≢ 116 → IsUncounted line → ⊥
other_head line c at d e (inl h) = let q : head line ≡ 100 = ap head h in d (sym at ∙ q)
other_head line c at d e (inr h) = let q : head line ≡ 116 = ap head h.1 in e (sym at ∙ q)

counted_line : (r : Report) → r ≢ report.Done → IsUncounted (report_text r) → ⊥
counted_line report.Started n u = other_head (report_text report.Started) 115 refl (λ e. omega (arith, e))
    (λ e. omega (arith, e)) u
counted_line (report.Groups groups) n u = other_head (report_text (report.Groups groups)) 103 refl
    (λ e. omega (arith, e)) (λ e. omega (arith, e)) u
counted_line (report.Ended zones grays told) n u = other_head (report_text (report.Ended zones grays told)) 101 refl
    (λ e. omega (arith, e)) (λ e. omega (arith, e)) u
counted_line (report.Swept arena freed) n u = other_head (report_text (report.Swept arena freed)) 115 refl
    (λ e. omega (arith, e)) (λ e. omega (arith, e)) u
counted_line report.Done n u = n refl
counted_line (report.Stopped zones) n u = other_head (report_text (report.Stopped zones)) 115 refl
    (λ e. omega (arith, e)) (λ e. omega (arith, e)) u

-- where `done` is due, no other report is
done_due : (g : GraphState) (s t : Shown) (r : Report) → r ≢ report.Done → judged.IsOver s → IsReported g s r t → ⊥
done_due g s t report.Started n o b = cc (o.ended, b.was)
done_due g s t (report.Groups groups) n o b = cc (o.ended, b.0.was)
done_due g s t (report.Ended zones grays told) n o b = cc (o.ended, b.1.ends.was)
done_due g s t (report.Swept arena freed) n o b = cc (o.none_out, b.first)
done_due g s t report.Done n o b = n refl
done_due g s t (report.Stopped zones) n o b = b

-- the line is no line that tells watched cells
pub record IsNext (n : Reading) (reports more : ℕ) : Type 0 where
  pub sound : IsSound n.graph n.new
  pub none_told : n.old.told ≡ []
  pub counts : Counts reports n.line more

module _ (begun : World) (n : Reading) (reports more : ℕ) (is : IsNext n reports more) where
  abbrev g : GraphState
  g = n.graph

  abbrev s : Shown
  s = n.old

  abbrev t : Shown
  t = n.new

  abbrev part : List (List ℕ)
  part = n.part

  abbrev line : List ℕ
  line = n.line

  abbrev Next : Type 0
  Next = HasUnitsThen begun n more

  -- the lines so far, where none is due that tells watched cells
  part_is : (rs : List Report) → part ++ told_lines s.told ≡ lines_of_reports rs → part ≡ lines_of_reports rs
  part_is rs e = sym (append-nil part) ∙ ap (λ ns. part ++ told_lines ns) (sym is.none_told) ∙ e

  lines_now : (rs : List Report) (said : Report) → part ≡ lines_of_reports rs
      → lines_of_report said ≡ line ∷ told_lines t.told
      → (part ++ line ∷ []) ++ told_lines t.told ≡ lines_of_reports (rs ++ said ∷ [])
  lines_now rs said e f = append_assoc part (line ∷ []) (told_lines t.told)
      ∙ ap (λ ls. ls ++ line ∷ told_lines t.told) e
      ∙ ap (λ ls. lines_of_reports rs ++ ls) (sym f ∙ sym (append-nil (lines_of_report said)))
      ∙ sym (lines_both rs (said ∷ []))

  -- a report but `done`
  module _ (r : Report) (not_done : r ≢ report.Done) (text : line ≡ report_text r) (b : IsReported g s r t) where
    one_more : more ≡ reports + 1
    one_more = elim is.counts [
      | inl c ↦ absurd (counted_line r not_done (subst IsUncounted text c.0))
      | inr c ↦ c.1
    ]

    report_at : (units : List (List Report)) (tail : List Report) (now : World) → IsInUnit begun units tail now
        → StandsIn g s now → part ++ told_lines s.told ≡ lines_of_reports (flat_map (λ u. u) units ++ tail)
        → reports ≡ length units + length tail → (tally : Tally) → HasTally begun tally
        → HasCounted s now tally (flat_map (λ u. u) units ++ tail) → Next
    report_at units (x ∷ []) now (ending u lu run nd lawful over) st lines count tally has counted =
        absurd (done_due g s t r not_done (over_shown st.represents over) b)
    report_at units (x ∷ (y ∷ ys)) now state st lines count tally has counted = elim state [ ]
    report_at units [] now (between lu goes) st lines count tally has counted =
        let e = st.represents.graph_is in
        let made = report_made s t now r not_done (subst (λ a. StandsIn a s now) (sym e) st)
        (subst (λ a. IsSound a t) (sym e) is.sound) (subst (λ a. IsReported a s r t) (sym e) b) is.none_told in
        let stands = subst (λ a. StandsIn a t made.world) e made.stands in
        let before = part_is (flat_map (λ u. u) units)
        (lines ∙ ap lines_of_reports (append-nil (flat_map (λ u. u) units)))
        in
        let said = lines_now (flat_map (λ u. u) units) made.said before (made.lines ∙ ap (λ l. l ∷ told_lines t.told)
        (sym text)) in
        let reports_now = made.counted tally (flat_map (λ u. u) units) (subst (λ rs. HasCounted s now tally rs)
        (append-nil (flat_map (λ u. u) units)) counted) in
        elim (over_or t) as (λ o. Next) [
          | inl over ↦ record {
            units = units;
            tail = made.said ∷ [];
            now = made.world;
            state = ending now lu made.running made.not_done made.lawful (over_world stands.represents over);
            stands = stands;
            lines = said;
            count = one_more ∙ plus_one reports (length units) count;
            tally = tally;
            has_tally = has;
            counted = reports_now;
          }
          | inr not ↦ record {
            units = units ++ (made.said ∷ []) ∷ [];
            tail = [];
            now = made.world;
            state = between (units_more begun units now (made.said ∷ []) made.world lu
                (says made.running made.not_done made.lawful (λ o. not (over_shown stands.represents o))))
                (λ o. not (over_shown stands.represents o));
            stands = stands;
            lines = said ∙ ap lines_of_reports (flat_now units made.said);
            count = one_more ∙ whole_one reports units made.said count;
            tally = tally;
            has_tally = has;
            counted = subst (λ rs. HasCounted t made.world tally rs) (flat_now units made.said) reports_now;
          }
        ]
      where
        plus_one : (m n : ℕ) → m ≡ n + 0 → m + 1 ≡ n + 1
        plus_one m n e = omega (arith, e)

        whole_one : (m : ℕ) (us : List (List Report)) (x : Report) → m ≡ length us + 0
            → m + 1 ≡ length (us ++ (x ∷ []) ∷ []) + 0
        whole_one m us x e = let l = length_push us (x ∷ []) in omega (arith, e, l)

        flat_now : (us : List (List Report)) (x : Report)
            → flat_map (λ (u : List Report). u) us ++ x ∷ [] ≡ flat_map (λ u. u) (us ++ (x ∷ []) ∷ []) ++ []
        flat_now us x = sym (flat_more (λ (u : List Report). u) us (x ∷ []))
            ∙ sym (append-nil (flat_map (λ (u : List Report). u) (us ++ (x ∷ []) ∷ [])))

    pub report_next : HasUnitsBefore begun n reports → Next
    report_next h = report_at h.units h.tail h.now h.state h.stands h.lines h.count h.tally h.has_tally h.counted

  -- `done`
  module _ (text : line ≡ report_text report.Done) (b : judged.Finishes s t) where
    as_many : more ≡ reports
    as_many = elim is.counts [ inl c ↦ c.1 | inr c ↦ absurd (c.0 (inl text)) ]

    done_at : (units : List (List Report)) (tail : List Report) (now : World) → IsInUnit begun units tail now
        → StandsIn g s now → part ++ told_lines s.told ≡ lines_of_reports (flat_map (λ u. u) units ++ tail)
        → reports ≡ length units + length tail → (tally : Tally) → HasTally begun tally
        → HasCounted s now tally (flat_map (λ u. u) units ++ tail) → Next
    done_at units (x ∷ (y ∷ ys)) now state st lines count tally has counted = elim state [ ]
    done_at units [] now (between lu goes) st lines count tally has counted =
        absurd (goes (over_world st.represents b.over))
    done_at units (r ∷ []) now (ending u lu run nd lawful over) st lines count tally has counted =
        let e = st.represents.graph_is in
        let at = subst (λ a. StandsIn a s now) (sym e) st in
        let before = part_is (flat_map (λ u. u) units ++ r ∷ []) lines in
        let said = lines_now (flat_map (λ u. u) units ++ r ∷ []) report.Done before
        (ap (λ l. l ∷ []) (sym text)
        ∙ ap (λ ns. line ∷ told_lines ns) (sym (ap (λ (z : Shown). z.told) b.new_is ∙ is.none_told)))
        in
        record {
          units = units ++ (r ∷ report.Done ∷ []) ∷ [];
          tail = [];
          now = finished_world s t now at b;
          state = between (units_more begun units u (r ∷ report.Done ∷ []) (finished_world s t now at b) lu
              (last run nd lawful (finished_lawful s t now at b))) (λ o. cc o.running);
          stands = record {
            represents = subst (λ a. Represents a t (finished_world s t now at b)) e (finished_represents s t now at b);
            laws = laws_report now report.Done (finished_world s t now at b) st.laws (finished_lawful s t now at b);
            sound = is.sound;
          };
          lines = said ∙ ap lines_of_reports (flat_now units r);
          count = as_many ∙ whole_one reports units r count;
          tally = tally;
          has_tally = has;
          counted = subst (λ rs. HasCounted t (finished_world s t now at b) tally rs) (flat_now units r)
              (still_counted s t now (finished_world s t now at b) tally (flat_map (λ u. u) units ++ r ∷ [])
              report.Done 0 refl (ap is_prepared b.over.ended) (ap (λ (z : Shown). is_prepared z.stage) b.new_is)
              (ap (λ (z : Shown). z.tally) b.new_is ∙ with_none s.tally) counted);
        }
      where
        whole_one : (m : ℕ) (us : List (List Report)) (x : Report) → m ≡ length us + length (x ∷ [])
            → m ≡ length (us ++ (x ∷ report.Done ∷ []) ∷ []) + 0
        whole_one m us x e = let l = length_push us (x ∷ report.Done ∷ []) in omega (arith, e, l)

        flat_now : (us : List (List Report)) (x : Report)
            → (flat_map (λ (u : List Report). u) us ++ x ∷ []) ++ report.Done ∷ []
            ≡ flat_map (λ u. u) (us ++ (x ∷ report.Done ∷ []) ∷ []) ++ []
        flat_now us x = append_assoc (flat_map (λ (u : List Report). u) us) (x ∷ []) (report.Done ∷ [])
            ∙ sym (flat_more (λ (u : List Report). u) us (x ∷ report.Done ∷ []))
            ∙ sym (append-nil (flat_map (λ (u : List Report). u) (us ++ (x ∷ report.Done ∷ []) ∷ [])))

    pub done_next : HasUnitsBefore begun n reports → Next
    done_next h = done_at h.units h.tail h.now h.state h.stands h.lines h.count h.tally h.has_tally h.counted

-- a line of an answer with units that is not the last one
pub line_next : (begun : World) (n : Reading) (reports more : ℕ) → IsSound n.graph n.new
    → IsReportedLine n.graph n.old n.line n.new → Counts reports n.line more → HasUnitsBefore begun n reports
    → HasUnitsThen begun n more
line_next begun n reports more sound (inr told) counts h = told_next begun n reports more h sound told counts
line_next begun n reports more sound (inl (r, text, b, none)) counts h = go r text b
  where
    is : IsNext n reports more
    is = record { sound = sound; none_told = none; counts = counts }

    go : (r : Report) → n.line ≡ report_text r → IsReported n.graph n.old r n.new → HasUnitsThen begun n more
    go report.Started text b = report_next begun n reports more is report.Started (λ e. cc e) text b h
    go (report.Groups groups) text b = report_next begun n reports more is (report.Groups groups) (λ e. cc e) text b h
    go (report.Ended zones grays told) text b =
        report_next begun n reports more is (report.Ended zones grays told) (λ e. cc e) text b h
    go (report.Swept arena freed) text b =
        report_next begun n reports more is (report.Swept arena freed) (λ e. cc e) text b h
    go report.Done text b = done_next begun n reports more is text b h
    go (report.Stopped zones) text b = absurd b

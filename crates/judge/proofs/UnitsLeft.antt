-- What comes next of an answer with units: `done`, which is due to the unit that has begun; the report of the next unit
-- that reports something; or the last line.
use Rattle.std.proofs.Common.{◌≡◌, ◌≢◌, ◌∙◌, ℕ, ◌+◌, ◌≤◌, Bool, true, false, List, [], ◌∷◌, ◌++◌, Option}
use Rattle.std.proofs.Common.{append_assoc, length, refl, sym, ap, subst, arith}
use Rattle.std.specs.List.{flat_map}
use Rattle.std.proofs.lemmas.List.{append-nil}
use Rattle.gz_names.specs.declared.replies.Report.{Report}
use Rattle.gz_names.specs.declared.replies.Report.TheVariants as report
use Rattle.colour_defs.specs.Lawful.{AreLawfulUnits, Finishes, IsLawfulReport, IsLawfulUnit, IsOver, IsRunning, quiet}
use Rattle.colour_defs.specs.Lawful.{says}
use Rattle.colour_defs.specs.Lawful.{last as closing}
use Rattle.colour_defs.specs.Units.{Tally}
use Rattle.colour_defs.specs.World.{World}
use Rattle.trace_lang.specs.Texts.{report_text}
use Rattle.judge.specs.Positions.{AreLeftUnits, EndsUnits, IsLeftOfUnits, left_reports}
use Rattle.judge.specs.Transcripts.{IsLawfulFrom, lines_of_report, lines_of_reports}

-- a collection that is over runs no longer, so it is not over
pub finished_not_over : (w u : World) → Finishes w u → IsOver u → ⊥
finished_not_over w u f over = let none = ap (λ (z : World). z.collection) f.world_is in cc (over.running, none)

-- `done` comes next
pub record DoneNext (now : World) (most : Option ℕ) (collects : Bool) (tally : Tally) (so_far : List Report) (done : ℕ)
    (lines : List (List ℕ)) : Type 0 where
  pub after : World
  pub finishes : Finishes now after
  pub rest : List (List ℕ)
  pub left : IsLeftOfUnits after most collects tally (so_far ++ report.Done ∷ []) done rest
  pub lines_are : lines ≡ report_text report.Done ∷ rest

-- a report comes next, which is that of a unit more
pub record ReportNext (now : World) (most : Option ℕ) (collects : Bool) (tally : Tally) (so_far : List Report)
    (done : ℕ)
    (lines : List (List ℕ)) : Type 0 where
  pub said : Report
  pub other : said ≢ report.Done
  pub running : IsRunning now
  pub after : World
  pub lawful : IsLawfulReport now said after
  pub before : ℕ
  pub enough : done ≤ before
  pub rest : List (List ℕ)
  pub left : IsLeftOfUnits after most collects tally (so_far ++ said ∷ []) (before + 1) rest
  pub lines_are : lines ≡ lines_of_report said ++ rest

-- the last line comes next
pub record LastNext (now : World) (most : Option ℕ) (collects : Bool) (tally : Tally) (so_far : List Report) (done : ℕ)
    (lines : List (List ℕ)) : Type 0 where
  pub not_over : IsOver now → ⊥
  pub count : ℕ
  pub enough : done ≤ count
  pub last : List ℕ
  pub next : World
  pub ends : EndsUnits collects most tally so_far count now last next
  pub more : List (List ℕ)
  pub goes_on : IsLawfulFrom next more
  pub lines_are : lines ≡ last ∷ more

pub data NextLeft (now : World) (most : Option ℕ) (collects : Bool) (tally : Tally) (so_far : List Report) (done : ℕ)
    (lines : List (List ℕ)) : Type 0 where
  done_next : DoneNext now most collects tally so_far done lines → NextLeft now most collects tally so_far done lines
  report_next : ReportNext now most collects tally so_far done lines
      → NextLeft now most collects tally so_far done lines
  last_next : LastNext now most collects tally so_far done lines → NextLeft now most collects tally so_far done lines

module _ (most : Option ℕ) (collects : Bool) (tally : Tally) (so_far : List Report) (lines : List (List ℕ)) where
  -- the last line of what is left, and the transcript behind it
  record Behind (after : World) (reports : List Report) (k : ℕ) (front : List Report) : Type 0 where
    last : List ℕ
    next : World
    ends : EndsUnits collects most tally reports k after last next
    more : List (List ℕ)
    goes_on : IsLawfulFrom next more
    lines_are : lines ≡ lines_of_reports front ++ last ∷ more

  abbrev flat : List (List Report) → List Report
  flat units = flat_map (λ u. u) units

  -- a report of a unit, and what is left of the units: perhaps `done` first
  report_of : (now : World) (units : List (List Report)) (after : World) (done before : ℕ) (r : Report) (v : World)
      (is_last : Bool) → done ≤ before → IsRunning now → r ≢ report.Done → IsLawfulReport now r v
      → AreLeftUnits is_last v units after
      → Behind after (so_far ++ r ∷ left_reports is_last units) (before + (1 + length units))
      (r ∷ left_reports is_last units) → NextLeft now most collects tally so_far done lines
  report_of now units after done before r v is_last enough run kind h left behind = report_next (record {
    said = r;
    other = kind;
    running = run;
    after = v;
    lawful = h;
    before = before;
    enough = enough;
    rest = lines_of_reports (left_reports is_last units) ++ behind.last ∷ behind.more;
    left = record {
      is_last = is_last;
      units = units;
      after = after;
      left = left;
      last = behind.last;
      next = behind.next;
      ends = subst (λ n. EndsUnits collects most tally ((so_far ++ r ∷ []) ++ left_reports is_last units) n after
          behind.last behind.next) (omega arith)
          (subst (λ rs. EndsUnits collects most tally rs (before + (1 + length units)) after behind.last behind.next)
          (sym (append_assoc so_far (r ∷ []) (left_reports is_last units))) behind.ends);
      more = behind.more;
      goes_on = behind.goes_on;
      lines_are = refl;
    };
    lines_are = behind.lines_are
        ∙ append_assoc (lines_of_report r) (lines_of_reports (left_reports is_last units)) (behind.last ∷ behind.more);
  })

  by_unit : (now : World) (units : List (List Report)) (after : World) (done before : ℕ) → done ≤ before
      → {unit : List Report} {u : World} → IsLawfulUnit now unit u → AreLawfulUnits u units after
      → Behind after (so_far ++ (unit ++ flat_map (λ u. u) units)) (before + (1 + length units))
      (unit ++ flat_map (λ u. u) units)
      → (AreLawfulUnits now units after → Behind after (so_far ++ flat_map (λ u. u) units)
      (before + (1 + length units)) (flat_map (λ u. u) units) → NextLeft now most collects tally so_far done lines)
      → NextLeft now most collects tally so_far done lines
  by_unit now units after done before enough (quiet run) rest behind goes = goes rest behind
  by_unit now units after done before enough (says {r} {v} run kind h over) rest behind goes =
      report_of now units after done before r v false enough run kind h (over, rest) behind
  by_unit now units after done before enough (closing {r} {u} {v} run kind h f) rest behind goes =
      report_of now units after done before r u true enough run kind h (v, f, rest) behind

  behind_as : (after : World) (reports : List Report) (k n : ℕ) (front : List Report) → k ≡ n
      → Behind after reports k front → Behind after reports n front
  behind_as after reports k n front e b = subst (λ m. Behind after reports m front) e b

  from_units : (now : World) (units : List (List Report)) (after : World) (done before : ℕ) → done ≤ before
      → (IsOver now → ⊥) → AreLawfulUnits now units after
      → Behind after (so_far ++ flat_map (λ u. u) units) (before + length units) (flat_map (λ u. u) units)
      → NextLeft now most collects tally so_far done lines
  from_units now [] after done before enough not_over is behind =
      last_next (record {
        not_over = not_over;
        count = before + 0;
        enough = omega (arith, enough);
        last = behind.last;
        next = behind.next;
        ends = subst (λ w. EndsUnits collects most tally so_far (before + 0) w behind.last behind.next) is
            (subst (λ rs. EndsUnits collects most tally rs (before + 0) after behind.last behind.next)
            (append-nil so_far) behind.ends);
        more = behind.more;
        goes_on = behind.goes_on;
        lines_are = behind.lines_are;
      })
  from_units now (unit ∷ units) after done before enough not_over (u, one, rest) behind =
      by_unit now units after done before enough one rest
      (behind_as after (so_far ++ (unit ++ flat_map (λ u. u) units)) (before + length (unit ∷ units))
      (before + (1 + length units)) (unit ++ flat_map (λ u. u) units) (omega arith) behind)
      (λ left more. from_units now units after done (before + 1) (omega (arith, enough)) not_over left
      (behind_as after (so_far ++ flat_map (λ u. u) units) (before + (1 + length units)) (before + 1 + length units)
      (flat_map (λ u. u) units) (omega arith) more))

pub next_left : (now : World) (most : Option ℕ) (collects : Bool) (tally : Tally) (so_far : List Report) (done : ℕ)
    (lines : List (List ℕ)) → IsLeftOfUnits now most collects tally so_far done lines
    → NextLeft now most collects tally so_far done lines
next_left now most collects tally so_far done lines is = go is.is_last is.left is.ends is.lines_are
  where
    go : (b : Bool) → AreLeftUnits b now is.units is.after
        → EndsUnits collects most tally (so_far ++ left_reports b is.units) (done + length is.units) is.after is.last
        is.next → lines ≡ lines_of_reports (left_reports b is.units) ++ is.last ∷ is.more
        → NextLeft now most collects tally so_far done lines
    go false (not_over, units) ends e = from_units most collects tally so_far lines now is.units is.after done done
        (omega arith) not_over units (record {
          last = is.last;
          next = is.next;
          ends = ends;
          more = is.more;
          goes_on = is.goes_on;
          lines_are = e;
        })
    go true (u, finishes, units) ends e = done_next (record {
      after = u;
      finishes = finishes;
      rest = lines_of_reports (flat_map (λ u. u) is.units) ++ is.last ∷ is.more;
      left = record {
        is_last = false;
        units = is.units;
        after = is.after;
        left = (finished_not_over now u finishes, units);
        last = is.last;
        next = is.next;
        ends = subst (λ rs. EndsUnits collects most tally rs (done + length is.units) is.after is.last is.next)
            (sym (append_assoc so_far (report.Done ∷ []) (flat_map (λ u. u) is.units))) ends;
        more = is.more;
        goes_on = is.goes_on;
        lines_are = refl;
      };
      lines_are = e;
    })

-- Lines that are judged are lawful so far.
use Rattle.std.proofs.Common.{◌≡◌, ◌∙◌, ◌≤◌, ℕ, ◌+◌, inl, inr, Bool, List, [], ◌∷◌, ◌++◌, Option, None}
use Rattle.std.proofs.Common.{ap, append_assoc, arith, length, map, refl, subst, sym}
use Rattle.std.proofs.lemmas.List.{append-nil}
use Rattle.std.specs.List.{flat_map}
use Rattle.gz_names.specs.declared.commands.Cmd.{Cmd}
use Rattle.gz_names.specs.declared.replies.Report.{Report}
use Rattle.gz_names.specs.declared.replies.Report.TheVariants as report
use Rattle.colour_defs.specs.Graph.{GraphState}
use Rattle.colour_defs.specs.Lawful.{AreLawfulUnits, DoesUnits, last}
use Rattle.colour_defs.specs.World.{World}
use Rattle.colour_defs.proofs.Lists.{length_push}
use Rattle.judge.specs.Replies.{Due, dump, marked, nothing, reply, resets, units as units_due}
use Rattle.judge.specs.Running.{HasUnits}
use Rattle.judge.specs.Stages.{Shown}
use Rattle.judge.specs.Transcripts.{AreOfAnswer, HasLines, IsLawfulSoFar, dump_line, lines_of_report}
use Rattle.judge.specs.Transcripts.{lines_of_reports, told_lines, transcript}
use Rattle.judge.specs.Verdicts.{HasJudged}
use Rattle.judge.proofs.NewPlaces.{places_new}
use Rattle.judge.proofs.Progress.{AreUnitsOf, IsDueNow, IsInAnswer, Progress, UpTo, collect, finish, slice}
use Rattle.judge.proofs.Soundness.{reached}
use Rattle.judge.proofs.Transcribing.{flat_more, lines_both, units_more}
use Rattle.judge.proofs.UnitLines.{HasUnitsSoFar, IsInUnit, between, ending}

-- lines that are those of a lawful answer, as far as they go
pub record Begins (before : World) (c : Cmd) (part : List (List ℕ)) : Type 0 where
  pub whole : List (List ℕ)
  pub answer : AreOfAnswer before c whole
  pub more : List (List ℕ)
  pub front : whole ≡ part ++ more

due_begins : (before : World) (c : Cmd) (g : GraphState) (s : Shown) (due part : List (List ℕ))
    → IsDueNow before c g s due part → Begins before c part
due_begins before c g s due part d = record {
  whole = part ++ due;
  answer = inl (d.reports, d.answer, d.after, d.lawful, d.small, sym d.lines);
  more = due;
  front = refl;
}

-- units that are whole, of which the lines so far are a front
pub record AreFront (begun : World) (n : ℕ) (part : List (List ℕ)) : Type 0 where
  pub units : List (List Report)
  pub after : World
  pub done : AreLawfulUnits begun units after
  pub few : length units ≤ n
  pub more : List (List ℕ)
  pub front : lines_of_reports (flat_map (λ u. u) units) ≡ part ++ more

front_at : (begun : World) (g : GraphState) (s : Shown) (reports : ℕ) (part : List (List ℕ))
    → (units : List (List Report)) (tail : List Report) (now : World) → IsInUnit begun units tail now
    → part ++ told_lines s.told ≡ lines_of_reports (flat_map (λ u. u) units ++ tail)
    → reports ≡ length units + length tail → AreFront begun reports part
front_at begun g s reports part units (x ∷ (y ∷ ys)) now state lines count = elim state [ ]
front_at begun g s reports part units [] now (between lu goes) lines count = record {
  units = units;
  after = now;
  done = lu;
  few = omega (arith, count);
  more = told_lines s.told;
  front = ap lines_of_reports (sym (append-nil (flat_map (λ (u : List Report). u) units))) ∙ sym lines;
}
front_at begun g s reports part units (r ∷ []) now (ending u lu run nd lawful over) lines count = record {
  units = units ++ (r ∷ report.Done ∷ []) ∷ [];
  after = record now { collection = None };
  done = units_more begun units u (r ∷ report.Done ∷ []) (record now { collection = None }) lu
      (last run nd lawful (record { over = over; world_is = refl }));
  few = let l = length_push units (r ∷ report.Done ∷ []) in omega (arith, count, l);
  more = told_lines s.told ++ (lines_of_report report.Done ++ []);
  front = ap lines_of_reports (flat_more (λ (u : List Report). u) units (r ∷ report.Done ∷ [])
      ∙ sym (append_assoc (flat_map (λ (u : List Report). u) units) (r ∷ []) (report.Done ∷ [])))
      ∙ lines_both (flat_map (λ (u : List Report). u) units ++ r ∷ []) (report.Done ∷ [])
      ∙ ap (λ ls. ls ++ (lines_of_report report.Done ++ [])) (sym lines)
      ∙ append_assoc part (told_lines s.told) (lines_of_report report.Done ++ []);
}

front_of : (begun : World) (g : GraphState) (s : Shown) (reports : ℕ) (part : List (List ℕ))
    → HasUnitsSoFar begun g s reports part → AreFront begun reports part
front_of begun g s reports part h = front_at begun g s reports part h.units h.tail h.now h.state h.lines h.count

does : (begun : World) (n : ℕ) (part : List (List ℕ)) → (f : AreFront begun n part)
    → DoesUnits begun f.units (flat_map (λ u. u) f.units)
does begun n part f = record { after = f.after; done = f.done; reports_are = refl }

units_begin : (before : World) (c : Cmd) (most : Option ℕ) (collects : Bool) (reports : ℕ) (begun : World)
    (part : List (List ℕ)) → AreUnitsOf before c most collects begun → HasUnits most reports
    → AreFront begun reports part → Begins before c part
units_begin before c most collects reports begun part (slice {n}) fits f = record {
  whole = lines_of_reports (flat_map (λ u. u) f.units);
  answer = inr (flat_map (λ u. u) f.units, (f.units, less (fits n refl) f.few, does before reports part f), refl);
  more = f.more;
  front = f.front;
}
  where
    less : reports ≤ n → length f.units ≤ reports → length f.units ≤ n
    less a b = omega (arith, a, b)
units_begin before c most collects reports begun part finish fits f = record {
  whole = lines_of_reports (flat_map (λ u. u) f.units);
  answer = inr (flat_map (λ u. u) f.units, (f.units, does before reports part f), refl);
  more = f.more;
  front = f.front;
}
units_begin before c most collects reports begun part (collect prepares) fits f = record {
  whole = lines_of_reports (flat_map (λ u. u) f.units);
  answer = inr (flat_map (λ u. u) f.units, inr (begun, prepares, f.units, does begun reports part f), refl);
  more = f.more;
  front = f.front;
}

progress_begins : (before : World) (c : Cmd) (g : GraphState) (s : Shown) (due : Due) (part : List (List ℕ))
    → Progress before c g s due part → Begins before c part
progress_begins before c g s nothing part p = absurd p
progress_begins before c g s (reply text) part p = due_begins before c g s (text ∷ []) part p
progress_begins before c g s (dump ls) part p = due_begins before c g s (map dump_line ls) part p
progress_begins before c g s (units_due most collects reports) part p =
    units_begin before c most collects reports p.begun part p.of p.fits (front_of p.begun g s reports part p.so_far)
progress_begins before c g s resets part (is, run, h) = subst (λ d. Begins before d part) (sym is) (record {
  whole = lines_of_reports h.sweeps;
  answer = inr (h.sweeps, inr (run, inl (h.now, h.swept)), refl);
  more = [];
  front = sym h.lines ∙ sym (append-nil part);
})

answer_so_far : (lines : List (List ℕ)) (g : GraphState) (s : Shown) (due : Due) → IsInAnswer lines g s due
    → IsLawfulSoFar lines
answer_so_far lines g s due a =
    let b = progress_begins a.before a.command g s due a.part a.progress in record {
      trace = a.trace;
      answers = a.answers;
      after = a.before;
      lawful = a.lawful;
      last = marked a.text ∷ a.part;
      begun = inr (record {
        text = a.text;
        command = a.command;
        stands = a.spells;
        whole = b.whole;
        answer = b.answer;
        more = b.more;
        front = ap (λ ls. marked a.text ∷ ls) b.front;
      });
      lines_are = a.lines_are;
    }

so_far : (lines : List (List ℕ)) (g : GraphState) (s : Shown) (due : Due) → UpTo lines g s due → IsLawfulSoFar lines
so_far lines g s nothing up = record {
  trace = up.trace;
  answers = up.answers;
  after = up.world;
  lawful = up.lawful;
  last = [];
  begun = inl refl;
  lines_are = up.lines_are ∙ sym (append-nil (transcript up.trace up.answers));
}
so_far lines g s (reply text) up = answer_so_far lines g s (reply text) up
so_far lines g s (dump ls) up = answer_so_far lines g s (dump ls) up
so_far lines g s (units_due most collects reports) up = answer_so_far lines g s (units_due most collects reports) up
so_far lines g s resets up = answer_so_far lines g s resets up

-- the first lines of bytes, which are lawful so far
pub record AreLawfulLines (input : List ℕ) (n : ℕ) (rest : List ℕ) : Type 0 where
  pub lines : List (List ℕ)
  pub number : n ≡ length lines
  pub has : HasLines input lines rest
  pub so_far : IsLawfulSoFar lines

pub judged_so_far : (input : List ℕ) (n : ℕ) (rest : List ℕ) (due : Due) → HasJudged input n rest due
    → AreLawfulLines input n rest
judged_so_far input n rest due j = let r = reached places_new input j.judged in record {
  lines = r.lines;
  number = r.number;
  has = r.has;
  so_far = so_far r.lines j.graph j.shows due r.up_to;
}

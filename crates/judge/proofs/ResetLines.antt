-- Within a reset: the arenas that were swept so far, and the report with which it ends.
use Rattle.std.proofs.Common.{◌≡◌, ◌≢◌, ◌∙◌, ℕ, List, [], ◌∷◌, ◌++◌, ap, length, subst, sym}
use Rattle.std.proofs.lemmas.List.{append-nil}
use Rattle.gz_names.specs.declared.names.Name.{Name}
use Rattle.gz_names.specs.declared.replies.Report.{Report}
use Rattle.gz_names.specs.declared.replies.Report.TheVariants as report
use Rattle.gz_names.specs.declared.zone_sets.ZoneSet.{ZoneSet}
use Rattle.colour_defs.specs.Graph.{GraphState}
use Rattle.colour_defs.specs.Lawful.{AreLawfulSweeps, LastOfReset}
use Rattle.colour_defs.specs.World.{World}
use Rattle.trace_lang.specs.Texts.{report_text}
use Rattle.judge.specs.Positions.{StandsIn}
use Rattle.judge.specs.Represents.{Represents}
use Rattle.judge.specs.Sound.{IsSound}
use Rattle.judge.specs.Stages as judged
use Rattle.judge.specs.Stages.{IsResetReport, Shown, Stops, Sweeps, idle}
use Rattle.judge.specs.Transcripts.{lines_of_report, lines_of_reports}
use Rattle.judge.proofs.ReportWorlds.{stands_after}
use Rattle.judge.proofs.Transcribing.{lines_both, sweeps_more}
use Rattle.judge.proofs.WorldForms.{finished_lawful, finished_represents, finished_world}
use Rattle.judge.proofs.WorldStops.{stopped_lawful, stopped_represents, stopped_world}
use Rattle.judge.proofs.WorldSweeps.{swept_lawful, swept_represents, swept_world}

pub record HasSweptSoFar (before : World) (g : GraphState) (s : Shown) (part : List (List ℕ)) : Type 0 where
  pub sweeps : List Report
  pub now : World
  pub swept : AreLawfulSweeps before sweeps now
  pub stands : StandsIn g s now
  pub some : s.stage ≢ idle
  pub none_told : s.told ≡ []
  pub lines : part ≡ lines_of_reports sweeps

-- a reset that has ended, but for its reply
pub record HasReset (before : World) (g : GraphState) (t : Shown) (part : List (List ℕ)) : Type 0 where
  pub sweeps : List Report
  pub now : World
  pub swept : AreLawfulSweeps before sweeps now
  pub final : Report
  pub after : World
  pub ends : LastOfReset now final after
  pub represents : Represents g t after
  pub idle_is : t.stage ≡ idle
  pub none_told : t.told ≡ []
  pub registers : length g.registers ≡ 16
  pub slots : length g.slots ≡ 64
  pub lines : part ≡ lines_of_reports (sweeps ++ final ∷ [])

line_more : (part : List (List ℕ)) (line : List ℕ) (rs : List Report) (r : Report) → part ≡ lines_of_reports rs
    → line ∷ [] ≡ lines_of_report r → part ++ line ∷ [] ≡ lines_of_reports (rs ++ r ∷ [])
line_more part line rs r e f = ap (λ ls. ls ++ line ∷ []) e
    ∙ ap (λ ls. lines_of_reports rs ++ ls) (f ∙ sym (append-nil (lines_of_report r))) ∙ sym (lines_both rs (r ∷ []))

module _ (before : World) (g : GraphState) (s t : Shown) (part : List (List ℕ)) (line : List ℕ) (sound : IsSound g t)
    (h : HasSweptSoFar before g s part) where
  e : h.now.graph ≡ g
  e = h.stands.represents.graph_is

  here : StandsIn h.now.graph s h.now
  here = subst (λ a. StandsIn a s h.now) (sym e) h.stands

  registers_are : length g.registers ≡ 16
  registers_are = ap (λ a. length a.registers) (sym e) ∙ h.stands.laws.registers

  slots_are : length g.slots ≡ 64
  slots_are = ap (λ a. length a.slots) (sym e) ∙ h.stands.laws.slots

  pub sweep_next : (arena : ℕ) (freed : List Name) → line ≡ report_text (report.Swept arena freed)
      → Sweeps s arena freed t → HasSweptSoFar before g t (part ++ line ∷ [])
  sweep_next arena freed text b =
      record {
        sweeps = h.sweeps ++ report.Swept arena freed ∷ [];
        now = swept_world s t h.now here arena freed b;
        swept = sweeps_more before h.sweeps h.now arena freed (swept_world s t h.now here arena freed b) h.swept
            (swept_lawful s t h.now here arena freed b);
        stands = subst (λ a. StandsIn a t (swept_world s t h.now here arena freed b)) e
            (stands_after t h.now (swept_world s t h.now here arena freed b) (report.Swept arena freed) s here
            (swept_lawful s t h.now here arena freed b) (swept_represents s t h.now here arena freed b)
            (subst (λ a. IsSound a t) (sym e) sound));
        some = λ i. h.some (sym (ap (λ (u : Shown). u.stage) b.new_is) ∙ i);
        none_told = ap (λ (u : Shown). u.told) b.new_is ∙ h.none_told;
        lines = line_more part line h.sweeps (report.Swept arena freed) h.lines (ap (λ l. l ∷ []) text);
      }

  pub done_ends : line ≡ report_text report.Done → judged.Finishes s t → HasReset before g t (part ++ line ∷ [])
  done_ends text b =
      record {
        sweeps = h.sweeps;
        now = h.now;
        swept = h.swept;
        final = report.Done;
        after = finished_world s t h.now here b;
        ends = finished_lawful s t h.now here b;
        represents = subst (λ a. Represents a t (finished_world s t h.now here b)) e
            (finished_represents s t h.now here b);
        idle_is = ap (λ (u : Shown). u.stage) b.new_is;
        none_told = ap (λ (u : Shown). u.told) b.new_is ∙ h.none_told;
        registers = registers_are;
        slots = slots_are;
        lines = line_more part line h.sweeps report.Done h.lines (ap (λ l. l ∷ []) text);
      }

  pub stop_ends : (zones : ZoneSet) → line ≡ report_text (report.Stopped zones) → Stops g s zones t
      → HasReset before g t (part ++ line ∷ [])
  stop_ends zones text b =
      let st = subst (λ a. Stops a s zones t) (sym e) b in record {
        sweeps = h.sweeps;
        now = h.now;
        swept = h.swept;
        final = report.Stopped zones;
        after = stopped_world s t h.now here zones st h.some;
        ends = stopped_lawful s t h.now here zones st h.some;
        represents = subst (λ a. Represents a t (stopped_world s t h.now here zones st h.some)) e
            (stopped_represents s t h.now here zones st h.some);
        idle_is = ap (λ (u : Shown). u.stage) b.new_is;
        none_told = ap (λ (u : Shown). u.told) b.new_is ∙ h.none_told;
        registers = registers_are;
        slots = slots_are;
        lines = line_more part line h.sweeps (report.Stopped zones) h.lines (ap (λ l. l ∷ []) text);
      }

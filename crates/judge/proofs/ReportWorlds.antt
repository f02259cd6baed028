-- A report that is judged: there is a world after it by the definitions, for which the judge stands.
use Rattle.std.proofs.Common.{◌≡◌, ◌≢◌, ◌∙◌, ℕ, ◌+◌, false, List, [], ◌∷◌, ◌++◌, ap, arith}
use Rattle.std.proofs.Common.{inl, inr, refl, subst, sym}
use Rattle.gz_names.specs.Zones.{zones_in}
use Rattle.gz_names.specs.declared.names.Name.{Name}
use Rattle.gz_names.specs.declared.zone_sets.ZoneSet.{ZoneSet}
use Rattle.gz_names.specs.declared.replies.Report.{Report}
use Rattle.gz_names.specs.declared.replies.Report.TheVariants as report
use Rattle.colour_defs.specs.Lawful.{HasTally, IsLawfulReport, IsRunning}
use Rattle.colour_defs.specs.Units.{Tally, sweeps_in}
use Rattle.colour_defs.specs.World.{World, first_tally}
use Rattle.trace_lang.specs.Texts.{report_text}
use Rattle.judge.specs.Positions.{HasCounted, StandsIn}
use Rattle.judge.specs.Represents.{IsAtStage, Represents}
use Rattle.judge.specs.Sound.{IsSound}
use Rattle.judge.specs.Stages.{EndsGroup, Forms, IsReported, Shown, Stage, Starts, Sweeps, collecting, idle}
use Rattle.judge.specs.Stages.{is_prepared, preparing}
use Rattle.judge.specs.Transcripts.{lines_of_report, told_lines}
use Rattle.judge.specs.Walks.{CatchUp}
use Rattle.judge.proofs.Idling.{running_world}
use Rattle.judge.proofs.Lawfulness.{laws_report}
use Rattle.judge.proofs.Transcribing.{sweeps_both}
use Rattle.judge.proofs.WorldEnds.{ended_lawful, ended_represents, ended_world}
use Rattle.judge.proofs.WorldForms.{forming}
use Rattle.judge.proofs.WorldStarts.{prepared, started_lawful, started_represents, started_world, tally_now}
use Rattle.judge.proofs.WorldSweeps.{swept_lawful, swept_represents, swept_world}

-- a report of the definitions for one that is judged, and the world after it
pub record IsMade (s t : Shown) (w : World) (text : List ℕ) : Type 0 where
  pub said : Report
  pub world : World
  pub running : IsRunning w
  pub not_done : said ≢ report.Done
  pub lawful : IsLawfulReport w said world
  pub stands : StandsIn w.graph t world
  pub lines : lines_of_report said ≡ text ∷ told_lines t.told
  pub counted : (tally : Tally) (so_far : List Report) → HasCounted s w tally so_far
      → HasCounted t world tally (so_far ++ said ∷ [])

-- the world after a report of which only the graph is the same
pub stands_after : (t : Shown) (w v : World) (r : Report) (s : Shown) → StandsIn w.graph s w → IsLawfulReport w r v
    → Represents w.graph t v → IsSound w.graph t → StandsIn w.graph t v
stands_after t w v r s st h rep sound = record {
  represents = rep;
  laws = laws_report w r v st.laws h;
  sound = sound;
}

-- what is counted stays, but for sweeps
pub still_counted : (s t : Shown) (w v : World) (tally : Tally) (so_far : List Report) (r : Report) (n : ℕ)
    → sweeps_in (r ∷ []) ≡ n → is_prepared s.stage ≡ false → is_prepared t.stage ≡ false
    → t.tally ≡ record s.tally { sweeps = s.tally.sweeps + n } → HasCounted s w tally so_far
    → HasCounted t v tally (so_far ++ r ∷ [])
still_counted s t w v tally so_far r n sweeps was now same h = record {
  prepared = λ e. absurd (cc (e, now));
  begun = λ e. same ∙ ap (λ (u : Tally). record u { sweeps = u.sweeps + n }) (h.begun was)
      ∙ ap (λ m. record tally { sweeps = m }) (total (sweeps_both so_far (r ∷ [])));
}
  where
    total : sweeps_in (so_far ++ r ∷ []) ≡ sweeps_in so_far + sweeps_in (r ∷ [])
        → (tally.sweeps + sweeps_in so_far) + n ≡ tally.sweeps + sweeps_in (so_far ++ r ∷ [])
    total e = omega (arith, e, sweeps)

pub with_none : (t : Tally) → t ≡ record t { sweeps = t.sweeps + 0 }
with_none t = let e : t.sweeps ≡ t.sweeps + 0 = omega arith in ap (λ n. record t { sweeps = n }) e

started_made : (s t : Shown) (w : World) → StandsIn w.graph s w → IsSound w.graph t → Starts w.graph s t → s.told ≡ []
    → IsMade s t w (report_text report.Started)
started_made s t w st sound b told =
    record {
      said = report.Started;
      world = started_world s t w st b;
      running = running_world st.represents (λ e. cc (e, b.was));
      not_done = λ e. cc e;
      lawful = (zones_in b.zones, started_lawful s t w st b);
      stands = stands_after t w (started_world s t w st b) report.Started s st
          (zones_in b.zones, started_lawful s t w st b) (started_represents s t w st b) sound;
      lines = ap (λ ns. report_text report.Started ∷ told_lines ns)
          (sym (ap (λ (u : Shown). u.told) b.started.new_is ∙ told));
      counted = begun;
    }
  where
    now : is_prepared t.stage ≡ false
    now = ap (λ (u : Shown). is_prepared u.stage) b.started.new_is

    begun : (tally : Tally) (so_far : List Report) → HasCounted s w tally so_far
        → HasCounted t (started_world s t w st b) tally (so_far ++ report.Started ∷ [])
    begun tally so_far h =
        let was = h.prepared (ap is_prepared b.was) in
        record {
          prepared = λ e. absurd (cc (e, now));
          begun = λ e. tally_now s t w st b ∙ sym (first was.1) ∙ with_none tally
              ∙ ap (λ (rs : List Report).
              record tally { sweeps = tally.sweeps + sweeps_in (rs ++ report.Started ∷ []) }) (sym was.0);
        }
      where
        first : HasTally w tally → tally ≡ first_tally w (prepared s t w st b).preparation
        first (inl k) = absurd (cc (k.1, (prepared s t w st b).alone))
        first (inr q) =
            let same : q.0 ≡ (prepared s t w st b).preparation = cc (q.1, (prepared s t w st b).preparing_is) in
            q.2 ∙ ap (λ p. first_tally w p) same

formed_made : (s t : Shown) (w : World) (groups : List ZoneSet) → StandsIn w.graph s w → IsSound w.graph t
    → Forms w.graph s groups t → CatchUp s.former.graph s.walks t.walks → s.told ≡ []
    → IsMade s t w (report_text (report.Groups groups))
formed_made s t w groups st sound b up told =
    let made = forming s t w st groups b up in record {
      said = report.Groups groups;
      world = made.0;
      running = running_world st.represents (λ e. cc (e, b.was));
      not_done = λ e. cc e;
      lawful = made.1;
      stands = stands_after t w made.0 (report.Groups groups) s st made.1 made.3 sound;
      lines = ap (λ ns. report_text (report.Groups groups) ∷ told_lines ns)
          (sym (ap (λ (u : Shown). u.told) b.new_is ∙ told));
      counted = λ tally so_far h. still_counted s t w made.0 tally so_far
          (report.Groups groups) 0 refl (ap is_prepared b.was) (ap (λ (u : Shown). is_prepared u.stage) b.new_is)
          (ap (λ (u : Shown). u.tally) b.new_is ∙ with_none s.tally) h;
    }

ended_made : (s t : Shown) (w : World) (group : ZoneSet) (grays : List Name) → StandsIn w.graph s w → IsSound w.graph t
    → EndsGroup w.graph s group grays t → IsMade s t w (report_text (report.Ended group grays []))
ended_made s t w group grays st sound b =
    record {
      said = report.Ended group grays t.told;
      world = ended_world s t w st group grays b;
      running = running_world st.represents (λ e. cc (e, b.ends.was));
      not_done = λ e. cc e;
      lawful = ended_lawful s t w st group grays b;
      stands = stands_after t w (ended_world s t w st group grays b) (report.Ended group grays t.told) s st
          (ended_lawful s t w st group grays b) (ended_represents s t w st group grays b) sound;
      lines = refl;
      counted = λ tally so_far h. still_counted s t w (ended_world s t w st group grays b) tally so_far
          (report.Ended group grays t.told) 0 refl (ap is_prepared b.ends.was) (ap is_prepared b.ends.new_is)
          (b.tally_is ∙ with_none s.tally) h;
    }

-- an arena is out, so a collection runs
out_of : (s : Shown) (w : World) (arena : ℕ) (rest : List ℕ) (u : Stage) → s.out ≡ arena ∷ rest
    → IsAtStage u s w → is_prepared u ≡ false
out_of s w arena rest idle e at = refl
out_of s w arena rest (preparing zones) e at = absurd (cc (e, at.none_out))
out_of s w arena rest (collecting zones marking groups) e at = refl

not_idle : (s : Shown) (w : World) (arena : ℕ) (rest : List ℕ) (u : Stage) → s.out ≡ arena ∷ rest
    → IsAtStage u s w → u ≡ idle → ⊥
not_idle s w arena rest idle e at same = cc (e, at.none_out)
not_idle s w arena rest (preparing zones) e at same = cc same
not_idle s w arena rest (collecting zones marking groups) e at same = cc same

pub swept_running : (s t : Shown) (w : World) (arena : ℕ) (freed : List Name) → Represents w.graph s w
    → Sweeps s arena freed t → s.stage ≡ idle → ⊥
swept_running s t w arena freed r b e = not_idle s w arena b.rest s.stage b.first r.stage_is e

swept_made : (s t : Shown) (w : World) (arena : ℕ) (freed : List Name) → StandsIn w.graph s w → IsSound w.graph t
    → Sweeps s arena freed t → s.told ≡ [] → IsMade s t w (report_text (report.Swept arena freed))
swept_made s t w arena freed st sound b told =
    let still = out_of s w arena b.rest s.stage b.first st.represents.stage_is in record {
      said = report.Swept arena freed;
      world = swept_world s t w st arena freed b;
      running = running_world st.represents (swept_running s t w arena freed st.represents b);
      not_done = λ e. cc e;
      lawful = swept_lawful s t w st arena freed b;
      stands = stands_after t w (swept_world s t w st arena freed b) (report.Swept arena freed) s st
          (swept_lawful s t w st arena freed b) (swept_represents s t w st arena freed b) sound;
      lines = ap (λ ns. report_text (report.Swept arena freed) ∷ told_lines ns)
          (sym (ap (λ (u : Shown). u.told) b.new_is ∙ told));
      counted = λ tally so_far h. still_counted s t w (swept_world s t w st arena freed b) tally so_far
          (report.Swept arena freed) 1 refl still (ap (λ (u : Shown). is_prepared u.stage) b.new_is ∙ still)
          (ap (λ (u : Shown). u.tally) b.new_is) h;
    }

-- a report but `done`
pub report_made : (s t : Shown) (w : World) (r : Report) → r ≢ report.Done → StandsIn w.graph s w → IsSound w.graph t
    → IsReported w.graph s r t → s.told ≡ [] → IsMade s t w (report_text r)
report_made s t w report.Started n st sound b told = started_made s t w st sound b told
report_made s t w (report.Groups groups) n st sound b told = formed_made s t w groups st sound b.0 b.1 told
report_made s t w (report.Ended group grays gone) n st sound b told =
    subst (λ ns. IsMade s t w (report_text (report.Ended group grays ns))) (sym b.0)
    (ended_made s t w group grays st sound b.1)
report_made s t w (report.Swept arena freed) n st sound b told = swept_made s t w arena freed st sound b told
report_made s t w report.Done n st sound b told = absurd (n refl)
report_made s t w (report.Stopped zones) n st sound b told = absurd b

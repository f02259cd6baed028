-- The laws of each world of a lawful run, carried over its steps.
use Rattle.std.proofs.Common.{inl, ◌≡◌, ◌∙◌, ℕ, List, [], ◌∷◌, refl, ap}
use Rattle.gz_names.specs.declared.names.Name.{Name}
use Rattle.gz_names.specs.declared.replies.Report.{Report}
use Rattle.gz_names.specs.declared.replies.Report.TheVariants as report
use Rattle.colour_defs.specs.Graph.{GraphState}
use Rattle.colour_defs.specs.Laws.{IsValid}
use Rattle.colour_defs.specs.Lawful.{IsLawfulReport, IsLawfulSweep, LastOfReset, Prepares, Resets}
use Rattle.colour_defs.specs.Lawful.{with_spent_preparing}
use Rattle.colour_defs.specs.World.{World}
use Rattle.colour_defs.proofs.ValidReports.{prepare_valid, preparing_respent, report_valid, reset_valid}
use Rattle.colour_defs.proofs.ValidReports.{retallied_valid, spent_retallied, sweep_valid}
use Rattle.judge.specs.Live.{IsValidLive}
use Rattle.judge.specs.Positions.{KeepsLaws}
use Rattle.judge.proofs.LiveReports.{live_retallied, prepare_live, report_live, reset_live, sweep_live}
use Rattle.judge.proofs.Sizes.{HasSizes}
use Rattle.judge.proofs.Spending.{spent_in}

pub laws_of : (w v : World) (h : GraphState) → KeepsLaws w → IsValid v → IsValidLive v → v.graph ≡ h
    → HasSizes w.graph h → KeepsLaws v
laws_of w v h laws valid live graph sizes = record {
  valid = valid;
  live = live;
  registers = ap (λ g. Rattle.std.specs.Prelude.length g.registers) graph ∙ sizes.registers ∙ laws.registers;
  slots = ap (λ g. Rattle.std.specs.Prelude.length g.slots) graph ∙ sizes.slots ∙ laws.slots;
}

same_sizes : (g : GraphState) → HasSizes g g
same_sizes g = record { registers = refl; slots = refl }

pub laws_prepare : (w : World) (zones : List ℕ) (v : World) → KeepsLaws w → Prepares w zones v → KeepsLaws v
laws_prepare w zones v laws p = laws_of w v w.graph laws (prepare_valid w zones v laws.valid p)
    (prepare_live w zones v p) (ap (λ (z : World). z.graph) p.world_is) (same_sizes w.graph)

-- reports leave the graph as it is
report_graph : (w : World) (r : Report) (v : World) → IsLawfulReport w r v → v.graph ≡ w.graph
report_graph w report.Started v h = ap (λ (z : World). z.graph) h.1.world_is
report_graph w (report.Groups groups) v h = ap (λ (z : World). z.graph) h.world_is
report_graph w (report.Ended zones grays told) v h = h.ends.graph_is
report_graph w (report.Swept arena freed) v h = ap (λ (z : World). z.graph) h.world_is
report_graph w report.Done v h = ap (λ (z : World). z.graph) h.world_is
report_graph w (report.Stopped zones) v h = absurd h

pub laws_report : (w : World) (r : Report) (v : World) → KeepsLaws w → IsLawfulReport w r v → KeepsLaws v
laws_report w r v laws h = laws_of w v w.graph laws (report_valid w r v laws.valid h)
    (report_live w r v laws.valid laws.live h) (report_graph w r v h) (same_sizes w.graph)

pub laws_sweep : (w : World) (arena : ℕ) (freed : List Name) (v : World) → KeepsLaws w → IsLawfulSweep w arena freed v
    → KeepsLaws v
laws_sweep w arena freed v laws h = laws_of w v w.graph laws (sweep_valid w arena freed v laws.valid h)
    (sweep_live w arena freed v laws.live h) (ap (λ (z : World). z.graph) h.world_is) (same_sizes w.graph)

-- the last report of a reset
resets_last : (w : World) (r : Report) (v : World) → LastOfReset w r v → Resets w (r ∷ []) v
resets_last w report.Started v h = absurd h
resets_last w (report.Groups groups) v h = absurd h
resets_last w (report.Ended zones grays told) v h = absurd h
resets_last w (report.Swept arena freed) v h = absurd h
resets_last w report.Done v h = record {
  running = inl (h.over.collection, h.over.running);
  sweeps = [];
  after = w;
  swept = refl;
  final = report.Done;
  ends = h;
  reports_are = refl;
}
resets_last w (report.Stopped zones) v h = record {
  running = h.running;
  sweeps = [];
  after = w;
  swept = refl;
  final = report.Stopped zones;
  ends = h;
  reports_are = refl;
}

last_graph : (w : World) (r : Report) (v : World) → LastOfReset w r v → v.graph ≡ w.graph
last_graph w report.Started v h = absurd h
last_graph w (report.Groups groups) v h = absurd h
last_graph w (report.Ended zones grays told) v h = absurd h
last_graph w (report.Swept arena freed) v h = absurd h
last_graph w report.Done v h = ap (λ (z : World). z.graph) h.world_is
last_graph w (report.Stopped zones) v h = ap (λ (z : World). z.graph) h.world_is

pub laws_last : (w : World) (r : Report) (v : World) → KeepsLaws w → LastOfReset w r v → KeepsLaws v
laws_last w r v laws h = let resets = resets_last w r v h in
    laws_of w v w.graph laws (reset_valid w (r ∷ []) v laws.valid resets) (reset_live w (r ∷ []) v resets)
    (last_graph w r v h) (same_sizes w.graph)

pub laws_spent : (w : World) (n : ℕ) → KeepsLaws w → KeepsLaws (spent_in n w)
laws_spent w n laws = laws_of w (spent_in n w) w.graph laws
    (retallied_valid w w.out w.white laws.valid (spent_retallied n w.collection) refl (preparing_respent n w.preparing)
    refl)
    (live_retallied w w.out w.white (with_spent_preparing n w.preparing)
    (spent_retallied n w.collection) refl laws.live)
    refl (same_sizes w.graph)

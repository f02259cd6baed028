-- A run that ends with `finish`, `collect` of all zones, and `colours`.
use Rattle.std.proofs.Common.{◌≡◌, inl, inr, List, [], ◌∷◌, ◌++◌, refl, sym, ap, subst, ◌∙◌}
use Rattle.std.specs.Prelude.{All}
use Rattle.gz_names.specs.Zones.{zones_in}
use Rattle.gz_names.specs.declared.zone_sets.ZoneSet.{ZoneSet}
use Rattle.gz_names.specs.declared.commands.Cmd.{Cmd}
use Rattle.gz_names.specs.declared.commands.Cmd.TheVariants.{Finish, Collect, Colours}
use Rattle.gz_names.specs.declared.replies.Reply.{Reply}
use Rattle.gz_names.specs.declared.replies.Report.{Report}
use Rattle.colour_defs.specs.Graph.{GraphState, empty_graph}
use Rattle.colour_defs.specs.World.{World, IsIdle, first_world}
use Rattle.colour_defs.specs.Lawful.{Answers, Run}
use Rattle.colour_defs.specs.Laws.{IsNoWeakCmd, IsValid}
use Rattle.colour_defs.proofs.LawsOfRuns.{lawful_valid}
use Rattle.colour_defs.proofs.ValidRuns.{answer_valid}
use Rattle.collection_laws.specs.Collected.{AreAllZones, IsCollected}
use Rattle.collection_laws.specs.Graphs.{graph_after}
use Rattle.collection_laws.proofs.Graphs.{answer_graph, run_graph}
use Rattle.collection_laws.proofs.Zones.{CompsAreMade, none_made, run_made}
use Rattle.collection_laws.proofs.Collecting.{collected, still_idle}

-- a run of two lists of commands is a run of each
split_run : (w : World) (cs ds : List Cmd) (answers : List (List Report × Reply)) (v : World)
    → Run w (cs ++ ds) answers v
    → (u : World) × (first : List (List Report × Reply)) × (rest : List (List Report × Reply))
    × Run w cs first u × Run u ds rest v
split_run w [] ds answers v h = (w, [], answers, refl, h)
split_run w (c ∷ cs) ds [] v h = absurd h
split_run w (c ∷ cs) ds (a ∷ answers) v (u, first, rest) =
    let more = split_run u cs ds answers v rest in
    (more.0, a ∷ more.1, more.2, (u, first, more.3), more.4)

-- after `finish` no collection runs
finish_idle : (w : World) (reports : List Report) (answer : Reply) (v : World)
    → Answers w Finish reports answer v → IsIdle v
finish_idle w reports answer v (inl h) = h.3
finish_idle w reports answer v (inr h) = subst (λ (z : World). IsIdle z) (sym h.2.same) h.1

-- so a collection of all zones is not refused
collect_collected : (w : World) (zones : ZoneSet) (reports : List Report) (answer : Reply) (v : World)
    → IsValid w → CompsAreMade w.graph → AreAllZones w.graph (zones_in zones) → IsIdle w
    → Answers w (Collect zones) reports answer v → IsCollected v
collect_collected w zones reports answer v ok made named idle (inl h) =
    collected w (zones_in zones) reports v ok made named h.1
collect_collected w zones reports answer v ok made named idle (inr (inl h)) = absurd (still_idle w idle h.1)
collect_collected w zones reports answer v ok made named idle (inr (inr h)) =
    absurd (h.2 (λ z c. (named z).0 c))

colours_same : (w : World) (reports : List Report) (answer : Reply) (v : World)
    → Answers w Colours reports answer v → v ≡ w
colours_same w reports answer v (inl h) = h.4.same
colours_same w reports answer v (inr h) = h.2.same

last_lines : (w : World) (zones : ZoneSet) (answers : List (List Report × Reply)) (v : World)
    → IsValid w → CompsAreMade w.graph → AreAllZones w.graph (zones_in zones)
    → Run w (Finish ∷ Collect zones ∷ Colours ∷ []) answers v → IsCollected v × (v.graph ≡ w.graph)
last_lines w zones [] v ok made named h = absurd h
last_lines w zones (a ∷ []) v ok made named h = absurd h.2
last_lines w zones (a ∷ b ∷ []) v ok made named h = absurd h.2.2
last_lines w zones (a ∷ b ∷ c ∷ d ∷ more) v ok made named h = absurd h.2.2.2
last_lines w zones (a ∷ b ∷ c ∷ []) v ok made named (u, first, (t, second, (s, third, h))) =
    let kept : u.graph ≡ w.graph = answer_graph w Finish a.0 a.1 u (λ k e. cc e) first in
    let idle = finish_idle w a.0 a.1 u first in
    let all : IsCollected t = collect_collected u zones b.0 b.1 t (answer_valid w Finish a.0 a.1 u ok first)
    (subst CompsAreMade (sym kept) made)
    (subst (λ (g : GraphState). AreAllZones g (zones_in zones)) (sym kept) named) idle second in
    let end : v ≡ t = h ∙ colours_same t c.0 c.1 s third in
    let again : t.graph ≡ u.graph = answer_graph u (Collect zones) b.0 b.1 t (λ k e. cc e) second in (
      subst (λ (z : World). IsCollected z) (sym end) all,
      ap (λ (z : World). z.graph) end ∙ again ∙ kept,
    )

pub run_collected : (cs : List Cmd) (answers : List (List Report × Reply)) (v : World)
    (zones : ZoneSet) → All IsNoWeakCmd cs → AreAllZones (graph_after empty_graph cs) (zones_in zones)
    → Run first_world (cs ++ Finish ∷ Collect zones ∷ Colours ∷ []) answers v
    → IsCollected v × (v.graph ≡ graph_after empty_graph cs)
run_collected cs answers v zones plain named run =
    let parts = split_run first_world cs (Finish ∷ Collect zones ∷ Colours ∷ []) answers v run in
    let graph : parts.0.graph ≡ graph_after empty_graph cs =
    run_graph first_world cs parts.1 parts.0 plain parts.3 in
    let end = last_lines parts.0 zones parts.2 v (lawful_valid cs parts.1 parts.0 parts.3)
    (run_made first_world cs parts.1 parts.0 none_made parts.3)
    (subst (λ (g : GraphState). AreAllZones g (zones_in zones)) (sym graph) named) parts.4 in
    (end.0, end.1 ∙ graph)

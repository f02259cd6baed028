-- What each lawful step does to the graph.
use Rattle.std.proofs.Common.{◌≡◌, ℕ, inl, inr, List, [], ◌∷◌, refl, sym, ap, ◌∙◌, Option, Some, None}
use Rattle.std.proofs.Common.{Bool, true, false, cond}
use Rattle.std.specs.Prelude.{All}
use Rattle.std.specs.FinSet as set
use Rattle.std.proofs.lemmas.List.Elements.{All-head, All-tail}
use Rattle.gz_names.specs.Zones.{zones_in}
use Rattle.gz_names.specs.declared.names.Name.{Name}
use Rattle.gz_names.specs.declared.commands.GraphCmd.{GraphCmd}
use Rattle.gz_names.specs.declared.commands.WeakCmd.{WeakCmd}
use Rattle.gz_names.specs.declared.commands.WeakCmd.TheVariants.{Weaken, Deref, Watch, Unwatch}
use Rattle.gz_names.specs.declared.commands.Cmd.{Cmd}
use Rattle.gz_names.specs.declared.commands.Cmd.TheVariants.{Graph, Weak, Gc, Slice, Finish, Collect, Reset, Colours}
use Rattle.gz_names.specs.declared.commands.Cmd.TheVariants.{Dump, Compact}
use Rattle.gz_names.specs.declared.replies.Reply.{Reply}
use Rattle.gz_names.specs.declared.replies.Reply.TheVariants as reply
use Rattle.gz_names.specs.declared.replies.Refusal.{Refusal}
use Rattle.gz_names.specs.declared.replies.Report.{Report}
use Rattle.gz_names.specs.declared.replies.Report.TheVariants.{Started, Groups, Ended, Swept, Done, Stopped}
use Rattle.colour_defs.specs.Graph.{GraphState, register_cell}
use Rattle.colour_defs.specs.Step.{step_of, refusal_in, with_register}
use Rattle.colour_defs.specs.World.{World, Preparation, Collection, Accepts, AcceptsPreparing, AcceptsIn}
use Rattle.colour_defs.specs.World.{AcceptsUnless, CommandInWorld, with_counts, woken_by, also_woken_by}
use Rattle.colour_defs.specs.WeakRefs.{WeakInWorld, weak_cell, watch_cell, unwatch_cell, with_read, without_watched}
use Rattle.colour_defs.specs.Lawful.{Prepares, Answers, Run, IsLawfulReport}
use Rattle.colour_defs.specs.Lawful.{IsLawfulUnit, quiet, says, last, AreLawfulUnits, AreLawfulSweeps, LastOfReset}
use Rattle.colour_defs.specs.Lawful.{RefusesToBegin, RefusesIdle, Slices}
use Rattle.colour_defs.specs.Laws.{IsNoWeakCmd}
use Rattle.colour_defs.proofs.Refused.{refused_keeps}
use Rattle.collection_laws.specs.Graphs.{graph_by, graph_after}

-- an accepted command leads to the graph that was worked out for it
accepted_graph : (w : World) (k : Option Collection) (g : GraphState) (x : Option Name) (v : World) → Accepts w k g x v
    → v.graph ≡ g
accepted_graph w k g None v h = ap (λ (u : World). u.graph) h
accepted_graph w k g (Some x) v h = h.0.graph_is

prepared_graph : (w : World) (p : Preparation) (g : GraphState) (x y : Option Name) (v : World)
    → AcceptsPreparing w p g x y v → v.graph ≡ g
prepared_graph w p g None None v h = ap (λ (u : World). u.graph) h
prepared_graph w p g None (Some y) v h = ap (λ (u : World). u.graph) h.0
prepared_graph w p g (Some x) y v h = h.0.graph_is

taken_graph : (o : Option Preparation) (w : World) (k : Option Collection) (g : GraphState) (x y : Option Name)
    (v : World) → AcceptsIn o w k g x y v → v.graph ≡ g
taken_graph None w k g x y v h = accepted_graph w k g x v h
taken_graph (Some p) w k g x y v h = prepared_graph w p g x y v h

pub command_graph : (w : World) (c : GraphCmd) (answer : Reply) (v : World) → CommandInWorld w c answer v
    → v.graph ≡ (step_of w.graph c).0
command_graph w c answer v h = go (refusal_in (step_of w.graph c).1) refl h.1
  where
    go : (o : Option Refusal) → refusal_in (step_of w.graph c).1 ≡ o
        → AcceptsUnless o w (with_counts w.graph c w.collection) (step_of w.graph c).0 (woken_by w.graph c)
        (also_woken_by w.graph c) v → v.graph ≡ (step_of w.graph c).0
    go (Some why) e q = ap (λ (u : World). u.graph) q ∙ sym (refused_keeps w.graph c why e)
    go None e q = taken_graph w.preparing w (with_counts w.graph c w.collection) (step_of w.graph c).0
        (woken_by w.graph c) (also_woken_by w.graph c) v q

-- a report keeps it
pub report_graph : (w : World) (r : Report) (v : World) → IsLawfulReport w r v → v.graph ≡ w.graph
report_graph w Started v h = ap (λ (u : World). u.graph) h.1.world_is
report_graph w (Groups groups) v h = ap (λ (u : World). u.graph) h.world_is
report_graph w (Ended zones grays told) v h = h.ends.graph_is
report_graph w (Swept arena freed) v h = ap (λ (u : World). u.graph) h.world_is
report_graph w Done v h = ap (λ (u : World). u.graph) h.world_is
report_graph w (Stopped zones) v h = absurd h

pub unit_graph : (w : World) {rs : List Report} {v : World} → IsLawfulUnit w rs v → v.graph ≡ w.graph
unit_graph w (quiet run) = refl
unit_graph w (says {r} {v} run not h more) = report_graph w r v h
unit_graph w (last {r} {u} {v} run not h done) = report_graph u Done v done ∙ report_graph w r u h

pub units_graph : (w : World) (units : List (List Report)) (v : World) → AreLawfulUnits w units v → v.graph ≡ w.graph
units_graph w [] v h = ap (λ (u : World). u.graph) h
units_graph w (unit ∷ units) v (u, first, rest) = units_graph u units v rest ∙ unit_graph w first

sweeps_graph : (w : World) (rs : List Report) (v : World) → AreLawfulSweeps w rs v → v.graph ≡ w.graph
sweeps_graph w [] v h = ap (λ (u : World). u.graph) h
sweeps_graph w (Swept arena freed ∷ rs) v (u, first, rest) =
    sweeps_graph u rs v rest ∙ report_graph w (Swept arena freed) u first
sweeps_graph w (Started ∷ rs) v h = absurd h
sweeps_graph w (Groups groups ∷ rs) v h = absurd h
sweeps_graph w (Ended zones grays told ∷ rs) v h = absurd h
sweeps_graph w (Done ∷ rs) v h = absurd h
sweeps_graph w (Stopped zones ∷ rs) v h = absurd h

reset_graph : (w : World) (r : Report) (v : World) → LastOfReset w r v → v.graph ≡ w.graph
reset_graph w Started v h = absurd h
reset_graph w (Groups groups) v h = absurd h
reset_graph w (Ended zones grays told) v h = absurd h
reset_graph w (Swept arena freed) v h = absurd h
reset_graph w Done v h = ap (λ (u : World). u.graph) h.world_is
reset_graph w (Stopped zones) v h = ap (λ (u : World). u.graph) h.world_is

pub begins_graph : (w : World) (zones : List ℕ) (v : World) → Prepares w zones v → v.graph ≡ w.graph
begins_graph w zones v h = ap (λ (u : World). u.graph) h.world_is

slices_graph : (w : World) (reports : List Report) (n : ℕ) (v : World) → Slices w reports n v → v.graph ≡ w.graph
slices_graph w reports n v h =
    ap (λ (u : World). u.graph) h.world_is ∙ units_graph w h.units h.after h.done

refused_graph : (w : World) (zones : List ℕ) (reports : List Report) (answer : Reply) (v : World)
    → RefusesToBegin w zones reports answer v → v.graph ≡ w.graph
refused_graph w zones reports answer v (inl h) = ap (λ (u : World). u.graph) h.2.same
refused_graph w zones reports answer v (inr h) = ap (λ (u : World). u.graph) h.3.same

idle_graph : (w : World) (reports : List Report) (answer : Reply) (v : World) → RefusesIdle w reports answer v
    → v.graph ≡ w.graph
idle_graph w reports answer v h = ap (λ (u : World). u.graph) h.2.same

-- an answer to a command that is no weak one
pub answer_graph : (w : World) (c : Cmd) (reports : List Report) (answer : Reply) (v : World)
    → IsNoWeakCmd c → Answers w c reports answer v → v.graph ≡ graph_by w.graph c
answer_graph w (Graph c) reports answer v strong h = command_graph w c answer v h.1
answer_graph w (Weak c) reports answer v strong h = absurd (strong c refl)
answer_graph w (Gc zones) reports answer v strong (inl h) = begins_graph w (zones_in zones) v h.2
answer_graph w (Gc zones) reports answer v strong (inr h) = refused_graph w (zones_in zones) reports answer v h
answer_graph w (Slice n) reports answer v strong (inl h) = slices_graph w reports h.0 v h.2
answer_graph w (Slice n) reports answer v strong (inr h) = idle_graph w reports answer v h
answer_graph w Finish reports answer v strong (inl h) = slices_graph w reports h.0 v h.2
answer_graph w Finish reports answer v strong (inr h) = idle_graph w reports answer v h
answer_graph w (Collect zones) reports answer v strong (inl h) =
    units_graph h.1.begun h.1.units v h.1.done ∙ begins_graph w (zones_in zones) h.1.begun h.1.begins
answer_graph w (Collect zones) reports answer v strong (inr h) = refused_graph w (zones_in zones) reports answer v h
answer_graph w Reset reports answer v strong (inl h) =
    reset_graph h.1.after h.1.final v h.1.ends ∙ sweeps_graph w h.1.sweeps h.1.after h.1.swept
answer_graph w Reset reports answer v strong (inr h) = idle_graph w reports answer v h
answer_graph w Colours reports answer v strong (inl h) = ap (λ (u : World). u.graph) h.4.same
answer_graph w Colours reports answer v strong (inr h) = ap (λ (u : World). u.graph) h.2.same
answer_graph w Dump reports answer v strong (inl h) = ap (λ (u : World). u.graph) h.4.same
answer_graph w Dump reports answer v strong (inr h) = ap (λ (u : World). u.graph) h.2.same
answer_graph w (Compact zone) reports answer v strong (inl h) = ap (λ (u : World). u.graph) h.4.world_is
answer_graph w (Compact zone) reports answer v strong (inr h) = refused_graph w (zone ∷ []) reports answer v h

-- a weak command keeps the zones and the compartments
pub weak_zones : (w : World) (c : WeakCmd) (answer : Reply) (v : World) → WeakInWorld w c answer v
    → (v.graph.zones ≡ w.graph.zones) × (v.graph.comps ≡ w.graph.comps)
weak_zones w (Weaken q r) answer v h =
    (ap (λ (u : World). u.graph.zones) h.1, ap (λ (u : World). u.graph.comps) h.1)
weak_zones w (Deref r q) answer v h =
    let same = taken_graph w.preparing w (with_read w.graph (weak_cell w q) w.collection)
    (with_register w.graph r (weak_cell w q)) (weak_cell w q) None v h.1 in
    (ap (λ (g : GraphState). g.zones) same, ap (λ (g : GraphState). g.comps) same)
weak_zones w (Watch r) answer v h = go (register_cell w.graph r) h.1
  where
    go : (o : Option Name) → v ≡ (watch_cell w o).0
        → (v.graph.zones ≡ w.graph.zones) × (v.graph.comps ≡ w.graph.comps)
    go None e = (ap (λ (u : World). u.graph.zones) e, ap (λ (u : World). u.graph.comps) e)
    go (Some x) e = (ap (λ (u : World). u.graph.zones) e, ap (λ (u : World). u.graph.comps) e)
weak_zones w (Unwatch r) answer v h = go (register_cell w.graph r) h.1
  where
    by : (x : Name) (b : Bool)
        → v ≡ (cond {A = World × Reply} b (without_watched w x, reply.Accepted) (w, reply.Absent)).0
        → (v.graph.zones ≡ w.graph.zones) × (v.graph.comps ≡ w.graph.comps)
    by x true e = (ap (λ (u : World). u.graph.zones) e, ap (λ (u : World). u.graph.comps) e)
    by x false e = (ap (λ (u : World). u.graph.zones) e, ap (λ (u : World). u.graph.comps) e)

    go : (o : Option Name) → v ≡ (unwatch_cell w o).0
        → (v.graph.zones ≡ w.graph.zones) × (v.graph.comps ≡ w.graph.comps)
    go None e = (ap (λ (u : World). u.graph.zones) e, ap (λ (u : World). u.graph.comps) e)
    go (Some x) e = by x (set.contains w.weak.watched x) e

-- a run without weak commands
pub run_graph : (w : World) (cs : List Cmd) (answers : List (List Report × Reply)) (v : World)
    → All IsNoWeakCmd cs → Run w cs answers v → v.graph ≡ graph_after w.graph cs
run_graph w [] [] v all h = ap (λ (u : World). u.graph) h
run_graph w (c ∷ cs) (a ∷ answers) v all (u, first, rest) =
    run_graph u cs answers v (All-tail IsNoWeakCmd c cs all) rest
    ∙ ap (λ g. graph_after g cs) (answer_graph w c a.0 a.1 u (All-head IsNoWeakCmd c cs all) first)
run_graph w [] (a ∷ answers) v all h = absurd h
run_graph w (c ∷ cs) [] v all h = absurd h

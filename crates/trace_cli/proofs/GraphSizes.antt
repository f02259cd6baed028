-- How many objects and compartments a trace makes: no more objects than its lines, and no more compartments than the
-- limit.
use Rattle.std.proofs.Common.{◌≡◌, ℕ, suc, ◌+◌, ◌≤◌, inl, inr, List, [], ◌∷◌, length, refl, sym, ap, subst, ◌∙◌, arith}
use Rattle.std.proofs.Common.{Option, Some, None, slice_get, nat_lt, ltb-true}
use Rattle.std.specs.FinSet as set
use Rattle.gz_names.specs.Zones.{zones_in}
use Rattle.gz_names.specs.declared.limits.TheConstants.{ZONE_LIMIT, COMP_LIMIT}
use Rattle.gz_names.specs.declared.names.Name.{Name}
use Rattle.gz_names.specs.declared.names.Name.TheVariants.{Cell, Wrap}
use Rattle.gz_names.specs.declared.numbers.CompNo.{CompNo}
use Rattle.gz_names.specs.declared.commands.Cmd.{Cmd}
use Rattle.gz_names.specs.declared.commands.Cmd.TheVariants as command
use Rattle.gz_names.specs.declared.commands.GraphCmd.{GraphCmd}
use Rattle.gz_names.specs.declared.commands.GraphCmd.TheVariants as cmd
use Rattle.gz_names.specs.declared.commands.WeakCmd.{WeakCmd}
use Rattle.gz_names.specs.declared.commands.WeakCmd.TheVariants as weak_cmd
use Rattle.gz_names.specs.declared.replies.Reply.{Reply}
use Rattle.gz_names.specs.declared.replies.Refusal.{Refusal}
use Rattle.gz_names.specs.declared.replies.Report.{Report}
use Rattle.gz_names.specs.declared.replies.Report.TheVariants.{Started, Groups, Ended, Swept, Done, Stopped}
use Rattle.colour_defs.specs.declared.graph.Object.{Object}
use Rattle.colour_defs.specs.Graph.{GraphState, object_of, register_cell, slot_cell, has_wrapper, value_of}
use Rattle.colour_defs.specs.Step.{step_of, with_register, with_field_in, fits_comp, is_in_comp, get_from, get_in}
use Rattle.colour_defs.specs.Step.{get_value, set_from, set_in, value_to_set, wrap_from, unwrap_from, target_of}
use Rattle.colour_defs.specs.Step.{put_from, put_unless, del_from, del_unless, del_value, find_from, find_unless}
use Rattle.colour_defs.specs.Step.{entry_refusal, new_object, new_map, make_object, make_comp, refusal_in}
use Rattle.colour_defs.specs.World.{World, Preparation, Collection, AcceptsIn, AcceptsUnless, CommandInWorld}
use Rattle.colour_defs.specs.World.{first_world, with_counts, woken_by, also_woken_by}
use Rattle.colour_defs.specs.WeakRefs.{WeakInWorld, unwatch_cell, watch_cell, weak_cell, with_read}
use Rattle.colour_defs.specs.Lawful.{IsLawfulReport, IsLawfulUnit, quiet, says, last, AreLawfulUnits, AreLawfulSweeps}
use Rattle.colour_defs.specs.Lawful.{LastOfReset, Slices, Prepares, RefusesToBegin, Answers, Run}
use Rattle.colour_defs.proofs.Lists.{choose, length_push, length_set}
use Rattle.trace_cli.specs.Headline.{StandForAll, LeadsTo}

-- at most n objects, and no more compartments than the limit
pub record IsSized (n : ℕ) (g : GraphState) : Type 0 where
  pub objects : length g.objects ≤ n
  pub comps : length g.comps ≤ COMP_LIMIT

module _ (n : ℕ) (g : GraphState) (sized : IsSized n g) where
  -- a graph with as many of both
  kept : (h : GraphState) → length h.objects ≡ length g.objects → length h.comps ≡ length g.comps → IsSized (n + 1) h
  kept h os cs = record {
    objects = omega (arith, os, sized.objects);
    comps = subst (λ k. k ≤ COMP_LIMIT) (sym cs) sized.comps;
  }

  -- after one command there is at most one object more
  abbrev Fits : GraphState × Reply → Type 0
  Fits p = IsSized (n + 1) p.0

  get_fits : (r f : ℕ) (x : Option Name) → Fits (get_from g r x f)
  get_fits r f None = kept _ refl refl
  get_fits r f (Some (Wrap c t)) = kept _ refl refl
  get_fits r f (Some (Cell k)) = object (object_of g k)
    where
      value : (v : Option (Option Name)) → Fits (get_value g r v)
      value None = kept _ refl refl
      value (Some x) = kept _ refl refl

      object : (o : Option Object) → Fits (get_in g r o f)
      object None = kept _ refl refl
      object (Some o) = choose Fits o.is_map _ _ (λ _. kept _ refl refl) (λ _. value (slice_get o.fields f))

  set_fits : (f : ℕ) (x : Option Name) (v : Option (Option Name)) → Fits (set_from g x f v)
  set_fits f None v = kept _ refl refl
  set_fits f (Some x) None = kept _ refl refl
  set_fits f (Some (Wrap c t)) (Some v) = kept _ refl refl
  set_fits f (Some (Cell k)) (Some v) = object (object_of g k)
    where
      object : (o : Option Object) → Fits (set_in g k o f v)
      object None = kept _ refl refl
      object (Some o) =
          choose Fits o.is_map _ _ (λ _. kept _ refl refl)
          (λ _. choose Fits (nat_lt f (length o.fields)) _ _
          (λ _. choose Fits (fits_comp g o.comp v) _ _
          (λ _. kept _ (length_set g.objects k (with_field_in (Some o) f v)) refl) (λ _. kept _ refl refl))
          (λ _. kept _ refl refl))

  wrap_fits : (r : ℕ) (c : CompNo) (x : Option Name) → Fits (wrap_from g r x c)
  wrap_fits r c None = kept _ refl refl
  wrap_fits r c (Some x) =
      choose Fits (nat_lt c.0 (length g.comps)) _ _
      (λ _. choose Fits (is_in_comp g c (Cell (target_of x))) _ _ (λ _. kept _ refl refl)
      (λ _. choose Fits (has_wrapper g c (target_of x)) _ _ (λ _. kept _ refl refl) (λ _. kept _ refl refl)))
      (λ _. kept _ refl refl)

  unwrap_fits : (r : ℕ) (x : Option Name) → Fits (unwrap_from g r x)
  unwrap_fits r None = kept _ refl refl
  unwrap_fits r (Some (Cell k)) = kept _ refl refl
  unwrap_fits r (Some (Wrap c t)) = kept _ refl refl

  take_fits : (r : ℕ) (x : Option Name) → IsSized (n + 1) (with_register g r x)
  take_fits r x = kept _ refl refl

  put_fits : (m k v : Option Name) → Fits (put_from g m k v)
  put_fits None k v = kept _ refl refl
  put_fits (Some m) None v = kept _ refl refl
  put_fits (Some m) (Some k) None = kept _ refl refl
  put_fits (Some m) (Some k) (Some v) = unless (entry_refusal g m k v)
    where
      unless : (o : Option Refusal) → Fits (put_unless g m k v o)
      unless (Some why) = kept _ refl refl
      unless None = kept _ refl refl

  del_fits : (m k : Option Name) → Fits (del_from g m k)
  del_fits None k = kept _ refl refl
  del_fits (Some m) None = kept _ refl refl
  del_fits (Some m) (Some k) = unless (entry_refusal g m k k)
    where
      value : (v : Option Name) → Fits (del_value g m k v)
      value None = kept _ refl refl
      value (Some v) = kept _ refl refl

      unless : (o : Option Refusal) → Fits (del_unless g m k o)
      unless (Some why) = kept _ refl refl
      unless None = value (value_of g m k)

  find_fits : (r : ℕ) (m k : Option Name) → Fits (find_from g r m k)
  find_fits r None k = kept _ refl refl
  find_fits r (Some m) None = kept _ refl refl
  find_fits r (Some m) (Some k) = unless (entry_refusal g m k k)
    where
      unless : (o : Option Refusal) → Fits (find_unless g r m k o)
      unless (Some why) = kept _ refl refl
      unless None = take_fits r (value_of g m k)

  make_fits : (r : ℕ) (o : Object) → Fits (make_object g r o)
  make_fits r o =
      choose Fits (nat_lt o.comp.0 (length g.comps)) _ _
      (λ _. record {
        objects = let more = length_push g.objects (Some o) in omega (arith, more, sized.objects);
        comps = sized.comps;
      })
      (λ _. kept _ refl refl)

  comp_fits : (z : ℕ) → Fits (make_comp g z)
  comp_fits z =
      choose Fits (nat_lt z g.zones) _ _
      (λ _. choose Fits (nat_lt (length g.comps) COMP_LIMIT) _ _
      (λ free. record {
        objects = omega (arith, sized.objects);
        comps = let more = length_push g.comps z in
            let below = ltb-true (length g.comps) COMP_LIMIT free in omega (arith, more, below);
      })
      (λ _. kept _ refl refl)) (λ _. kept _ refl refl)

  step_fits : (c : GraphCmd) → Fits (step_of g c)
  step_fits cmd.Zone = choose Fits (nat_lt g.zones ZONE_LIMIT) _ _ (λ _. kept _ refl refl) (λ _. kept _ refl refl)
  step_fits (cmd.Comp z) = comp_fits z
  step_fits (cmd.New r c k) = make_fits r (new_object c k)
  step_fits (cmd.Map r c) = make_fits r (new_map c)
  step_fits (cmd.Get r s f) = get_fits r f (register_cell g s)
  step_fits (cmd.Set s f t) = set_fits f (register_cell g s) (value_to_set g t)
  step_fits (cmd.Wrap r s c) = wrap_fits r c (register_cell g s)
  step_fits (cmd.Unwrap r s) = unwrap_fits r (register_cell g s)
  step_fits (cmd.Copy r s) = take_fits r (register_cell g s)
  step_fits (cmd.Drop r) = take_fits r None
  step_fits (cmd.Hold s r) = kept _ refl refl
  step_fits (cmd.Release s) = kept _ refl refl
  step_fits (cmd.Expose r s) = take_fits r (slot_cell g s)
  step_fits (cmd.Put m k v) = put_fits (register_cell g m) (register_cell g k) (register_cell g v)
  step_fits (cmd.Del m k) = del_fits (register_cell g m) (register_cell g k)
  step_fits (cmd.Find r m k) = find_fits r (register_cell g m) (register_cell g k)

abbrev graph_in : World → GraphState
graph_in w = w.graph

accepted_graph : (w v : World) (collection : Option Collection) (graph : GraphState) (p : Option Preparation)
    (first also : Option Name) → AcceptsIn p w collection graph first also v → v.graph ≡ graph
accepted_graph w v collection graph None None also a = ap graph_in a
accepted_graph w v collection graph None (Some x) also a = a.0.graph_is
accepted_graph w v collection graph (Some p) None None a = ap graph_in a
accepted_graph w v collection graph (Some p) None (Some y) a = ap graph_in a.0
accepted_graph w v collection graph (Some p) (Some x) also a = a.0.graph_is

-- what leaves the graph as it is
watched_graph : (w : World) (x : Option Name) → graph_in (watch_cell w x).0 ≡ w.graph
watched_graph w None = refl
watched_graph w (Some x) = refl

unwatched_graph : (w : World) (x : Option Name) → graph_in (unwatch_cell w x).0 ≡ w.graph
unwatched_graph w None = refl
unwatched_graph w (Some x) =
    choose (λ (p : World × Reply). graph_in p.0 ≡ w.graph) (set.contains w.weak.watched x) _ _ (λ _. refl) (λ _. refl)

report_graph : (w : World) (r : Report) (v : World) → IsLawfulReport w r v → v.graph ≡ w.graph
report_graph w Started v h = ap graph_in h.1.world_is
report_graph w (Groups groups) v h = ap graph_in h.world_is
report_graph w (Ended zones grays told) v h = h.ends.graph_is
report_graph w (Swept arena freed) v h = ap graph_in h.world_is
report_graph w Done v h = ap graph_in h.world_is
report_graph w (Stopped zones) v h = absurd h

unit_graph : (w : World) (reports : List Report) (v : World) → IsLawfulUnit w reports v → v.graph ≡ w.graph
unit_graph w reports v (quiet runs) = refl
unit_graph w reports v (says {r} runs plain h more) = report_graph w r v h
unit_graph w reports v (last {r} {u} runs plain h done) = report_graph u Done v done ∙ report_graph w r u h

units_graph : (w : World) (units : List (List Report)) (v : World) → AreLawfulUnits w units v → v.graph ≡ w.graph
units_graph w [] v h = ap graph_in h
units_graph w (unit ∷ units) v (u, first, rest) = units_graph u units v rest ∙ unit_graph w unit u first

sweeps_graph : (w : World) (reports : List Report) (v : World) → AreLawfulSweeps w reports v → v.graph ≡ w.graph
sweeps_graph w [] v h = ap graph_in h
sweeps_graph w (Swept arena freed ∷ reports) v (u, first, rest) =
    sweeps_graph u reports v rest ∙ ap graph_in first.world_is
sweeps_graph w (Started ∷ reports) v h = absurd h
sweeps_graph w (Groups groups ∷ reports) v h = absurd h
sweeps_graph w (Ended zones grays told ∷ reports) v h = absurd h
sweeps_graph w (Done ∷ reports) v h = absurd h
sweeps_graph w (Stopped zones ∷ reports) v h = absurd h

last_graph : (w : World) (r : Report) (v : World) → LastOfReset w r v → v.graph ≡ w.graph
last_graph w Started v h = absurd h
last_graph w (Groups groups) v h = absurd h
last_graph w (Ended zones grays told) v h = absurd h
last_graph w (Swept arena freed) v h = absurd h
last_graph w Done v h = ap graph_in h.world_is
last_graph w (Stopped zones) v h = ap graph_in h.world_is

begun_graph : (w : World) (zones : List ℕ) (v : World) → Prepares w zones v → v.graph ≡ w.graph
begun_graph w zones v h = ap graph_in h.world_is

sliced_graph : (w : World) (reports : List Report) (k : ℕ) (v : World) → Slices w reports k v → v.graph ≡ w.graph
sliced_graph w reports k v h = ap graph_in h.world_is ∙ units_graph w h.units h.after h.done

refused_graph : (w : World) (zones : List ℕ) (reports : List Report) (answer : Reply) (v : World)
    → RefusesToBegin w zones reports answer v → v.graph ≡ w.graph
refused_graph w zones reports answer v (inl h) = ap graph_in h.2.same
refused_graph w zones reports answer v (inr h) = ap graph_in h.3.same

-- after one answer there is at most one object more
module _ (n : ℕ) (w v : World) (sized : IsSized n w.graph) where
  still : v.graph ≡ w.graph → IsSized (n + 1) v.graph
  still e = subst (λ g. IsSized (n + 1) g) (sym e) (kept n w.graph sized w.graph refl refl)

  command_sized : (c : GraphCmd) (answer : Reply) → CommandInWorld w c answer v → IsSized (n + 1) v.graph
  command_sized c answer h = go (refusal_in (step_of w.graph c).1) h.1
    where
      go : (o : Option Refusal)
          → AcceptsUnless o w (with_counts w.graph c w.collection) (step_of w.graph c).0 (woken_by w.graph c)
          (also_woken_by w.graph c) v → IsSized (n + 1) v.graph
      go (Some why) same = still (ap graph_in same)
      go None a = subst (λ g. IsSized (n + 1) g)
          (sym (accepted_graph w v (with_counts w.graph c w.collection) (step_of w.graph c).0 w.preparing
          (woken_by w.graph c) (also_woken_by w.graph c) a)) (step_fits n w.graph sized c)

  weak_sized : (c : WeakCmd) (answer : Reply) → WeakInWorld w c answer v → IsSized (n + 1) v.graph
  weak_sized (weak_cmd.Weaken q r) answer h = still (ap graph_in h.1)
  weak_sized (weak_cmd.Deref r q) answer h = subst (λ g. IsSized (n + 1) g)
      (sym (accepted_graph w v (with_read w.graph (weak_cell w q) w.collection)
      (with_register w.graph r (weak_cell w q)) w.preparing (weak_cell w q) None h.1))
      (take_fits n w.graph sized r (weak_cell w q))
  weak_sized (weak_cmd.Watch r) answer h = still (ap graph_in h.1 ∙ watched_graph w (register_cell w.graph r))
  weak_sized (weak_cmd.Unwatch r) answer h = still (ap graph_in h.1 ∙ unwatched_graph w (register_cell w.graph r))

  answer_sized : (c : Cmd) (reports : List Report) (answer : Reply) → Answers w c reports answer v
      → IsSized (n + 1) v.graph
  answer_sized (command.Graph c) reports answer h = command_sized c answer h.1
  answer_sized (command.Weak c) reports answer h = weak_sized c answer h.1
  answer_sized (command.Gc zones) reports answer (inl h) = still (begun_graph w (zones_in zones) v h.2)
  answer_sized (command.Gc zones) reports answer (inr h) =
      still (refused_graph w (zones_in zones) reports answer v h)
  answer_sized (command.Slice k) reports answer (inl h) = still (sliced_graph w reports h.0 v h.2)
  answer_sized (command.Slice k) reports answer (inr h) = still (ap graph_in h.2.same)
  answer_sized command.Finish reports answer (inl h) = still (sliced_graph w reports h.0 v h.2)
  answer_sized command.Finish reports answer (inr h) = still (ap graph_in h.2.same)
  answer_sized (command.Collect zones) reports answer (inl h) =
      still (units_graph h.1.begun h.1.units v h.1.done ∙ begun_graph w (zones_in zones) h.1.begun h.1.begins)
  answer_sized (command.Collect zones) reports answer (inr h) =
      still (refused_graph w (zones_in zones) reports answer v h)
  answer_sized command.Reset reports answer (inl h) =
      still (last_graph h.1.after h.1.final v h.1.ends ∙ sweeps_graph w h.1.sweeps h.1.after h.1.swept)
  answer_sized command.Reset reports answer (inr h) = still (ap graph_in h.2.same)
  answer_sized command.Colours reports answer (inl h) = still (ap graph_in h.4.same)
  answer_sized command.Colours reports answer (inr h) = still (ap graph_in h.2.same)
  answer_sized command.Dump reports answer (inl h) = still (ap graph_in h.4.same)
  answer_sized command.Dump reports answer (inr h) = still (ap graph_in h.2.same)
  answer_sized (command.Compact zone) reports answer (inl h) = still (ap graph_in h.4.world_is)
  answer_sized (command.Compact zone) reports answer (inr h) =
      still (refused_graph w (zone ∷ []) reports answer v h)

-- after all answers there are at most as many objects as commands, and those there were
run_sized : (m n : ℕ) (w : World) (cs : List Cmd) (answers : List (List Report × Reply)) (v : World)
    → n + length cs ≤ m → IsSized n w.graph → Run w cs answers v → IsSized m v.graph
run_sized m n w [] [] v few sized same = subst (λ z. IsSized m (graph_in z)) (sym same)
    (record { objects = omega (arith, few, sized.objects); comps = sized.comps })
run_sized m n w (c ∷ cs) (a ∷ answers) v few sized (u, first, rest) =
    run_sized m (n + 1) u cs answers v (omega (arith, few)) (answer_sized n w u sized c a.0 a.1 first) rest
run_sized m n w [] (a ∷ answers) v few sized run = absurd run
run_sized m n w (c ∷ cs) [] v few sized run = absurd run

as_many : (lines : List (List ℕ)) (cs : List Cmd) → StandForAll lines cs → length cs ≡ length lines
as_many [] [] stand = refl
as_many (line ∷ lines) (c ∷ cs) stand = ap suc (as_many lines cs stand.1)
as_many [] (c ∷ cs) stand = absurd stand
as_many (line ∷ lines) [] stand = absurd stand

pub trace_sized : (m : ℕ) (lines : List (List ℕ)) (output : List ℕ) (w : World) → length lines ≤ m
    → LeadsTo lines output w → IsSized m w.graph
trace_sized m lines output w few leads =
    run_sized m 0 first_world leads.commands leads.answers w
    (let many = as_many lines leads.commands leads.stand in omega (arith, few, many))
    (record { objects = omega arith; comps = omega arith }) leads.run

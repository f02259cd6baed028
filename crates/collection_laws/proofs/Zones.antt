-- Zones and compartments: each compartment is of a zone that was made.
use Rattle.std.proofs.Common.{◌≡◌, ℕ, ◌+◌, ◌<◌, inl, inr, List, [], ◌∷◌, ◌++◌, length, refl, sym, ap, subst, ◌∙◌, arith}
use Rattle.std.proofs.Common.{Option, Some, None, Contains, slice_get, nat_lt}
use Rattle.std.specs.Prelude.{◌≢◌, All}
use Rattle.std.proofs.lemmas.Bool.{ltb-true}
use Rattle.std.proofs.lemmas.List.Elements.{All-head, All-tail, Contains-push_cases}
use Rattle.gz_names.specs.declared.limits.TheConstants.{ZONE_LIMIT, COMP_LIMIT}
use Rattle.gz_names.specs.declared.names.Name.{Name}
use Rattle.gz_names.specs.declared.names.Name.TheVariants.{Cell, Wrap}
use Rattle.gz_names.specs.declared.numbers.CompNo.{CompNo}
use Rattle.gz_names.specs.declared.commands.GraphCmd.{GraphCmd}
use Rattle.gz_names.specs.declared.commands.GraphCmd.TheVariants as cmd
use Rattle.gz_names.specs.declared.commands.Cmd.{Cmd}
use Rattle.gz_names.specs.declared.commands.Cmd.TheVariants.{Graph, Weak, Gc, Slice, Finish, Collect, Reset, Colours}
use Rattle.gz_names.specs.declared.commands.Cmd.TheVariants.{Dump, Compact}
use Rattle.gz_names.specs.declared.replies.Reply.{Reply}
use Rattle.gz_names.specs.declared.replies.Refusal.{Refusal}
use Rattle.gz_names.specs.declared.replies.Report.{Report}
use Rattle.colour_defs.specs.declared.graph.Object.{Object}
use Rattle.colour_defs.specs.Graph.{GraphState, object_of, register_cell, has_wrapper, value_of, zone_of}
use Rattle.colour_defs.specs.Graph.{comp_of, zone_of_comp}
use Rattle.colour_defs.specs.Step.{step_of, make_object, new_object, new_map, get_from, get_in, get_value, set_from}
use Rattle.colour_defs.specs.Step.{set_in, value_to_set, fits_comp, wrap_from, unwrap_from, target_of}
use Rattle.colour_defs.specs.Step.{is_in_comp, put_from, put_unless, del_from, del_unless, del_value, find_from}
use Rattle.colour_defs.specs.Step.{find_unless, entry_refusal}
use Rattle.colour_defs.specs.World.{World, first_world}
use Rattle.colour_defs.specs.Lawful.{Answers, Run}
use Rattle.colour_defs.proofs.Lists.{choose, contains_at, nothing_in_none}
use Rattle.collection_laws.specs.Graphs.{MakesNoZone, graph_after, graph_by}
use Rattle.collection_laws.proofs.Graphs.{answer_graph, weak_zones}

-- no zone and no compartment was made
abbrev pub SameZones : GraphState → GraphState → Type 0
SameZones g h = (h.zones ≡ g.zones) × (h.comps ≡ g.comps)

abbrev Keeps : GraphState → GraphState × Reply → Type 0
Keeps g p = SameZones g p.0

get_in_keeps : (g : GraphState) (r f : ℕ) (o : Option Object) → Keeps g (get_in g r o f)
get_in_keeps g r f None = (refl, refl)
get_in_keeps g r f (Some o) =
    choose (Keeps g) o.is_map _ _ (λ _. (refl, refl)) (λ _. go (slice_get o.fields f))
  where
    go : (x : Option (Option Name)) → Keeps g (get_value g r x)
    go None = (refl, refl)
    go (Some x) = (refl, refl)

get_keeps : (g : GraphState) (r f : ℕ) (x : Option Name) → Keeps g (get_from g r x f)
get_keeps g r f None = (refl, refl)
get_keeps g r f (Some (Wrap c t)) = (refl, refl)
get_keeps g r f (Some (Cell n)) = get_in_keeps g r f (object_of g n)

set_in_keeps : (g : GraphState) (n f : ℕ) (v : Option Name) (o : Option Object) → Keeps g (set_in g n o f v)
set_in_keeps g n f v None = (refl, refl)
set_in_keeps g n f v (Some o) =
    choose (Keeps g) o.is_map _ _ (λ _. (refl, refl))
    (λ _. choose (Keeps g) (nat_lt f (length o.fields)) _ _
    (λ _. choose (Keeps g) (fits_comp g o.comp v) _ _ (λ _. (refl, refl)) (λ _. (refl, refl))) (λ _. (refl, refl)))

set_keeps : (g : GraphState) (f : ℕ) (x : Option Name) (v : Option (Option Name)) → Keeps g (set_from g x f v)
set_keeps g f None v = (refl, refl)
set_keeps g f (Some x) None = (refl, refl)
set_keeps g f (Some (Wrap c t)) (Some v) = (refl, refl)
set_keeps g f (Some (Cell n)) (Some v) = set_in_keeps g n f v (object_of g n)

wrap_keeps : (g : GraphState) (r : ℕ) (c : CompNo) (x : Option Name) → Keeps g (wrap_from g r x c)
wrap_keeps g r c None = (refl, refl)
wrap_keeps g r c (Some x) =
    choose (Keeps g) (nat_lt c.0 (length g.comps)) _ _
    (λ _. choose (Keeps g) (is_in_comp g c (Cell (target_of x))) _ _ (λ _. (refl, refl))
    (λ _. choose (Keeps g) (has_wrapper g c (target_of x)) _ _ (λ _. (refl, refl)) (λ _. (refl, refl))))
    (λ _. (refl, refl))

unwrap_keeps : (g : GraphState) (r : ℕ) (x : Option Name) → Keeps g (unwrap_from g r x)
unwrap_keeps g r None = (refl, refl)
unwrap_keeps g r (Some (Cell n)) = (refl, refl)
unwrap_keeps g r (Some (Wrap c t)) = (refl, refl)

put_keeps : (g : GraphState) (m k v : Option Name) → Keeps g (put_from g m k v)
put_keeps g None k v = (refl, refl)
put_keeps g (Some m) None v = (refl, refl)
put_keeps g (Some m) (Some k) None = (refl, refl)
put_keeps g (Some m) (Some k) (Some v) = go (entry_refusal g m k v)
  where
    go : (o : Option Refusal) → Keeps g (put_unless g m k v o)
    go (Some why) = (refl, refl)
    go None = (refl, refl)

del_value_keeps : (g : GraphState) (m k : Name) (o : Option Name) → Keeps g (del_value g m k o)
del_value_keeps g m k None = (refl, refl)
del_value_keeps g m k (Some v) = (refl, refl)

del_keeps : (g : GraphState) (m k : Option Name) → Keeps g (del_from g m k)
del_keeps g None k = (refl, refl)
del_keeps g (Some m) None = (refl, refl)
del_keeps g (Some m) (Some k) = go (entry_refusal g m k k)
  where
    go : (o : Option Refusal) → Keeps g (del_unless g m k o)
    go (Some why) = (refl, refl)
    go None = del_value_keeps g m k (value_of g m k)

find_keeps : (g : GraphState) (r : ℕ) (m k : Option Name) → Keeps g (find_from g r m k)
find_keeps g r None k = (refl, refl)
find_keeps g r (Some m) None = (refl, refl)
find_keeps g r (Some m) (Some k) = go (entry_refusal g m k k)
  where
    go : (o : Option Refusal) → Keeps g (find_unless g r m k o)
    go (Some why) = (refl, refl)
    go None = (refl, refl)

make_keeps : (g : GraphState) (r : ℕ) (o : Object) → Keeps g (make_object g r o)
make_keeps g r o = choose (Keeps g) (nat_lt o.comp.0 (length g.comps)) _ _ (λ _. (refl, refl)) (λ _. (refl, refl))

-- a command that makes neither
abbrev pub MakesNeither : GraphCmd → Type 0
MakesNeither cmd.Zone = ⊥
MakesNeither (cmd.Comp z) = ⊥
MakesNeither (cmd.New r c n) = Unit {0}
MakesNeither (cmd.Map r c) = Unit {0}
MakesNeither (cmd.Get r s f) = Unit {0}
MakesNeither (cmd.Set s f t) = Unit {0}
MakesNeither (cmd.Wrap r s c) = Unit {0}
MakesNeither (cmd.Unwrap r s) = Unit {0}
MakesNeither (cmd.Copy r s) = Unit {0}
MakesNeither (cmd.Drop r) = Unit {0}
MakesNeither (cmd.Hold s r) = Unit {0}
MakesNeither (cmd.Release s) = Unit {0}
MakesNeither (cmd.Expose r s) = Unit {0}
MakesNeither (cmd.Put m k v) = Unit {0}
MakesNeither (cmd.Del m k) = Unit {0}
MakesNeither (cmd.Find r m k) = Unit {0}

pub step_keeps_zones : (g : GraphState) (c : GraphCmd) → MakesNeither c → SameZones g (step_of g c).0
step_keeps_zones g cmd.Zone none = absurd none
step_keeps_zones g (cmd.Comp z) none = absurd none
step_keeps_zones g (cmd.New r c n) none = make_keeps g r (new_object c n)
step_keeps_zones g (cmd.Map r c) none = make_keeps g r (new_map c)
step_keeps_zones g (cmd.Get r s f) none = get_keeps g r f (register_cell g s)
step_keeps_zones g (cmd.Set s f t) none = set_keeps g f (register_cell g s) (value_to_set g t)
step_keeps_zones g (cmd.Wrap r s c) none = wrap_keeps g r c (register_cell g s)
step_keeps_zones g (cmd.Unwrap r s) none = unwrap_keeps g r (register_cell g s)
step_keeps_zones g (cmd.Copy r s) none = (refl, refl)
step_keeps_zones g (cmd.Drop r) none = (refl, refl)
step_keeps_zones g (cmd.Hold s r) none = (refl, refl)
step_keeps_zones g (cmd.Release s) none = (refl, refl)
step_keeps_zones g (cmd.Expose r s) none = (refl, refl)
step_keeps_zones g (cmd.Put m k v) none = put_keeps g (register_cell g m) (register_cell g k) (register_cell g v)
step_keeps_zones g (cmd.Del m k) none = del_keeps g (register_cell g m) (register_cell g k)
step_keeps_zones g (cmd.Find r m k) none = find_keeps g r (register_cell g m) (register_cell g k)

-- each compartment is of a zone that was made
abbrev pub CompsAreMade : GraphState → Type 0
CompsAreMade g = (z : ℕ) → Contains g.comps z → z < g.zones

same_made : (g h : GraphState) → SameZones g h → CompsAreMade g → CompsAreMade h
same_made g h same ok z c =
    let before = ok z (subst (λ (zs : List ℕ). Contains zs z) same.1 c) in
    subst (λ (n : ℕ). z < n) (sym same.0) before

one_zone_more : (g : GraphState) → CompsAreMade g → CompsAreMade (record g { zones = g.zones + 1 })
one_zone_more g ok z c = omega (arith, ok z c)

one_comp_more : (g : GraphState) (n : ℕ) → n < g.zones → CompsAreMade g
    → CompsAreMade (record g { comps = g.comps ++ n ∷ [] })
one_comp_more g n made ok z c =
    elim (Contains-push_cases g.comps n z c) [ inl old ↦ ok z old | inr e ↦ subst (λ (k : ℕ). k < g.zones) e made ]

unless_made : (g : GraphState) (c : GraphCmd) → MakesNeither c → CompsAreMade g → CompsAreMade (step_of g c).0
unless_made g c none ok = same_made g (step_of g c).0 (step_keeps_zones g c none) ok

comp_made : (g : GraphState) (z : ℕ) (ok : CompsAreMade g) → CompsAreMade (step_of g (cmd.Comp z)).0
comp_made g z ok =
    choose (λ (p : GraphState × Reply). CompsAreMade p.0) (nat_lt z g.zones) _ _
    (λ made. choose (λ (p : GraphState × Reply). CompsAreMade p.0) (nat_lt (length g.comps) COMP_LIMIT) _ _
    (λ _. one_comp_more g z (ltb-true z g.zones made) ok) (λ _. ok)) (λ _. ok)

step_made : (g : GraphState) (c : GraphCmd) → CompsAreMade g → CompsAreMade (step_of g c).0
step_made g cmd.Zone ok =
    choose (λ (p : GraphState × Reply). CompsAreMade p.0) (nat_lt g.zones ZONE_LIMIT) _ _ (λ _. one_zone_more g ok)
    (λ _. ok)
step_made g (cmd.Comp z) ok = comp_made g z ok
step_made g (cmd.New r c n) ok = unless_made g (cmd.New r c n) tt ok
step_made g (cmd.Map r c) ok = unless_made g (cmd.Map r c) tt ok
step_made g (cmd.Get r s f) ok = unless_made g (cmd.Get r s f) tt ok
step_made g (cmd.Set s f t) ok = unless_made g (cmd.Set s f t) tt ok
step_made g (cmd.Wrap r s c) ok = unless_made g (cmd.Wrap r s c) tt ok
step_made g (cmd.Unwrap r s) ok = unless_made g (cmd.Unwrap r s) tt ok
step_made g (cmd.Copy r s) ok = unless_made g (cmd.Copy r s) tt ok
step_made g (cmd.Drop r) ok = unless_made g (cmd.Drop r) tt ok
step_made g (cmd.Hold s r) ok = unless_made g (cmd.Hold s r) tt ok
step_made g (cmd.Release s) ok = unless_made g (cmd.Release s) tt ok
step_made g (cmd.Expose r s) ok = unless_made g (cmd.Expose r s) tt ok
step_made g (cmd.Put m k v) ok = unless_made g (cmd.Put m k v) tt ok
step_made g (cmd.Del m k) ok = unless_made g (cmd.Del m k) tt ok
step_made g (cmd.Find r m k) ok = unless_made g (cmd.Find r m k) tt ok

made_by : (g h : GraphState) → h ≡ g → CompsAreMade g → CompsAreMade h
made_by g h e ok = subst CompsAreMade (sym e) ok

answer_made : (w : World) (c : Cmd) (reports : List Report) (answer : Reply) (v : World)
    → CompsAreMade w.graph → Answers w c reports answer v → CompsAreMade v.graph
answer_made w (Graph c) reports answer v ok h =
    made_by (step_of w.graph c).0 v.graph (answer_graph w (Graph c) reports answer v (λ k e. cc e) h)
    (step_made w.graph c ok)
answer_made w (Weak c) reports answer v ok h =
    same_made w.graph v.graph (weak_zones w c answer v h.1) ok
answer_made w (Gc zones) reports answer v ok h =
    made_by w.graph v.graph (answer_graph w (Gc zones) reports answer v (λ k e. cc e) h) ok
answer_made w (Slice n) reports answer v ok h =
    made_by w.graph v.graph (answer_graph w (Slice n) reports answer v (λ k e. cc e) h) ok
answer_made w Finish reports answer v ok h =
    made_by w.graph v.graph (answer_graph w Finish reports answer v (λ k e. cc e) h) ok
answer_made w (Collect zones) reports answer v ok h =
    made_by w.graph v.graph (answer_graph w (Collect zones) reports answer v (λ k e. cc e) h) ok
answer_made w Reset reports answer v ok h =
    made_by w.graph v.graph (answer_graph w Reset reports answer v (λ k e. cc e) h) ok
answer_made w Colours reports answer v ok h =
    made_by w.graph v.graph (answer_graph w Colours reports answer v (λ k e. cc e) h) ok
answer_made w Dump reports answer v ok h =
    made_by w.graph v.graph (answer_graph w Dump reports answer v (λ k e. cc e) h) ok
answer_made w (Compact zone) reports answer v ok h =
    made_by w.graph v.graph (answer_graph w (Compact zone) reports answer v (λ k e. cc e) h) ok

pub run_made : (w : World) (cs : List Cmd) (answers : List (List Report × Reply)) (v : World)
    → CompsAreMade w.graph → Run w cs answers v → CompsAreMade v.graph
run_made w [] [] v ok h = made_by w.graph v.graph (ap (λ (u : World). u.graph) h) ok
run_made w (c ∷ cs) (a ∷ answers) v ok (u, first, rest) =
    run_made u cs answers v (answer_made w c a.0 a.1 u ok first) rest
run_made w [] (a ∷ answers) v ok h = absurd h
run_made w (c ∷ cs) [] v ok h = absurd h

pub none_made : CompsAreMade first_world.graph
none_made z c = absurd (nothing_in_none z c)

-- what has a zone has one that was made
pub zone_made : (g : GraphState) (x : Name) (z : ℕ) → CompsAreMade g → zone_of g x ≡ Some z → z < g.zones
zone_made g x z ok e = ok z (go (comp_of g x) e)
  where
    go : (o : Option CompNo) → zone_of_comp g o ≡ Some z → Contains g.comps z
    go None e = absurd (cc e)
    go (Some c) e = contains_at g.comps c.0 z e

-- a compartment makes no zone
comp_keeps : (g : GraphState) (z : ℕ) → (step_of g (cmd.Comp z)).0.zones ≡ g.zones
comp_keeps g z =
    choose (λ (p : GraphState × Reply). p.0.zones ≡ g.zones) (nat_lt z g.zones) _ _
    (λ _. choose (λ (p : GraphState × Reply). p.0.zones ≡ g.zones) (nat_lt (length g.comps) COMP_LIMIT) _ _ (λ _. refl)
    (λ _. refl)) (λ _. refl)

step_zones : (g : GraphState) (c : GraphCmd) → Graph c ≢ Graph cmd.Zone → (step_of g c).0.zones ≡ g.zones
step_zones g cmd.Zone other = absurd (other refl)
step_zones g (cmd.Comp z) other = comp_keeps g z
step_zones g (cmd.New r c n) other = (step_keeps_zones g (cmd.New r c n) tt).0
step_zones g (cmd.Map r c) other = (step_keeps_zones g (cmd.Map r c) tt).0
step_zones g (cmd.Get r s f) other = (step_keeps_zones g (cmd.Get r s f) tt).0
step_zones g (cmd.Set s f t) other = (step_keeps_zones g (cmd.Set s f t) tt).0
step_zones g (cmd.Wrap r s c) other = (step_keeps_zones g (cmd.Wrap r s c) tt).0
step_zones g (cmd.Unwrap r s) other = (step_keeps_zones g (cmd.Unwrap r s) tt).0
step_zones g (cmd.Copy r s) other = refl
step_zones g (cmd.Drop r) other = refl
step_zones g (cmd.Hold s r) other = refl
step_zones g (cmd.Release s) other = refl
step_zones g (cmd.Expose r s) other = refl
step_zones g (cmd.Put m k v) other = (step_keeps_zones g (cmd.Put m k v) tt).0
step_zones g (cmd.Del m k) other = (step_keeps_zones g (cmd.Del m k) tt).0
step_zones g (cmd.Find r m k) other = (step_keeps_zones g (cmd.Find r m k) tt).0

command_zones : (g : GraphState) (c : Cmd) → MakesNoZone c → (graph_by g c).zones ≡ g.zones
command_zones g (Graph c) other = step_zones g c other
command_zones g (Weak c) other = refl
command_zones g (Gc zones) other = refl
command_zones g (Slice n) other = refl
command_zones g Finish other = refl
command_zones g (Collect zones) other = refl
command_zones g Reset other = refl
command_zones g Colours other = refl
command_zones g Dump other = refl
command_zones g (Compact zone) other = refl

pub zones_kept : (g : GraphState) (cs : List Cmd) → All MakesNoZone cs → (graph_after g cs).zones ≡ g.zones
zones_kept g [] all = refl
zones_kept g (c ∷ cs) all =
    zones_kept (graph_by g c) cs (All-tail MakesNoZone c cs all)
    ∙ command_zones g c (All-head MakesNoZone c cs all)

-- A collection of all zones, from its beginning to its end.
use Rattle.std.proofs.Common.{◌≡◌, ◌≢◌, ◌⊎◌, inl, inr, ℕ, List, [], ◌∷◌, refl, sym, ap, subst, ◌∙◌, Option, Some, None}
use Rattle.std.proofs.Common.{Contains, slice_index_or}
use Rattle.std.specs.FinSet as set
use Rattle.std.proofs.lemmas.Option.{get_or_from_slice_get, slice_get-get_or}
use Rattle.gz_names.specs.Zones.{zones_in}
use Rattle.gz_names.specs.declared.names.Name.{Name}
use Rattle.gz_names.specs.declared.commands.Cmd.{Cmd}
use Rattle.gz_names.specs.declared.replies.Reply.{Reply}
use Rattle.gz_names.specs.declared.replies.Report.{Report}
use Rattle.gz_names.specs.declared.replies.Report.TheVariants.{Started, Groups, Ended, Swept, Done, Stopped}
use Rattle.colour_defs.specs.Graph.{GraphState, IsInZones}
use Rattle.colour_defs.specs.Closure.{Closure, from, along, weak, delegate}
use Rattle.colour_defs.specs.World.{Has, World, Preparation, Collection, IsPresent, IsIdle}
use Rattle.colour_defs.specs.World.{first_world, marking_of, first_preparation}
use Rattle.colour_defs.specs.Lawful.{Prepares, Collects, Run}
use Rattle.colour_defs.specs.Lawful.{IsRunning, IsLawfulReport, IsLawfulUnit, quiet, says, last, AreLawfulUnits}
use Rattle.colour_defs.specs.Lawful.{Finishes, with_sweep}
use Rattle.colour_defs.specs.Laws.{IsClosed, IsValid}
use Rattle.colour_defs.proofs.Lists.{decided, nothing_in_none}
use Rattle.colour_defs.proofs.Membership.{in_zone, zone_in}
use Rattle.colour_defs.proofs.Carried.{made_zone, present_closed, reached_more}
use Rattle.colour_defs.proofs.ValidReports.{no_marking, prepare_valid, report_valid, unit_valid}
use Rattle.colour_defs.proofs.LawsOfRuns.{lawful_valid}
use Rattle.collection_laws.specs.Collected.{AreAllZones, IsCollected, IsUsed, IsKept}
use Rattle.collection_laws.proofs.Graphs.{begins_graph, units_graph}
use Rattle.collection_laws.proofs.Zones.{CompsAreMade, none_made, run_made, zone_made}
use Rattle.collection_laws.proofs.Fresh.{IsFresh, IsReady, black_used, live_kept, begins_fresh, forms_fresh}
use Rattle.collection_laws.proofs.Fresh.{sweeps_fresh}
use Rattle.collection_laws.proofs.Fresh.{ends_fresh}

-- what is reached from names of a closed set is in it
reached_in : (g : GraphState) (S P : Name → Type 0) → ((x : Name) → S x → P x) → IsClosed g P → {x : Name}
    → Closure g S x → P x
reached_in g S P h c (from s) = h _ s
reached_in g S P h c (along r e) = c.edges _ _ (reached_in g S P h c r) e
reached_in g S P h c (weak at m k) = c.entries _ _ _ at (reached_in g S P h c m) (reached_in g S P h c k)
reached_in g S P h c (delegate at m t) = c.delegates _ _ _ _ at (reached_in g S P h c m) (reached_in g S P h c t)

-- what is in a list of registers or slots has its place there
held_at : (xs : List (Option Name)) (x : Name) → Contains xs (Some x) → (r : ℕ) × (slice_index_or xs r None ≡ Some x)
held_at xs x c = (
  c.0,
  get_or_from_slice_get xs c.0 (Some x) None
      (slice_get-get_or xs c.0 (Some x) c.1 ∙ ap (λ (y : Option Name). Some y) c.2),
)

used_kept : (g : GraphState) (x : Name) → IsUsed g x → IsKept g x
used_kept g x r = reached_more g _ _ (λ y s. inl s) r

kept_present : (w : World) → IsValid w → (x : Name) → IsKept w.graph x → IsPresent w x
kept_present w ok x r =
    reached_in w.graph _ (IsPresent w) (λ y s. elim s [
      | inl c ↦ let at = held_at w.graph.registers y c in ok.presence.registers at.0 y at.1
      | inr c ↦ let at = held_at w.graph.slots y c in ok.presence.slots at.0 y at.1
    ]) (present_closed w ok) r

-- the end
finished : (w : World) (k : Collection) (v : World) → IsValid w → w.preparing ≡ None → IsFresh w k → Finishes w v
    → IsCollected v
finished w k v ok calm f done =
    let same : done.over.collection ≡ k = cc (done.over.running, f.running) in
    let ended : k.groups ≡ Some [] = ap (λ (l : Collection). l.groups) (sym same) ∙ done.over.ended in
    let empty : k.marking ≡ [] = no_marking w k (ok.groups k [] f.running ended) in
    let black = f.settled (record { none_marking = ap marking_of f.running ∙ empty; none_preparing = calm }) in
    let out : (x : Name) → IsInZones w.graph k.marking x → ⊥ = λ x h.
    let z = zone_in w.graph k.marking x h in nothing_in_none z.0 (subst (λ zs. Contains zs z.0) empty z.2) in
    let used : (x : Name) → Has w.black x → IsUsed w.graph x = λ x h. (black_used w k f x).0 ((black x).0 h).0 in
    let unused : (x : Name) → IsUsed w.graph x → Has w.black x = λ x u.
    (black x).1 ((black_used w k f x).1 u, kept_present w ok x (used_kept w.graph x u)) in
    let kept : (x : Name) → IsPresent w x → IsKept w.graph x = λ x p. elim (f.told x p (out x)) [
      | inl live ↦ live_kept w k f x live
      | inr not_dark ↦ elim (decided (set.contains w.black x)) [
        | inl h ↦ used_kept w.graph x (used x h)
        | inr apart ↦ absurd (not_dark (λ b. apart ((black x).1 (b, p))))
      ]
    ] in
    let n : World = record w { collection = None } in
    let all : IsCollected n = record {
      idle = record { none_running = refl; none_preparing = calm };
      none_out = done.over.none_out;
      present = λ x. (kept x, kept_present w ok x);
      black = λ x. (used x, unused x);
      gray = λ x. (
        λ h. (kept x h.0, λ u. h.1 (unused x u)),
        λ h. (kept_present w ok x h.0, λ b. h.1 (used x b)),
      );
    } in
    subst (λ (z : World). IsCollected z) (sym done.world_is) all

-- how far it is
pub data Phase (w : World) : Type 0 where
  preparing : (p : Preparation) → w.preparing ≡ Some p → w.collection ≡ None → IsReady w p.zones → Phase w
  collecting : (k : Collection) → IsFresh w k → w.preparing ≡ None → Phase w

report_on : (w : World) (r : Report) (v : World) → Phase w → r ≢ Done → IsLawfulReport w r v → Phase v
report_on w Started v (preparing p at alone ready) apart h =
    let b = h.1 in
    let prepared : p ≡ b.preparation = cc (at, b.was) in
    let same : p.zones ≡ h.0 = ap (λ (q : Preparation). q.zones) prepared ∙ b.of_zones in
    collecting b.collection
    (begins_fresh w h.0 v (subst (λ (zs : List ℕ). IsReady w zs) same ready) b)
    (ap (λ (u : World). u.preparing) b.world_is)
report_on w Started v (collecting k f calm) apart h = absurd (cc (calm, h.1.was))
report_on w (Groups groups) v (preparing p at alone ready) apart h = absurd (cc (alone, h.running))
report_on w (Groups groups) v (collecting k f calm) apart h =
    let same : k ≡ h.collection = cc (f.running, h.running) in
    collecting (record h.collection { groups = Some _ })
    (forms_fresh w _ v h (subst (λ (l : Collection). IsFresh w l) same f))
    (ap (λ (u : World). u.preparing) h.world_is ∙ calm)
report_on w (Ended zones grays told) v (preparing p at alone ready) apart h = absurd (cc (alone, h.running))
report_on w (Ended zones grays told) v (collecting k f calm) apart h =
    let same : k ≡ h.collection = cc (f.running, h.running) in
    collecting _ (ends_fresh w v (zones_in zones) grays told h (subst (λ (l : Collection). IsFresh w l) same f))
    (h.ends.preparing_is ∙ calm)
report_on w (Swept arena freed) v (preparing p at alone ready) apart h =
    preparing p (ap (λ (u : World). u.preparing) h.world_is ∙ at)
    (ap (λ (u : World). u.collection) h.world_is ∙ ap with_sweep alone)
    (subst (λ (u : World). IsReady u p.zones) (sym h.world_is)
    (record { some = ready.some; all = ready.all; none = ready.none }))
report_on w (Swept arena freed) v (collecting k f calm) apart h =
    let next = sweeps_fresh w arena freed v k h f in
    collecting next.0 next.1 (ap (λ (u : World). u.preparing) h.world_is ∙ calm)
report_on w Done v at apart h = absurd (apart refl)
report_on w (Stopped zones) v at apart h = absurd h

done_on : (w v : World) → IsValid w → Phase w → Finishes w v → IsCollected v
done_on w v ok (preparing p at alone ready) h = absurd (cc (alone, h.over.running))
done_on w v ok (collecting k f calm) h = finished w k v ok calm f h

unit_on : (w : World) {rs : List Report} {v : World} → IsValid w → Phase w → IsLawfulUnit w rs v
    → Phase v ⊎ IsCollected v
unit_on w ok at (quiet run) = inl at
unit_on w ok at (says {r} {v} run not h more) = inl (report_on w r v at not h)
unit_on w ok at (last {r} {u} {v} run not h done) =
    let valid : IsValid u = report_valid w r u ok h in
    inr (done_on u v valid (report_on w r u at not h) done)

pub still_idle : (w : World) → IsIdle w → IsRunning w → ⊥
still_idle w idle (inl k) = cc (idle.none_running, k.1)
still_idle w idle (inr p) = cc (idle.none_preparing, p.1)

runs_on : (w : World) {rs : List Report} {v : World} → IsLawfulUnit w rs v → IsRunning w
runs_on w (quiet run) = run
runs_on w (says run not h more) = run
runs_on w (last run not h done) = run

-- an idle world comes after no more units
over_stays : (w : World) (units : List (List Report)) (v : World) → IsCollected w → AreLawfulUnits w units v
    → IsCollected v
over_stays w [] v c h = subst (λ (z : World). IsCollected z) (sym h) c
over_stays w (unit ∷ units) v c (u, first, rest) = absurd (still_idle w c.idle (runs_on w first))

not_idle : (w : World) → Phase w → IsIdle w → ⊥
not_idle w (preparing p at alone ready) idle = cc (at, idle.none_preparing)
not_idle w (collecting k f calm) idle = cc (f.running, idle.none_running)

units_on : (w : World) (units : List (List Report)) (v : World) → IsValid w → Phase w → AreLawfulUnits w units v
    → IsIdle v → IsCollected v
units_on w [] v ok at h idle = absurd (not_idle w at (subst (λ (z : World). IsIdle z) h idle))
units_on w (unit ∷ units) v ok at (u, first, rest) idle = elim (unit_on w ok at first) [
  | inl next ↦ units_on u units v (unit_valid w ok first) next rest idle
  | inr c ↦ over_stays u units v c rest
]

-- the beginning
ready_for : (w : World) (zones : List ℕ) (v : World) → IsValid w → CompsAreMade w.graph → AreAllZones w.graph zones
    → Prepares w zones v → IsReady v zones
ready_for w zones v ok made named p =
    let here : (x : Name) → IsPresent w x → IsInZones w.graph zones x = λ x q.
    let z = made_zone w.graph x (ok.made x q) in
    in_zone w.graph zones x z.0 z.1 ((named z.0).1 (zone_made w.graph x z.0 made z.1)) in
    let settled = ok.settled (record {
      none_marking = ap marking_of p.idle.none_running;
      none_preparing = p.idle.none_preparing;
    }) in
    let n : World = record w { black = v.black; preparing = Some (first_preparation w zones) } in
    let ready : IsReady n zones = record {
      some = p.some;
      all = here;
      none = λ x h. let d = (p.black_are x).0 h in d.1 (here x (settled.present x d.0));
    } in
    subst (λ (z : World). IsReady z zones) (sym p.world_is) ready

begun : (w : World) (zones : List ℕ) (v : World) → IsValid w → CompsAreMade w.graph
    → AreAllZones w.graph zones → Prepares w zones v → Phase v
begun w zones v ok made named p =
    preparing (first_preparation w zones) (ap (λ (u : World). u.preparing) p.world_is)
    (ap (λ (u : World). u.collection) p.world_is ∙ p.idle.none_running) (ready_for w zones v ok made named p)

pub collected : (w : World) (zones : List ℕ) (reports : List Report) (v : World) → IsValid w
    → CompsAreMade w.graph → AreAllZones w.graph zones → Collects w zones reports v → IsCollected v
collected w zones reports v ok made named c =
    units_on c.begun c.units v (prepare_valid w zones c.begun ok c.begins)
    (begun w zones c.begun ok made named c.begins) c.done c.over

pub collects_graph : (w : World) (zones : List ℕ) (reports : List Report) (v : World)
    → Collects w zones reports v → v.graph ≡ w.graph
collects_graph w zones reports v c =
    units_graph c.begun c.units v c.done ∙ begins_graph w zones c.begun c.begins

pub collected_in_run : (cs : List Cmd) (answers : List (List Report × Reply)) (w v : World)
    (zones : List ℕ) (reports : List Report) → Run first_world cs answers w → AreAllZones w.graph zones
    → Collects w zones reports v → IsCollected v × (v.graph ≡ w.graph)
collected_in_run cs answers w v zones reports run named c = (
  collected w zones reports v (lawful_valid cs answers w run)
      (run_made first_world cs answers w none_made run) named c,
  collects_graph w zones reports v c,
)

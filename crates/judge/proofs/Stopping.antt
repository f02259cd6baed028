-- A collection is given up: the judge stands for the world after it.
use Rattle.std.proofs.Common.{◌≡◌, ◌↔◌, ◌∙◌, ◌⊎◌, inl, inr, ℕ, List, [], ◌∷◌, Option, Some, None, Contains, refl, sym}
use Rattle.std.proofs.Common.{ap}
use Rattle.std.proofs.Common.{subst}
use Rattle.std.specs.BTreeMap as tree
use Rattle.std.specs.FinMap as finite
use Rattle.gz_names.specs.Zones.{zones_in}
use Rattle.gz_names.specs.declared.names.Name.{Name}
use Rattle.gz_names.specs.declared.zone_sets.ZoneSet.{ZoneSet}
use Rattle.colour_defs.specs.Closure.{Closure, from}
use Rattle.colour_defs.specs.Graph.{GraphState, IsInZones}
use Rattle.colour_defs.specs.Lawful.{IsBlackSoFar as IsBlackIn, IsRunning, IsUnfinished, Stops as StopsIn}
use Rattle.colour_defs.specs.World.{BlackClosure, Collection, Has, IsPresent, Preparation, World, marking_of}
use Rattle.colour_defs.proofs.Lists.{nothing_in_none}
use Rattle.colour_defs.proofs.Membership.{in_zone, zone_in}
use Rattle.plain_graph.specs.Indexed.{order_of}
use Rattle.judge.specs.Cells.{HasCell}
use Rattle.judge.specs.Positions.{StandsIn}
use Rattle.judge.specs.Represents.{AreWaiting, HasFound, IsAtRest, IsAtStage, Represents}
use Rattle.judge.specs.Stages.{HasGroups, IsBlackSoFar, IsOver, Shown, Stage, Stops, collecting, idle, preparing}
use Rattle.judge.specs.Stages.{unfinished_in}
use Rattle.judge.specs.Walks.{IsFoundBlack, Walks}
use Rattle.judge.specs.Weak.{IsWatched}
use Rattle.judge.proofs.Blackening.{present_followed}
use Rattle.judge.proofs.Found.{reached_from}
use Rattle.judge.proofs.LiveCommands.{reached_in}
use Rattle.judge.proofs.Settling.{no_zones}
use Rattle.judge.proofs.Standing.{present_is}

-- which zones are unfinished
pub unfinished_by : (s : Shown) (w : World) (t : Stage) → IsAtStage t s w → (z : ℕ)
    → IsUnfinished w z ↔ Contains (zones_in (unfinished_in t)) z
unfinished_by s w idle at z = (
  λ u. elim u [
    | inl c ↦ absurd (nothing_in_none z (subst (λ ms. Contains ms z) (ap marking_of at.idle.none_running) c))
    | inr p ↦ absurd (cc (p.1, at.idle.none_preparing))
  ],
  λ c. absurd (nothing_in_none z (subst (λ ms. Contains ms z) (no_zones (record { bits = 0 }) refl) c)),
)
unfinished_by s w (preparing zones) at z = (
  λ u. elim u [
    | inl c ↦ absurd (nothing_in_none z (subst (λ ms. Contains ms z) (ap marking_of at.alone) c))
    | inr p ↦ (let same : p.0 ≡ at.preparation = cc (p.1, at.preparing_is) in
        subst (λ ns. Contains ns z) at.zones_are (subst (λ (q : Preparation). Contains q.zones z) same p.2))
  ],
  λ c. inr (at.preparation, at.preparing_is, subst (λ ns. Contains ns z) (sym at.zones_are) c),
)
unfinished_by s w (collecting zones marking groups) at z = (
  λ u. elim u [
    | inl c ↦ subst (λ ms. Contains ms z) (ap marking_of at.collection_is ∙ at.marking_are) c
    | inr p ↦ absurd (cc (p.1, at.alone))
  ],
  λ c. inl (subst (λ ms. Contains ms z) (sym (ap marking_of at.collection_is ∙ at.marking_are)) c),
)

-- what is black so far
black_by : (s : Shown) (w : World) (t : Stage) → s.stage ≡ t → IsAtStage t s w → IsRunning w → (IsOver s → ⊥)
    → s.out ≡ [] → ((x : Name) → IsPresent w x ↔ HasCell s.cells x) → (x : Name)
    → (IsBlackIn w x → IsBlackSoFar t s x) × (HasCell s.cells x → IsBlackSoFar t s x → IsBlackIn w x)
black_by s w idle e at runs not_over none present x = (
  λ b. elim b [
    | inl k ↦ absurd (cc (k.1, at.idle.none_running))
    | inr p ↦ absurd (cc (p.1, at.idle.none_preparing))
  ],
  λ here b. elim runs [
    | inl k ↦ absurd (cc (k.1, at.idle.none_running))
    | inr p ↦ absurd (cc (p.1, at.idle.none_preparing))
  ],
)
black_by s w (preparing zones) e at runs not_over none present x = (
  λ b. elim b [
    | inl k ↦ absurd (cc (k.1, at.alone))
    | inr p ↦ (at.black_are x).0 p.2
  ],
  λ here b. inr (at.preparation, at.preparing_is, (at.black_are x).1 b),
)
black_by s w (collecting zones marking groups) e at runs not_over none present x = (
  λ b. elim b [
    | inl k ↦ (let same : k.0 ≡ at.collection = cc (k.1, at.collection_is) in
        let f = found in (
          f.0,
          f.1.walks_are,
          (f.1.black_are x).0
              (subst (λ (c : Collection). BlackClosure c x) same k.2),
        ))
    | inr p ↦ absurd (cc (p.1, at.alone))
  ],
  λ here b. let f = found in
      let same : b.0 ≡ f.0 = cc (b.1, f.1.walks_are) in
      inl (
        at.collection,
        at.collection_is,
        (f.1.black_are x).1
            (subst (λ (u : Walks). IsFoundBlack s.former.graph u x) same b.2),
        (present x).1 here,
      ),
)
  where
    left : (gs : Option (List ZoneSet)) → s.stage ≡ collecting zones marking gs
        → HasGroups (collecting zones marking gs)
    left None at = tt
    left (Some []) at = not_over (record { zones = zones; marking = marking; ended = at; none_out = none })
    left (Some (group ∷ rest)) at = tt

    found : (walks : Walks) × HasFound s at.collection walks
    found = at.found (subst HasGroups (sym e) (left groups e))

module _ (g : GraphState) (zones : ZoneSet) (old new : Shown) (w v : World) (zs : List ℕ) (stands : StandsIn g old w)
    (stops : Stops g old zones new) (lawful : StopsIn w zs v) where
  pub same_unfinished : (z : ℕ) → Contains zs z ↔ Contains (zones_in zones) z
  same_unfinished z =
      let by = unfinished_by old w old.stage stands.represents.stage_is z in (
        λ c. subst (λ u. Contains (zones_in u) z) (sym stops.zones_are) (by.0 ((lawful.zones_are z).0 c)),
        λ c. (lawful.zones_are z).1 (by.1 (subst (λ u. Contains (zones_in u) z) stops.zones_are c)),
      )

  in_zones : (x : Name) → IsInZones w.graph zs x ↔ IsInZones g (zones_in (unfinished_in old.stage)) x
  in_zones x = (
    λ h. let at = zone_in w.graph zs x h in
        subst (λ a. IsInZones a (zones_in (unfinished_in old.stage)) x) stands.represents.graph_is
        (subst (λ u. IsInZones w.graph (zones_in u) x) stops.zones_are
        (in_zone w.graph (zones_in zones) x at.0 at.1 ((same_unfinished at.0).0 at.2))),
    λ h. let there = subst (λ u. IsInZones w.graph (zones_in u) x) (sym stops.zones_are)
        (subst (λ a. IsInZones a (zones_in (unfinished_in old.stage)) x) (sym stands.represents.graph_is) h) in
        let at = zone_in w.graph (zones_in zones) x there in
        in_zone w.graph zs x at.0 at.1 ((same_unfinished at.0).1 at.2),
  )

  so_far : (x : Name) → (IsBlackIn w x → IsBlackSoFar old.stage old x)
      × (HasCell old.cells x → IsBlackSoFar old.stage old x → IsBlackIn w x)
  so_far x = black_by old w old.stage refl stands.represents.stage_is lawful.running stops.not_over stops.none_out
      (present_is stands.represents) x

  abbrev Starts : Name → Type 0
  Starts s = IsBlackIn w s ⊎ (IsPresent w s × IsInZones w.graph zs s)

  black_there : (x : Name) → IsBlackIn w x → IsPresent w x
  black_there x (inl k) = k.3
  black_there x (inr p) = ((stands.laws.valid.preparing p.0 p.1).left_out x p.2).0

  to_list : (x : Name) → Starts x → Contains stops.blackens.starts x
  to_list x (inl b) =
      (stops.blackens.starts_are x).1 ((present_is stands.represents x).0 (black_there x b), inr ((so_far x).0 b))
  to_list x (inr h) =
      (stops.blackens.starts_are x).1 ((present_is stands.represents x).0 h.0, inl ((in_zones x).0 h.1))

  from_list : (x : Name) → Contains stops.blackens.starts x → Starts x
  from_list x c = let h = (stops.blackens.starts_are x).0 c in elim h.1 [
    | inl z ↦ inr ((present_is stands.represents x).1 h.0, (in_zones x).1 z)
    | inr b ↦ inl ((so_far x).1 h.0 b)
  ]

  reached_there : (x : Name) → Closure w.graph Starts x → IsPresent w x
  reached_there x c = reached_in w.graph Starts (IsPresent w)
      (λ s h. elim h [ inl b ↦ black_there s b | inr p ↦ p.0 ]) (present_followed w stands.laws.valid) c

  names_are : (x : Name) → Has v.black x ↔ Contains new.black.names x
  names_are x =
      let done = stops.blackens.done in
      let at = subst (λ a. Closure w.graph (Contains stops.blackens.starts) x
      ↔ Closure a (Contains stops.blackens.starts) x) stands.represents.graph_is (λ c. c, λ c. c) in (
        λ b. let c = ((lawful.black_are x).0 b).0 in
            (done.all x).1 (at.0 (reached_from w.graph Starts (Contains stops.blackens.starts)
            (λ s h. from (to_list s h)) c)),
        λ c. let r = reached_from w.graph (Contains stops.blackens.starts) Starts (λ s h. from (from_list s h))
            (at.1 ((done.all x).0 c)) in
            (lawful.black_are x).1 (r, reached_there x r),
      )

  at_rest : IsAtRest (record old {
    stage = idle;
    black = new.black;
    left_out = None;
    former = new.former;
    walks = None;
  }) v
  at_rest = record {
    idle = record {
      none_running = ap (λ (z : World). z.collection) lawful.world_is;
      none_preparing = ap (λ (z : World). z.preparing) lawful.world_is;
    };
    none_out = stops.none_out;
  }

  left : Represents g (record old {
    stage = idle;
    black = new.black;
    left_out = None;
    former = new.former;
    walks = None;
  }) v
  left = record {
    graph_is = ap (λ (z : World). z.graph) lawful.world_is ∙ stands.represents.graph_is;
    places_are = λ x. subst (λ (z : World). finite.get z.places x ≡ tree.get order_of old.cells x)
        (sym lawful.world_is) (stands.represents.places_are x);
    owners_are = ap (λ (z : World). z.owner) lawful.world_is ∙ stands.represents.owners_are;
    out_are = ap (λ (z : World). z.out) lawful.world_is ∙ stands.represents.out_are;
    white_are = λ a out. subst (λ (z : World). AreWaiting old z a) (sym lawful.world_is)
        (stands.represents.white_are a out);
    slots_are = ap (λ (z : World). z.weak.slots) lawful.world_is ∙ stands.represents.slots_are;
    watched_are = λ x. subst (λ (z : World). Has z.weak.watched x ↔ IsWatched old.weak x) (sym lawful.world_is)
        (stands.represents.watched_are x);
    black_are = λ still. record { within = stops.blackens.done.follows.within; names_are = names_are };
    stage_is = at_rest;
  }

  pub represents_stop : Represents g new v
  represents_stop = subst (λ s. Represents g s v) (sym stops.new_is) left

-- As a collection is given up, the judge stands for a world in which this came lawfully.
use Rattle.std.proofs.Common.{◌≡◌, ◌⊎◌, ◌↔◌, ◌∙◌, inl, inr, ℕ, List, [], ◌∷◌, Option, Some, None, Contains, ap, refl}
use Rattle.std.proofs.Common.{subst, sym}
use Rattle.gz_names.specs.Zones.{zones_in}
use Rattle.gz_names.specs.declared.names.Name.{Name}
use Rattle.gz_names.specs.declared.zone_sets.ZoneSet.{ZoneSet}
use Rattle.colour_defs.specs.Closure.{Closure, from}
use Rattle.colour_defs.specs.Graph.{IsInZones}
use Rattle.colour_defs.specs.Lawful as lawful
use Rattle.colour_defs.specs.Lawful.{IsOver, IsRunning, IsUnfinished}
use Rattle.colour_defs.specs.World.{BlackClosure, Has, IsPresent, World, marking_of}
use Rattle.colour_defs.proofs.Lists.{nothing_in_none}
use Rattle.judge.specs.Represents.{IsAtStage, Represents}
use Rattle.judge.specs.Stages.{HasGroups, IsBlackSoFar, Shown, Stage, Stops, collecting, idle, preparing, unfinished_in}
use Rattle.judge.specs.Walks.{IsFoundBlack}
use Rattle.judge.proofs.LiveCommands.{reached_in}
use Rattle.judge.proofs.NameSets.{set_has, set_of}
use Rattle.judge.specs.Positions.{StandsIn}
use Rattle.judge.proofs.Found.{reached_from}
use Rattle.judge.proofs.Idling.{over_shown, running_world}
use Rattle.judge.proofs.StandsFor.{cell_of, present_of}
use Rattle.judge.proofs.Stopping.{represents_stop}

module _ (s t : Shown) (w : World) (f : StandsIn w.graph s w) (zones : ZoneSet) (st : Stops w.graph s zones t)
    (some : s.stage ≡ idle → ⊥) where
  abbrev pub stopped_world : World
  stopped_world = record w { black = set_of t.black.names; preparing = None; collection = None }

  -- groups are left, if arenas are not
  groups_left : (z m : ZoneSet) (groups : Option (List ZoneSet)) → s.stage ≡ collecting z m groups → HasGroups s.stage
  groups_left z m None e = subst HasGroups (sym e) tt
  groups_left z m (Some []) e =
      absurd (st.not_over (record { zones = z; marking = m; ended = e; none_out = st.none_out }))
  groups_left z m (Some (g ∷ gs)) e = subst HasGroups (sym e) tt

  unfinished : (u : Stage) → s.stage ≡ u → IsAtStage u s w → (z : ℕ)
      → Contains (zones_in (unfinished_in u)) z ↔ IsUnfinished w z
  unfinished idle e r z = absurd (some e)
  unfinished (preparing y) e r z = (
    λ c. inr (r.preparation, r.preparing_is, subst (λ zs. Contains zs z) (sym r.zones_are) c),
    λ h. elim h [
      | inl m ↦ absurd (nothing_in_none z (subst (λ o. Contains (marking_of o) z) r.alone m))
      | inr p ↦ subst (λ zs. Contains zs z)
          (ap (λ q. q.zones) (let same : p.0 ≡ r.preparation = cc (p.1, r.preparing_is) in same) ∙ r.zones_are) p.2
    ],
  )
  unfinished (collecting y m groups) e r z = (
    λ c. inl (subst (λ o. Contains (marking_of o) z) (sym r.collection_is)
        (subst (λ zs. Contains zs z) (sym r.marking_are) c)),
    λ h. elim h [
      | inl m ↦ subst (λ zs. Contains zs z) r.marking_are (subst (λ o. Contains (marking_of o) z) r.collection_is m)
      | inr p ↦ absurd (cc (p.1, r.alone))
    ],
  )

  -- what is black so far is so for both
  so_far : (u : Stage) → s.stage ≡ u → IsAtStage u s w → (x : Name) → IsPresent w x
      → IsBlackSoFar u s x ↔ lawful.IsBlackSoFar w x
  so_far idle e r x here = absurd (some e)
  so_far (preparing z) e r x here = (
    λ b. inr (r.preparation, r.preparing_is, (r.black_are x).1 b),
    λ h. elim h [ inl k ↦ absurd (cc (k.1, r.alone)) | inr p ↦ (r.black_are x).0 p.2 ],
  )
  so_far (collecting z m groups) e r x here =
      let found = r.found (groups_left z m groups e) in (
        λ b. let same : b.0 ≡ found.0 = cc (b.1, found.1.walks_are) in
            inl (
              r.collection,
              r.collection_is,
              (found.1.black_are x).1 (subst (λ v. IsFoundBlack s.former.graph v x) same b.2),
              here,
            ),
        λ h. elim h [
          | inl k ↦ let same : k.0 ≡ r.collection = cc (k.1, r.collection_is) in
              (found.0, found.1.walks_are, (found.1.black_are x).0 (subst (λ c. BlackClosure c x) same k.2))
          | inr p ↦ absurd (cc (p.1, r.alone))
        ],
      )

  so_far_now : (x : Name) → IsPresent w x → IsBlackSoFar s.stage s x ↔ lawful.IsBlackSoFar w x
  so_far_now = so_far s.stage refl f.represents.stage_is

  -- what is black so far is present
  so_far_present : (x : Name) → lawful.IsBlackSoFar w x → IsPresent w x
  so_far_present x h = elim h [
    | inl k ↦ k.3
    | inr p ↦ ((f.laws.valid.preparing p.0 p.1).left_out x p.2).0
  ]

  starts_present : (x : Name) → lawful.IsBlackSoFar w x ⊎ (IsPresent w x × IsInZones w.graph (zones_in zones) x)
      → IsPresent w x
  starts_present x h = elim h [ inl b ↦ so_far_present x b | inr p ↦ p.0 ]

  in_zones : (x : Name) → IsInZones w.graph (zones_in (unfinished_in s.stage)) x
      ↔ IsInZones w.graph (zones_in zones) x
  in_zones x = (
    λ h. subst (λ z. IsInZones w.graph (zones_in z) x) (sym st.zones_are) h,
    λ h. subst (λ z. IsInZones w.graph (zones_in z) x) st.zones_are h,
  )

  abbrev IsStart : Name → Type 0
  IsStart n = lawful.IsBlackSoFar w n ⊎ (IsPresent w n × IsInZones w.graph (zones_in zones) n)

  started : (n : Name) → Contains st.blackens.starts n → IsStart n
  started n c =
      let h = (st.blackens.starts_are n).0 c in
      let here = present_of s w f.represents n h.0 in
      elim h.1 [ inl z ↦ inr (here, (in_zones n).0 z) | inr k ↦ inl ((so_far_now n here).0 k) ]

  is_started : (n : Name) → IsStart n → Contains st.blackens.starts n
  is_started n k = let here = starts_present n k in
      (st.blackens.starts_are n).1 (
        cell_of s w f.represents n here,
        elim k [
          | inl b ↦ inr ((so_far_now n here).1 b)
          | inr p ↦ inl ((in_zones n).1 p.1)
        ],
      )

  black_now : (x : Name) → Has stopped_world.black x
      ↔ (Closure w.graph (λ n. lawful.IsBlackSoFar w n ⊎ (IsPresent w n × IsInZones w.graph (zones_in zones) n)) x
      × IsPresent w x)
  black_now x = (
    λ b. let r = reached_from w.graph (Contains st.blackens.starts) IsStart (λ n c. from (started n c))
        ((st.blackens.done.all x).0 ((set_has t.black.names x).0 b)) in (
          r,
          reached_in w.graph IsStart (IsPresent w) starts_present (record {
            edges = f.laws.valid.presence.edges;
            values = f.laws.valid.presence.entries;
            keys = f.laws.valid.presence.keys;
          }) r,
        ),
    λ h. (set_has t.black.names x).1 ((st.blackens.done.all x).1
        (reached_from w.graph IsStart (Contains st.blackens.starts) (λ n k. from (is_started n k)) h.0)),
  )

  pub stopped_lawful : lawful.Stops w (zones_in zones) stopped_world
  stopped_lawful = record {
    running = running_world f.represents some;
    none_out = f.represents.out_are ∙ st.none_out;
    not_over = λ o. st.not_over (over_shown f.represents o);
    zones_are = λ z. subst (λ y. Contains (zones_in y) z ↔ IsUnfinished w z) (sym st.zones_are)
        (unfinished s.stage refl f.represents.stage_is z);
    world_is = refl;
    black_are = black_now;
  }

  pub stopped_represents : Represents w.graph t stopped_world
  stopped_represents = represents_stop w.graph zones s t w stopped_world (zones_in zones) f st stopped_lawful

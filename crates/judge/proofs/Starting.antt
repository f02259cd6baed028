-- Marking begins: the judge stands for the world after it.
use Rattle.std.proofs.Common.{◌≡◌, ◌↔◌, ◌∙◌, inl, inr, ℕ, ◌<◌, List, [], Option, Some, None, Contains}
use Rattle.std.proofs.Common.{length, refl, sym, ap, subst, arith}
use Rattle.std.specs.Prelude.{slice_index_or}
use Rattle.std.specs.BTreeMap as tree
use Rattle.std.specs.FinMap as finite
use Rattle.std.specs.FinSet as set
use Rattle.std.proofs.lemmas.List.Elements.{at_from_Contains}
use Rattle.gz_names.specs.Order.{name_cmp}
use Rattle.gz_names.specs.Zones.{zones_in}
use Rattle.gz_names.specs.declared.names.Name.{Name}
use Rattle.gz_names.specs.declared.zone_sets.ZoneSet.{ZoneSet}
use Rattle.colour_defs.specs.Closure.{Closure, from}
use Rattle.colour_defs.specs.Graph.{GraphState, IsInZones}
use Rattle.colour_defs.specs.Lawful.{Begins}
use Rattle.colour_defs.specs.World.{Collection, Has, IsPresent, Names, Preparation, World, first_tally}
use Rattle.colour_defs.proofs.Lists.{get_contains, nothing_in_none}
use Rattle.plain_graph.specs.Indexed.{order_of}
use Rattle.plain_graph.specs.Reach.{IsDone, WalkState}
use Rattle.judge.specs.Bounds.{StandsPrepared, marking_tally}
use Rattle.judge.specs.Positions.{StandsIn}
use Rattle.judge.specs.Represents.{AreWaiting, HasFirstBlack, HasFound, IsCollected, IsPrepared, Represents}
use Rattle.judge.specs.Stages.{Shown, Starts, collecting}
use Rattle.judge.specs.Starts.{IsInRegister, IsInSlot, IsOutside}
use Rattle.judge.specs.Walks.{Walks}
use Rattle.judge.specs.Weak.{IsWatched}
use Rattle.judge.proofs.Formers.{former_is}
use Rattle.judge.proofs.Found.{reached_from}
use Rattle.judge.proofs.Settling.{no_zones}
use Rattle.judge.proofs.Standing.{prepared_at, prepared_stands, present_is}
use Rattle.judge.proofs.Waking.{ByLists, ByNames}

-- what places hold, by their list and by their numbers
held_at : (xs : List (Option Name)) (n : ℕ) (x : Name) → length xs ≡ n → Contains xs (Some x) → (r : ℕ) × (r < n)
    × (slice_index_or xs r None ≡ Some x)
held_at xs n x e c = let at = at_from_Contains xs (Some x) c in (at.0, omega (arith, at.1, e), at.2 None)

-- two ways to say from which names marking begins: by a set, and by a list from which a walk went
module _ (g : GraphState) (starts woken : Names) (names more : List Name) (walk : WalkState)
    (same : (x : Name) → Has starts x ↔ Contains names x) (done : IsDone g names walk) where
  pub first_closure : (x : Name) → Closure g (Has starts) x ↔ Contains walk.names x
  first_closure x = (
    λ c. (done.all x).1 (reached_from g (Has starts) (Contains names) (λ s h. from ((same s).0 h)) c),
    λ c. reached_from g (Contains names) (Has starts) (λ s h. from ((same s).1 h)) ((done.all x).0 c),
  )

  pub begun_closure : woken ≡ set.empty → more ≡ [] → (x : Name)
      → Closure g (ByNames starts woken) x ↔ Closure g (ByLists walk.names more) x
  begun_closure none nothing x = (
    λ c. reached_from g (ByNames starts woken) (ByLists walk.names more) (λ s h. elim h [
      | inl a ↦ from (inl ((done.all s).1 (from ((same s).0 a))))
      | inr b ↦ absurd (cc (b, ap (λ w. set.contains w s) none, set.contains-empty name_cmp s))
    ]) c,
    λ c. reached_from g (ByLists walk.names more) (ByNames starts woken) (λ s h. elim h [
      | inl a ↦ reached_from g (Contains names) (ByNames starts woken) (λ z k. from (inl ((same z).1 k)))
          ((done.all s).0 a)
      | inr b ↦ absurd (nothing_in_none s (subst (λ xs. Contains xs s) nothing b))
    ]) c,
  )

module _ (old new : Shown) (w v : World) (zs : List ℕ) (stands : StandsIn w.graph old w)
    (starts : Starts w.graph old new) (lawful : Begins w zs v) where
  abbrev g : GraphState
  g = w.graph

  abbrev zones : ZoneSet
  zones = starts.zones

  abbrev k : Collection
  k = lawful.collection

  ready : IsPrepared old starts.zones w
  ready = prepared_at stands.represents starts.zones starts.was

  same_preparation : ready.preparation ≡ lawful.preparation
  same_preparation = cc (ready.preparing_is, lawful.was)

  same_zones : zs ≡ zones_in starts.zones
  same_zones = sym lawful.of_zones ∙ ap (λ (p : Preparation). p.zones) (sym same_preparation) ∙ ready.zones_are

  registers_as : (x : Name) → Contains w.graph.registers (Some x) ↔ IsInRegister w.graph x
  registers_as x = (
    λ c. held_at w.graph.registers 16 x stands.laws.registers c,
    λ r. get_contains w.graph.registers r.0 x r.2,
  )

  slots_as : (x : Name) → Contains w.graph.slots (Some x) ↔ IsInSlot w.graph x
  slots_as x = (
    λ c. held_at w.graph.slots 64 x stands.laws.slots c,
    λ r. get_contains w.graph.slots r.0 x r.2,
  )

  black_out : (x : Name) → Has w.black x → IsOutside w.graph (zones_in starts.zones) old.cells x
  black_out x b =
      let l = (stands.laws.valid.preparing ready.preparation ready.preparing_is).left_out x b in (
        (present_is stands.represents x).0 l.0,
        subst (λ ns. IsInZones w.graph ns x → ⊥) ready.zones_are l.1,
      )

  black_as : (x : Name) → Has k.black_starts x ↔ Contains starts.started.begun.black x
  black_as x =
      let list = starts.started.begun.black_are x in (
        λ h. list.1 (elim ((lawful.black_starts x).0 h) [
          | inl r ↦ inl ((registers_as x).0 r)
          | inr b ↦ let o = black_out x b in inr (o.0, (o.1, (ready.black_are x).0 b))
        ]),
        λ c. (lawful.black_starts x).1 (elim (list.0 c) [
          | inl r ↦ inl ((registers_as x).1 r)
          | inr b ↦ inr ((ready.black_are x).1 b.1.1)
        ]),
      )

  outside_as : (x : Name) → (IsPresent w x × (IsInZones w.graph zs x → ⊥))
      ↔ IsOutside w.graph (zones_in starts.zones) old.cells x
  outside_as x = (
    λ h. ((present_is stands.represents x).0 h.0, subst (λ ns. IsInZones w.graph ns x → ⊥) same_zones h.1),
    λ h. ((present_is stands.represents x).1 h.0, subst (λ ns. IsInZones w.graph ns x → ⊥) (sym same_zones) h.1),
  )

  live_as : (x : Name) → Has k.live_starts x ↔ Contains starts.started.begun.live x
  live_as x =
      let list = starts.started.begun.live_are x in (
        λ h. list.1 (elim ((lawful.live_starts x).0 h) [
          | inl b ↦ elim ((lawful.black_starts x).0 b) [
            | inl r ↦ inl (inl ((registers_as x).0 r))
            | inr c ↦ inr (black_out x c)
          ]
          | inr o ↦ elim o [
            | inl s ↦ inl (inr ((slots_as x).0 s))
            | inr p ↦ inr ((outside_as x).0 p)
          ]
        ]),
        λ c. (lawful.live_starts x).1 (elim (list.0 c) [
          | inl h ↦ elim h [
            | inl r ↦ inl ((lawful.black_starts x).1 (inl ((registers_as x).1 r)))
            | inr s ↦ inr (inl ((slots_as x).1 s))
          ]
          | inr o ↦ inr (inr ((outside_as x).1 o))
        ]),
      )

  -- the former graph is the one of this moment
  former : new.former.graph ≡ w.graph
  former = starts.started.keeps.graph_is
      ∙ former_is old.former w.graph stands.sound.former (stands.sound.none_yet starts.zones starts.was)

  counted : new.tally ≡ first_tally w lawful.preparation
  counted =
      let p = prepared_stands stands.represents starts.zones starts.was in
      let same : p.0 ≡ lawful.preparation = cc (p.1, lawful.was) in
      starts.started.counted w lawful.preparation
      (subst (λ q. StandsPrepared w.graph starts.zones old.cells old.tally w q) same p.2)

  abbrev left : Shown
  left = record old {
    stage = collecting starts.zones starts.zones None;
    left_out = None;
    former = new.former;
    walks = Some starts.started.walks;
    tally = marking_tally w.graph (zones_in starts.zones) old.cells old.tally;
  }

  found : HasFound left k starts.started.walks
  found = record {
    walks_are = refl;
    former_is = lawful.snapshot_is ∙ sym former;
    black_are = λ x. subst (λ h. Closure k.snapshot (ByNames k.black_starts k.woken) x
        ↔ Closure h (ByLists starts.started.walks.black.names starts.started.walks.woken) x) (sym former)
        (subst (λ h. Closure h (ByNames k.black_starts k.woken) x
        ↔ Closure w.graph (ByLists starts.started.walks.black.names starts.started.walks.woken) x)
        (sym lawful.snapshot_is)
        (begun_closure w.graph k.black_starts k.woken starts.started.begun.black starts.started.walks.woken
        starts.started.walks.black black_as starts.started.begun.black_done lawful.woken_is
        starts.started.begun.woken x));
    live_are = λ x. subst (λ h. Closure k.snapshot (ByNames k.live_starts k.woken) x
        ↔ Closure h (ByLists starts.started.walks.live.names starts.started.walks.woken) x) (sym former)
        (subst (λ h. Closure h (ByNames k.live_starts k.woken) x
        ↔ Closure w.graph (ByLists starts.started.walks.live.names starts.started.walks.woken) x)
        (sym lawful.snapshot_is)
        (begun_closure w.graph k.live_starts k.woken starts.started.begun.live starts.started.walks.woken
        starts.started.walks.live live_as starts.started.begun.live_done lawful.woken_is
        starts.started.begun.woken x));
  }

  first : HasFirstBlack k starts.started.walks
  first x = subst (λ h. Closure h (Has k.black_starts) x ↔ Contains starts.started.walks.black.names x)
      (sym lawful.snapshot_is)
      (first_closure w.graph k.black_starts k.woken starts.started.begun.black starts.started.walks.woken
      starts.started.walks.black black_as starts.started.begun.black_done x)

  collected : IsCollected left starts.zones starts.zones None v
  collected = record {
    collection = k;
    collection_is = ap (λ (z : World). z.collection) lawful.world_is;
    alone = ap (λ (z : World). z.preparing) lawful.world_is;
    small = ready.small;
    zones_are = lawful.zones_are ∙ same_zones;
    marking_are = lawful.marking_are ∙ same_zones;
    groups_are = lawful.groups_are;
    tally_is = lawful.tally_is ∙ sym counted ∙ ap (λ (s : Shown). s.tally) starts.started.new_is;
    none_out = λ none. starts.none_out;
    found = λ has. (starts.started.walks, found);
    first = λ none walks is x. let same : starts.started.walks ≡ walks = cc is in
        subst (λ (u : Walks). Closure k.snapshot (Has k.black_starts) x ↔ Contains u.black.names x) same (first x);
  }

  represents_left : Represents w.graph left v
  represents_left = record {
    graph_is = ap (λ (z : World). z.graph) lawful.world_is;
    places_are = λ x. subst (λ (z : World). finite.get z.places x ≡ tree.get order_of old.cells x)
        (sym lawful.world_is) (stands.represents.places_are x);
    owners_are = ap (λ (z : World). z.owner) lawful.world_is ∙ stands.represents.owners_are;
    out_are = ap (λ (z : World). z.out) lawful.world_is ∙ stands.represents.out_are;
    white_are = λ a out. subst (λ (z : World). AreWaiting old z a) (sym lawful.world_is)
        (stands.represents.white_are a out);
    slots_are = ap (λ (z : World). z.weak.slots) lawful.world_is ∙ stands.represents.slots_are;
    watched_are = λ x. subst (λ (z : World). Has z.weak.watched x ↔ IsWatched old.weak x) (sym lawful.world_is)
        (stands.represents.watched_are x);
    black_are = λ still. absurd ((stands.laws.valid.preparing ready.preparation ready.preparing_is).some
        (ready.zones_are ∙ no_zones starts.zones still));
    stage_is = collected;
  }

  pub represents_start : Represents w.graph new v
  represents_start = subst (λ s. Represents w.graph s v) (sym starts.started.new_is) represents_left

  pub counted_first : new.tally ≡ first_tally w lawful.preparation
  counted_first = counted

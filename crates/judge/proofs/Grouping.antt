-- The groups are formed: the judge stands for the world after it.
use Rattle.std.proofs.Common.{◌≡◌, ◌↔◌, ◌∙◌, inl, inr, List, [], ◌++◌, map, Some, None, Contains}
use Rattle.std.proofs.Common.{ℕ, sym, ap, subst}
use Rattle.std.specs.BTreeMap as tree
use Rattle.std.specs.FinMap as finite
use Rattle.gz_names.specs.Zones.{zones_in}
use Rattle.gz_names.specs.declared.names.Name.{Name}
use Rattle.gz_names.specs.declared.zone_sets.ZoneSet.{ZoneSet}
use Rattle.colour_defs.specs.Closure.{Closure, from}
use Rattle.colour_defs.specs.Graph.{GraphState}
use Rattle.colour_defs.specs.Lawful.{FormsGroups}
use Rattle.colour_defs.specs.World.{BlackClosure, Collection, Has, LiveClosure, World}
use Rattle.colour_defs.proofs.Lists.{nothing_in_none}
use Rattle.plain_graph.specs.Indexed.{order_of}
use Rattle.plain_graph.specs.Reach.{IsDone, WalkState}
use Rattle.judge.specs.Positions.{StandsIn}
use Rattle.judge.specs.Represents.{AreWaiting, IsCollected, Represents}
use Rattle.judge.specs.Stages.{Forms, HasGroups, IsSettled, Shown, collecting}
use Rattle.judge.specs.Walks.{CatchUp, CatchesUp, IsFoundBlack, IsFoundLive, Walks}
use Rattle.judge.specs.Weak.{IsWatched}
use Rattle.judge.proofs.Found.{HasCaught, black_is, live_is, reached_from}
use Rattle.judge.proofs.Standing.{collected_at}
use Rattle.judge.proofs.Waking.{ByLists}

-- a walk that is done has found what is reached from what it has found
pub done_closure : (g : GraphState) (starts more : List Name) (walk : WalkState) → IsDone g starts walk → more ≡ []
    → (x : Name) → Closure g (ByLists walk.names more) x ↔ Contains walk.names x
done_closure g starts more walk done none x = (
  λ c. (done.all x).1 (reached_from g (ByLists walk.names more) (Contains starts) (λ s h. elim h [
    | inl a ↦ (done.all s).0 a
    | inr b ↦ absurd (nothing_in_none s (subst (λ xs. Contains xs s) none b))
  ]) c),
  λ c. from (inl c),
)

-- walks that have caught up have found the same
module _ (former : GraphState) (before after : Walks) (known : HasCaught former before after) where
  pub black_caught : (x : Name) → IsFoundBlack former after x ↔ IsFoundBlack former before x
  black_caught x =
      let done = known.caught.black known.black.starts known.black.follows in
      let all = done_closure former (known.black.starts ++ before.woken) after.woken after.black done
      known.caught.woken x in
      let is = black_is former before after known.caught known.black x in
      (λ c. is.0 (all.0 c), λ c. all.1 (is.1 c))

  pub live_caught : (x : Name) → IsFoundLive former after x ↔ IsFoundLive former before x
  live_caught x =
      let done = known.caught.live known.live.starts known.live.follows in
      let all = done_closure former (known.live.starts ++ before.woken) after.woken after.live done
      known.caught.woken x in
      let is = live_is former before after known.caught known.live x in
      (λ c. is.0 (all.0 c), λ c. all.1 (is.1 c))

module _ (g : GraphState) (groups : List ZoneSet) (gs : List (List ℕ)) (old new : Shown) (w v : World)
    (stands : StandsIn g old w) (forms : Forms g old groups new)
    (caught : CatchUp old.former.graph old.walks new.walks) (lawful : FormsGroups w gs v)
    (same : gs ≡ map zones_in groups) where
  running : IsCollected old forms.zones forms.marking None w
  running = collected_at stands.represents forms.zones forms.marking None forms.was

  same_collection : running.collection ≡ lawful.collection
  same_collection = cc (running.collection_is, lawful.running)

  abbrev k : Collection
  k = running.collection

  abbrev left : Shown
  left = record old {
    stage = collecting forms.zones forms.marking (Some groups);
    left_out = None;
    walks = new.walks;
  }

  up : (after : Walks) × (new.walks ≡ Some after) × CatchesUp old.former.graph forms.walks after
  up = subst (λ o. CatchUp old.former.graph o new.walks) forms.found caught

  known : HasCaught old.former.graph forms.walks up.0
  known = let f = stands.sound.walks forms.walks forms.found (subst HasGroups (sym forms.was) tt) in
      record { black = f.black; live = f.live; caught = up.2 }

  collection_then : v.collection ≡ Some (record k { groups = Some gs })
  collection_then = ap (λ (z : World). z.collection) lawful.world_is
      ∙ ap (λ (c : Collection). Some (record c { groups = Some gs })) (sym same_collection)

  collected : IsCollected left forms.zones forms.marking (Some groups) v
  collected = record {
    collection = record k { groups = Some gs };
    collection_is = collection_then;
    alone = ap (λ (z : World). z.preparing) lawful.world_is ∙ running.alone;
    small = running.small;
    zones_are = running.zones_are;
    marking_are = running.marking_are;
    groups_are = ap Some same;
    tally_is = running.tally_is;
    none_out = λ none. absurd (cc none);
    found = λ has.
        let f = running.found (subst HasGroups (sym forms.was) tt) in
        let w0 : f.0 ≡ forms.walks = cc (f.1.walks_are, forms.found) in
        let black = black_caught old.former.graph forms.walks up.0 known in
        let live = live_caught old.former.graph forms.walks up.0 known in (
          up.0,
          record {
            walks_are = up.1;
            former_is = f.1.former_is;
            black_are = λ x.
                let was = subst (λ (u : Walks). BlackClosure k x ↔ IsFoundBlack old.former.graph u x) w0
                (f.1.black_are x) in
                (λ c. (black x).1 (was.0 c), λ c. was.1 ((black x).0 c));
            live_are = λ x.
                let was = subst (λ (u : Walks). LiveClosure k x ↔ IsFoundLive old.former.graph u x) w0
                (f.1.live_are x) in
                (λ c. (live x).1 (was.0 c), λ c. was.1 ((live x).0 c));
          },
        );
    first = λ none. absurd (cc none);
  }

  represents_left : Represents g left v
  represents_left = record {
    graph_is = ap (λ (z : World). z.graph) lawful.world_is ∙ stands.represents.graph_is;
    places_are = λ x. subst (λ (z : World). finite.get z.places x ≡ tree.get order_of old.cells x)
        (sym lawful.world_is) (stands.represents.places_are x);
    owners_are = ap (λ (z : World). z.owner) lawful.world_is ∙ stands.represents.owners_are;
    out_are = ap (λ (z : World). z.out) lawful.world_is ∙ stands.represents.out_are;
    white_are = λ a out. subst (λ (z : World). AreWaiting old z a) (sym lawful.world_is)
        (stands.represents.white_are a out);
    slots_are = ap (λ (z : World). z.weak.slots) lawful.world_is ∙ stands.represents.slots_are;
    watched_are = λ x. subst (λ (z : World). Has z.weak.watched x ↔ IsWatched old.weak x) (sym lawful.world_is)
        (stands.represents.watched_are x);
    black_are = λ still.
        let b = stands.represents.black_are (subst IsSettled (sym forms.was) still) in record {
          within = b.within;
          names_are = λ x. subst (λ (z : World). Has z.black x ↔ Contains old.black.names x) (sym lawful.world_is)
              (b.names_are x);
        };
    stage_is = collected;
  }

  pub represents_forms : Represents g new v
  represents_forms = subst (λ s. Represents g s v) (sym forms.new_is) represents_left

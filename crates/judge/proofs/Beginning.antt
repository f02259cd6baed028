-- A collection begins, and its zones are prepared: the judge stands for the world after it.
use Rattle.std.proofs.Common.{◌≡◌, ◌↔◌, ◌∙◌, ℕ, ◌<◌, ◌^◌, List, Option, None, count_by, refl, sym}
use Rattle.std.proofs.Common.{ap, subst}
use Rattle.std.specs.BTreeMap as tree
use Rattle.std.specs.FinMap as finite
use Rattle.gz_names.specs.Zones.{zones_in}
use Rattle.gz_names.specs.declared.zone_sets.ZoneSet.{ZoneSet}
use Rattle.gz_names.specs.declared.names.Name.{Name}
use Rattle.colour_defs.specs.Graph.{GraphState, IsInZones, is_among}
use Rattle.colour_defs.specs.Laws.{IsValid}
use Rattle.colour_defs.specs.Lawful.{Prepares}
use Rattle.colour_defs.specs.World.{Has, World, first_preparation}
use Rattle.plain_graph.specs.Indexed.{order_of}
use Rattle.judge.specs.Bounds.{arena_count, with_arenas}
use Rattle.judge.specs.Represents.{IsAtRest, IsPrepared, Represents}
use Rattle.judge.specs.Stages.{Shown, idle, preparing}
use Rattle.judge.specs.Starts.{LeavesOut}
use Rattle.judge.specs.Walks.{IsLeftBlack}
use Rattle.judge.specs.Weak.{IsWatched}
use Rattle.judge.proofs.Settling.{no_zones, settled_world}
use Rattle.judge.proofs.Standing.{at_rest, present_is}

module _ (g : GraphState) (zones : ZoneSet) (old new : Shown) (w v : World) (stands : Represents g old w)
    (valid : IsValid w) (small : zones.bits < 2 ^ 64) (idle_is : old.stage ≡ idle)
    (leaves : LeavesOut g (zones_in zones) old.cells old.black.names new.left_out)
    (new_is : new ≡ record old {
      stage = preparing zones;
      left_out = new.left_out;
      walks = None;
      tally = with_arenas (arena_count (zones_in zones) old.owners);
    })
    (lawful : Prepares w (zones_in zones) v) where
  rest : IsAtRest old w
  rest = at_rest stands idle_is

  black_then : (x : Name) → Has v.black x ↔ IsLeftBlack new.left_out x
  black_then x =
      let was = stands.black_are (subst Rattle.judge.specs.Stages.IsSettled (sym idle_is) refl) in
      let out : (IsInZones w.graph (zones_in zones) x → ⊥) ↔ (IsInZones g (zones_in zones) x → ⊥) = (
        λ n. subst (λ a. IsInZones a (zones_in zones) x → ⊥) stands.graph_is n,
        λ n. subst (λ a. IsInZones a (zones_in zones) x → ⊥) (sym stands.graph_is) n,
      ) in (
        λ b. let h = (lawful.black_are x).0 b in
            (leaves x).1 (
              (present_is stands x).0 ((valid.settled
                  (settled_world stands valid (subst Rattle.judge.specs.Stages.IsSettled
                  (sym idle_is) refl))).present x h.0),
              (out.0 h.1, (was.names_are x).0 h.0),
            ),
        λ l. let h = (leaves x).0 l in (lawful.black_are x).1 ((was.names_are x).1 h.1.1, out.1 h.1.0),
      )

  prepared : IsPrepared (record old {
    stage = preparing zones;
    left_out = new.left_out;
    walks = None;
    tally = with_arenas (arena_count (zones_in zones) old.owners);
  }) zones v
  prepared = record {
    preparation = first_preparation w (zones_in zones);
    preparing_is = ap (λ (z : World). z.preparing) lawful.world_is;
    alone = ap (λ (z : World). z.collection) lawful.world_is ∙ rest.idle.none_running;
    small = small;
    zones_are = refl;
    arenas_are = ap (λ (os : List (Option ℕ)). count_by (λ o. is_among (zones_in zones) o) os) stands.owners_are;
    spent_is = refl;
    none_out = rest.none_out;
    black_are = black_then;
  }

  left : Represents g (record old {
    stage = preparing zones;
    left_out = new.left_out;
    walks = None;
    tally = with_arenas (arena_count (zones_in zones) old.owners);
  }) v
  left = record {
    graph_is = ap (λ (z : World). z.graph) lawful.world_is ∙ stands.graph_is;
    places_are = λ x. subst (λ (z : World). finite.get z.places x ≡ tree.get order_of old.cells x)
        (sym lawful.world_is) (stands.places_are x);
    owners_are = ap (λ (z : World). z.owner) lawful.world_is ∙ stands.owners_are;
    out_are = ap (λ (z : World). z.out) lawful.world_is ∙ stands.out_are;
    white_are = λ a out. subst (λ (z : World). Rattle.judge.specs.Represents.AreWaiting old z a) (sym lawful.world_is)
        (stands.white_are a out);
    slots_are = ap (λ (z : World). z.weak.slots) lawful.world_is ∙ stands.slots_are;
    watched_are = λ x. subst (λ (z : World). Has z.weak.watched x ↔ IsWatched old.weak x) (sym lawful.world_is)
        (stands.watched_are x);
    black_are = λ still. absurd (lawful.some (no_zones zones still));
    stage_is = prepared;
  }

  pub represents_begin : Represents g new v
  represents_begin = subst (λ s. Represents g s v) (sym new_is) left

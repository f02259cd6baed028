-- As a group ends, weak slots and watches lose its white cells, and the report tells those that were watched.
use Rattle.std.proofs.Common.{◌≡◌, ◌↔◌, ◌&&◌, Bool, true, false, refl, sym, ap, ◌∙◌, Option, None, Some, is_some}
use Rattle.std.proofs.Common.{map, Contains}
use Rattle.std.specs.FinMap as places
use Rattle.std.specs.FinSet as set
use Rattle.gz_names.specs.Zones.{zones_in}
use Rattle.gz_names.specs.declared.names.Name.{Name}
use Rattle.gz_names.specs.declared.numbers.Place.{Place}
use Rattle.arena_table.specs.Indexed.{in_zones}
use Rattle.colour_defs.specs.Lawful.{EndsGroup}
use Rattle.colour_defs.specs.WeakRefs.{LosesWeak, if_present}
use Rattle.colour_defs.specs.World.{World, Has, IsPresent, is_present}
use Rattle.colour_defs.proofs.Lists.{both_of, first_of_both, second_of_both}
use Rattle.colour_defs.proofs.Names.{names_apart}
use Rattle.heap_core.specs.Heap.{HeapState}
use Rattle.heap_core.specs.Shape.{name_at, zone_of}
use Rattle.heap_core.proofs.Places.{map-members}
use Rattle.slice_driver.specs.Collector.{CollectorState}
use Rattle.slice_driver.specs.Told.{IsTold}
use Rattle.slice_driver.specs.Worlds.{LiesIn}
use Rattle.slice_driver.proofs.group_end.Cells.{has_in_zones, in_zones_has, is_dead, is_white_colour}
use Rattle.slice_driver.proofs.group_end.Ready.{groups_are}
use Rattle.slice_driver.proofs.group_end.Worlds.{ended, gone_ended, if_placed, is_white_test, lawful_end, place_ended}
use Rattle.slice_driver.proofs.group_end.Ending.{Ending}

module _ (c : CollectorState) (w : World) (n : HeapState) (end : Ending c w n) where
  open end use {flown, collection as k, group as g, rest, ready as ending, lists.{grays, told, grays_are, told_are}}

  abbrev lies : LiesIn c.heap w
  lies = ending.represents.placed.lies

  abbrev after : World
  after = ended c.heap w k g rest

  -- what is named at a place stays present exactly where the place is not dead
  pub stays_alive : (x : Name) (p : Place) → name_at c.heap.shape p ≡ Some x → is_dead c.heap g p ≡ false
      → is_present after x ≡ true
  stays_alive x p named alive = ap is_some (place_ended c.heap g w x p ((lies.places_are x p).1 named) alive)

  pub goes_dead : (x : Name) (p : Place) → name_at c.heap.shape p ≡ Some x → is_dead c.heap g p ≡ true
      → is_present after x ≡ false
  goes_dead x p named dead = ap is_some (gone_ended c.heap g w x p ((lies.places_are x p).1 named) dead)

  slot_left : (o : Option Name) → if_placed after.places o ≡ if_present after o
  slot_left None = refl
  slot_left (Some x) = refl

  pub watched_left : (x : Name) → Has after.weak.watched x ↔ (Has w.weak.watched x × IsPresent after x)
  watched_left x = (
    λ has. (let both = sym retained ∙ has in (first_of_both _ _ both, second_of_both _ _ both)),
    λ both. retained ∙ both_of _ _ both.0 both.1,
  )
    where
      retained : set.contains after.weak.watched x
          ≡ (set.contains w.weak.watched x && places.contains_key after.places x)
      retained = set.contains-retain w.weak.watched (places.contains_key after.places) x
          (λ y e. ap (places.contains_key after.places) (sym (names_apart x y e)))

  told_gone : (x : Name) → IsTold c.heap g.bits x → Has w.weak.watched x × (IsPresent after x → ⊥)
  told_gone x t = (
    (lies.weak_are.watched_are x).1 (t.place, t.watched, t.named),
    λ there. (
        let dead : is_dead c.heap g t.place ≡ true =
        both_of _ _ (has_in_zones g _ t.here) (ap is_white_colour t.white) in
        let gone = goes_dead x t.place t.named dead in
        cc (there, gone)),
  )

  gone_told : (x : Name) → Has w.weak.watched x → (IsPresent after x → ⊥) → IsTold c.heap g.bits x
  gone_told x has gone = go (is_dead c.heap g at.0) refl
    where
      at : (p : Place) × Contains c.heap.weak_names.watched p × (name_at c.heap.shape p ≡ Some x)
      at = (lies.weak_are.watched_are x).0 has

      go : (b : Bool) → is_dead c.heap g at.0 ≡ b → IsTold c.heap g.bits x
      go true dead = record {
        place = at.0;
        watched = at.1;
        named = at.2;
        here = in_zones_has g ending.ready.small _ (first_of_both _ _ dead);
        white = is_white_test c.heap at.0
            (second_of_both (in_zones g.bits (zone_of c.heap.shape at.0)) _ dead);
      }
      go false alive = absurd (gone (stays_alive x at.0 at.2 alive))

  pub loses_ended : LosesWeak w told after
  loses_ended = record {
    slots_are = map-members (if_placed after.places) (if_present after) w.weak.slots (λ o has. slot_left o);
    watched_are = watched_left;
    told_are = record {
      ascending = told_are.ascending;
      has = λ x. ((λ m. told_gone x ((told_are.has x).0 m)), λ h. (told_are.has x).1 (gone_told x h.0 h.1));
    };
  }

  pub ends_group : EndsGroup w (zones_in g) grays told after
  ends_group = record {
    collection = k;
    rest = map zones_in rest;
    running = ending.running;
    first = groups_are c flown w k g rest ending;
    ends = lawful_end c flown w k g rest ending grays grays_are;
    loses = loses_ended;
  }

-- The heap after the end of a group has the present cells of the world after it, and what is to be swept.
use Rattle.std.proofs.Common.{◌≡◌, ◌↔◌, Bool, true, false, cond, refl, sym, ap, ◌∙◌, Option, None, Some}
use Rattle.std.proofs.Common.{slice_get}
use Rattle.std.specs.FinMap as places
use Rattle.std.specs.Option.{option_map}
use Rattle.gz_names.specs.Zones.{zones_in}
use Rattle.gz_names.specs.declared.names.Name.{Name}
use Rattle.gz_names.specs.declared.numbers.Place.{Place}
use Rattle.cell_bits.specs.declared.bits.Bits.{Bits}
use Rattle.arena_table.specs.Cells.{CellState}
use Rattle.arena_table.specs.Indexed.{in_zones}
use Rattle.colour_defs.specs.World.{World}
use Rattle.colour_defs.specs.Ends.{arenas_from}
use Rattle.colour_defs.proofs.Lists.{both_of, first_of_both, second_of_both}
use Rattle.heap_core.specs.Shape.{cell_of, name_at, out_of, zone_of}
use Rattle.heap_core.specs.Heap.{HeapState, colour_in}
use Rattle.slice_driver.specs.Collector.{CollectorState}
use Rattle.slice_driver.specs.Worlds.{IsUnswept, LiesIn}
use Rattle.slice_driver.proofs.abstraction.Named.{named_cell}
use Rattle.slice_driver.proofs.abstraction.Lying.{lies_from}
use Rattle.slice_driver.proofs.group_end.Cells.{is_dead, is_white_colour, out_at_end, outs_at_end, owners_at_end}
use Rattle.slice_driver.proofs.group_end.Cells.{stored_at_end, stored_present, white_test, whole_at_end}
use Rattle.slice_driver.proofs.group_end.Heaps.{after, arenas_are, graph_after, name_back, name_on, part, shows_after}
use Rattle.slice_driver.proofs.group_end.Heaps.{sized}
use Rattle.slice_driver.proofs.group_end.Maps.{entries_are, has_placed_by, placed_by_has}
use Rattle.slice_driver.proofs.group_end.WeakLeft.{names_weakly_after}
use Rattle.slice_driver.proofs.group_end.Worlds.{ended_place, place_ended}
use Rattle.slice_driver.proofs.group_end.Ending.{Ending}

module _ (c : CollectorState) (w : World) (n : HeapState) (end : Ending c w n) where
  open end use {group as g, ready as ending}

  out_is : (p : Place)
      → out_of n.shape p.0 ≡ cond (in_zones g.bits (zone_of c.heap.shape p)) (slice_get c.heap.colours p.0) None
  out_is p = out_at_end c.heap n g (arenas_are c w n end)
      (sized c w n end) ending.ready.kept p.0

  stored_is : (p : Place) → Rattle.heap_core.specs.Shape.stored_at n.shape p ≡ cell_of c.heap.shape p
  stored_is p = stored_at_end c.heap n g (arenas_are c w n end)
      (sized c w n end) ending.ready.kept p
      ∙ stored_present c.heap.shape ending.ready.kept p

  places_after : (x : Name) (p : Place)
      → (places.get (after c w n end).places x ≡ Some p)
      ↔ (name_at n.shape p ≡ Some x)
  places_after x p = (
    λ there. (let r = ended_place c.heap g w x p there in
        name_on c w n end p r.1
        ∙ (ending.represents.placed.lies.places_are x p).0 r.0),
    λ named. (let r = name_back c w n end p x named in
        place_ended c.heap g w x p ((ending.represents.placed.lies.places_are x p).1 r.0) r.1),
  )

  -- a dead place is not swept yet
  dead_unswept : (x : Name) (p : Place) → name_at c.heap.shape p ≡ Some x → is_dead c.heap g p ≡ true
      → IsUnswept n.shape p x
  dead_unswept x p named dead = go (slice_get c.heap.colours p.0) refl
    where
      go : (o : Option Bits) → slice_get c.heap.colours p.0 ≡ o → IsUnswept n.shape p x
      go None f = absurd (
          let cell = named_cell c.heap.shape p x named in
          let there = Rattle.slice_driver.proofs.group_end.Cells.bits_there c.heap.shape.arenas c.heap.colours
          (sized c w n end) p.0 in
          Rattle.slice_driver.proofs.group_end.Cells.arena_there c.heap.shape p cell.0 cell.1
          (λ arena at. let own = there arena at in cc (own.1, f)))
      go (Some bits) f = (let cell = named_cell c.heap.shape p x named in record {
        bits = bits;
        cell = cell.0;
        out_is = out_is p ∙ ap (λ b. cond b (slice_get c.heap.colours p.0) None)
            (first_of_both (in_zones g.bits (zone_of c.heap.shape p)) _ dead) ∙ f;
        white = white_test bits p.1 ∙ ap (λ o. is_white_colour (colour_in o p.1)) (sym f)
            ∙ second_of_both (in_zones g.bits (zone_of c.heap.shape p)) _ dead;
        cell_is = stored_is p ∙ cell.1;
        name_is = cell.2;
      })

  pub unswept_dead : (x : Name) (p : Place) → IsUnswept n.shape p x → (name_at c.heap.shape p ≡ Some x)
      × (is_dead c.heap g p ≡ true)
  unswept_dead x p u = (
    ap (option_map (λ (z : CellState). z.name)) (sym (stored_is p) ∙ u.cell_is) ∙ ap (λ y. Some y) u.name_is,
    go (in_zones g.bits (zone_of c.heap.shape p)) refl (sym (out_is p) ∙ u.out_is),
  )
    where
      go : (t : Bool) → in_zones g.bits (zone_of c.heap.shape p) ≡ t → cond t (slice_get c.heap.colours p.0) None
          ≡ Some u.bits → is_dead c.heap g p ≡ true
      go true t f = both_of _ _ t (ap (λ o. is_white_colour (colour_in o p.1)) f ∙ sym (white_test u.bits p.1)
          ∙ u.white)
      go false t f = absurd (cc f)

  pub lies_after : LiesIn n (after c w n end)
  lies_after = lies_from n (graph_after c w n end)
      (after c w n end)
      (shows_after c w n end)
      (part c w n end).well_formed
      (part c w n end).part
      (whole_at_end c.heap n g (arenas_are c w n end)
      (sized c w n end) ending.ready.kept
      ending.represents.placed.lies.whole)
      places_after
      (ending.represents.placed.lies.owner_is ∙ sym
      (owners_at_end c.heap n g (arenas_are c w n end)
      (sized c w n end)))
      (names_weakly_after c w n end)
      (ap (λ owner. arenas_from 0 owner (zones_in g)) ending.represents.placed.lies.owner_is
      ∙ sym (outs_at_end c.heap n g (arenas_are c w n end)
      (sized c w n end) ending.ready.small ending.ready.kept))
      (λ x p. (
        λ l. (let r = placed_by_has (is_dead c.heap g) (places.entries w.places) x p l in
            dead_unswept x p ((ending.represents.placed.lies.places_are x p).0 ((entries_are w.places x p).0 r.0)) r.1),
        λ u. (let r = unswept_dead x p u in
            has_placed_by (is_dead c.heap g) (places.entries w.places) x p
            ((entries_are w.places x p).1 ((ending.represents.placed.lies.places_are x p).1 r.0)) r.1),
      ))

  pub unswept_apart_after : (x : Name) (p q : Place) → IsUnswept n.shape p x → IsUnswept n.shape q x → p ≡ q
  unswept_apart_after x p q a b = ending.represents.placed.lies.shown.apart p q x (unswept_dead x p a).0
      (unswept_dead x q b).0

-- A compaction in the world that an idle collector stands for: the world after it.
use Rattle.std.proofs.Common.{◌<◌, ℕ, [], ◌∷◌, length, refl, sym, ap, subst, ◌∙◌}
use Rattle.colour_defs.specs.Compaction.{AreMoved, Compacts, FillArenas, given_up_from}
use Rattle.colour_defs.specs.Ends.{arenas_from}
use Rattle.colour_defs.specs.World.{World}
use Rattle.compact.specs.Packing.{held_of_zone}
use Rattle.heap_core.specs.Heap.{HeapState}
use Rattle.heap_core.specs.Moving.{count_from}
use Rattle.heap_core.specs.Shape.{Shape}
use Rattle.slice_driver.proofs.packing.Arenas.{given_counted, given_of, kept_counted, kept_of, split}
use Rattle.slice_driver.proofs.packing.Held.{held_is}
use Rattle.slice_driver.proofs.packing.Moved.{are_moved, movers, moving_first, placed}
use Rattle.slice_driver.proofs.packing.Movers.{in_order, movers_are, movers_counted}
use Rattle.slice_driver.proofs.packing.Packed.{Packed}

module _ (h new : HeapState) (w : World) (packed : Packed h new w) where
  abbrev s : Shape
  s = h.shape

  -- cells and arenas alone are others
  abbrev pub world_after : World
  world_after = record w {
    places = placed s packed.moves w.places;
    owner = given_up_from 0 w.owner (given_of packed.zone packed.first 0 s.arenas);
  }

  pub goes : AreMoved (kept_of packed.zone packed.first 0 s.arenas) (movers s packed.moves) w.places
      (placed s packed.moves w.places)
  goes = are_moved h w packed.lies packed.zone packed.first [] packed.moves w.places
      (moving_first h w packed.lies packed.zone packed.first packed.moves packed.packs.moves_are packed.packs.in_order)
      packed.packs.lowest

  pub compacts : Compacts w packed.zone (length packed.moves) (count_from packed.zone packed.first 0 s.arenas)
      world_after
  compacts = record {
    idle = packed.idle;
    made = subst (λ (n : ℕ). packed.zone < n) (sym (sym packed.lies.part.part.zones
        ∙ packed.lies.shown.zones_are)) packed.made;
    kept = kept_of packed.zone packed.first 0 s.arenas;
    given_up = given_of packed.zone packed.first 0 s.arenas;
    arenas_are = ap (λ os. arenas_from 0 os (packed.zone ∷ [])) packed.lies.owner_is
        ∙ split packed.zone packed.first 0 s.arenas packed.small;
    few = subst (λ (n : ℕ). FillArenas n (length (kept_of packed.zone packed.first 0 s.arenas))) (sym
        (held_is h w packed.lies packed.zone packed.kept))
        (subst (λ (n : ℕ). FillArenas (held_of_zone packed.zone s.arenas) n) (sym
        (kept_counted packed.zone packed.first 0 s.arenas))
        packed.packs.few);
    movers = movers s packed.moves;
    movers_are = movers_are h w packed.lies packed.zone packed.first packed.moves packed.packs.moves_are;
    in_order = in_order h w packed.lies packed.zone packed.first packed.moves packed.packs.moves_are
        packed.packs.in_order;
    are_moved = goes;
    world_is = refl;
    moved_is = sym (movers_counted s packed.moves (λ m c. (packed.packs.moves_are.from m c).0));
    given_is = sym (given_counted packed.zone packed.first 0 s.arenas);
  }

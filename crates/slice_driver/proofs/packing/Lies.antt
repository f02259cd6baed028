-- After a compaction the heap's cells lie where the world has them.
use Rattle.std.proofs.Common.{◌≡◌, ℕ, suc, List, [], ◌∷◌, map, Option, None, is_some}
use Rattle.std.proofs.Common.{slice_get, if◌then◌else◌, refl, sym, ap, subst, ◌∙◌}
use Rattle.gz_names.specs.declared.names.Name.{Name}
use Rattle.cell_bits.specs.declared.bits.Bits.{Bits}
use Rattle.weak_refs.specs.WeakNames.{WeakNamesState}
use Rattle.colour_defs.specs.Compaction.{given_up_from}
use Rattle.colour_defs.specs.World.{IsPresent as IsPresentIn, World}
use Rattle.colour_defs.specs.Present as present
use Rattle.colour_defs.proofs.ValidCompaction.{moved_kept, moved_was}
use Rattle.heap_core.specs.Heap.{HeapState}
use Rattle.heap_core.specs.Shape.{ArenaShape, Shape, out_in}
use Rattle.slice_driver.specs.Worlds.{LiesIn, NamesWeakly, outs_from, owners_of}
use Rattle.slice_driver.proofs.basics.Owners.{owner_by}
use Rattle.slice_driver.proofs.packing.Arenas.{given_of, kept_of, owners_after}
use Rattle.slice_driver.proofs.packing.InWorld.{goes, world_after}
use Rattle.slice_driver.proofs.packing.Moved.{movers, placed}
use Rattle.slice_driver.proofs.packing.Movers.{movers_are}
use Rattle.slice_driver.proofs.packing.NamedWeakly.{names_weakly_moved}
use Rattle.slice_driver.proofs.packing.Names.{places_after}
use Rattle.slice_driver.proofs.packing.Packed.{Packed}

-- no arena is out
nothing_out : (n : ℕ) (arenas : List ArenaShape) → ((a : ℕ) → out_in (slice_get arenas a) ≡ None)
    → outs_from n arenas ≡ []
nothing_out n [] none = refl
nothing_out n (arena ∷ arenas) none =
    ap (λ (o : Option Bits). if is_some o then n ∷ outs_from (suc n) arenas else outs_from (suc n) arenas) (none 0)
    ∙ nothing_out (suc n) arenas (λ a. none (suc a))

-- owners, by the zones that arenas have
owners_by_zone : (arenas : List ArenaShape)
    → owners_of arenas ≡ map owner_by (map (λ (arena : ArenaShape). arena.zone) arenas)
owners_by_zone [] = refl
owners_by_zone (arena ∷ arenas) = ap (λ (os : List (Option ℕ)). owner_by arena.zone ∷ os) (owners_by_zone arenas)

module _ (h new : HeapState) (w : World) (packed : Packed h new w) where
  abbrev s : Shape
  s = h.shape

  abbrev v : World
  v = world_after h new w packed

  still : (x : Name) → IsPresentIn w x → IsPresentIn v x
  still x here = moved_kept (kept_of packed.zone packed.first 0 s.arenas) (movers s packed.moves) w.places
      (placed s packed.moves w.places)
      (goes h new w packed) x here

  was : (x : Name) → IsPresentIn v x → IsPresentIn w x
  was x here = moved_was (kept_of packed.zone packed.first 0 s.arenas) (movers s packed.moves) w.places
      (placed s packed.moves w.places)
      (goes h new w packed)
      (λ y c. (let at = (movers_are h w packed.lies packed.zone packed.first packed.moves packed.packs.moves_are y).0
      c in ap is_some at.1)) x here

  part_after : present.Shows v packed.lies.graph
  part_after = record {
    well_formed = packed.lies.part.well_formed;
    part = packed.lies.part.part;
    here = λ x. (λ e. still x ((packed.lies.part.here x).0 e), λ p. (packed.lies.part.here x).1 (was x p));
  }

  owners_now : v.owner ≡ owners_of new.shape.arenas
  owners_now = ap (λ (os : List (Option ℕ)). given_up_from 0 os (given_of packed.zone packed.first 0 s.arenas))
      packed.lies.owner_is
      ∙ (sym (owners_after packed.zone packed.first s.arenas)
      ∙ (sym (ap (map owner_by) packed.relocates.owners) ∙ sym (owners_by_zone new.shape.arenas)))

  pub lies_after : LiesIn new v
  lies_after = record {
    whole = packed.relocates.whole packed.lies.whole;
    graph = packed.lies.graph;
    shown = packed.relocates.shows packed.lies.graph packed.lies.shown;
    part = part_after;
    places_are = places_after h new w packed;
    owner_is = owners_now;
    weak_are = subst (λ (ns : WeakNamesState). NamesWeakly new.shape ns w.weak)
        (sym (ap (λ (k : HeapState). k.weak_names) packed.relocates.rest))
        (names_weakly_moved h new w packed);
    out_is = packed.lies.out_is ∙ (nothing_out 0 s.arenas packed.kept ∙ sym
        (nothing_out 0 new.shape.arenas packed.relocates.outs));
    white_are = λ x p. (
      λ c. absurd (let u = (packed.lies.white_are x p).0 c in let none = packed.kept p.0 in let out = u.out_is in cc
          (none, out)),
      λ u. absurd (let none = packed.relocates.outs p.0 in let out = u.out_is in cc (none, out)),
    );
  }

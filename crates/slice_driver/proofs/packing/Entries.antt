-- Entries of weak maps after a compaction: those that were, between the places to which their cells went.
use Rattle.std.proofs.Common.{◌≡◌, Some, sym, ap, ◌∙◌}
use Rattle.gz_names.specs.Moves.{moved}
use Rattle.gz_names.specs.declared.names.Name.{Name}
use Rattle.gz_names.specs.declared.numbers.Place.{Place}
use Rattle.colour_defs.specs.World.{World}
use Rattle.heap_core.specs.Heap.{HeapState}
use Rattle.heap_core.specs.Shape.{IsPresent, name_at, zone_of}
use Rattle.heap_core.specs.Shows.{Shows}
use Rattle.barriers.specs.Reached.{HasEntry}
use Rattle.slice_driver.proofs.abstraction.Named.{name_of}
use Rattle.slice_driver.proofs.packing.Names.{name_came}
use Rattle.slice_driver.proofs.packing.Packed.{Packed}

module _ (h new : HeapState) (w : World) (packed : Packed h new w) where
  -- the place from which a cell of a name came
  from_named : (x : Name) (p q : Place) → name_at new.shape p ≡ Some x → name_at h.shape q ≡ Some x
      → moved packed.moves q ≡ p
  from_named x p q now was =
      let from = name_came h new w packed x p now in
      ap (moved packed.moves) (packed.lies.shown.apart q from.0 x was from.1) ∙ from.2

  pub entry_came : (m k v : Place) → HasEntry new.shape m k v → (a : Place) × (b : Place) × (c : Place)
      × HasEntry h.shape a b c × (moved packed.moves a ≡ m) × (moved packed.moves b ≡ k) × (moved packed.moves c ≡ v)
  entry_came m k v entry =
      let shown : Shows new packed.lies.graph = packed.relocates.shows packed.lies.graph packed.lies.shown in
      let held = shown.entries_held m k v entry in
      let x = name_of new.shape m held.0 in
      let y = name_of new.shape k held.1 in
      let z = name_of new.shape v held.2 in
      let known = packed.lies.shown.entries_known x.0 y.0 z.0
      (shown.entries_are m k v x.0 y.0 z.0 entry x.1 y.1 z.1) in (
        known.0,
        known.1,
        known.2,
        known.3,
        from_named x.0 m known.0 x.1 known.4,
        from_named y.0 k known.1 y.1 known.5,
        from_named z.0 v known.2 z.1 known.6,
      )

  -- so its cells lie in the zones in which they lay
  pub zone_came : (p q : Place) → IsPresent h.shape q → moved packed.moves q ≡ p
      → zone_of new.shape p ≡ zone_of h.shape q
  zone_came p q there went = sym (ap (zone_of new.shape) went) ∙ packed.relocates.zones q there

-- What a compaction leaves as it was: rows are at home, and nothing is being swept.
use Rattle.std.proofs.Common.{ℕ, map, Option, Contains, is_some, sym, ap, subst, ◌∙◌}
use Rattle.gz_names.specs.Moves.{moved}
use Rattle.cell_bits.specs.declared.bits.Bits.{Bits}
use Rattle.weak_maps.specs.Moving.{row_forwarded}
use Rattle.weak_maps.specs.WeakMaps.{WeakTableState}
use Rattle.colour_defs.specs.World.{World}
use Rattle.heap_core.specs.Heap.{HeapState}
use Rattle.heap_core.specs.Shape.{IsPresent}
use Rattle.heap_core.proofs.Places.{present_within}
use Rattle.slice_driver.specs.Represents.{IsBeingSwept}
use Rattle.slice_driver.specs.Worlds.{AreRowsAtHome, IsRowAtHome}
use Rattle.slice_driver.proofs.packing.NamedWeakly.{came, went_there}
use Rattle.slice_driver.proofs.packing.Packed.{Packed}

module _ (h new : HeapState) (w : World) (packed : Packed h new w) where
  -- the key of a row lies in its zone where it went
  pub homes_after : AreRowsAtHome h.shape → AreRowsAtHome new.shape
  homes_after homes row has =
      let rows : Contains (map (row_forwarded packed.moves) h.shape.weak.delegates.rows) row =
      subst (λ (t : WeakTableState). Contains t.delegates.rows row)
      (ap (λ (k : HeapState). k.shape.weak) packed.relocates.rest) has in
      let from = came (row_forwarded packed.moves) h.shape.weak.delegates.rows row rows in
      let value = packed.entries.entered from.0 from.1 in
      let there : IsPresent h.shape from.0.key =
      (packed.lies.shown.entries_held from.0.map from.0.key value.0 value.1).1 in
      subst (IsRowAtHome new.shape) from.2 (record {
        within = present_within new.shape (moved packed.moves from.0.key)
            (went_there h new w packed from.0.key there);
        zone_is = (homes from.0 from.1).zone_is ∙ sym (packed.relocates.zones from.0.key there);
      })

  -- no arena was out, and none is
  pub swept_after : (flown : ℕ → Option Bits) → IsBeingSwept h.shape flown → IsBeingSwept new.shape flown
  swept_after flown swept = record {
    apart = λ x p q up uq. absurd (let none = packed.relocates.outs p.0 in let out = up.out_is in cc (none, out));
    flies = record {
      covers = λ a. swept.flies.covers a
          ∙ (ap (λ (o : Option Bits). is_some o) (packed.kept a) ∙ sym (ap (λ (o : Option Bits). is_some o)
          (packed.relocates.outs a)));
      woken = λ a before now out flying. absurd (let none = packed.relocates.outs a in cc (none, out));
    };
  }

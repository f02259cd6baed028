-- After a compaction the same cells are black, and none runs.
use Rattle.std.proofs.Common.{◌≡◌, sym, ap, subst, ◌∙◌}
use Rattle.colour_defs.specs.World.{Has, World}
use Rattle.heap_core.specs.Heap.{HeapState}
use Rattle.heap_core.specs.Shape.{state_in}
use Rattle.barriers.specs.Colours.{IsBlack}
use Rattle.slice_driver.specs.Closures.{AreBlack}
use Rattle.slice_driver.specs.Collector.{CollectorState}
use Rattle.slice_driver.specs.Represents.{IsIdle}
use Rattle.slice_driver.proofs.abstraction.Named.{named_present}
use Rattle.slice_driver.proofs.packing.Names.{name_came}
use Rattle.slice_driver.proofs.packing.Packed.{Packed}

module _ (h new : HeapState) (w : World) (packed : Packed h new w) where
  pub black_after : (v : World) → v.black ≡ w.black → AreBlack h w → AreBlack new v
  black_after v same black x p named =
      let from = name_came h new w packed x p named in
      let both = black x from.0 from.1 in
      let colour = packed.relocates.colours from.0 (named_present h.shape from.0 x from.1) in (
        λ has. subst (IsBlack new) from.2 (colour ∙ both.0 (subst (λ b. Has b x) same has)),
        λ is. subst (λ b. Has b x) (sym same)
            (both.1 (sym colour ∙ subst (IsBlack new) (sym from.2) is)),
      )

pub idle_after : (c : CollectorState) (new : HeapState) (w : World) → Packed c.heap new w → IsIdle c
    → IsIdle (record c { heap = new })
idle_after c new w packed idle = record {
  states = λ z. ap (λ (k : HeapState). state_in k.shape z) packed.relocates.rest ∙ idle.states z;
  kept = packed.relocates.outs;
  black = idle.black;
  gray = idle.gray;
}

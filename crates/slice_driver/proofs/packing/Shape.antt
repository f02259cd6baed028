-- The shape of a heap after a compaction.
use Rattle.std.proofs.Common.{◌≡◌, ℕ, List, length, slice_get, Option, Some, None, refl, sym, ap, subst}
use Rattle.std.proofs.Common.{◌∙◌, is_some, arith}
use Rattle.std.specs.Option.{option_map}
use Rattle.gz_names.specs.Moves.{moved}
use Rattle.gz_names.specs.declared.numbers.CompNo.{CompNo}
use Rattle.gz_names.specs.declared.numbers.Place.{Place}
use Rattle.arena_table.specs.Cells.{CellState}
use Rattle.arena_table.specs.Moving.{forwarded}
use Rattle.colour_defs.specs.World.{World}
use Rattle.heap_core.specs.Heap.{HeapState}
use Rattle.heap_core.specs.Shape.{IsDelegate, IsPresent, cell_of, field_at, field_in, zone_of}
use Rattle.barriers.specs.Invariant.{ShapeInvariant}
use Rattle.slice_driver.proofs.packing.Delegates.{delegate_went, delegates_after}
use Rattle.slice_driver.proofs.packing.Entries.{entry_came, zone_came}
use Rattle.slice_driver.proofs.packing.Fields.{field_came}
use Rattle.slice_driver.proofs.packing.NamedWeakly.{went_there}
use Rattle.slice_driver.proofs.packing.Packed.{Packed}

-- what has a field is present
pub field_present : (h : HeapState) (p q : Place) (f : ℕ) → field_at h.shape p f ≡ Some q → IsPresent h.shape p
field_present h p q f e = by (cell_of h.shape p) refl e
  where
    by : (o : Option CellState) → cell_of h.shape p ≡ o → field_in o f ≡ Some q → IsPresent h.shape p
    by None at e = absurd (cc e)
    by (Some cell) at e = ap is_some at

module _ (h new : HeapState) (w : World) (packed : Packed h new w) where
  came_zone : (p q : Place) → IsPresent h.shape q → moved packed.moves q ≡ p → zone_of new.shape p ≡ zone_of h.shape q
  came_zone = zone_came h new w packed

  went : (q : Place) → IsPresent h.shape q → IsPresent new.shape (moved packed.moves q)
  went = went_there h new w packed

  at_home_after : (x : Place) (cell : CellState) → cell_of new.shape x ≡ Some cell
      → slice_get new.shape.comps cell.comp.0 ≡ Some (zone_of new.shape x)
  at_home_after x cell at =
      let from = packed.relocates.back x (ap is_some at) in
      by from.0 from.1 from.2 (cell_of h.shape from.0) refl
      (sym (packed.relocates.cells from.0 from.1) ∙ (ap (cell_of new.shape) from.2 ∙ at))
    where
      by : (p : Place) → IsPresent h.shape p → moved packed.moves p ≡ x → (o : Option CellState) → cell_of h.shape p ≡ o
          → option_map (forwarded packed.moves) o ≡ Some cell
          → slice_get new.shape.comps cell.comp.0 ≡ Some (zone_of new.shape x)
      by p there goes None is e = absurd (cc e)
      by p there goes (Some c) is e =
          let comp : c.comp ≡ cell.comp = cc (ap (λ (o : Option CellState). option_map (λ
          (y : CellState). y.comp) o) e) in
          let comps : new.shape.comps ≡ h.shape.comps = ap (λ (k : HeapState). k.shape.comps) packed.relocates.rest in
          ap (λ (cs : List ℕ). slice_get cs cell.comp.0) comps
          ∙ (ap (λ (n : CompNo). slice_get h.shape.comps n.0) (sym comp)
          ∙ (packed.shape.at_home p c is ∙ ap Some (sym (came_zone x p there goes))))

  pub shape_after : ShapeInvariant new.shape
  shape_after = record {
    made = λ x there.
        let from = packed.relocates.back x there in
        let small = packed.shape.made from.0 from.1 in
        let zone = came_zone x from.0 from.1 from.2 in
        let many = ap (λ (k : HeapState). length k.shape.states) packed.relocates.rest in
        omega (arith, small, zone, many);
    at_home = at_home_after;
    targets = λ x y e.
        let from = field_came h new w packed x y e.0 (field_present new x y e.0 e.2) e.2 in
        subst (IsPresent new.shape) from.5 (went from.1 (packed.shape.targets from.0 from.1 (e.0, e.1, from.3)));
    across = λ x y f lt e apart.
        let from = field_came h new w packed x y f (field_present new x y f e) e in
        let was = packed.shape.across from.0 from.1 f lt from.3 (λ same. apart (came_zone x from.0 from.2 from.4
        ∙ (same ∙ sym (came_zone y from.1 (packed.shape.targets from.0 from.1 (f, lt, from.3)) from.5)))) in
        subst (λ (z : Place). IsDelegate new.shape z y) from.4
        (subst (λ (z : Place). IsDelegate new.shape (moved packed.moves from.0) z) from.5
        (delegate_went h new w packed from.0 from.1 from.2 was));
    entries = λ m k v e. (packed.relocates.shows packed.lies.graph packed.lies.shown).entries_held m k v e;
    one_zone = λ m k v e.
        let from = entry_came h new w packed m k v e in
        let held = packed.lies.shown.entries_held from.0 from.1 from.2 from.3 in
        let one = packed.shape.one_zone from.0 from.1 from.2 from.3 in
        let value = came_zone v from.2 held.2 from.6 in (
          came_zone m from.0 held.0 from.4 ∙ (one.0 ∙ sym value),
          came_zone k from.1 held.1 from.5 ∙ (one.1 ∙ sym value),
        );
    delegates = delegates_after h new w packed;
    kept = λ x marking. packed.relocates.outs x.0;
  }

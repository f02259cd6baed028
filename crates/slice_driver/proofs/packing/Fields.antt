-- Edges after a compaction: those that were, between the places to which their ends went.
use Rattle.std.proofs.Common.{◌≡◌, ℕ, zero, suc, List, [], ◌∷◌, map, slice_get, Option, Some, None, refl, sym, ap, ◌∙◌}
use Rattle.std.specs.Option.{option_map}
use Rattle.gz_names.specs.Moves.{moved}
use Rattle.gz_names.specs.declared.numbers.Place.{Place}
use Rattle.arena_table.specs.Cells.{CellState, joined}
use Rattle.arena_table.specs.Moving.{forwarded}
use Rattle.colour_defs.specs.World.{World}
use Rattle.heap_core.specs.Heap.{HeapState}
use Rattle.heap_core.specs.Shape.{HasEdge, IsPresent, cell_of, field_at, field_in}
use Rattle.slice_driver.proofs.abstraction.Named.{some_one}
use Rattle.slice_driver.proofs.packing.Packed.{Packed}

-- a field of forwarded fields
joined_map : (f : Place → Place) (fs : List (Option Place)) (n : ℕ)
    → joined (slice_get (map (option_map f) fs) n) ≡ option_map f (joined (slice_get fs n))
joined_map f [] n = refl
joined_map f (o ∷ fs) zero = refl
joined_map f (o ∷ fs) (suc n) = joined_map f fs n

module _ (h new : HeapState) (w : World) (packed : Packed h new w) where
  -- a cell leads to where what it led to went
  pub field_went : (p : Place) (n : ℕ) → IsPresent h.shape p
      → field_at new.shape (moved packed.moves p) n ≡ option_map (moved packed.moves) (field_at h.shape p n)
  field_went p n there = ap (λ (o : Option CellState). field_in o n) (packed.relocates.cells p there)
      ∙ by (cell_of h.shape p)
    where
      by : (o : Option CellState) → field_in (option_map (forwarded packed.moves) o) n
          ≡ option_map (moved packed.moves) (field_in o n)
      by None = refl
      by (Some cell) = joined_map (moved packed.moves) cell.fields n

  pub edge_went : (p q : Place) → IsPresent h.shape p → HasEdge h.shape p q
      → HasEdge new.shape (moved packed.moves p) (moved packed.moves q)
  edge_went p q there e = (e.0, e.1, field_went p e.0 there ∙ ap (option_map (moved packed.moves)) e.2)

  -- and each field was one
  pub field_came : (x y : Place) (n : ℕ) → IsPresent new.shape x → field_at new.shape x n ≡ Some y
      → (p : Place) × (q : Place) × IsPresent h.shape p × (field_at h.shape p n ≡ Some q) × (moved packed.moves p ≡ x)
      × (moved packed.moves q ≡ y)
  field_came x y n there e =
      let from = packed.relocates.back x there in
      let led : option_map (moved packed.moves) (field_at h.shape from.0 n) ≡ Some y =
      sym (field_went from.0 n from.1) ∙ (ap (λ (p : Place). field_at new.shape p n) from.2 ∙ e) in
      by from.0 from.1 from.2 (field_at h.shape from.0 n) refl led
    where
      by : (p : Place) → IsPresent h.shape p → moved packed.moves p ≡ x → (o : Option Place) → field_at h.shape p n ≡ o
          → option_map (moved packed.moves) o ≡ Some y
          → (a : Place) × (b : Place) × IsPresent h.shape a × (field_at h.shape a n
          ≡ Some b) × (moved packed.moves a ≡ x)
          × (moved packed.moves b ≡ y)
      by p here went None at led = absurd (cc led)
      by p here went (Some q) at led = (p, q, here, at, went, some_one (moved packed.moves q) y led)

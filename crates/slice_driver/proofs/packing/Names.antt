-- Where cells lie after a compaction, by their names.
use Rattle.std.proofs.Common.{◌≡◌, ◌↔◌, suc, if◌then◌else◌, List, [], ◌∷◌, Option, Some, None}
use Rattle.std.proofs.Common.{Contains, refl, sym, ap, subst, ◌∙◌, inl, inr, arith}
use Rattle.std.specs.FinMap as map
use Rattle.std.specs.Option.{option_map}
use Rattle.gz_names.specs.Moves.{AreInOrder, moved}
use Rattle.gz_names.specs.declared.moves.Move.{Move}
use Rattle.gz_names.specs.declared.names.Name.{Name}
use Rattle.gz_names.specs.declared.numbers.Place.{Place}
use Rattle.gz_names.proofs.Moving.{before-apart, contained, moved-cases, moved-stays, same-apart, same-true}
use Rattle.arena_table.specs.Cells.{CellState}
use Rattle.arena_table.specs.Moving.{forwarded}
use Rattle.colour_defs.specs.World.{World}
use Rattle.colour_defs.proofs.Lists.{contains_cases, nothing_in_none}
use Rattle.heap_core.specs.Heap.{HeapState}
use Rattle.heap_core.specs.Shape.{IsPresent, Shape, cell_of, name_at}
use Rattle.slice_driver.proofs.abstraction.Named.{named_present}
use Rattle.slice_driver.proofs.packing.Moved.{Went, first_of, moving_first, placed, stands_after}
use Rattle.slice_driver.proofs.packing.Packed.{Packed}

-- where moves in order take a place
moved_here : (ms : List Move) → AreInOrder ms → (m : Move) → Contains ms m → moved ms m.from ≡ m.to
moved_here [] up m c = absurd (nothing_in_none m c)
moved_here (n ∷ ms) up m c = elim (contains_cases n ms m c) [
  | inl same ↦ subst (λ (x : Move). moved (n ∷ ms) x.from ≡ x.to) same
      (ap (λ b. if b then n.to else moved ms n.from) (same-true n.from))
  | inr later ↦ (
      ap (λ b. if b then n.to else moved ms m.from)
      (same-apart n.from m.from (before-apart n.from m.from (first_of n ms up m later)))
      ∙ moved_here ms (λ i j d lt within. up (suc i) (suc j) d (omega (arith, lt)) (omega (arith, within))) m later)
]

moved_as : (ms : List Move) → AreInOrder ms → (q p : Place) → Went ms q p → moved ms q ≡ p
moved_as ms up q p (inl went) = ap (moved ms) (sym went.2) ∙ (moved_here ms up went.0 went.1 ∙ went.3)
moved_as ms up q p (inr stays) = moved-stays ms q stays.1 ∙ stays.0

as_moved : (ms : List Move) (q : Place) → Went ms q (moved ms q)
as_moved ms q = elim (moved-cases ms q) [
  | inl went ↦ inl (went.1, contained ms went.0 went.1 went.2, went.3, sym went.4)
  | inr stays ↦ inr (sym stays.0, stays.1)
]

module _ (h new : HeapState) (w : World) (packed : Packed h new w) where
  abbrev s : Shape
  s = h.shape

  -- a cell has its name where it went
  name_kept : (q : Place) → IsPresent s q → name_at new.shape (moved packed.moves q) ≡ name_at s q
  name_kept q there = ap (option_map (λ (c : CellState). c.name)) (packed.relocates.cells q there) ∙ by (cell_of s q)
    where
      by : (o : Option CellState) → option_map (λ (c : CellState). c.name) (option_map (forwarded packed.moves) o)
          ≡ option_map (λ (c : CellState). c.name) o
      by None = refl
      by (Some cell) = refl

  pub name_went : (x : Name) (q : Place) → name_at s q ≡ Some x → name_at new.shape (moved packed.moves q) ≡ Some x
  name_went x q e = name_kept q (named_present s q x e) ∙ e

  -- and each cell that is there came from where it was
  pub name_came : (x : Name) (p : Place) → name_at new.shape p ≡ Some x
      → (q : Place) × (name_at s q ≡ Some x) × (moved packed.moves q ≡ p)
  name_came x p e =
      let from = packed.relocates.back p (named_present new.shape p x e) in (
        from.0,
        sym (name_kept from.0 from.1) ∙ (ap (name_at new.shape) from.2 ∙ e),
        from.2,
      )

  -- so the world's places are the heap's
  pub places_after : (x : Name) (p : Place)
      → (map.get (placed s packed.moves w.places) x ≡ Some p) ↔ (name_at new.shape p ≡ Some x)
  places_after x p =
      let all = stands_after h w packed.lies packed.zone packed.first [] packed.moves w.places
      (moving_first h w packed.lies packed.zone packed.first packed.moves packed.packs.moves_are packed.packs.in_order)
      in
      let same : (m : Move) → Contains all.0 m ↔ Contains packed.moves m = λ m. (
        λ c. elim ((all.2 m).0 c) [ inl none ↦ absurd (nothing_in_none m none) | inr d ↦ d ],
        λ c. (all.2 m).1 (inr c),
      ) in (
        λ e. (let r = (all.1 x p).0 e in
            let to = moved_as packed.moves packed.packs.in_order r.0 p (went_as all.0 packed.moves (λ m. (same m).0)
            (λ m. (same m).1) r.0 p
            r.2) in
            subst (λ (y : Place). name_at new.shape y ≡ Some x) to (name_went x r.0 r.1)),
        λ e. (let r = name_came x p e in
            (all.1 x p).1 (
              r.0,
              r.1,
              went_as packed.moves all.0 (λ m. (same m).1) (λ m. (same m).0) r.0 p
                  (subst (λ (y : Place). Went packed.moves r.0 y) r.2 (as_moved packed.moves r.0)),
            )),
      )
    where
      went_as : (ms ns : List Move) → ((m : Move) → Contains ms m → Contains ns m)
          → ((m : Move) → Contains ns m → Contains ms m) → (q y : Place) → Went ms q y → Went ns q y
      went_as ms ns on back q y (inl went) = inl (went.0, on went.0 went.1, went.2, went.3)
      went_as ms ns on back q y (inr stays) = inr (stays.0, λ left. stays.1 (left.0, back left.0 left.1, left.2))

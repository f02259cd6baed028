-- The names of gray cells in the worlds that a collector stands for, where no zone is marking.
use Rattle.std.proofs.Common.{◌≡◌, ◌↔◌, ◌<◌, ℕ, Bool, true, false, List, length, Option, Some, None, IsSome}
use Rattle.std.proofs.Common.{slice_get, option_and_then, refl, inl, inr, arith}
use Rattle.std.specs.List.Sorted.{IsPermutation, IsSorted}
use Rattle.std.specs.Prelude.{if◌then◌else◌}
use Rattle.std.proofs.lemmas.Option.{slice_get_within}
use Rattle.gz_names.specs.Order.{name_cmp}
use Rattle.gz_names.specs.declared.names.Name.{Name}
use Rattle.gz_names.specs.declared.numbers.Place.{Place}
use Rattle.cell_bits.specs.declared.bits.Bits.{Bits}
use Rattle.arena_table.specs.Cells.{CellState}
use Rattle.arena_table.specs.Slots.{cell_in}
use Rattle.colour_defs.specs.Ends.{Lists}
use Rattle.colour_defs.specs.World.{World, Has, IsPresent as IsPresentName, IsSettled}
use Rattle.heap_core.specs.Shape.{ArenaShape, AreWhole, IsPresent, Shape, is_white, out_in, out_of, present_in}
use Rattle.heap_core.specs.Shape.{zone_of}
use Rattle.heap_core.specs.Heap.{joined}
use Rattle.barriers.specs.Colours.{IsGray}
use Rattle.barriers.specs.Invariant.{ColourInvariant}
use Rattle.slice_driver.specs.Collector.{CollectorState, heap_with}
use Rattle.slice_driver.specs.Grays.{IsGrayIn, grays_up_to}
use Rattle.slice_driver.specs.Represents.{RepresentsMarking}
use Rattle.slice_driver.proofs.group_end.Grays.{grays_listed}
use Rattle.slice_driver.proofs.abstraction.Named.{named_present, place_of, present_named}
use Rattle.slice_driver.proofs.abstraction.Steps.{settled_states}

-- a present cell is at a slot of an arena
there : (slots : List (Option CellState)) (i : ℕ) → IsSome (cell_in slots i) → i < length slots
there slots i some = go (slice_get slots i) refl some
  where
    go : (o : Option (Option CellState)) → slice_get slots i ≡ o → IsSome (option_and_then (λ cell. cell) o)
        → i < length slots
    go None e some = absurd (cc some)
    go (Some cell) e some = slice_get_within slots i cell e

stands : (o : Option Bits) (slots : List (Option CellState)) (i : ℕ) → IsSome (present_in o slots i)
    → IsSome (cell_in slots i)
stands None slots i some = some
stands (Some bits) slots i some = go (is_white bits i) some
  where
    go : (b : Bool) → IsSome (if b then None else cell_in slots i) → IsSome (cell_in slots i)
    go true some = absurd (cc some)
    go false some = some

pub present_within : (s : Shape) (p : Place) → AreWhole s.arenas → IsPresent s p → (p.0 < length s.arenas) × (p.1 < 64)
present_within s p whole some = go (slice_get s.arenas p.0) refl some
  where
    go : (o : Option ArenaShape) → slice_get s.arenas p.0 ≡ o
        → IsSome (Rattle.heap_core.specs.Shape.cell_in_arena o p.1) → (p.0 < length s.arenas) × (p.1 < 64)
    go None e some = absurd (cc some)
    go (Some arena) e some =
        let n = there arena.slots p.1 (stands arena.out arena.slots p.1 some) in
        let m = whole p.0 arena e in
        (slice_get_within s.arenas p.0 arena e, omega (arith, n, m))

-- what is listed by one condition is listed by another one that is the same
lists_as : (P Q : Name → Type 0) (xs : List Name) → ((x : Name) → P x ↔ Q x) → Lists P xs → Lists Q xs
lists_as P Q xs same l = record {
  ascending = l.ascending;
  has = λ x. ((λ c. (same x).0 ((l.has x).0 c)), λ q. (l.has x).1 ((same x).1 q));
}

-- in a settled world the gray cells are those that are present and not black
pub settled_gray : (c : CollectorState) (flown : ℕ → Option Bits) (w : World) → RepresentsMarking c flown w
    → IsSettled w → (x : Name) → IsGrayIn (joined c.heap flown) (λ a. true) x
    ↔ (IsPresentName w x × (Has w.black x → ⊥))
settled_gray c flown w rep settled x = (out, back)
  where
    colours : ColourInvariant (joined c.heap flown)
    colours = rep.coloured.marks.holds.colours

    out : IsGrayIn (joined c.heap flown) (λ a. true) x → IsPresentName w x × (Has w.black x → ⊥)
    out g = (
      present_named c.heap w rep.placed.lies g.place x g.named,
      λ has. (let black = (rep.phase.black settled x g.place g.named).0 has in cc (g.gray, black)),
    )

    back : IsPresentName w x × (Has w.black x → ⊥) → IsGrayIn (joined c.heap flown) (λ a. true) x
    back at =
        let p = place_of c.heap w rep.placed.lies x at.0 in
        let none = settled_states (heap_with c flown) c w c.run w.collection rep.phase.runs settled.none_marking
        (zone_of c.heap.shape p.0) in
        elim (colours.no_white p.0 (named_present c.heap.shape p.0 x p.1) none) [
          | inl gray ↦ record { place = p.0; named = p.1; here = refl; gray = gray }
          | inr black ↦ absurd (at.1 ((rep.phase.black settled x p.0 p.1).1 black))
        ]

-- gray cells lie in the arenas of the heap
pub gray_within : (c : CollectorState) (flown : ℕ → Option Bits) (w : World) → RepresentsMarking c flown w
    → (p : Place) → IsGray (joined c.heap flown) p → (p.0 < length c.heap.shape.arenas) × (p.1 < 64)
gray_within c flown w rep p gray = present_within c.heap.shape p rep.placed.lies.whole
    (rep.coloured.marks.holds.colours.seen_present p (inl gray))

-- so the gray names are exactly those
pub settled_grays : (c : CollectorState) (flown : ℕ → Option Bits) (w : World) (names : List Name)
    → RepresentsMarking c flown w → IsSettled w
    → IsPermutation (grays_up_to (joined c.heap flown) (λ a. true) (length c.heap.shape.arenas)) names
    → IsSorted name_cmp names → Lists (λ x. IsPresentName w x × (Has w.black x → ⊥)) names
settled_grays c flown w names rep settled moved sorted =
    lists_as (IsGrayIn (joined c.heap flown) (λ a. true)) (λ x. IsPresentName w x × (Has w.black x → ⊥)) names
    (settled_gray c flown w rep settled)
    (grays_listed (joined c.heap flown) (λ a. true) (length c.heap.shape.arenas) names rep.placed.lies.shown.apart
    (gray_within c flown w rep) moved sorted)

-- Where present cells are.
use Rattle.std.proofs.Common.{◌≡◌, ◌<◌, ℕ, Bool, true, false, List, length, Option, Some, None, IsSome, slice_get}
use Rattle.std.proofs.Common.{refl, arith}
use Rattle.std.proofs.Common.{option_and_then, if◌then◌else◌}
use Rattle.std.proofs.lemmas.Option.{slice_get_within}
use Rattle.gz_names.specs.declared.numbers.Place.{Place}
use Rattle.cell_bits.specs.declared.bits.Bits.{Bits}
use Rattle.arena_table.specs.Cells.{CellState}
use Rattle.arena_table.specs.Slots.{cell_in}
use Rattle.heap_core.specs.Shape.{ArenaShape, AreWhole, IsPresent, Shape, cell_in_arena, is_white, present_in}

in_slots : (slots : List (Option CellState)) (slot : ℕ) (o : Option (Option CellState)) → slice_get slots slot ≡ o
    → IsSome (option_and_then (λ cell. cell) o) → slot < length slots
in_slots slots slot None e some = absurd (cc some)
in_slots slots slot (Some c) e some = slice_get_within slots slot c e

not_white : (white : Bool) (o : Option CellState) → IsSome (if white then None else o) → IsSome o
not_white true o some = absurd (cc some)
not_white false o some = some

stands_in : (out : Option Bits) (slots : List (Option CellState)) (slot : ℕ) → IsSome (present_in out slots slot)
    → IsSome (cell_in slots slot)
stands_in None slots slot some = some
stands_in (Some bits) slots slot some = not_white (is_white bits slot) (cell_in slots slot) some

in_arena : (arenas : List ArenaShape) (p : Place) (o : Option ArenaShape) → AreWhole arenas → slice_get arenas p.0 ≡ o
    → IsSome (cell_in_arena o p.1) → (p.0 < length arenas) × (p.1 < 64)
in_arena arenas p None whole e some = absurd (cc some)
in_arena arenas p (Some arena) whole e some =
    let long = whole p.0 arena e in
    let slot = in_slots arena.slots p.1 (slice_get arena.slots p.1) refl (stands_in arena.out arena.slots p.1 some) in
    (slice_get_within arenas p.0 arena e, omega (arith, long, slot))

-- a present cell lies in an arena that was made, in one of its 64 slots
pub present_inside : (s : Shape) (p : Place) → AreWhole s.arenas → IsPresent s p
    → (p.0 < length s.arenas) × (p.1 < 64)
present_inside s p whole present = in_arena s.arenas p (slice_get s.arenas p.0) whole refl present

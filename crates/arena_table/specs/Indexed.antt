-- Which arenas a zone has, and which of them take cells.
use Rattle.std.specs.Prelude.{◌≡◌, ◌<◌, ◌≤◌, ℕ, suc, ◌*◌, ◌==◌, ◌&&◌, Bool, true, false, not, List, [], ◌∷◌, Option}
use Rattle.std.specs.Prelude.{Some, None, length, slice_get, slice_index, slice_index_or, All, if◌then◌else◌}
use Rattle.std.specs.Int.{bit_at}
use Rattle.arena_table.specs.Sets.{arena_bit}
use Rattle.arena_table.specs.Slots.{Arena, has_free, bit_of, no_zone}

-- the words of the sets of each zone
pub record IndexState : Type 0 where
  pub owned : List (List ℕ)
  pub open_ : List (List ℕ)

abbrev pub words_at : List (List ℕ) → ℕ → List ℕ
words_at sets zone = slice_index_or sets zone []

-- a bit of one of a set's words is set
abbrev pub HasBit : List ℕ → ℕ → ℕ → Type 0
HasBit words at k = bit_at (slice_index words at) k ≡ 1

-- whether an arena is one of a zone, and whether it takes cells of that zone: it is not handed out and has a free slot
abbrev pub is_owned : ℕ → Option Arena → Bool
is_owned zone None = false
is_owned zone (Some arena) = arena.zone == zone

abbrev pub is_open : ℕ → Option Arena → Bool
is_open zone None = false
is_open zone (Some arena) = (arena.zone == zone) && (not arena.is_out && has_free arena.slots)

-- the sets have the arenas of their zones, and none that was given up
pub record IsOwnedBy (arenas : List Arena) (owned : List (List ℕ)) : Type 0 where
  pub zones : All (λ (arena : Arena). arena.zone ≤ no_zone) arenas
  pub bits : (z a : ℕ) → z < 64 → arena_bit (words_at owned z) a ≡ bit_of (is_owned z (slice_get arenas a))

-- the sets say so of the arenas that there are
pub record IsIndexed (arenas : List Arena) (index : IndexState) : Type 0 where
  pub owned : IsOwnedBy arenas index.owned
  pub open_ : (z a : ℕ) → z < 64 → arena_bit (words_at index.open_ z) a ≡ bit_of (is_open z (slice_get arenas a))
  pub covered : (z a : ℕ) → z < 64 → is_owned z (slice_get arenas a) ≡ true → a < 64 * length (words_at index.open_ z)

-- whether a zone is in a set of zones, told by its word
abbrev pub in_zones : ℕ → ℕ → Bool
in_zones word zone = bit_at word zone == 1

-- whether an arena that there may be is one of a set of zones
abbrev pub is_among : ℕ → Option Arena → Bool
is_among word None = false
is_among word (Some arena) = in_zones word arena.zone

-- the numbers of the arenas of a set of zones, ascending, where the first of the list has the number n
abbrev pub numbers_from : ℕ → ℕ → List Arena → List ℕ
numbers_from word n [] = []
numbers_from word n (arena ∷ arenas) = if in_zones word arena.zone then n ∷ numbers_from word (suc n) arenas
    else numbers_from word (suc n) arenas

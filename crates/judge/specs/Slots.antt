-- Which arenas are out, and which slots of the others are taken.
use Rattle.std.specs.Prelude.{◌≡◌, ℕ, ◌^◌, ◌<◌, ◌≤◌, Bool, true, false, List, map, length, get_or, Option, Some}
use Rattle.std.specs.Prelude.{Contains, slice_get}
use Rattle.gz_names.specs.declared.numbers.Place.{Place}
use Rattle.judge.specs.Places.{IsEmpty, Lying}
use Rattle.judge.specs.declared.arenas.Arena.{Arena}

-- the zone of each arena; one that was given up has none
abbrev pub owner_of : Arena → Option ℕ
owner_of arena = arena.owner

abbrev pub owners_of : List Arena → List (Option ℕ)
owners_of arenas = map owner_of arenas

-- whether each arena says that it is out
abbrev pub flag_of : Arena → Bool
flag_of arena = arena.is_out

abbrev pub flags_of : List Arena → List Bool
flags_of arenas = map flag_of arenas

-- the number of its first slots that each arena says are taken
abbrev pub taken_of : Arena → ℕ
taken_of arena = arena.taken

abbrev pub takens_of : List Arena → List ℕ
takens_of arenas = map taken_of arenas

-- exactly these arenas say that they are out
pub record AreFlagged (flags : List Bool) (out : List ℕ) : Type 0 where
  pub said : (n : ℕ) → Contains out n → (slice_get flags n ≡ Some true → ⊥) → ⊥
  pub only : (n : ℕ) → slice_get flags n ≡ Some true → (Contains out n → ⊥) → ⊥

-- a new cell of a zone may lie in an arena
abbrev pub IsOpen : List (Option ℕ) → List Bool → ℕ → ℕ → Type 0
IsOpen owners flags z n = (slice_get owners n ≡ Some (Some z)) × (slice_get flags n ≡ Some false)

-- no slot of an arena is empty in which it may lie
abbrev pub IsFull : List (Option ℕ) → List Bool → Lying → ℕ → ℕ → Type 0
IsFull owners flags lying z n = IsOpen owners flags z n → (s : ℕ) → s < 64 → IsEmpty lying (n, s) → ⊥

-- this number of the first slots of an arena are taken
abbrev pub IsTakenTo : Lying → ℕ → ℕ → Type 0
IsTakenTo lying n k = (s : ℕ) → s < k → s < 64 → IsEmpty lying (n, s) → ⊥

-- the slots are taken of which the arenas say so
abbrev pub AreTaken : List ℕ → Lying → Type 0
AreTaken takens lying = (n k : ℕ) → slice_get takens n ≡ Some k → IsTakenTo lying n k

-- for each zone, an arena below which each one is full
abbrev pub AreFull : List (Option ℕ) → List Bool → List ℕ → Lying → Type 0
AreFull owners flags lowest lying = (z n : ℕ) → n < get_or lowest z 0 → IsFull owners flags lying z n

-- cells lie in arenas that are made
abbrev pub AreMade : List Arena → Lying → Type 0
AreMade arenas lying = (p : Place) → length arenas ≤ p.0 → (IsEmpty lying p → ⊥) → ⊥

-- what is kept of the arenas agrees with the cells that lie in them
pub record AreKept (arenas : List Arena) (out lowest : List ℕ) (lying : Lying) : Type 0 where
  pub few : length arenas < 2 ^ 32
  pub made : AreMade arenas lying
  pub below : (p : Place) → 64 ≤ p.1 → (IsEmpty lying p → ⊥) → ⊥
  pub flagged : AreFlagged (flags_of arenas) out
  pub taken : AreTaken (takens_of arenas) lying
  pub full : AreFull (owners_of arenas) (flags_of arenas) lowest lying

-- Cells that go to other places.
use Rattle.std.specs.Prelude.{◌≡◌, ◌≢◌, ◌⊎◌, ◌+◌, ◌<◌, ◌%◌, ◌^◌, ◌==◌, ◌&&◌, ℕ, Bool, true, List, [], ◌∷◌, Contains}
use Rattle.std.specs.Prelude.{All, AllPairs, Any, IsSomeAnd, ⊤, bit_or, count_ones, get_or, length, slice_get}
use Rattle.std.specs.Prelude.{if◌then◌else◌}
use Rattle.std.specs.Int.{bit_at}
use Rattle.gz_names.specs.declared.moves.Leaving.{Leaving}
use Rattle.gz_names.specs.declared.moves.Move.{Move}
use Rattle.gz_names.specs.declared.numbers.Place.{Place}

-- whether two places are one
abbrev pub is_same : Place → Place → Bool
is_same p q = (p.0 == q.0) && (p.1 == q.1)

-- a place comes before another: by arena, then by slot
abbrev pub IsBefore : Place → Place → Type 0
IsBefore p q = (p.0 < q.0) ⊎ ((p.0 ≡ q.0) × (p.1 < q.1))

-- all moves leave places before this one
abbrev pub LeaveBefore : List Move → Place → Type 0
LeaveBefore moves p = (m : Move) → Contains moves m → IsBefore m.from p

-- moves stand in the order of the places that they leave, so that none is left twice
abbrev pub AreInOrder : List Move → Type 0
AreInOrder moves = AllPairs (λ m n. IsBefore m.from n.from) moves

-- where the cell of a place goes: where a move takes it, or nowhere else
abbrev pub moved : List Move → Place → Place
moved [] p = p
moved (m ∷ moves) p = if is_same m.from p then m.to else moved moves p

-- a place is left, and one is gone to
abbrev pub IsLeft : List Move → Place → Type 0
IsLeft moves p = (m : Move) × Contains moves m × (m.from ≡ p)

abbrev pub IsGoal : List Move → Place → Type 0
IsGoal moves p = (m : Move) × Contains moves m × (m.to ≡ p)

-- no two moves go to one place, and none goes to a place that is held or left: so no two of what is held come to one
-- place
pub record GoApart (holds : Place → Type 0) (moves : List Move) : Type 0 where
  pub apart : AllPairs (λ m n. m.to ≢ n.to) moves
  pub free : (p : Place) → holds p → IsGoal moves p → ⊥
  pub clear : (p : Place) → IsLeft moves p → IsGoal moves p → ⊥

-- whether a slot of an arena is left, and the number of the move that leaves it
abbrev pub leaves : Leaving → ℕ → Bool
leaves leaving slot = bit_at leaving.slots slot == 1

abbrev pub number_of : Leaving → ℕ → ℕ
number_of leaving slot = leaving.first + count_ones (leaving.slots % 2 ^ slot)

-- an arena of which one more slot is left, and one of which nothing else is left yet
abbrev pub with_slot : Leaving → ℕ → Leaving
with_slot leaving slot = record leaving { slots = bit_or leaving.slots (2 ^ slot) }

abbrev pub left_at : Place → ℕ → Leaving
left_at p number = record { arena = p.0; slots = 2 ^ p.1; first = number }

-- the arenas that are left, with a place that the move of this number leaves: a slot more of the last of them, or
-- an arena more
unfoldable pub with_left : List Leaving → Place → ℕ → List Leaving
with_left [] p number = left_at p number ∷ []
with_left (a ∷ []) p number = if a.arena == p.0 then with_slot a p.1 ∷ [] else a ∷ left_at p number ∷ []
with_left (a ∷ (b ∷ arenas)) p number = a ∷ with_left (b ∷ arenas) p number

-- the moves out of an arena stand side by side, in the order of their slots
pub record AreOutOf (moves : List Move) (leaving : Leaving) : Type 0 where
  pub fits : leaving.slots < 2 ^ 64
  pub some : (slot : ℕ) × (slot < 64) × (leaves leaving slot ≡ true)
  pub at : (slot : ℕ) → slot < 64 → leaves leaving slot ≡ true
      → IsSomeAnd (slice_get moves (number_of leaving slot)) (λ m. m.from ≡ (leaving.arena, slot))

-- a place is out of one of the arenas
abbrev pub IsOutOf : List Leaving → Place → Type 0
IsOutOf arenas p = Any (λ leaving. (leaving.arena ≡ p.0) × (leaves leaving p.1 ≡ true)) arenas

-- the moves out of the last arena end before this number
unfoldable pub EndsAt : List Leaving → ℕ → Type 0
EndsAt [] number = ⊤
EndsAt (a ∷ []) number = a.first + count_ones a.slots ≡ number
EndsAt (a ∷ (b ∷ arenas)) number = EndsAt (b ∷ arenas) number

-- the arenas that are left ascend, and one stands at this index among them
abbrev pub Ascend : List Leaving → Type 0
Ascend arenas = AllPairs (λ (a b : Leaving). a.arena < b.arena) arenas

abbrev pub StandsAt : List Leaving → ℕ → ℕ → Type 0
StandsAt arenas arena k = (k < length arenas) × ((d : Leaving) → (get_or arenas k d).arena ≡ arena)

-- what always holds of moves and the arenas that they leave, which ascend
pub record AreKept (moves : List Move) (arenas : List Leaving) : Type 0 where
  pub in_order : AreInOrder moves
  pub ascending : Ascend arenas
  pub outs : All (AreOutOf moves) arenas
  pub every : (m : Move) → Contains moves m → IsOutOf arenas m.from
  pub ends : EndsAt arenas (length moves)

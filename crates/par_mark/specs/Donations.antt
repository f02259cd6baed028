-- What was put into the queue, what was taken, and what stands in it.
use Rattle.std.specs.Prelude.{◌≡◌, ℕ, ◌+◌, ◌-◌, ◌≤◌, List, [], ◌∷◌, ◌++◌, All}
use mathlib.Core.Option.{some}
use lib.ListN.{get_elem?}
use Rattle.mark_words.specs.Sums.{weigh, total, whole}
use Rattle.par_mark.specs.declared.donations.Moves.{Moves}
use Rattle.par_mark.specs.declared.donations.QueueView.{QueueView}

-- a caller that did nothing yet
abbrev pub new_moves : Moves
new_moves = record { given = []; taken = [] }

-- the caller whose moves stand first gave these, and took those
abbrev pub moves_with : List (ℕ × ℕ) → List (ℕ × ℕ) → List Moves → List Moves
moves_with given taken [] = []
moves_with given taken (m ∷ ms) = record { given = m.given ++ given; taken = m.taken ++ taken } ∷ ms

abbrev pub queue_view : ℕ → List (ℕ × ℕ) → List (ℕ × ℕ) → List Moves → QueueView
queue_view parts put taken moves = record { parts = parts; put = put; taken = taken; moves = moves }

-- that of the first caller
abbrev pub unused_view : QueueView
unused_view = queue_view whole [] [] (new_moves ∷ [])

-- a caller without parts has put and taken nothing
abbrev pub IsIdle : QueueView → Type 0
IsIdle d = d.parts ≡ 0 → (d.put ≡ []) × (d.taken ≡ [])

-- what was put into the queue is what was taken and what stands in it, each place as often, whatever weights places
-- have; and all that stands in it is listed
pub record Balanced (P : ℕ × ℕ → Type 0) (items : List (ℕ × ℕ)) (views : List QueueView) : Type 0 where
  pub parts : total (λ d. d.parts) views ≡ whole
  pub balance : (h : ℕ × ℕ → ℕ) → total (λ d. weigh h d.put) views ≡ total (λ d. weigh h d.taken) views + weigh h items
  pub listed : All P items
  pub idle : (id : ℕ) (d : QueueView) → get_elem? views id ≡ some d → IsIdle d

abbrev pub with_less : QueueView → QueueView
with_less d = queue_view (d.parts - 1) d.put d.taken d.moves

abbrev pub new_view : QueueView
new_view = queue_view 1 [] [] (new_moves ∷ [])

abbrev pub joined_view : QueueView → QueueView → QueueView
joined_view d f = queue_view (d.parts + f.parts) (d.put ++ f.put) (d.taken ++ f.taken) (d.moves ++ f.moves)

abbrev pub spent_view : QueueView
spent_view = queue_view 0 [] [] []

abbrev pub HasPut : QueueView → ℕ × ℕ → QueueView → Type 0
HasPut d x f = f ≡ queue_view d.parts (d.put ++ x ∷ []) d.taken (moves_with (x ∷ []) [] d.moves)

-- who holds all parts has never taken more than was put
abbrev pub HasTaken : (ℕ × ℕ → Type 0) → QueueView → ℕ × ℕ → QueueView → Type 0
HasTaken P d x f = (f ≡ queue_view d.parts d.put (d.taken ++ x ∷ []) (moves_with [] (x ∷ []) d.moves)) × P x
    × (d.parts ≡ whole → (h : ℕ × ℕ → ℕ) → weigh h f.taken ≤ weigh h f.put)

-- what the holder of all parts learns of the queue
abbrev pub Total : QueueView → List (ℕ × ℕ) → Type 0
Total d items = d.parts ≡ whole → (h : ℕ × ℕ → ℕ) → weigh h d.put ≡ weigh h d.taken + weigh h items

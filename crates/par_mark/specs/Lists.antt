-- What clauses say of a caller's lists.
use Rattle.std.specs.Prelude.{◌≡◌, ℕ, ◌+◌, ◌≤◌, List, [], length, vec_capacity}
use Rattle.std.specs.VecDeque.{deque_capacity}
use Rattle.crossbeam_utils.specs.Padded.{padded_value}
use Rattle.par_mark.specs.declared.lists.Lists.{Lists}

abbrev pub tries_of : Lists → List (ℕ × ℕ)
tries_of l = (padded_value l.tries).items

abbrev pub outside_of : Lists → List (ℕ × ℕ)
outside_of l = l.outside.items

abbrev pub won_of : Lists → List (ℕ × ℕ)
won_of l = l.won.items

abbrev pub tries_room : Lists → ℕ
tries_room l = deque_capacity (padded_value l.tries)

-- each list has the room that it had
pub record AreAsLarge (l l' : Lists) : Type 0 where
  pub tries : tries_room l' ≡ tries_room l
  pub won : vec_capacity l'.won ≡ vec_capacity l.won
  pub outside : vec_capacity l'.outside ≡ vec_capacity l.outside

-- how many tries a caller makes in a turn, at most
abbrev pub batch : ℕ
batch = 64

-- lists that begin with these tries, and with so much room for tries and for places outside
pub record AreNew (tries : List (ℕ × ℕ)) (room spare : ℕ) (l : Lists) : Type 0 where
  pub tries_are : tries_of l ≡ tries
  pub no_won : won_of l ≡ []
  pub no_outside : outside_of l ≡ []
  pub tries_have : room ≤ tries_room l
  pub won_has : batch ≤ vec_capacity l.won
  pub outside_has : spare ≤ vec_capacity l.outside

-- the first lists have room for the tries and the places outside of the others
pub record HaveRoomFor (l o : Lists) : Type 0 where
  pub tries : length (tries_of l) + length (tries_of o) ≤ tries_room l
  pub outside : length (outside_of l) + length (outside_of o) ≤ vec_capacity l.outside

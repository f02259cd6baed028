-- The incoming gray wrappers of each compartment.
use Rattle.std.specs.Prelude.{◌≡◌, ◌∷◌, [], ℕ, List, length, sum_by, Contains, slice_set, slice_index_or, ⊤}
use Rattle.gz_names.specs.declared.numbers.Place.{Place}

-- for each of the 256 compartments the wrappers that wait for it, the one noted last first; and how many wrappers the
-- lists can hold together
pub record Incoming : Type 0 where
  pub lists : List (List Place)
  pub room : ℕ

-- the wrappers that wait for a compartment; none for one that there can't be
abbrev pub list_at : List (List Place) → ℕ → List Place
list_at lists comp = slice_index_or lists comp []

abbrev pub list_of : Incoming → ℕ → List Place
list_of incoming comp = list_at incoming.lists comp

-- one more wrapper waits for a compartment
abbrev pub noted : Incoming → ℕ → Place → Incoming
noted incoming comp wrapper =
    record incoming { lists = slice_set incoming.lists comp (wrapper ∷ list_of incoming comp) }

-- how many wrappers wait, for all compartments together
abbrev pub waiting_count : Incoming → ℕ
waiting_count incoming = sum_by length incoming.lists

-- no place stands on a list twice
abbrev pub IsOnce : List Place → Type 0
IsOnce [] = ⊤
IsOnce (place ∷ places) = (Contains places place → ⊥) × IsOnce places

-- each wrapper stands on at most one list, and once
pub record AreApart (lists : List (List Place)) : Type 0 where
  pub once : (c : ℕ) → IsOnce (list_at lists c)
  pub one_list : (b c : ℕ) (wrapper : Place) → Contains (list_at lists b) wrapper → Contains (list_at lists c) wrapper
      → b ≡ c

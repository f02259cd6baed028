-- The entries by their maps, or by their keys.
use Rattle.std.specs.Prelude.{◌≡◌, ◌≢◌, ◌<◌, ◌⊎◌, ◌++◌, ◌∷◌, [], ℕ, List, length, slice_get, Option, Some, None}
use Rattle.std.specs.Prelude.{Contains, unwrap_or, if◌then◌else◌}
use Rattle.std.specs.Option.{option_map}
use Rattle.weak_maps.specs.Heads.{HeadsState, head_of}
use Rattle.gz_names.specs.declared.numbers.Place.{Place}
use Rattle.weak_maps.specs.Places.{is_same}
use Rattle.weak_maps.specs.Queues.{QueueState}
use Rattle.weak_maps.specs.Listings.{ListingState}
use Rattle.weak_maps.specs.Seats.{AreSeated, IsQueueFor, items_of, left_in, owners_of, pushed}
use Rattle.weak_maps.specs.declared.colours.MarkColour.{MarkColour}
use Rattle.weak_maps.specs.declared.colours.MarkColour.TheVariants as colour
use Rattle.weak_maps.specs.declared.seats.Seat.{Seat}

-- the number of each place's list, and its entries; the number of each entry's list, and in which colour it is still to
-- be looked at there
pub record SideState : Type 0 where
  pub heads : HeadsState
  pub lists : List (List ℕ)
  pub owners : List ℕ
  pub left : List (Option MarkColour)

-- as the lists and seats tell it
abbrev pub state_of : HeadsState → List ListingState → List Seat → SideState
state_of heads lists seats =
    record { heads = heads; lists = items_of lists; owners = owners_of seats; left = left_in lists seats }

abbrev pub number_of : SideState → Place → Option ℕ
number_of s p = head_of s.heads p

-- the entries of a list
abbrev pub entries_at : List (List ℕ) → ℕ → List ℕ
entries_at lists j = unwrap_or (slice_get lists j) []

-- the entries of a place
abbrev pub listed : SideState → Place → List ℕ
listed s p = unwrap_or (option_map (entries_at s.lists) (number_of s p)) []

-- the lists with entries
abbrev pub shown : List (List ℕ) → List (List ℕ)
shown [] = []
shown ([] ∷ lists) = shown lists
shown ((x ∷ xs) ∷ lists) = (x ∷ xs) ∷ shown lists

-- what always holds, as callers see it: each entry stands in one list, once, and no two places have one list
pub record IsSide (s : SideState) : Type 0 where
  pub owned : (j i x : ℕ) → slice_get (entries_at s.lists j) i ≡ Some x → slice_get s.owners x ≡ Some j
  pub stands : (j x : ℕ) → slice_get s.owners x ≡ Some j → Contains (entries_at s.lists j) x
  pub once : (j i k x : ℕ) → slice_get (entries_at s.lists j) i ≡ Some x → slice_get (entries_at s.lists j) k ≡ Some x
      → i ≡ k
  pub apart : (p q : Place) (j : ℕ) → number_of s p ≡ Some j → number_of s q ≡ Some j → p ≡ q
  pub same : length s.left ≡ length s.owners

-- the places have different lists
pub record AreHeads (heads : HeadsState) (count : ℕ) : Type 0 where
  pub within : (p : Place) (j : ℕ) → head_of heads p ≡ Some j → j < count
  pub apart : (p q : Place) (j : ℕ) → head_of heads p ≡ Some j → head_of heads q ≡ Some j → p ≡ q

-- what always holds
pub record IsSound (heads : HeadsState) (lists : List ListingState) (seats : List Seat)
    (black gray : QueueState) : Type 0 where
  pub seated : AreSeated lists seats
  pub heads_are : AreHeads heads (length lists)
  pub black_waits : IsQueueFor colour.Black lists black
  pub gray_waits : IsQueueFor colour.Gray lists gray

-- an entry of a place came, after the others; it is not to be looked at
pub record IsAdded (old : SideState) (p : Place) (new : SideState) : Type 0 where
  pub number : ℕ
  pub numbers : (q : Place) → number_of new q ≡ (if is_same p q then Some number else number_of old q)
  pub was : (j : ℕ) → number_of old p ≡ Some j → j ≡ number
  pub lists : new.lists ≡ pushed old.lists number (length old.owners)
  pub owners : new.owners ≡ old.owners ++ number ∷ []
  pub left : new.left ≡ old.left ++ None ∷ []

-- an entry came last
pub record WasAdded (new : SideState) : Type 0 where
  pub before : SideState
  pub place : Place
  pub added : IsAdded before place new

-- it went again
pub record IsUndone (before old new : SideState) : Type 0 where
  pub heads : new.heads ≡ old.heads
  pub lists : shown new.lists ≡ shown before.lists
  pub owners : new.owners ≡ before.owners
  pub left : new.left ≡ before.left

-- the entries of a list are to be looked at in one colour, and the others as before: in the one that is asked for, or
-- in
-- black where one of them was to be looked at in black
pub record Starts (c : MarkColour) (number : Option ℕ) (owners : List ℕ) (old new : List (Option MarkColour)) : Type 0
  where
    pub sized : length new ≡ length old
    pub colour_now : MarkColour
    pub those : (x j : ℕ) → slice_get owners x ≡ Some j → number ≡ Some j → slice_get new x ≡ Some (Some colour_now)
    pub is : (colour_now ≡ c)
        ⊎ ((colour_now ≡ colour.Black)
        × ((x : ℕ) × (slice_get owners x ≡ number) × (slice_get old x ≡ Some (Some colour.Black))))
    pub black : (x : ℕ) → slice_get old x ≡ Some (Some colour.Black) → slice_get new x ≡ Some (Some colour.Black)
    pub others : (x : ℕ) → (number ≡ None) ⊎ (slice_get owners x ≢ number) → slice_get new x ≡ slice_get old x

-- Where entries stand in the lists of one side, and which of them are still to be looked at.
use Rattle.std.specs.Prelude.{◌≡◌, ◌≢◌, ◌<◌, ◌≤◌, ◌+◌, ◌-◌, ℕ, zero, suc, [], ◌∷◌, ◌++◌, nat_lt, List, length, map}
use Rattle.std.specs.Prelude.{slice_get, slice_set as set, Option, Some, None, Contains, if◌then◌else◌}
use Rattle.std.specs.Option.{option_and_then}
use Rattle.weak_maps.specs.declared.colours.MarkColour.{MarkColour}
use Rattle.weak_maps.specs.declared.seats.Seat.{Seat}
use Rattle.weak_maps.specs.Queues.{QueueState}
use Rattle.weak_maps.specs.Listings.{ListingState, IsLeft}

-- what each list has
abbrev pub items_of : List ListingState → List (List ℕ)
items_of lists = map (λ l. l.entries) lists

-- a number comes last in a list, or alone in a new one
abbrev pub pushed : List (List ℕ) → ℕ → ℕ → List (List ℕ)
pushed [] j x = (x ∷ []) ∷ []
pushed (list ∷ lists) zero x = (list ++ x ∷ []) ∷ lists
pushed (list ∷ lists) (suc j) x = list ∷ pushed lists j x

-- the entry that stands in a list at an index
abbrev pub entry_in : List ListingState → ℕ → ℕ → Option ℕ
entry_in lists j i = option_and_then (λ l. slice_get l.entries i) (slice_get lists j)

-- whether an index lies in the part of a list that is still to be looked at, and in which colour
abbrev pub left_of : ListingState → ℕ → Option MarkColour
left_of l i = if nat_lt i l.left then Some l.colour else None

abbrev pub left_at : List ListingState → Seat → Option MarkColour
left_at lists seat = option_and_then (λ l. left_of l seat.at) (slice_get lists seat.list)

-- so of each entry
abbrev pub left_in : List ListingState → List Seat → List (Option MarkColour)
left_in lists seats = map (left_at lists) seats

-- the number of each entry's list
abbrev pub owners_of : List Seat → List ℕ
owners_of seats = map (λ seat. seat.list) seats

-- no list is to be looked at beyond its end
abbrev pub AreWithin : List ListingState → Type 0
AreWithin lists = (j : ℕ) (l : ListingState) → slice_get lists j ≡ Some l → l.left ≤ length l.entries

-- each entry stands in one list, at its seat
pub record AreSeated (lists : List ListingState) (seats : List Seat) : Type 0 where
  pub stands : (x : ℕ) (seat : Seat) → slice_get seats x ≡ Some seat → entry_in lists seat.list seat.at ≡ Some x
  pub seated : (j i x : ℕ) → entry_in lists j i ≡ Some x → slice_get seats x ≡ Some (record { list = j; at = i })
  pub within : AreWithin lists

-- each entry but one stands in one list, at its seat; that one stands nowhere
pub record AreOthersSeated (x : ℕ) (lists : List ListingState) (seats : List Seat) : Type 0 where
  pub stands : (y : ℕ) (seat : Seat) → y ≢ x → slice_get seats y ≡ Some seat → entry_in lists seat.list seat.at ≡ Some y
  pub seated : (j i y : ℕ) → entry_in lists j i ≡ Some y → (slice_get seats y ≡ Some (record { list = j; at = i }))
      × (y ≢ x)
  pub within : AreWithin lists

-- each entry but one stands in one list, at its seat; what stands at a hole does not count
pub record AreSeatedBut (x : ℕ) (hole : Seat) (lists : List ListingState) (seats : List Seat) : Type 0 where
  pub stands : (y : ℕ) (seat : Seat) → y ≢ x → slice_get seats y ≡ Some seat
      → (entry_in lists seat.list seat.at ≡ Some y) × (seat.list ≡ hole.list → seat.at ≢ hole.at)
  pub seated : (j i y : ℕ) → (j ≡ hole.list → i ≢ hole.at) → entry_in lists j i ≡ Some y
      → (slice_get seats y ≡ Some (record { list = j; at = i })) × (y ≢ x)
  pub within : AreWithin lists

-- the hole is in a list, behind the part that is still to be looked at
pub record IsBehind (lists : List ListingState) (hole : Seat) : Type 0 where
  pub listing : ListingState
  pub found : slice_get lists hole.list ≡ Some listing
  pub inside : hole.at < length listing.entries
  pub behind : listing.left ≤ hole.at

-- the entry with the last number stands at the end of its list, behind those that are still to be looked at
pub record IsAtEnd (lists : List ListingState) (seats : List Seat) : Type 0 where
  pub some : 0 < length seats
  pub end : (seat : Seat) (l : ListingState) → slice_get seats (length seats - 1) ≡ Some seat
      → slice_get lists seat.list ≡ Some l → (length l.entries ≡ seat.at + 1) × (l.left ≤ seat.at)

-- all entries but one are looked at as they were, and stand in the lists in which they stood
pub record KeepsOthers (x : ℕ) (lists : List ListingState) (seats : List Seat) (lists' : List ListingState)
    (seats' : List Seat) : Type 0 where
  pub left : (y : ℕ) → y ≢ x → slice_get (left_in lists' seats') y ≡ slice_get (left_in lists seats) y
  pub owners : owners_of seats' ≡ owners_of seats

-- in no list entries are to be looked at where none were
pub record NoMoreLeft (old new : List ListingState) : Type 0 where
  pub sized : length new ≡ length old
  pub only : (j : ℕ) (n : ListingState) (c : MarkColour) → slice_get new j ≡ Some n → IsLeft n c → (l : ListingState)
      × (slice_get old j ≡ Some l) × IsLeft l c

-- in no list entries are to be looked at where none were, and one list came, after the others
pub record NoneLeftInNew (old new : List ListingState) : Type 0 where
  pub sized : length new ≡ length old + 1
  pub only : (j : ℕ) (n : ListingState) (c : MarkColour) → slice_get new j ≡ Some n → IsLeft n c → (l : ListingState)
      × (slice_get old j ≡ Some l) × IsLeft l c

-- an entry of a list that was to be looked at in a colour is not any more
pub record LooksAt (c : MarkColour) (x : ℕ) (old new : List ListingState) : Type 0 where
  pub list : ℕ
  pub listing : ListingState
  pub found : slice_get old list ≡ Some listing
  pub some : IsLeft listing c
  pub there : slice_get listing.entries (listing.left - 1) ≡ Some x
  pub new_is : new ≡ set old list (record listing { left = listing.left - 1 })

-- in no list an entry is to be looked at in a colour
abbrev pub NoneIsLeft : MarkColour → List ListingState → Type 0
NoneIsLeft c lists = (j : ℕ) (l : ListingState) → slice_get lists j ≡ Some l → IsLeft l c → ⊥

-- each list of which some entries are to be looked at in a colour waits, and there is room for each list
pub record IsQueueFor (c : MarkColour) (lists : List ListingState) (queue : QueueState) : Type 0 where
  pub waits : (j : ℕ) (l : ListingState) → slice_get lists j ≡ Some l → IsLeft l c → Contains queue.waiting j
  pub known : (j : ℕ) → Contains queue.waiting j → j < length lists
  pub room : length lists ≤ queue.room

-- Where entries stand, after one list or one seat is written.
use Rattle.std.proofs.Common.{◌≡◌, ◌≢◌, ◌<◌, ◌≤◌, inl, inr, ℕ, Bool, true, false, cond, nat_lt, List, Option, Some}
use Rattle.std.proofs.Common.{None, length, set, get_or, slice_get, refl, sym, ◌∙◌, ap, arith}
use Rattle.std.specs.Option.{option_and_then}
use Rattle.std.proofs.lemmas.Bool.{cases_eq, lt-ltb, ltb-true}
use Rattle.std.proofs.lemmas.Option.{slice_get_within, slice_get-get_or}
use Rattle.weak_maps.specs.declared.seats.Seat.{Seat}
use Rattle.weak_maps.specs.Listings.{ListingState}
use Rattle.weak_maps.specs.Seats.{entry_in, left_of, left_at, AreWithin}
use Rattle.weak_maps.proofs.Reading.{slice_get-set_same, slice_get-set_other, slice_get-set_cases}

pub entry_in-here : (lists : List ListingState) (j i : ℕ) (l : ListingState) → slice_get lists j ≡ Some l
    → entry_in lists j i ≡ slice_get l.entries i
entry_in-here lists j i l h = ap (option_and_then (λ (k : ListingState). slice_get k.entries i)) h

pub entry_in-set_same : (lists : List ListingState) (j i : ℕ) (l : ListingState) → j < length lists
    → entry_in (set lists j l) j i ≡ slice_get l.entries i
entry_in-set_same lists j i l h = entry_in-here (set lists j l) j i l (slice_get-set_same lists j l h)

pub entry_in-set_other : (lists : List ListingState) (j k i : ℕ) (l : ListingState) → k ≢ j
    → entry_in (set lists j l) k i ≡ entry_in lists k i
entry_in-set_other lists j k i l h = ap (option_and_then (λ (k : ListingState). slice_get k.entries i))
    (slice_get-set_other lists j k l h)

pub left_at-set_same : (lists : List ListingState) (j i : ℕ) (l : ListingState) → j < length lists
    → left_at (set lists j l) (record { list = j; at = i }) ≡ left_of l i
left_at-set_same lists j i l h =
    ap (option_and_then (λ (k : ListingState). left_of k i)) (slice_get-set_same lists j l h)

pub left_at-set_other : (lists : List ListingState) (j : ℕ) (seat : Seat) (l : ListingState) → seat.list ≢ j
    → left_at (set lists j l) seat ≡ left_at lists seat
left_at-set_other lists j seat l h = ap (option_and_then (λ (k : ListingState). left_of k seat.at))
    (slice_get-set_other lists j seat.list l h)

pub left_at-here : (lists : List ListingState) (j i : ℕ) (l : ListingState) → slice_get lists j ≡ Some l
    → left_at lists (record { list = j; at = i }) ≡ left_of l i
left_at-here lists j i l h = ap (option_and_then (λ (k : ListingState). left_of k i)) h

pub same_seat : (s t : Seat) → s.list ≡ t.list → s.at ≡ t.at → s ≡ t
same_seat s t list at = λ j. record { list = list j; at = at j }

pub AreWithin-set : (lists : List ListingState) (j : ℕ) (l : ListingState) → AreWithin lists → l.left ≤ length l.entries
    → AreWithin (set lists j l)
AreWithin-set lists j l within here k m at = elim (slice_get-set_cases lists j k l m at) [
  | inl (_, is, _) ↦ (let left = ap (λ (n : ListingState). n.left) is in
      let len = ap (λ (n : ListingState). length n.entries) is in omega (arith, left, len, here))
  | inr (_, old) ↦ within k m old
]

pub left_of-inside : (l : ListingState) (i : ℕ) → i < l.left → left_of l i ≡ Some l.colour
left_of-inside l i h = ap (λ b. cond b (Some l.colour) None) (lt-ltb i l.left h)

pub left_of-outside : (l : ListingState) (i : ℕ) → l.left ≤ i → left_of l i ≡ None
left_of-outside l i h = by (nat_lt i l.left) refl
  where
    by : (b : Bool) → nat_lt i l.left ≡ b → cond b (Some l.colour) None ≡ None
    by true e = absurd (let less = ltb-true i l.left e in omega (arith, less, h))
    by false e = refl

pub left_of-same : (l n : ListingState) (i : ℕ) → n.left ≡ l.left → n.colour ≡ l.colour → left_of n i ≡ left_of l i
left_of-same l n i left colour = λ j. cond (nat_lt i (left j)) (Some (colour j)) None

-- the seats of entries are looked at as they were, where the list that changed is looked at as it was
pub left_at-kept : (lists : List ListingState) (j : ℕ) (l n : ListingState) (seat : Seat) → slice_get lists j ≡ Some l
    → n.left ≡ l.left → n.colour ≡ l.colour → left_at (set lists j n) seat ≡ left_at lists seat
left_at-kept lists j l n seat here left colour = elim (cases_eq seat.list j) [
  | inl same ↦ ap (option_and_then (λ (k : ListingState). left_of k seat.at))
      (ap (slice_get (set lists j n)) same ∙ slice_get-set_same lists j n (slice_get_within lists j l here))
      ∙ (left_of-same l n seat.at left colour
      ∙ sym (ap (option_and_then (λ (k : ListingState). left_of k seat.at)) (ap (slice_get lists) same ∙ here)))
  | inr other ↦ left_at-set_other lists j seat n other
]

-- an entry that stands in a list
pub entry_in-found : (lists : List ListingState) (j i x : ℕ) → entry_in lists j i ≡ Some x → (l : ListingState)
    × (slice_get lists j ≡ Some l) × (slice_get l.entries i ≡ Some x)
entry_in-found lists j i x h = by (slice_get lists j) refl h
  where
    by : (o : Option ListingState) → slice_get lists j ≡ o
        → option_and_then (λ (l : ListingState). slice_get l.entries i) o ≡ Some x → (l : ListingState)
        × (slice_get lists j ≡ Some l) × (slice_get l.entries i ≡ Some x)
    by None e h = cc
    by (Some l) e h = (l, e, h)

-- the seat of an entry, and its list, as an index reads them
abbrev pub seat_of : List Seat → ℕ → Seat
seat_of seats x = get_or seats x (record { list = 0; at = 0 })

pub found_seat : (seats : List Seat) (x : ℕ) → x < length seats → slice_get seats x ≡ Some (seat_of seats x)
found_seat seats x less = slice_get-get_or seats x (record { list = 0; at = 0 }) less

pub found_list : (lists : List ListingState) (j i x : ℕ) (d : ListingState) → entry_in lists j i ≡ Some x
    → slice_get lists j ≡ Some (get_or lists j d)
found_list lists j i x d h =
    let found = entry_in-found lists j i x h in
    slice_get-get_or lists j d (slice_get_within lists j found.0 found.1)

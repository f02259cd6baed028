-- All entries of a list are to be looked at.
use Rattle.std.proofs.Common.{get_or, ◌≡◌, ◌≢◌, ◌<◌, ◌⊎◌, inl, inr, ℕ, zero, suc, List, Option, Some, None, length, map}
use Rattle.std.proofs.Common.{set, slice_get, Contains, refl, sym, ◌∙◌, ap, arith, length-set}
use Rattle.std.specs.Option.{option_map, option_and_then}
use Rattle.std.proofs.Math.Seq.{map-set_same}
use Rattle.std.proofs.lemmas.Bool.{cases_eq, cases_lt}
use Rattle.std.proofs.lemmas.Option.{slice_get_within, slice_get-map, slice_get-get_or, get_or_from_slice_get}
use Rattle.std.proofs.lemmas.Option.{same_Some}
use Rattle.std.proofs.lemmas.List.{length-map}
use Rattle.weak_maps.specs.Heads.{HeadsState}
use Rattle.weak_maps.specs.Queues.{QueueState}
use Rattle.weak_maps.specs.Listings.{ListingState, started, stronger}
use Rattle.weak_maps.specs.Seats.{entry_in, left_of, left_at, left_in, owners_of, AreSeated, IsQueueFor}
use Rattle.weak_maps.specs.Sides.{state_of, AreHeads, IsSound, Starts}
use Rattle.weak_maps.specs.declared.colours.MarkColour.{MarkColour}
use Rattle.weak_maps.specs.declared.colours.MarkColour.TheVariants as colour
use Rattle.weak_maps.specs.declared.seats.Seat.{Seat}
use Rattle.weak_maps.proofs.Reading.{slice_get-set_same, slice_get-set_cases}
use Rattle.weak_maps.proofs.Seating.{entry_in-here, entry_in-set_same, entry_in-set_other, left_at-here}
use Rattle.weak_maps.proofs.Seating.{left_at-set_other, left_of-inside, left_of-outside, AreWithin-set}
use Rattle.weak_maps.proofs.Siding.{owner_is, is_owner, AreHeads-more}
use Rattle.weak_maps.proofs.Reading.{map_at}

-- black stays black as long as some are left
stronger-black : (left : ℕ) (old c : MarkColour) → 0 < left → old ≡ colour.Black → stronger left old c ≡ colour.Black
stronger-black zero old c some is = absurd (omega (arith, some))
stronger-black (suc left) colour.Gray c some is = cc is
stronger-black (suc left) colour.Black c some is = refl

stronger-cases : (left : ℕ) (old c : MarkColour) → (stronger left old c ≡ c)
    ⊎ ((stronger left old c ≡ colour.Black) × (0 < left) × (old ≡ colour.Black))
stronger-cases zero old c = inl refl
stronger-cases (suc left) colour.Gray c = inl refl
stronger-cases (suc left) colour.Black c = inr (refl, omega arith, refl)

-- what is left lies in the front part, and has the colour of its list
left_of-cases : (l : ListingState) (i : ℕ) (c : MarkColour) → left_of l i ≡ Some c → (i < l.left) × (l.colour ≡ c)
left_of-cases l i c h = elim (cases_lt i l.left) [
  | inl less ↦ (less, same_Some _ _ (sym (left_of-inside l i less) ∙ h))
  | inr past ↦ absurd (let none = sym h ∙ left_of-outside l i past in cc none)
]

module _ (lists : List ListingState) (seats : List Seat) (seated : AreSeated lists seats) (j : ℕ) (l n : ListingState)
    (here : slice_get lists j ≡ Some l) (c : MarkColour)
    (is : n ≡ record { entries = l.entries; left = length l.entries; colour = started l c }) where
  made : j < length lists
  made = slice_get_within lists j l here

  items : n.entries ≡ l.entries
  items = ap (λ (k : ListingState). k.entries) is

  n_left : n.left ≡ length l.entries
  n_left = ap (λ (k : ListingState). k.left) is

  n_colour : n.colour ≡ started l c
  n_colour = ap (λ (k : ListingState). k.colour) is

  same : (k i : ℕ) → entry_in (set lists j n) k i ≡ entry_in lists k i
  same k i = elim (cases_eq k j) [
    | inl at ↦ ap (λ m. entry_in (set lists j n) m i) at
        ∙ (entry_in-set_same lists j i n made
        ∙ (ap (λ (es : List ℕ). slice_get es i) items
        ∙ (sym (entry_in-here lists j i l here) ∙ ap (λ m. entry_in lists m i) (sym at))))
    | inr other ↦ entry_in-set_other lists j k i n other
  ]

  pub started-seated : AreSeated (set lists j n) seats
  started-seated = record {
    stands = λ y s at. same s.list s.at ∙ seated.stands y s at;
    seated = λ k i y at. seated.seated k i y (sym (same k i) ∙ at);
    within = AreWithin-set lists j n seated.within (let len = ap length items in omega (arith, len, n_left));
  }

  pub started-lists : map (λ (k : ListingState). k.entries) (set lists j n) ≡ map (λ (k : ListingState). k.entries)
      lists
  started-lists = map-set_same (λ (k : ListingState). k.entries) lists j n l
      (items ∙ ap (λ (k : ListingState). k.entries) (sym (get_or_from_slice_get lists j l l here)))

  -- each entry of the list is left in its colour now
  left_now : (s : Seat) → s.list ≡ j → s.at < length l.entries → left_at (set lists j n) s ≡ Some n.colour
  left_now s list inside =
      ap (option_and_then (λ (k : ListingState). left_of k s.at))
      (ap (slice_get (set lists j n)) list ∙ slice_get-set_same lists j n made)
      ∙ left_of-inside n s.at (omega (arith, inside, n_left))

  its_index : (x : ℕ) (s : Seat) → slice_get seats x ≡ Some s → s.list ≡ j → s.at < length l.entries
  its_index x s at list =
      slice_get_within l.entries s.at x
      (sym (entry_in-here lists j s.at l here) ∙ (ap (λ m. entry_in lists m s.at) (sym list) ∙ seated.stands x s at))

  read_now : (x : ℕ) (s : Seat) → slice_get seats x ≡ Some s → slice_get (left_in (set lists j n) seats) x
      ≡ Some (left_at (set lists j n) s)
  read_now x s at = slice_get-map (left_at (set lists j n)) seats x ∙ ap (option_map (left_at (set lists j n))) at

  -- where some were left in black
  was_black : 0 < l.left → l.colour ≡ colour.Black → (x : ℕ) × (slice_get (owners_of seats) x ≡ Some j)
      × (slice_get (left_in lists seats) x ≡ Some (Some colour.Black))
  was_black some black =
      let within = seated.within j l here in
      let first : slice_get l.entries 0 ≡ Some (get_or l.entries 0 0) =
      slice_get-get_or l.entries 0 0 (omega (arith, some, within)) in
      let x = get_or l.entries 0 0 in
      let at : slice_get seats x ≡ Some (record { list = j; at = 0 }) =
      seated.seated j 0 x (entry_in-here lists j 0 l here ∙ first) in (
        x,
        is_owner seats x (record { list = j; at = 0 }) at,
        slice_get-map (left_at lists) seats x
            ∙ (ap (option_map (left_at lists)) at
            ∙ ap (λ o. Some o) (left_at-here lists j 0 l here ∙ (left_of-inside l 0 some ∙ ap (λ d. Some d) black))),
      )

  stays_black : (x : ℕ) → slice_get (left_in lists seats) x ≡ Some (Some colour.Black)
      → slice_get (left_in (set lists j n) seats) x ≡ Some (Some colour.Black)
  stays_black x h =
      let found = map_at (left_at lists) seats x (Some colour.Black) h in
      let s = found.0 in
      read_now x s found.1 ∙ elim (cases_eq s.list j) [
        | inl list ↦ (
            let was = left_of-cases l s.at colour.Black
            (sym (ap (λ o. option_and_then (λ (k : ListingState). left_of k s.at) o)
            (ap (slice_get lists) list ∙ here)) ∙ found.2) in
            ap (λ o. Some o) (left_now s list (its_index x s found.1 list)
            ∙ ap (λ d. Some d) (n_colour ∙ stronger-black l.left l.colour c (let low = was.0 in omega (arith, low))
            was.1)))
        | inr other ↦ ap (λ o. Some o) (left_at-set_other lists j s n other ∙ found.2)
      ]

  pub started-starts : Starts c (Some j) (owners_of seats) (left_in lists seats) (left_in (set lists j n) seats)
  started-starts = record {
    sized = length-map seats (left_at (set lists j n)) ∙ sym (length-map seats (left_at lists));
    colour_now = n.colour;
    those = λ x k owner number. (
        let found = owner_is seats x k owner in
        let list : found.0.list ≡ j = found.2 ∙ sym (same_Some _ _ number) in
        read_now x found.0 found.1 ∙ ap (λ o. Some o) (left_now found.0 list (its_index x found.0 found.1 list)));
    is = elim (stronger-cases l.left l.colour c) [
      | inl same ↦ inl (n_colour ∙ same)
      | inr (black, some, was) ↦ inr (n_colour ∙ black, was_black some was)
    ];
    black = stays_black;
    others = λ x why. slice_get-map (left_at (set lists j n)) seats x
        ∙ (elsewhere x why (slice_get seats x) refl ∙ sym (slice_get-map (left_at lists) seats x));
  }
    where
      elsewhere : (x : ℕ) → (Some j ≡ None) ⊎ (slice_get (owners_of seats) x ≢ Some j) → (o : Option Seat)
          → slice_get seats x ≡ o → option_map (left_at (set lists j n)) o ≡ option_map (left_at lists) o
      elsewhere x (inl never) o at = cc never
      elsewhere x (inr other) None at = refl
      elsewhere x (inr other) (Some s) at =
          ap (λ z. Some z) (left_at-set_other lists j s n
          (λ list. other (slice_get-map (λ (t : Seat). t.list) seats x
          ∙ (ap (option_map (λ (t : Seat). t.list)) at ∙ ap (λ m. Some m) list))))

  -- the queue of its colour has the list, and the other one does without
  queue-with : (d : MarkColour) (queue new : QueueState) → IsQueueFor d lists queue
      → ((k : ℕ) → (Contains new.waiting k → Contains queue.waiting k ⊎ (k ≡ j))
      × (Contains queue.waiting k ⊎ (k ≡ j) → Contains new.waiting k)) → new.room ≡ queue.room
      → IsQueueFor d (set lists j n) new
  queue-with d queue new serves added room = record {
    waits = λ k m at left. elim (slice_get-set_cases lists j k n m at) [
      | inl (same, _, _) ↦ (added k).1 (inr same)
      | inr (_, old) ↦ (added k).1 (inl (serves.waits k m old left))
    ];
    known = λ k has. elim ((added k).0 has) [
      | inl old ↦ (let was = serves.known k old in let sized = length-set lists j n in omega (arith, was, sized))
      | inr same ↦ (let less = made in let sized = length-set lists j n in omega (arith, less, same, sized))
    ];
    room = (let held = serves.room in let sized = length-set lists j n in omega (arith, held, room, sized));
  }

  queue-without : (d : MarkColour) (queue : QueueState) → IsQueueFor d lists queue → n.colour ≢ d
      → IsQueueFor d (set lists j n) queue
  queue-without d queue serves other = record {
    waits = λ k m at left. elim (slice_get-set_cases lists j k n m at) [
      | inl (_, is_n, _) ↦ absurd (other (ap (λ (s : ListingState). s.colour) (sym is_n) ∙ left.1))
      | inr (_, old) ↦ serves.waits k m old left
    ];
    known = λ k has. (let was = serves.known k has in let sized = length-set lists j n in omega (arith, was, sized));
    room = (let held = serves.room in let sized = length-set lists j n in omega (arith, held, sized));
  }

  module _ (heads : HeadsState) (black gray : QueueState) (sound : IsSound heads lists seats black gray) where
    heads_now : AreHeads heads (length (set lists j n))
    heads_now = AreHeads-more heads (length lists) (length (set lists j n)) (omega (arith, length-set lists j n))
        sound.heads_are

    pub started-black : n.colour ≡ colour.Black → (new : QueueState)
        → ((k : ℕ) → (Contains new.waiting k → Contains black.waiting k ⊎ (k ≡ j))
        × (Contains black.waiting k ⊎ (k ≡ j) → Contains new.waiting k)) → new.room ≡ black.room
        → IsSound heads (set lists j n) seats new gray
    started-black is_black new added room = record {
      seated = started-seated;
      heads_are = heads_now;
      black_waits = queue-with colour.Black black new sound.black_waits added room;
      gray_waits = queue-without colour.Gray gray sound.gray_waits (λ is_gray. cc (sym is_black ∙ is_gray));
    }

    pub started-gray : n.colour ≡ colour.Gray → (new : QueueState)
        → ((k : ℕ) → (Contains new.waiting k → Contains gray.waiting k ⊎ (k ≡ j))
        × (Contains gray.waiting k ⊎ (k ≡ j) → Contains new.waiting k)) → new.room ≡ gray.room
        → IsSound heads (set lists j n) seats black new
    started-gray is_gray new added room = record {
      seated = started-seated;
      heads_are = heads_now;
      black_waits = queue-without colour.Black black sound.black_waits (λ is_black. cc (sym is_black ∙ is_gray));
      gray_waits = queue-with colour.Gray gray new sound.gray_waits added room;
    }

    pub started-state : state_of heads (set lists j n) seats
        ≡ record {
          heads = heads;
          lists = map (λ (k : ListingState). k.entries) lists;
          owners = owners_of seats;
          left = left_in (set lists j n) seats;
        }
    started-state = λ i. record {
      heads = heads;
      lists = started-lists i;
      owners = owners_of seats;
      left = left_in (set lists j n) seats;
    }

-- a place without a list
pub Starts-none : (c : MarkColour) (owners : List ℕ) (left : List (Option MarkColour)) → Starts c None owners left left
Starts-none c owners left = record {
  sized = refl;
  colour_now = c;
  those = λ x j owner never. cc never;
  is = inl refl;
  black = λ x h. h;
  others = λ x why. refl;
}

-- An entry comes last in a list, or alone in a new one.
use Rattle.std.proofs.Common.{◌≡◌, ◌<◌, ◌≤◌, ◌++◌, ◌∷◌, [], ◌⊎◌, inl, inr, ℕ, zero, suc, List, Option, Some, None}
use Rattle.std.proofs.Common.{length, set, get_or, slice_get, refl, sym, ◌∙◌, ap, subst, arith, length-append}
use Rattle.std.specs.Option.{option_and_then, option_map}
use Rattle.std.proofs.lemmas.Bool.{cases_eq, cases_lt}
use Rattle.std.proofs.lemmas.List.{map-append, length-map}
use Rattle.std.proofs.lemmas.Option.{slice_get_within, slice_get_past, slice_get-get_or, slice_get-map, same_Some}
use Rattle.weak_maps.specs.Listings.{ListingState}
use Rattle.weak_maps.specs.declared.colours.MarkColour.{MarkColour}
use Rattle.weak_maps.specs.declared.seats.Seat.{Seat}
use Rattle.weak_maps.specs.Seats.{entry_in, left_of, left_at, left_in, owners_of, items_of, pushed, AreSeated}
use Rattle.weak_maps.specs.Seats.{NoneLeftInNew}
use Rattle.weak_maps.proofs.Reading.{slice_get-push_at, slice_get-push_before, slice_get-push_cases, same_slices}
use Rattle.weak_maps.proofs.Seating.{entry_in-here, entry_in-set_same, entry_in-set_other, entry_in-found}
use Rattle.weak_maps.proofs.Seating.{left_at-set_same, left_at-kept, left_of-outside, same_seat, AreWithin-set}
use Rattle.weak_maps.proofs.Renaming.{left_in-kept}

abbrev none_left : List (Option MarkColour)
none_left = None ∷ []

left_in-pushed : (lists new : List ListingState) (seats : List Seat) (s : Seat)
    → ((seat : Seat) → left_at new seat ≡ left_at lists seat) → left_at new s ≡ None
    → left_in new (seats ++ s ∷ []) ≡ left_in lists seats ++ None ∷ []
left_in-pushed lists new seats s same none =
    map-append (left_at new) seats (s ∷ []) ∙ (λ j. left_in-kept lists new same seats j ++ none j ∷ [])

module _ (lists : List ListingState) (seats : List Seat) (seated : AreSeated lists seats) where
  module _ (j : ℕ) (l n : ListingState) (here : slice_get lists j ≡ Some l)
      (is : n ≡ record { entries = l.entries ++ length seats ∷ []; left = l.left; colour = l.colour }) where
    abbrev new : Seat
    new = record { list = j; at = length l.entries }

    made : j < length lists
    made = slice_get_within lists j l here

    items : n.entries ≡ l.entries ++ length seats ∷ []
    items = ap (λ (k : ListingState). k.entries) is

    in_new : (i : ℕ) → entry_in (set lists j n) j i ≡ slice_get (l.entries ++ length seats ∷ []) i
    in_new i = entry_in-set_same lists j i n made ∙ ap (λ (es : List ℕ). slice_get es i) items

    pub added-seated : AreSeated (set lists j n) (seats ++ new ∷ [])
    added-seated = record {
      stands = λ y s at. elim (slice_get-push_cases seats y new s at) [
        | inl (last, is_new) ↦ ap (λ (t : Seat). entry_in (set lists j n) t.list t.at) is_new
            ∙ (in_new (length l.entries) ∙ (slice_get-push_at l.entries (length seats) ∙ ap (λ z. Some z) (sym last)))
        | inr (_, old) ↦ (let was = seated.stands y s old in elim (cases_eq s.list j) [
          | inl list ↦ (
              let there : slice_get l.entries s.at ≡ Some y = sym (entry_in-here lists j s.at l here)
              ∙ (ap (λ k. entry_in lists k s.at) (sym list) ∙ was) in
              ap (λ k. entry_in (set lists j n) k s.at) list
              ∙ (in_new s.at ∙ (slice_get-push_before l.entries s.at (length seats)
              (slice_get_within l.entries s.at y there) ∙ there)))
          | inr list ↦ entry_in-set_other lists j s.list s.at n list ∙ was
        ])
      ];
      seated = λ k i y at. elim (cases_eq k j) [
        | inl list ↦ (elim (slice_get-push_cases l.entries i (length seats) y
            (sym (in_new i) ∙ (ap (λ m. entry_in (set lists j n) m i) (sym list) ∙ at))) [
              | inl (end, is_new) ↦ ap (slice_get (seats ++ new ∷ [])) is_new
                  ∙ (slice_get-push_at seats new
                  ∙ ap (λ z. Some z) (same_seat new (record { list = k; at = i }) (sym list) (sym end)))
              | inr (_, there) ↦ (let old = seated.seated j i y (entry_in-here lists j i l here ∙ there) in
                  slice_get-push_before seats y new (slice_get_within seats y _ old)
                  ∙ (old ∙ ap (λ m. Some (record { list = m; at = i })) (sym list)))
            ])
        | inr list ↦ (let old = seated.seated k i y (sym (entry_in-set_other lists j k i n list) ∙ at) in
            slice_get-push_before seats y new (slice_get_within seats y _ old) ∙ old)
      ];
      within = AreWithin-set lists j n seated.within (let len = ap length items in let more =
          length-append l.entries (length seats ∷ []) in let old = seated.within j l here in let left =
          ap (λ (k : ListingState). k.left) is in omega (arith, len, more, old, left));
    }

    pub added-left : left_in (set lists j n) (seats ++ new ∷ []) ≡ left_in lists seats ++ None ∷ []
    added-left = left_in-pushed lists (set lists j n) seats new
        (λ s. left_at-kept lists j l n s here (ap (λ (k : ListingState). k.left) is)
        (ap (λ (k : ListingState). k.colour) is)) (left_at-set_same lists j (length l.entries) n made
        ∙ left_of-outside n (length l.entries) (let old = seated.within j l here in let left =
        ap (λ (k : ListingState). k.left) is in omega (arith, old, left)))

  -- a new list
  module _ (n : ListingState) (only : n.entries ≡ length seats ∷ []) (none : n.left ≡ 0) where
    abbrev first : Seat
    first = record { list = length lists; at = 0 }

    old_list : (k i : ℕ) → k < length lists → entry_in (lists ++ n ∷ []) k i ≡ entry_in lists k i
    old_list k i less = ap (option_and_then (λ (m : ListingState). slice_get m.entries i))
        (slice_get-push_before lists k n less)

    in_first : (i : ℕ) → entry_in (lists ++ n ∷ []) (length lists) i ≡ slice_get (length seats ∷ []) i
    in_first i = ap (option_and_then (λ (m : ListingState). slice_get m.entries i)) (slice_get-push_at lists n)
        ∙ ap (λ (es : List ℕ). slice_get es i) only

    at_first : (i y : ℕ) → slice_get (length seats ∷ []) i ≡ Some y → (i ≡ 0) × (y ≡ length seats)
    at_first i y h = (let less = slice_get_within (length seats ∷ []) i y h in let zero_is : i ≡ 0 =
        omega (arith, less) in (zero_is, same_Some _ _ (sym h ∙ ap (slice_get (length seats ∷ [])) zero_is)))

    pub first-seated : AreSeated (lists ++ n ∷ []) (seats ++ first ∷ [])
    first-seated = record {
      stands = λ y s at. elim (slice_get-push_cases seats y first s at) [
        | inl (last, is_new) ↦ ap (λ (t : Seat). entry_in (lists ++ n ∷ []) t.list t.at) is_new
            ∙ (in_first 0 ∙ ap (λ z. Some z) (sym last))
        | inr (_, old) ↦ (let was = seated.stands y s old in let found = entry_in-found lists s.list s.at y was in
            old_list s.list s.at (slice_get_within lists s.list found.0 found.1) ∙ was)
      ];
      seated = λ k i y at.
          (let found = entry_in-found (lists ++ n ∷ []) k i y at in
          elim (slice_get-push_cases lists k n found.0 found.1) [
            | inl (last, _) ↦ (let is_first =
                at_first i y (sym (in_first i) ∙ (ap (λ m. entry_in (lists ++ n ∷ []) m i) (sym last) ∙ at)) in
                ap (slice_get (seats ++ first ∷ [])) is_first.1
                ∙ (slice_get-push_at seats first
                ∙ ap (λ z. Some z) (same_seat first (record { list = k; at = i }) (sym last) (sym is_first.0))))
            | inr (less, _) ↦ (let old = seated.seated k i y (sym (old_list k i less) ∙ at) in
                slice_get-push_before seats y first (slice_get_within seats y _ old) ∙ old)
          ]);
      within = λ k m at. elim (slice_get-push_cases lists k n m at) [
        | inl (_, is) ↦ (let left = ap (λ (s : ListingState). s.left) is in omega (arith, left, none))
        | inr (_, old) ↦ seated.within k m old
      ];
    }

    pub first-left : left_in (lists ++ n ∷ []) (seats ++ first ∷ []) ≡ left_in lists seats ++ None ∷ []
    first-left = same_slices (left_in (lists ++ n ∷ []) (seats ++ first ∷ [])) (left_in lists seats ++ None ∷ [])
        (λ y. slice_get-map (left_at (lists ++ n ∷ [])) (seats ++ first ∷ []) y ∙ by y (cases_lt y (length seats)))
      where
        each : (y : ℕ) (o : Option Seat) → slice_get seats y ≡ o → option_map (left_at (lists ++ n ∷ [])) o
            ≡ option_map (left_at lists) o
        each y None at = refl
        each y (Some s) at =
            (let found = entry_in-found lists s.list s.at y (seated.stands y s at) in
            ap (λ z. Some z) (ap (option_and_then (λ (k : ListingState). left_of k s.at))
            (slice_get-push_before lists s.list n (slice_get_within lists s.list found.0 found.1))))

        len : length (left_in lists seats) ≡ length seats
        len = length-map seats (left_at lists)

        by : (y : ℕ) → (y < length seats) ⊎ (length seats ≤ y)
            → option_map (left_at (lists ++ n ∷ [])) (slice_get (seats ++ first ∷ []) y)
            ≡ slice_get (left_in lists seats ++ None ∷ []) y
        by y (inl low) = ap (option_map (left_at (lists ++ n ∷ []))) (slice_get-push_before seats y first low)
            ∙ (each y (slice_get seats y) refl
            ∙ (sym (slice_get-map (left_at lists) seats y)
            ∙ sym (slice_get-push_before (left_in lists seats) y None (omega (arith, low, len)))))
        by y (inr high) = elim (cases_eq y (length seats)) [
          | inl same ↦ ap (option_map (left_at (lists ++ n ∷ [])))
              (ap (slice_get (seats ++ first ∷ [])) same ∙ slice_get-push_at seats first)
              ∙ (ap (λ z. Some z) (ap (option_and_then (λ (k : ListingState). left_of k 0)) (slice_get-push_at lists n)
              ∙ left_of-outside n 0 (omega (arith, none)))
              ∙ sym (ap (slice_get (left_in lists seats ++ None ∷ [])) (same ∙ sym len)
              ∙ slice_get-push_at (left_in lists seats) None))
          | inr other ↦ ap (option_map (left_at (lists ++ n ∷ [])))
              (slice_get_past (seats ++ first ∷ []) y (omega (arith, length-append seats (first ∷ []), high, other)))
              ∙ sym (slice_get_past (left_in lists seats ++ none_left) y
              (omega (arith, length-append (left_in lists seats) none_left, len, high, other)))
        ]

    pub first-looks : NoneLeftInNew lists (lists ++ n ∷ [])
    first-looks = record {
      sized = length-append lists (n ∷ []);
      only = λ j m c at left. elim (slice_get-push_cases lists j n m at) [
        | inl (_, is) ↦ absurd (let size = ap (λ (s : ListingState). s.left) is in let some = left.0 in
            omega (arith, size, some, none))
        | inr (_, old) ↦ (m, old, left)
      ];
    }

-- what was added, as an index and calls tell it
pub record Added (lists new : List ListingState) (seats seats' : List Seat) (j : ℕ) : Type 0 where
  pub seated : AreSeated new seats'
  pub left : left_in new seats' ≡ left_in lists seats ++ None ∷ []
  pub owners : owners_of seats' ≡ owners_of seats ++ j ∷ []
  pub lists_are : items_of new ≡ pushed (items_of lists) j (length seats)

pushed-set : (lists : List ListingState) (j x : ℕ) (d n : ListingState) → j < length lists
    → n.entries ≡ (get_or lists j d).entries ++ x ∷ [] → items_of (set lists j n) ≡ pushed (items_of lists) j x
pushed-set [] j x d n less is = absurd (omega (arith, less))
pushed-set (l ∷ ls) zero x d n less is = λ i. is i ∷ items_of ls
pushed-set (l ∷ ls) (suc j) x d n less is =
    ap (λ rest. l.entries ∷ rest) (pushed-set ls j x d n (omega (arith, less)) is)

pushed-end : (lists : List ListingState) (x : ℕ) (n : ListingState) → n.entries ≡ x ∷ []
    → items_of (lists ++ n ∷ []) ≡ pushed (items_of lists) (length lists) x
pushed-end [] x n is = λ i. is i ∷ []
pushed-end (l ∷ ls) x n is = ap (λ rest. l.entries ∷ rest) (pushed-end ls x n is)

pub added : (lists : List ListingState) (seats seats' : List Seat) (j x at : ℕ) (d n : ListingState)
    → AreSeated lists seats → j < length lists → x ≡ length seats → at ≡ length (get_or lists j d).entries
    → n ≡ record {
      entries = (get_or lists j d).entries ++ x ∷ [];
      left = (get_or lists j d).left;
      colour = (get_or lists j d).colour;
    } → seats' ≡ seats ++ record { list = j; at = at } ∷ []
    → Added lists (set lists j n) seats seats' j
added lists seats seats' j x at d n seated made x_is at_is is all =
    let l = get_or lists j d in
    let here : slice_get lists j ≡ Some l = slice_get-get_or lists j d made in
    let is_now : n ≡ record { entries = l.entries ++ length seats ∷ []; left = l.left; colour = l.colour } =
    is ∙ (λ i. record { entries = l.entries ++ x_is i ∷ []; left = l.left; colour = l.colour }) in
    let now : seats' ≡ seats ++ record { list = j; at = length l.entries } ∷ [] =
    all ∙ (λ i. seats ++ record { list = j; at = at_is i } ∷ []) in
    subst (λ (ss : List Seat). Added lists (set lists j n) seats ss j) (sym now) (record {
      seated = added-seated lists seats seated j l n here is_now;
      left = added-left lists seats seated j l n here is_now;
      owners = map-append (λ (s : Seat). s.list) seats (record { list = j; at = length l.entries } ∷ []);
      lists_are = pushed-set lists j (length seats) d n made (ap (λ (k : ListingState). k.entries) is_now);
    })

pub added_first : (lists ls : List ListingState) (seats seats' : List Seat) (j x : ℕ) (n : ListingState)
    → AreSeated lists seats → j ≡ length lists → x ≡ length seats → n.entries ≡ x ∷ [] → n.left ≡ 0
    → ls ≡ lists ++ n ∷ [] → seats' ≡ seats ++ record { list = j; at = 0 } ∷ []
    → Added lists ls seats seats' (length lists) × NoneLeftInNew lists ls
added_first lists ls seats seats' j x n seated j_is x_is only none new_is all =
    let one = only ∙ (λ i. x_is i ∷ []) in
    let now : seats' ≡ seats ++ record { list = length lists; at = 0 } ∷ [] =
    all ∙ (λ i. seats ++ record { list = j_is i; at = 0 } ∷ []) in
    subst (λ (ks : List ListingState). Added lists ks seats seats' (length lists) × NoneLeftInNew lists ks)
    (sym new_is) (
      subst (λ (ss : List Seat). Added lists (lists ++ n ∷ []) seats ss (length lists)) (sym now) (record {
        seated = first-seated lists seats seated n one none;
        left = first-left lists seats seated n one none;
        owners = map-append (λ (s : Seat). s.list) seats (record { list = length lists; at = 0 } ∷ []);
        lists_are = pushed-end lists (length seats) n one;
      }),
      first-looks lists seats seated n one none,
    )

-- An entry leaves the part of its list that is still to be looked at.
use Rattle.std.proofs.Common.{◌≡◌, ◌≢◌, ◌<◌, ◌≤◌, ◌+◌, ◌-◌, inl, inr, ℕ, List, Option, Some, None, length, set, get_or}
use Rattle.std.proofs.Common.{slice_get, refl, sym, ◌∙◌, ap, subst, arith, length-set}
use Rattle.std.specs.Option.{option_map, option_and_then}
use Rattle.std.proofs.lemmas.Bool.{cases_eq, cases_lt}
use Rattle.std.proofs.lemmas.Option.{slice_get_within, slice_get-map, same_Some, get_or_from_slice_get}
use Rattle.std.proofs.Math.Seq.{map-set_same}
use Rattle.weak_maps.specs.declared.seats.Seat.{Seat}
use Rattle.weak_maps.specs.Listings.{ListingState}
use Rattle.weak_maps.specs.Seats.{entry_in, left_of, left_at, left_in, AreSeated, AreSeatedBut, IsBehind, KeepsOthers}
use Rattle.weak_maps.specs.Seats.{NoMoreLeft}
use Rattle.weak_maps.proofs.Looks.{NoMoreLeft-same, NoMoreLeft-set}
use Rattle.weak_maps.proofs.Reading.{slice_get-set_same, slice_get-set_other, slice_get-set_cases}
use Rattle.weak_maps.proofs.Seating.{entry_in-here, entry_in-set_same, entry_in-set_other, left_at-set_same}
use Rattle.weak_maps.proofs.Seating.{left_at-set_other, left_at-here, same_seat, AreWithin-set, left_of-inside}
use Rattle.weak_maps.proofs.Seating.{left_of-outside, found_list}
use Rattle.std.proofs.lemmas.List.{set-get_or}

module _ (lists : List ListingState) (seats : List Seat) (seated : AreSeated lists seats) (x : ℕ) (seat : Seat)
    (at_x : slice_get seats x ≡ Some seat) (l : ListingState) (here : slice_get lists seat.list ≡ Some l) where
  -- what stands in the list
  stood : (i y : ℕ) → slice_get l.entries i ≡ Some y → slice_get seats y ≡ Some (record { list = seat.list; at = i })
  stood i y h = seated.seated seat.list i y (entry_in-here lists seat.list i l here ∙ h)

  pub x_stood : slice_get l.entries seat.at ≡ Some x
  x_stood = sym (entry_in-here lists seat.list seat.at l here) ∙ seated.stands x seat at_x

  list_made : seat.list < length lists
  list_made = slice_get_within lists seat.list l here

  module _ (left : ℕ) (m : ℕ) (n : ListingState) (more : l.left ≡ left + 1) (less : seat.at < l.left)
      (there : slice_get l.entries left ≡ Some m) (items : n.entries ≡ set l.entries seat.at m) (n_left : n.left ≡ left)
      (n_colour : n.colour ≡ l.colour) where
    m_seat : slice_get seats m ≡ Some (record { list = seat.list; at = left })
    m_seat = stood left m there

    pub m_made : m < length seats
    m_made = slice_get_within seats m _ m_seat

    at_left : m ≡ x → seat.at ≡ left
    at_left same = ap (λ (s : Seat). s.at) (same_Some _ _ (sym at_x ∙ (ap (slice_get seats) (sym same) ∙ m_seat)))

    at_m : seat.at ≡ left → m ≡ x
    at_m same = same_Some _ _ (sym there ∙ (ap (slice_get l.entries) (sym same) ∙ x_stood))

    in_new : (i : ℕ) → entry_in (set lists seat.list n) seat.list i ≡ slice_get (set l.entries seat.at m) i
    in_new i = entry_in-set_same lists seat.list i n list_made ∙ ap (λ (es : List ℕ). slice_get es i) items

    new_stands : (y : ℕ) (s : Seat) → y ≢ x → slice_get (set seats m seat) y ≡ Some s
        → (entry_in (set lists seat.list n) s.list s.at ≡ Some y) × (s.list ≡ seat.list → s.at ≢ left)
    new_stands y s other at = elim (slice_get-set_cases seats m y seat s at) [
      | inl (same, is, _) ↦ (
        ap (λ (t : Seat). entry_in (set lists seat.list n) t.list t.at) is
            ∙ (in_new seat.at ∙ (slice_get-set_same l.entries seat.at m (slice_get_within l.entries seat.at x x_stood)
            ∙ ap (λ z. Some z) (sym same))),
        λ _ hole. other (same ∙ at_m (sym (ap (λ (t : Seat). t.at) is) ∙ hole)),
      )
      | inr (differ, before) ↦ (elim (cases_eq s.list seat.list) [
        | inl list ↦ (
            let was : slice_get l.entries s.at ≡ Some y = sym (entry_in-here lists seat.list s.at l here)
            ∙ (ap (λ j. entry_in lists j s.at) (sym list) ∙ seated.stands y s before) in
            let apart : s.at ≢ seat.at =
            λ same. other (same_Some _ _ (sym was ∙ (ap (slice_get l.entries) same ∙ x_stood))) in (
              ap (λ j. entry_in (set lists seat.list n) j s.at) list
                  ∙ (in_new s.at ∙ (slice_get-set_other l.entries seat.at s.at m apart ∙ was)),
              λ _ hole. differ (same_Some _ _ (sym was ∙ (ap (slice_get l.entries) hole ∙ there))),
            ))
        | inr list ↦ (
          entry_in-set_other lists seat.list s.list s.at n list ∙ seated.stands y s before,
          λ same _. list same,
        )
      ])
    ]

    new_seated : (j i y : ℕ) → (j ≡ seat.list → i ≢ left) → entry_in (set lists seat.list n) j i ≡ Some y
        → (slice_get (set seats m seat) y ≡ Some (record { list = j; at = i })) × (y ≢ x)
    new_seated j i y apart is = elim (cases_eq j seat.list) [
      | inl list ↦ (elim (slice_get-set_cases l.entries seat.at i m y
          (sym (in_new i) ∙ (ap (λ k. entry_in (set lists seat.list n) k i) (sym list) ∙ is))) [
            | inl (at, same, _) ↦ (
              ap (slice_get (set seats m seat)) same
                  ∙ (slice_get-set_same seats m seat m_made
                  ∙ ap (λ z. Some z) (same_seat seat (record { list = j; at = i }) (sym list) (sym at))),
              λ was_x. apart list (at ∙ at_left (sym same ∙ was_x)),
            )
            | inr (differ, before) ↦ (
                let old = stood i y before in
                let not_m : y ≢ m = λ same.
                apart list
                (ap (λ (s : Seat). s.at) (same_Some _ _ (sym old ∙ (ap (slice_get seats) same ∙ m_seat)))) in (
                  slice_get-set_other seats m y seat not_m
                      ∙ (old ∙ ap (λ k. Some (record { list = k; at = i })) (sym list)),
                  λ was_x. differ
                      (ap (λ (s : Seat). s.at) (same_Some _ _ (sym old ∙ (ap (slice_get seats) was_x ∙ at_x)))),
                ))
          ])
      | inr list ↦ (
          let old = seated.seated j i y (sym (entry_in-set_other lists seat.list j i n list) ∙ is) in (
            slice_get-set_other seats m y seat
                (λ same. list (ap (λ (s : Seat). s.list)
                (same_Some _ _ (sym old ∙ (ap (slice_get seats) same ∙ m_seat))))) ∙ old,
            λ was_x. list (ap (λ (s : Seat). s.list) (same_Some _ _ (sym old ∙ (ap (slice_get seats) was_x ∙ at_x)))),
          ))
    ]

    pub leaves-but : AreSeatedBut x (record { list = seat.list; at = left }) (set lists seat.list n) (set seats m seat)
    leaves-but = record {
      stands = new_stands;
      seated = new_seated;
      within = AreWithin-set lists seat.list n seated.within (let old = seated.within seat.list l here in let len =
          ap length items in let same = length-set l.entries seat.at m in omega (arith, old, len, same, n_left, more));
    }

    pub leaves-behind : IsBehind (set lists seat.list n) (record { list = seat.list; at = left })
    leaves-behind = record {
      listing = n;
      found = slice_get-set_same lists seat.list n list_made;
      inside = (let len = ap length items in let same = length-set l.entries seat.at m in let old =
          slice_get_within l.entries left m there in omega (arith, len, same, old));
      behind = omega (arith, n_left);
    }

    in_part : (i : ℕ) → i ≢ left → left_of n i ≡ left_of l i
    in_part i apart = elim (cases_lt i left) [
      | inl low ↦ left_of-inside n i (omega (arith, n_left, low))
          ∙ (ap (λ c. Some c) n_colour ∙ sym (left_of-inside l i (omega (arith, more, low))))
      | inr high ↦ left_of-outside n i (omega (arith, n_left, high))
          ∙ sym (left_of-outside l i (omega (arith, more, high, apart)))
    ]

    seat_left : (y : ℕ) (s : Seat) → y ≢ m → slice_get seats y ≡ Some s
        → left_at (set lists seat.list n) s ≡ left_at lists s
    seat_left y s differ at = elim (cases_eq s.list seat.list) [
      | inl list ↦ (
          let apart : s.at ≢ left =
          λ hole. differ (same_Some _ _
          (sym (sym (entry_in-here lists seat.list s.at l here)
          ∙ (ap (λ j. entry_in lists j s.at) (sym list) ∙ seated.stands y s at))
          ∙ (ap (slice_get l.entries) hole ∙ there))) in
          ap (option_and_then (λ (k : ListingState). left_of k s.at))
          (ap (slice_get (set lists seat.list n)) list ∙ slice_get-set_same lists seat.list n list_made)
          ∙ (in_part s.at apart
          ∙ sym (ap (option_and_then (λ (k : ListingState). left_of k s.at)) (ap (slice_get lists) list ∙ here))))
      | inr other ↦ left_at-set_other lists seat.list s n other
    ]

    leaves-left : (y : ℕ) → y ≢ x → slice_get (left_in (set lists seat.list n) (set seats m seat)) y
        ≡ slice_get (left_in lists seats) y
    leaves-left y other = slice_get-map (left_at (set lists seat.list n)) (set seats m seat) y
        ∙ (now ∙ sym (slice_get-map (left_at lists) seats y))
      where
        same_place : y ≡ m → option_map (left_at (set lists seat.list n)) (slice_get (set seats m seat) y)
            ≡ option_map (left_at lists) (slice_get seats y)
        same_place same =
            let apart : seat.at ≢ left = λ hole. other (same ∙ at_m hole) in
            ap (option_map (left_at (set lists seat.list n)))
            (ap (slice_get (set seats m seat)) same ∙ slice_get-set_same seats m seat m_made)
            ∙ (ap (λ z. Some z) (left_at-set_same lists seat.list seat.at n list_made
            ∙ (left_of-inside n seat.at (omega (arith, n_left, less, more, apart))
            ∙ (ap (λ c. Some c) n_colour
            ∙ (sym (left_of-inside l left (omega (arith, more)))
            ∙ sym (left_at-here lists seat.list left l here)))))
            ∙ sym (ap (option_map (left_at lists)) (ap (slice_get seats) same ∙ m_seat)))

        elsewhere : y ≢ m → (o : Option Seat) → slice_get seats y ≡ o → option_map (left_at (set lists seat.list n)) o
            ≡ option_map (left_at lists) o
        elsewhere differ None at = refl
        elsewhere differ (Some s) at = ap (λ z. Some z) (seat_left y s differ at)

        now : option_map (left_at (set lists seat.list n)) (slice_get (set seats m seat) y)
            ≡ option_map (left_at lists) (slice_get seats y)
        now = elim (cases_eq y m) [
          | inl same ↦ same_place same
          | inr differ ↦ ap (option_map (left_at (set lists seat.list n))) (slice_get-set_other seats m y seat differ)
              ∙ elsewhere differ (slice_get seats y) refl
        ]

    pub leaves-keeps : KeepsOthers x lists seats (set lists seat.list n) (set seats m seat)
    leaves-keeps = record {
      left = leaves-left;
      owners = map-set_same (λ (s : Seat). s.list) seats m seat seat
          (ap (λ (s : Seat). s.list)
          (sym (get_or_from_slice_get seats m (record { list = seat.list; at = left }) seat m_seat)));
    }

  -- where it stands behind that part already
  pub stays-but : AreSeatedBut x seat lists seats
  stays-but = record {
    stands = λ y s other at. (
      seated.stands y s at,
      λ list hole. other (same_Some _ _
          (sym (seated.stands y s at) ∙ ((λ j. entry_in lists (list j) (hole j)) ∙ seated.stands x seat at_x))),
    );
    seated = λ j i y apart is. (
      seated.seated j i y is,
      λ same. (let old = same_Some _ _ (sym (seated.seated j i y is) ∙ (ap (slice_get seats) same ∙ at_x)) in
          apart (ap (λ (s : Seat). s.list) old) (ap (λ (s : Seat). s.at) old)),
    );
    within = seated.within;
  }

  pub stays-behind : l.left ≤ seat.at → IsBehind lists seat
  stays-behind behind = record {
    listing = l;
    found = here;
    inside = slice_get_within l.entries seat.at x x_stood;
    behind = behind;
  }

pub KeepsOthers-same : (x : ℕ) (lists : List ListingState) (seats : List Seat) → KeepsOthers x lists seats lists seats
KeepsOthers-same x lists seats = record { left = λ y _. refl; owners = refl }

-- the list of an entry, as an index reads it
module _ (lists : List ListingState) (seats : List Seat) (seated : AreSeated lists seats) (x : ℕ) (seat : Seat)
    (at : slice_get seats x ≡ Some seat) (d : ListingState) where
  pub its_found : slice_get lists seat.list ≡ Some (get_or lists seat.list d)
  its_found = found_list lists seat.list seat.at x d (seated.stands x seat at)

  pub record HasLeft (n : ListingState) (m : ℕ) : Type 0 where
    pub made : m < length seats
    pub but : AreSeatedBut x (record { list = seat.list; at = n.left }) (set lists seat.list n) (set seats m seat)
    pub behind : IsBehind (set lists seat.list n) (record { list = seat.list; at = n.left })
    pub keeps : KeepsOthers x lists seats (set lists seat.list n) (set seats m seat)
    pub looks : NoMoreLeft lists (set lists seat.list n)

  pub has_left : (n : ListingState) (m : ℕ) → (seat.at < (get_or lists seat.list d).left)
      × (slice_get (get_or lists seat.list d).entries ((get_or lists seat.list d).left - 1) ≡ Some m)
      × (n ≡ record {
        entries = set (get_or lists seat.list d).entries seat.at m;
        left = (get_or lists seat.list d).left - 1;
        colour = (get_or lists seat.list d).colour;
      }) → HasLeft n m
  has_left n m (less, there, is) =
      let l = get_or lists seat.list d in
      let more : l.left ≡ (l.left - 1) + 1 = omega (arith, less) in
      let items = ap (λ (k : ListingState). k.entries) is in
      let left = ap (λ (k : ListingState). k.left) is in
      let colour = ap (λ (k : ListingState). k.colour) is in
      record {
        made = m_made lists seats seated x seat at l its_found (l.left - 1) m n more less there items left colour;
        but = subst (λ (a : ℕ). AreSeatedBut x (record { list = seat.list; at = a }) (set lists seat.list n)
            (set seats m seat)) (sym left)
            (leaves-but lists seats seated x seat at l its_found (l.left - 1) m n more less there items left colour);
        behind = subst (λ (a : ℕ). IsBehind (set lists seat.list n) (record { list = seat.list; at = a })) (sym left)
            (leaves-behind lists seats seated x seat at l its_found (l.left - 1) m n more less there items left colour);
        keeps = leaves-keeps lists seats seated x seat at l its_found (l.left - 1) m n more less there items left
            colour;
        looks = NoMoreLeft-set lists seat.list l n its_found (omega (arith, left, more)) colour;
      }

  pub record HasStayed (ls : List ListingState) : Type 0 where
    pub but : AreSeatedBut x seat ls seats
    pub behind : IsBehind ls seat
    pub keeps : KeepsOthers x lists seats ls seats
    pub looks : NoMoreLeft lists ls

  pub has_stayed : (n : ListingState) → ((get_or lists seat.list d).left ≤ seat.at) × (n ≡ get_or lists seat.list d)
      → HasStayed (set lists seat.list n)
  has_stayed n (behind, is) =
      let same : set lists seat.list n ≡ lists = ap (set lists seat.list) is ∙ set-get_or lists seat.list d in
      subst HasStayed (sym same) (record {
        but = stays-but lists seats seated x seat at (get_or lists seat.list d) its_found;
        behind = stays-behind lists seats seated x seat at (get_or lists seat.list d) its_found behind;
        keeps = KeepsOthers-same x lists seats;
        looks = NoMoreLeft-same lists;
      })

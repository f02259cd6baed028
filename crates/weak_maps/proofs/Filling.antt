-- The last entry of a list takes a seat that is empty.
use Rattle.std.proofs.Common.{◌≡◌, ◌≢◌, ◌<◌, ◌≤◌, ◌-◌, inl, inr, ℕ, List, Option, Some, None, length, set, get_or}
use Rattle.std.proofs.Common.{slice_get, refl, sym, ◌∙◌, ap, subst, arith}
use Rattle.std.specs.List.{swap_remove}
use Rattle.std.specs.Option.{option_map}
use Rattle.std.proofs.Math.Seq.{map-set_same}
use Rattle.std.proofs.lemmas.Bool.{cases_eq, cases_lt}
use Rattle.std.proofs.lemmas.Option.{slice_get_within, slice_get-map, slice_get-get_or, get_or_from_slice_get}
use Rattle.std.proofs.lemmas.Option.{same_Some}
use Rattle.weak_maps.specs.Listings.{ListingState}
use Rattle.weak_maps.specs.declared.seats.Seat.{Seat}
use Rattle.weak_maps.specs.Seats.{entry_in, left_at, AreOthersSeated, AreSeatedBut, IsBehind, KeepsOthers}
use Rattle.weak_maps.proofs.Reading.{slice_get-set_same, slice_get-set_other, slice_get-set_cases, swap_remove_here}
use Rattle.weak_maps.proofs.Reading.{swap_remove_other, swap_remove_cases, length-swap_remove}
use Rattle.weak_maps.proofs.Seating.{entry_in-here, entry_in-set_same, entry_in-set_other, left_at-set_same}
use Rattle.weak_maps.proofs.Seating.{left_at-kept, left_at-here, left_of-outside, same_seat, AreWithin-set}

module _ (x : ℕ) (hole : Seat) (lists : List ListingState) (seats : List Seat) (but : AreSeatedBut x hole lists seats)
    (l n : ListingState) (here : slice_get lists hole.list ≡ Some l) (inside : hole.at < length l.entries)
    (behind : l.left ≤ hole.at)
    (is : n ≡ record { entries = swap_remove l.entries hole.at 0; left = l.left; colour = l.colour }) where
  abbrev end : ℕ
  end = length l.entries - 1

  made : hole.list < length lists
  made = slice_get_within lists hole.list l here

  items : n.entries ≡ swap_remove l.entries hole.at 0
  items = ap (λ (k : ListingState). k.entries) is

  n_left : n.left ≡ l.left
  n_left = ap (λ (k : ListingState). k.left) is

  n_colour : n.colour ≡ l.colour
  n_colour = ap (λ (k : ListingState). k.colour) is

  in_new : (i : ℕ) → entry_in (set lists hole.list n) hole.list i ≡ slice_get (swap_remove l.entries hole.at 0) i
  in_new i = entry_in-set_same lists hole.list i n made ∙ ap (λ (es : List ℕ). slice_get es i) items

  -- what stood in the list, but at the hole
  stood : (i y : ℕ) → i ≢ hole.at → slice_get l.entries i ≡ Some y
      → (slice_get seats y ≡ Some (record { list = hole.list; at = i })) × (y ≢ x)
  stood i y other h = but.seated hole.list i y (λ _. other) (entry_in-here lists hole.list i l here ∙ h)

  within : (j : ℕ) (k : ListingState) → slice_get (set lists hole.list n) j ≡ Some k → k.left ≤ length k.entries
  within = AreWithin-set lists hole.list n but.within (let len = ap length items in let same =
      length-swap_remove l.entries hole.at 0 in omega (arith, len, same, n_left, inside, behind))

  module _ (m : ℕ) (moved : slice_get n.entries hole.at ≡ Some m) where
    was_last : (hole.at < end) × (slice_get l.entries end ≡ Some m)
    was_last = (let cases =
        swap_remove_cases l.entries hole.at hole.at 0 m (sym (ap (λ (es : List ℕ). slice_get es hole.at) items) ∙ moved)
        in (
          cases.0,
          elim cases.1 [
            | inl last ↦ last.1
            | inr other ↦ absurd (other.0 refl)
          ],
        ))

    m_is : (slice_get seats m ≡ Some (record { list = hole.list; at = end })) × (m ≢ x)
    m_is = stood end m (let before = was_last.0 in omega (arith, before)) was_last.1

    pub moved_made : m < length seats
    moved_made = slice_get_within seats m _ m_is.0

    new_stands : (y : ℕ) (s : Seat) → y ≢ x → slice_get (set seats m hole) y ≡ Some s
        → entry_in (set lists hole.list n) s.list s.at ≡ Some y
    new_stands y s other at = elim (slice_get-set_cases seats m y hole s at) [
      | inl (same, is_hole, _) ↦ ap (λ (t : Seat). entry_in (set lists hole.list n) t.list t.at) is_hole
          ∙ (entry_in-set_same lists hole.list hole.at n made ∙ (moved ∙ ap (λ z. Some z) (sym same)))
      | inr (differ, before) ↦ (let old = but.stands y s other before in elim (cases_eq s.list hole.list) [
        | inl list ↦ (
            let apart = old.1 list in
            let was : slice_get l.entries s.at ≡ Some y = sym (entry_in-here lists hole.list s.at l here)
            ∙ (ap (λ j. entry_in lists j s.at) (sym list) ∙ old.0) in
            let not_end : s.at ≢ end =
            λ same. differ (same_Some _ _ (sym was ∙ (ap (slice_get l.entries) same ∙ was_last.1))) in
            let low = slice_get_within l.entries s.at y was in
            ap (λ j. entry_in (set lists hole.list n) j s.at) list
            ∙ (in_new s.at ∙ (swap_remove_other l.entries hole.at s.at 0 apart (omega (arith, low, not_end))
            ∙ was)))
        | inr list ↦ entry_in-set_other lists hole.list s.list s.at n list ∙ old.0
      ])
    ]

    new_seated : (j i y : ℕ) → entry_in (set lists hole.list n) j i ≡ Some y
        → (slice_get (set seats m hole) y ≡ Some (record { list = j; at = i })) × (y ≢ x)
    new_seated j i y at = elim (cases_eq j hole.list) [
      | inl list ↦ (let cases =
          swap_remove_cases l.entries hole.at i 0 y
          (sym (in_new i) ∙ (ap (λ k. entry_in (set lists hole.list n) k i) (sym list) ∙ at)) in elim cases.1 [
            | inl (same, last) ↦ (
                let is_m : y ≡ m = same_Some _ _ (sym last ∙ was_last.1) in (
                  ap (slice_get (set seats m hole)) is_m
                      ∙ (slice_get-set_same seats m hole moved_made
                      ∙ ap (λ z. Some z) (same_seat hole (record { list = j; at = i }) (sym list) (sym same))),
                  λ is_x. m_is.1 (sym is_m ∙ is_x),
                ))
            | inr (other, before) ↦ (
                let old = stood i y other before in
                let not_m : y ≢ m = λ same.
                (let end_is : i ≡ end =
                ap (λ (s : Seat). s.at) (same_Some _ _ (sym old.0 ∙ (ap (slice_get seats) same ∙ m_is.0))) in let low =
                cases.0 in absurd (omega (arith, low, end_is))) in (
                  slice_get-set_other seats m y hole not_m
                      ∙ (old.0 ∙ ap (λ k. Some (record { list = k; at = i })) (sym list)),
                  old.1,
                ))
          ])
      | inr list ↦ (
          let old = but.seated j i y (λ same. absurd (list same)) (sym (entry_in-set_other lists hole.list j i n list)
          ∙ at) in (
            slice_get-set_other seats m y hole
                (λ same. list (ap (λ (s : Seat). s.list)
                (same_Some _ _ (sym old.0 ∙ (ap (slice_get seats) same ∙ m_is.0))))) ∙ old.0,
            old.1,
          ))
    ]

    pub fills-others : AreOthersSeated x (set lists hole.list n) (set seats m hole)
    fills-others = record { stands = new_stands; seated = new_seated; within = within }

    pub fills-keeps : KeepsOthers x lists seats (set lists hole.list n) (set seats m hole)
    fills-keeps = record {
      left = λ y other. slice_get-map (left_at (set lists hole.list n)) (set seats m hole) y
          ∙ (now y ∙ sym (slice_get-map (left_at lists) seats y));
      owners = map-set_same (λ (s : Seat). s.list) seats m hole hole
          (ap (λ (s : Seat). s.list)
          (sym (get_or_from_slice_get seats m (record { list = hole.list; at = end }) hole m_is.0)));
    }
      where
        each : (o : Option Seat) → option_map (left_at (set lists hole.list n)) o ≡ option_map (left_at lists) o
        each None = refl
        each (Some s) = ap (λ z. Some z) (left_at-kept lists hole.list l n s here n_left n_colour)

        now : (y : ℕ) → option_map (left_at (set lists hole.list n)) (slice_get (set seats m hole) y)
            ≡ option_map (left_at lists) (slice_get seats y)
        now y = elim (cases_eq y m) [
          | inl same ↦ ap (option_map (left_at (set lists hole.list n)))
              (ap (slice_get (set seats m hole)) same ∙ slice_get-set_same seats m hole moved_made)
              ∙ (ap (λ z. Some z) (left_at-set_same lists hole.list hole.at n made
              ∙ (left_of-outside n hole.at (omega (arith, n_left, behind))
              ∙ (sym (left_of-outside l end (let before = was_last.0 in omega (arith, behind, before)))
              ∙ sym (left_at-here lists hole.list end l here))))
              ∙ sym (ap (option_map (left_at lists)) (ap (slice_get seats) same ∙ m_is.0)))
          | inr other ↦ ap (option_map (left_at (set lists hole.list n))) (slice_get-set_other seats m y hole other)
              ∙ each (slice_get seats y)
        ]

  -- where the hole is at the end
  module _ (none : slice_get n.entries hole.at ≡ None) where
    at_end : hole.at ≡ end
    at_end = elim (cases_lt hole.at end) [
      | inl before ↦ absurd (
          let stays = swap_remove_here l.entries hole.at 0 before in
          let some = slice_get-get_or l.entries end 0 (omega (arith, before)) in
          let not : slice_get (swap_remove l.entries hole.at 0) hole.at ≡ None =
          ap (λ (es : List ℕ). slice_get es hole.at) (sym items) ∙ none in
          cc)
      | inr past ↦ omega (arith, past, inside)
    ]

    pub ends-others : AreOthersSeated x (set lists hole.list n) seats
    ends-others = record {
      stands = λ y s other at. (let old = but.stands y s other at in elim (cases_eq s.list hole.list) [
        | inl list ↦ (
            let apart = old.1 list in
            let was : slice_get l.entries s.at ≡ Some y = sym (entry_in-here lists hole.list s.at l here)
            ∙ (ap (λ j. entry_in lists j s.at) (sym list) ∙ old.0) in
            let low = slice_get_within l.entries s.at y was in
            ap (λ j. entry_in (set lists hole.list n) j s.at) list
            ∙ (in_new s.at ∙ (swap_remove_other l.entries hole.at s.at 0 apart (omega (arith, low, apart, at_end))
            ∙ was)))
        | inr list ↦ entry_in-set_other lists hole.list s.list s.at n list ∙ old.0
      ]);
      seated = λ j i y at. elim (cases_eq j hole.list) [
        | inl list ↦ (let cases =
            swap_remove_cases l.entries hole.at i 0 y
            (sym (in_new i) ∙ (ap (λ k. entry_in (set lists hole.list n) k i) (sym list) ∙ at)) in elim cases.1 [
              | inl (same, _) ↦ absurd (let low = cases.0 in omega (arith, low, same, at_end))
              | inr (other, before)
                  ↦ (let old = stood i y other before in
                  (old.0 ∙ ap (λ k. Some (record { list = k; at = i })) (sym list), old.1))
            ])
        | inr list ↦ but.seated j i y (λ same. absurd (list same)) (sym (entry_in-set_other lists hole.list j i n list)
            ∙ at)
      ];
      within = within;
    }

    pub ends-keeps : KeepsOthers x lists seats (set lists hole.list n) seats
    ends-keeps = record {
      left = λ y other. slice_get-map (left_at (set lists hole.list n)) seats y
          ∙ (each (slice_get seats y) ∙ sym (slice_get-map (left_at lists) seats y));
      owners = refl;
    }
      where
        each : (o : Option Seat) → option_map (left_at (set lists hole.list n)) o ≡ option_map (left_at lists) o
        each None = refl
        each (Some s) = ap (λ z. Some z) (left_at-kept lists hole.list l n s here n_left n_colour)

-- what was moved stood elsewhere in the list
pub moved_stood : (l n : ListingState) (at m : ℕ)
    → n ≡ record { entries = swap_remove l.entries at 0; left = l.left; colour = l.colour }
    → slice_get n.entries at ≡ Some m → (i : ℕ) × (i ≢ at) × (slice_get l.entries i ≡ Some m)
moved_stood l n at m is moved =
    let cases = swap_remove_cases l.entries at at 0 m (sym (ap (λ (k : ListingState). slice_get k.entries at) is)
    ∙ moved) in
    elim cases.1 [
      | inl last ↦ (
        length l.entries - 1,
        (λ same. absurd (let before = cases.0 in omega (arith, before, same))),
        last.1,
      )
      | inr other ↦ absurd (other.0 refl)
    ]

-- the list of a hole, as an index reads it
pub record Read (lists : List ListingState) (hole : Seat) (l : ListingState) : Type 0 where
  pub here : slice_get lists hole.list ≡ Some l
  pub inside : hole.at < length l.entries
  pub behind : l.left ≤ hole.at

pub reads : (lists : List ListingState) (hole : Seat) (d : ListingState) → IsBehind lists hole
    → Read lists hole (get_or lists hole.list d)
reads lists hole d behind =
    let same : get_or lists hole.list d ≡ behind.listing =
    get_or_from_slice_get lists hole.list behind.listing d behind.found in
    subst (Read lists hole) (sym same) (record { here = behind.found; inside = behind.inside; behind = behind.behind })

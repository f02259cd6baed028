-- The last entry takes the number of one that stands nowhere.
use Rattle.std.proofs.Common.{◌≡◌, ◌≢◌, ◌<◌, ◌≤◌, ◌++◌, ◌∷◌, [], inl, inr, ℕ, List, Some, None, length, map, set}
use Rattle.std.proofs.Common.{get_or, slice_get, refl, sym, ◌∙◌, ap, arith, length-append, length-set}
use Rattle.std.specs.List.{swap_remove}
use Rattle.std.proofs.lemmas.Bool.{cases_eq}
use Rattle.std.proofs.lemmas.List.{length-map, map-append, map-set}
use Rattle.std.proofs.lemmas.Option.{slice_get_within, same_Some}
use Rattle.weak_maps.specs.Listings.{ListingState}
use Rattle.weak_maps.specs.declared.seats.Seat.{Seat}
use Rattle.weak_maps.specs.Seats.{entry_in, left_at, left_in, owners_of, AreOthersSeated, AreSeated, KeepsOthers}
use Rattle.weak_maps.proofs.Reading.{slice_get-set_same, slice_get-set_other, slice_get-set_cases, slice_get-push_at}
use Rattle.weak_maps.proofs.Reading.{slice_get-push_before, swap_remove-pushed, swap_remove-last, same_swap_remove}
use Rattle.weak_maps.proofs.Seating.{entry_in-here, entry_in-set_same, entry_in-set_other, left_at-kept, found_list}
use Rattle.weak_maps.proofs.Seating.{same_seat, AreWithin-set}

-- what is looked at, where no list is looked at otherwise
pub left_in-kept : (lists new : List ListingState) → ((seat : Seat) → left_at new seat ≡ left_at lists seat)
    → (seats : List Seat) → left_in new seats ≡ left_in lists seats
left_in-kept lists new same [] = refl
left_in-kept lists new same (s ∷ seats) = λ j. same s j ∷ left_in-kept lists new same seats j

map-swap_remove_pushed : {X Y : Type 0} (f : X → Y) (xs : List X) (n : ℕ) (y : X) (d : Y) → n < length xs
    → map f (set xs n y) ≡ swap_remove (map f (xs ++ y ∷ [])) n d
map-swap_remove_pushed f xs n y d less =
    map-set f xs n y ∙ (sym (swap_remove-pushed (map f xs) n (f y) d (omega (arith, length-map xs f, less)))
    ∙ ap (λ ys. swap_remove ys n d) (sym (map-append f xs (y ∷ []))))

map-swap_remove_last : {X Y : Type 0} (f : X → Y) (xs : List X) (n : ℕ) (y : X) (d : Y) → length xs ≡ n
    → map f xs ≡ swap_remove (map f (xs ++ y ∷ [])) n d
map-swap_remove_last f xs n y d all =
    sym (swap_remove-last (map f xs) n (f y) d (length-map xs f ∙ all))
    ∙ ap (λ ys. swap_remove ys n d) (sym (map-append f xs (y ∷ [])))

module _ (x : ℕ) (lists : List ListingState) (seats rest : List Seat) (last : Seat)
    (others : AreOthersSeated x lists seats) (all : seats ≡ rest ++ last ∷ []) where
  last_at : slice_get seats (length rest) ≡ Some last
  last_at = ap (λ (ss : List Seat). slice_get ss (length rest)) all ∙ slice_get-push_at rest last

  before : (y : ℕ) → y < length rest → slice_get seats y ≡ slice_get rest y
  before y less = ap (λ (ss : List Seat). slice_get ss y) all ∙ slice_get-push_before rest y last less

  -- where the last one has that number itself
  module _ (is_last : length rest ≤ x) (known : x < length seats) where
    x_is : length rest ≡ x
    x_is = (let len = ap length all in let more = length-append rest (last ∷ []) in
        omega (arith, len, more, is_last, known))

    pub last-seated : AreSeated lists rest
    last-seated = record {
      stands = λ y s at. (let less = slice_get_within rest y s at in
          others.stands y s (omega (arith, less, x_is)) (before y less ∙ at));
      seated = λ j i y at. (
          let old = others.seated j i y at in
          let not_x = old.1 in
          let less = slice_get_within seats y _ old.0 in
          let len = ap length all in
          let more = length-append rest (last ∷ []) in
          sym (before y (omega (arith, less, len, more, not_x, x_is))) ∙ old.0);
      within = others.within;
    }

    pub last-left : left_in lists rest ≡ swap_remove (left_in lists seats) x None
    last-left = map-swap_remove_last (left_at lists) rest x last None x_is
        ∙ ap (λ (ss : List Seat). swap_remove (left_in lists ss) x None) (sym all)

    pub last-owners : owners_of rest ≡ swap_remove (owners_of seats) x 0
    last-owners = map-swap_remove_last (λ (s : Seat). s.list) rest x last 0 x_is
        ∙ ap (λ (ss : List Seat). swap_remove (owners_of ss) x 0) (sym all)

  -- where it takes that number
  module _ (less : x < length rest) (d : ListingState) where
    pub last_found : slice_get lists last.list ≡ Some (get_or lists last.list d)
    last_found = found_list lists last.list last.at (length rest) d
        (others.stands (length rest) last (omega (arith, less)) last_at)

    pub last_stood : slice_get (get_or lists last.list d).entries last.at ≡ Some (length rest)
    last_stood = sym (entry_in-here lists last.list last.at (get_or lists last.list d) last_found)
        ∙ others.stands (length rest) last (omega (arith, less)) last_at

    pub last_inside : last.at < length (get_or lists last.list d).entries
    last_inside = slice_get_within (get_or lists last.list d).entries last.at (length rest) last_stood

    module _ (n : ListingState)
        (is : n ≡ record {
          entries = set (get_or lists last.list d).entries last.at x;
          left = (get_or lists last.list d).left;
          colour = (get_or lists last.list d).colour;
        }) where
      abbrev l : ListingState
      l = get_or lists last.list d

      made : last.list < length lists
      made = slice_get_within lists last.list l last_found

      items : n.entries ≡ set l.entries last.at x
      items = ap (λ (k : ListingState). k.entries) is

      in_new : (i : ℕ) → entry_in (set lists last.list n) last.list i ≡ slice_get (set l.entries last.at x) i
      in_new i = entry_in-set_same lists last.list i n made ∙ ap (λ (es : List ℕ). slice_get es i) items

      new_stands : (y : ℕ) (s : Seat) → slice_get (set rest x last) y ≡ Some s
          → entry_in (set lists last.list n) s.list s.at ≡ Some y
      new_stands y s at = elim (slice_get-set_cases rest x y last s at) [
        | inl (same, is_last, _) ↦ ap (λ (t : Seat). entry_in (set lists last.list n) t.list t.at) is_last
            ∙ (in_new last.at ∙ (slice_get-set_same l.entries last.at x last_inside ∙ ap (λ z. Some z) (sym same)))
        | inr (differ, old) ↦ (
            let low = slice_get_within rest y s old in
            let was = others.stands y s differ (before y low ∙ old) in
            elim (cases_eq s.list last.list) [
              | inl list ↦ (
                  let there : slice_get l.entries s.at ≡ Some y = sym (entry_in-here lists last.list s.at l last_found)
                  ∙ (ap (λ j. entry_in lists j s.at) (sym list) ∙ was) in
                  let apart : s.at ≢ last.at =
                  λ same. (let equal : y ≡ length rest =
                  same_Some _ _ (sym there ∙ (ap (slice_get l.entries) same ∙ last_stood)) in
                  absurd (omega (arith, low, equal))) in
                  ap (λ j. entry_in (set lists last.list n) j s.at) list
                  ∙ (in_new s.at ∙ (slice_get-set_other l.entries last.at s.at x apart ∙ there)))
              | inr list ↦ entry_in-set_other lists last.list s.list s.at n list ∙ was
            ])
      ]

      -- what stands in another seat stood there
      elsewhere : (j i y : ℕ) → entry_in lists j i ≡ Some y → (j ≡ last.list → i ≢ last.at)
          → slice_get (set rest x last) y ≡ Some (record { list = j; at = i })
      elsewhere j i y at apart =
          let old = others.seated j i y at in
          let not_x = old.1 in
          let not_last : y ≢ length rest =
          λ same. (let equal = same_Some _ _ (sym old.0 ∙ (ap (slice_get seats) same ∙ last_at)) in
          absurd (apart (ap (λ (s : Seat). s.list) equal) (ap (λ (s : Seat). s.at) equal))) in
          let within = slice_get_within seats y _ old.0 in
          let len = ap length all in
          let more = length-append rest (last ∷ []) in
          slice_get-set_other rest x y last not_x
          ∙ (sym (before y (omega (arith, within, len, more, not_last))) ∙ old.0)

      pub renamed-seated : AreSeated (set lists last.list n) (set rest x last)
      renamed-seated = record {
        stands = new_stands;
        seated = λ j i y at. elim (cases_eq j last.list) [
          | inl list ↦ (elim (slice_get-set_cases l.entries last.at i x y
              (sym (in_new i) ∙ (ap (λ k. entry_in (set lists last.list n) k i) (sym list) ∙ at))) [
                | inl (same, is_x, _) ↦ ap (slice_get (set rest x last)) is_x
                    ∙ (slice_get-set_same rest x last less
                    ∙ ap (λ z. Some z) (same_seat last (record { list = j; at = i }) (sym list) (sym same)))
                | inr (other, old) ↦ elsewhere j i y
                    (ap (λ k. entry_in lists k i) list ∙ (entry_in-here lists last.list i l last_found ∙ old))
                    (λ _. other)
              ])
          | inr list ↦ elsewhere j i y (sym (entry_in-set_other lists last.list j i n list) ∙ at)
              (λ same. absurd (list same))
        ];
        within = AreWithin-set lists last.list n others.within (let len = ap length items in let same =
            length-set l.entries last.at x in let old = others.within last.list l last_found in let left =
            ap (λ (k : ListingState). k.left) is in omega (arith, len, same, old, left));
      }

      pub renamed-left : left_in (set lists last.list n) (set rest x last) ≡ swap_remove (left_in lists seats) x None
      renamed-left = left_in-kept lists (set lists last.list n)
          (λ s. left_at-kept lists last.list l n s last_found (ap (λ (k : ListingState). k.left) is)
          (ap (λ (k : ListingState). k.colour) is)) (set rest x last)
          ∙ (map-swap_remove_pushed (left_at lists) rest x last None less
          ∙ ap (λ (ss : List Seat). swap_remove (left_in lists ss) x None) (sym all))

      pub renamed-owners : owners_of (set rest x last) ≡ swap_remove (owners_of seats) x 0
      renamed-owners = map-swap_remove_pushed (λ (s : Seat). s.list) rest x last 0 less
          ∙ ap (λ (ss : List Seat). swap_remove (owners_of ss) x 0) (sym all)

-- an entry out of its list, as it was done
module _ (x : ℕ) (lists mid : List ListingState) (seats seated : List Seat)
    (keeps : KeepsOthers x lists seats mid seated) where
  same_length : length seated ≡ length seats
  same_length = sym (length-map seated (λ (s : Seat). s.list))
      ∙ (ap length keeps.owners ∙ length-map seats (λ (s : Seat). s.list))

  pub kept_left : swap_remove (left_in mid seated) x None ≡ swap_remove (left_in lists seats) x None
  kept_left = same_swap_remove (left_in mid seated) (left_in lists seats) x None
      (length-map seated (left_at mid) ∙ (same_length ∙ sym (length-map seats (left_at lists)))) keeps.left

  pub kept_owners : swap_remove (owners_of seated) x 0 ≡ swap_remove (owners_of seats) x 0
  kept_owners = ap (λ os. swap_remove os x 0) keeps.owners

  pub kept_length : x < length seats → x < length seated
  kept_length less = omega (arith, less, same_length)

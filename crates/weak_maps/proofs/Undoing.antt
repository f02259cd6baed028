-- The entry that came last goes again.
use Rattle.std.proofs.Common.{◌≡◌, ◌<◌, ◌≤◌, ◌-◌, ◌+◌, ◌++◌, ◌∷◌, [], inl, inr, ℕ, zero, suc, List, Option, Some, None}
use Rattle.std.proofs.Common.{length, set, get_or, slice_get, refl, sym, ◌∙◌, ap, arith, length-append}
use Rattle.std.specs.List.{swap_remove}
use Rattle.std.specs.Option.{option_map, option_and_then}
use Rattle.std.proofs.lemmas.Bool.{cases_lt}
use Rattle.std.proofs.lemmas.List.{length-map}
use Rattle.std.proofs.lemmas.Option.{slice_get-map, slice_get_past, same_Some}
use Rattle.gz_names.specs.declared.numbers.Place.{Place}
use Rattle.weak_maps.specs.Heads.{HeadsState}
use Rattle.weak_maps.specs.Listings.{ListingState}
use Rattle.weak_maps.specs.Seats.{items_of, pushed, left_at, left_of, left_in, owners_of, AreOthersSeated, AreSeated}
use Rattle.weak_maps.specs.Seats.{IsAtEnd, KeepsOthers, NoMoreLeft}
use Rattle.weak_maps.specs.Sides.{SideState, state_of, shown, entries_at, IsAdded, IsUndone}
use Rattle.weak_maps.specs.declared.colours.MarkColour.{MarkColour}
use Rattle.weak_maps.specs.declared.seats.Seat.{Seat}
use Rattle.weak_maps.proofs.Reading.{slice_get-push_at, swap_remove-last, length-swap_remove}
use Rattle.weak_maps.proofs.Seating.{entry_in-here, entry_in-found, left_of-inside, found_seat, seat_of}
use Rattle.weak_maps.proofs.Filling.{ends-others, ends-keeps}
use Rattle.weak_maps.proofs.Leaving.{its_found, stays-but}
use Rattle.weak_maps.proofs.Looks.{NoMoreLeft-set}
use Rattle.weak_maps.proofs.Renaming.{kept_left, last-seated, last-left}
use Rattle.weak_maps.proofs.Siding.{is_owner}

-- the last seat is given back, and the entry that has it stands at the end of its list
module _ (lists : List ListingState) (seats rest : List Seat) (s : Seat) (seated : AreSeated lists seats)
    (at_end : IsAtEnd lists seats) (all : seats ≡ rest ++ s ∷ []) (d : ListingState) where
  abbrev last : ℕ
  last = length seats - 1

  abbrev its_list : ListingState
  its_list = get_or lists s.list d

  count : length seats ≡ length rest + 1
  count = (let len = ap length all in let more = length-append rest (s ∷ []) in omega (arith, len, more))

  at_last : slice_get seats last ≡ Some s
  at_last = ap (λ (ss : List Seat). slice_get ss last) all
      ∙ (ap (slice_get (rest ++ s ∷ [])) (let len = count in omega (arith, len)) ∙ slice_get-push_at rest s)

  pub list_found : slice_get lists s.list ≡ Some its_list
  list_found = its_found lists seats seated last s at_last d

  pub its_end : (length its_list.entries ≡ s.at + 1) × (its_list.left ≤ s.at)
  its_end = at_end.end s its_list at_last list_found

  pub inside_list : s.at < length its_list.entries
  inside_list = (let end = its_end.0 in omega (arith, end))

  module _ (n : ListingState)
      (is : n ≡ record {
        entries = swap_remove its_list.entries s.at 0;
        left = its_list.left;
        colour = its_list.colour;
      }) where
    nothing_there : slice_get n.entries s.at ≡ None
    nothing_there = slice_get_past n.entries s.at (let items = ap (λ (k : ListingState). length k.entries) is in
        let short = length-swap_remove its_list.entries s.at 0 in let end = its_end.0 in
        omega (arith, items, short, end))

    others : AreOthersSeated last (set lists s.list n) seats
    others = ends-others last s lists seats (stays-but lists seats seated last s at_last its_list list_found) its_list n
        list_found inside_list its_end.1 is nothing_there

    keeps : KeepsOthers last lists seats (set lists s.list n) seats
    keeps = ends-keeps last s lists seats (stays-but lists seats seated last s at_last its_list list_found) its_list n
        list_found inside_list its_end.1 is nothing_there

    is_last : length rest ≤ last
    is_last = (let len = count in omega (arith, len))

    known : last < length seats
    known = (let some = at_end.some in omega (arith, some))

    pub gone-seated : AreSeated (set lists s.list n) rest
    gone-seated = last-seated last (set lists s.list n) seats rest s others all is_last known

    pub gone-left : left_in (set lists s.list n) rest ≡ swap_remove (left_in lists seats) last None
    gone-left = last-left last (set lists s.list n) seats rest s others all is_last known
        ∙ kept_left last lists (set lists s.list n) seats seats keeps

    pub gone-looks : NoMoreLeft lists (set lists s.list n)
    gone-looks = NoMoreLeft-set lists s.list its_list n list_found (let same = ap (λ (k : ListingState). k.left) is in
        omega (arith, same)) (ap (λ (k : ListingState). k.colour) is)

    pub gone-lists : (seat : Seat) (l : ListingState) → slice_get seats last ≡ Some seat
        → slice_get lists seat.list ≡ Some l
        → set lists s.list n
        ≡ set lists seat.list (record { entries = swap_remove l.entries seat.at 0; left = l.left; colour = l.colour })
    gone-lists seat l at found =
        let same : s ≡ seat = same_Some _ _ (sym at_last ∙ at) in
        let list : its_list ≡ l =
        same_Some _ _ (sym list_found ∙ (ap (λ (t : Seat). slice_get lists t.list) same ∙ found)) in
        let whole : n ≡ record { entries = swap_remove l.entries seat.at 0; left = l.left; colour = l.colour } =
        is ∙ (λ i. record {
          entries = swap_remove (list i).entries (same i).at 0;
          left = (list i).left;
          colour = (list i).colour;
        }) in λ i. set lists (same i).list (whole i)

-- what stands in the list to which a number came
pushed-read : (lists : List (List ℕ)) (j x : ℕ) (es : List ℕ) → slice_get (pushed lists j x) j ≡ Some es
    → (es ≡ entries_at lists j ++ x ∷ []) × (j ≤ length lists)
pushed-read [] zero x es h = (sym (same_Some _ _ h), omega arith)
pushed-read [] (suc j) x es h = cc h
pushed-read (l ∷ ls) zero x es h = (sym (same_Some _ _ h), omega arith)
pushed-read (l ∷ ls) (suc j) x es h =
    (let rest = pushed-read ls j x es h in (rest.0, (let low = rest.1 in omega (arith, low))))

-- where it goes again, an empty list may stay
pushed-undone : (lists : List (List ℕ)) (j x : ℕ) → j ≤ length lists
    → shown (set (pushed lists j x) j (entries_at lists j)) ≡ shown lists
pushed-undone [] zero x low = refl
pushed-undone [] (suc j) x low = absurd (omega (arith, low))
pushed-undone (l ∷ ls) zero x low = refl
pushed-undone ([] ∷ ls) (suc j) x low = pushed-undone ls j x (omega (arith, low))
pushed-undone ((y ∷ ys) ∷ ls) (suc j) x low = ap (λ rest. (y ∷ ys) ∷ rest) (pushed-undone ls j x (omega (arith, low)))

items_of-set : (lists : List ListingState) (j : ℕ) (n : ListingState)
    → items_of (set lists j n) ≡ set (items_of lists) j n.entries
items_of-set [] j n = refl
items_of-set (l ∷ ls) zero n = refl
items_of-set (l ∷ ls) (suc j) n = ap (λ rest. l.entries ∷ rest) (items_of-set ls j n)

module _ (before : SideState) (p : Place) (heads : HeadsState) (lists : List ListingState) (seats : List Seat)
    (seated : AreSeated lists seats) (added : IsAdded before p (state_of heads lists seats)) where
  abbrev x : ℕ
  x = length before.owners

  abbrev old : List ℕ
  old = entries_at before.lists added.number

  sized : length seats ≡ x + 1
  sized = (let len = length-map seats (λ (s : Seat). s.list) in let all = ap length added.owners in let more =
      length-append before.owners (added.number ∷ []) in omega (arith, len, all, more))

  left_sized : length before.left ≡ x
  left_sized = (let len = length-map seats (left_at lists) in let all = ap length added.left in let more =
      length-append before.left (none ∷ []) in let whole = sized in omega (arith, len, all, more, whole))
    where
      none : Option MarkColour
      none = None

  last_is : length seats - 1 ≡ x
  last_is = (let whole = sized in omega (arith, whole))

  module _ (seat : Seat) (l : ListingState) (at : slice_get seats (length seats - 1) ≡ Some seat)
      (found : slice_get lists seat.list ≡ Some l) where
    owner : seat.list ≡ added.number
    owner = same_Some _ _
        (sym (is_owner seats _ seat at)
        ∙ (ap (λ os. slice_get os (length seats - 1)) added.owners
        ∙ (ap (slice_get (before.owners ++ added.number ∷ [])) last_is ∙ slice_get-push_at before.owners added.number)))

    read : (l.entries ≡ old ++ x ∷ []) × (added.number ≤ length before.lists)
    read = pushed-read before.lists added.number x l.entries (ap (λ ls. slice_get ls added.number) (sym added.lists)
        ∙ (slice_get-map (λ (k : ListingState). k.entries) lists added.number
        ∙ ap (option_map (λ (k : ListingState). k.entries)) (ap (slice_get lists) (sym owner) ∙ found)))

    seat_at : seat.at ≡ length old
    seat_at = ap (λ (s : Seat). s.at)
        (same_Some _ _ (sym at
        ∙ (ap (slice_get seats) last_is
        ∙ seated.seated seat.list (length old) x (entry_in-here lists seat.list (length old) l found
        ∙ (ap (λ (es : List ℕ). slice_get es (length old)) read.0 ∙ slice_get-push_at old x)))))

    none_left : left_of l seat.at ≡ None
    none_left = same_Some _ _
        (sym (slice_get-map (left_at lists) seats (length seats - 1)
        ∙ (ap (option_map (left_at lists)) at
        ∙ ap (λ o. Some (option_and_then (λ (k : ListingState). left_of k seat.at) o)) found))
        ∙ (ap (λ ls. slice_get ls (length seats - 1)) added.left
        ∙ (ap (slice_get (before.left ++ None ∷ [])) (last_is ∙ sym left_sized) ∙ slice_get-push_at before.left None)))

    behind : l.left ≤ seat.at
    behind = elim (cases_lt seat.at l.left) [
      | inl less ↦ absurd (let some = sym none_left ∙ left_of-inside l seat.at less in cc some)
      | inr past ↦ past
    ]

    ended : length l.entries ≡ seat.at + 1
    ended = (let all = ap length read.0 in let more = length-append old (x ∷ []) in let here = seat_at in
        omega (arith, all, more, here))

    restored : (new : List ListingState)
        → new ≡ set lists seat.list
        (record { entries = swap_remove l.entries seat.at 0; left = l.left; colour = l.colour })
        → shown (items_of new) ≡ shown before.lists
    restored new is = ap (λ (ls : List ListingState). shown (items_of ls)) is
        ∙ (ap shown (items_of-set lists seat.list
        (record { entries = swap_remove l.entries seat.at 0; left = l.left; colour = l.colour }))
        ∙ ((λ i. shown (set (added.lists i) (owner i) (taken i))) ∙ pushed-undone before.lists added.number x read.1))
      where
        taken : swap_remove l.entries seat.at 0 ≡ old
        taken = ap (λ (es : List ℕ). swap_remove es seat.at 0) read.0 ∙ swap_remove-last old seat.at x 0 (sym seat_at)

  pub IsAtEnd-added : IsAtEnd lists seats
  IsAtEnd-added = record {
    some = (let whole = sized in omega (arith, whole));
    end = λ seat l at found. (ended seat l at found, behind seat l at found);
  }

  pub IsUndone-taken : (new : List ListingState) (seats' : List Seat)
      → ((seat : Seat) (l : ListingState) → slice_get seats (length seats - 1) ≡ Some seat
      → slice_get lists seat.list ≡ Some l
      → new ≡ set lists seat.list
      (record { entries = swap_remove l.entries seat.at 0; left = l.left; colour = l.colour }))
      → owners_of seats' ≡ swap_remove (owners_of seats) (length seats - 1) 0
      → left_in new seats' ≡ swap_remove (left_in lists seats) (length seats - 1) None
      → IsUndone before (state_of heads lists seats) (state_of heads new seats')
  IsUndone-taken new seats' lists_are owners left =
      let seat = seat_of seats (length seats - 1) in
      let at : slice_get seats (length seats - 1) ≡ Some seat =
      found_seat seats (length seats - 1) (let whole = sized in omega (arith, whole)) in
      let l = entry_in-found lists seat.list seat.at (length seats - 1) (seated.stands (length seats - 1) seat at) in
      record {
        heads = refl;
        lists = restored seat l.0 at l.1 new (lists_are seat l.0 at l.1);
        owners = owners ∙ (ap (λ os. swap_remove os (length seats - 1) 0) added.owners
            ∙ swap_remove-last before.owners (length seats - 1) added.number 0 (sym last_is));
        left = left ∙ (ap (λ ls. swap_remove ls (length seats - 1) None) added.left
            ∙ swap_remove-last before.left (length seats - 1) None None (left_sized ∙ sym last_is));
      }

-- An entry is looked at.
use Rattle.std.proofs.Common.{◌≡◌, ◌≢◌, ◌<◌, ◌-◌, ◌⊎◌, inl, inr, ℕ, List, Option, Some, None, IfSome, IfNone, length}
use Rattle.std.proofs.Common.{map, set, slice_get, refl, sym, ◌∙◌, ap, subst, arith}
use Rattle.std.specs.Option.{option_map, option_and_then}
use Rattle.std.proofs.Math.Seq.{map-set_same}
use Rattle.std.proofs.lemmas.Bool.{cases_eq, cases_lt}
use Rattle.std.proofs.lemmas.List.{length-map}
use Rattle.std.proofs.lemmas.Option.{slice_get_within, slice_get-map, get_or_from_slice_get, same_Some, IfSome_then}
use Rattle.weak_maps.specs.Heads.{HeadsState}
use Rattle.weak_maps.specs.Listings.{ListingState}
use Rattle.weak_maps.specs.Seats.{entry_in, left_of, left_at, left_in, owners_of, AreSeated, NoMoreLeft, NoneIsLeft}
use Rattle.weak_maps.specs.Seats.{LooksAt, IsQueueFor}
use Rattle.weak_maps.specs.Sides.{state_of, AreHeads, IsSound}
use Rattle.weak_maps.specs.Queues.{QueueState}
use Rattle.weak_maps.specs.declared.colours.MarkColour.TheVariants as colour
use Rattle.weak_maps.specs.declared.colours.MarkColour.{MarkColour}
use Rattle.weak_maps.specs.declared.seats.Seat.{Seat}
use Rattle.weak_maps.proofs.Reading.{slice_get-set_same, slice_get-set_other, same_slices}
use Rattle.weak_maps.proofs.Seating.{entry_in-here, entry_in-set_same, entry_in-set_other, left_at-here}
use Rattle.weak_maps.proofs.Seating.{left_at-set_same, left_at-set_other, left_of-inside, left_of-outside, same_seat}
use Rattle.weak_maps.proofs.Seating.{AreWithin-set}
use Rattle.weak_maps.proofs.Looks.{NoMoreLeft-same, NoMoreLeft-set}
use Rattle.weak_maps.proofs.Nexting.{IsQueueFor-less}
use Rattle.weak_maps.proofs.Siding.{AreHeads-more}

module _ (lists : List ListingState) (seats : List Seat) (seated : AreSeated lists seats) (c : MarkColour) (x : ℕ)
    (new : List ListingState) (looks : LooksAt c x lists new) where
  abbrev l : ListingState
  l = looks.listing

  abbrev j : ℕ
  j = looks.list

  abbrev n : ListingState
  n = record { entries = looks.listing.entries; left = looks.listing.left - 1; colour = looks.listing.colour }

  made : j < length lists
  made = slice_get_within lists j l looks.found

  x_seat : slice_get seats x ≡ Some (record { list = looks.list; at = looks.listing.left - 1 })
  x_seat = seated.seated j (l.left - 1) x (entry_in-here lists j (l.left - 1) l looks.found ∙ looks.there)

  some_left : 0 < looks.listing.left
  some_left = looks.some.0

  pub looked-was : slice_get (left_in lists seats) x ≡ Some (Some c)
  looked-was = slice_get-map (left_at lists) seats x
      ∙ (ap (option_map (left_at lists)) x_seat
      ∙ ap (λ z. Some z) (left_at-here lists j (l.left - 1) l looks.found
      ∙ (left_of-inside l (l.left - 1) (let some = some_left in omega (arith, some)) ∙ ap (λ d. Some d) looks.some.1)))

  pub looked-left : left_in new seats ≡ set (left_in lists seats) x None
  looked-left = ap (λ ls. left_in ls seats) looks.new_is
      ∙ same_slices (left_in (set lists j n) seats) (set (left_in lists seats) x None)
      (λ y. slice_get-map (left_at (set lists j n)) seats y ∙ by y (cases_eq y x))
    where
      elsewhere : (y : ℕ) → y ≢ x → (o : Option Seat) → slice_get seats y ≡ o → option_map (left_at (set lists j n)) o
          ≡ option_map (left_at lists) o
      elsewhere y other None at = refl
      elsewhere y other (Some s) at = ap (λ z. Some z) (elim (cases_eq s.list j) [
        | inl list ↦ (
            let apart : s.at ≢ l.left - 1 =
            λ same. other (same_Some _ _
            (sym (seated.stands y s at)
            ∙ (ap (λ (t : Seat). entry_in lists t.list t.at)
            (same_seat s (record { list = looks.list; at = looks.listing.left - 1 }) list same)
            ∙ seated.stands x (record { list = looks.list; at = looks.listing.left - 1 }) x_seat))) in
            ap (option_and_then (λ (k : ListingState). left_of k s.at))
            (ap (slice_get (set lists j n)) list ∙ slice_get-set_same lists j n made)
            ∙ (part s.at apart ∙ sym
            (ap (option_and_then (λ (k : ListingState). left_of k s.at))
            (ap (slice_get lists) list ∙ looks.found))))
        | inr list ↦ left_at-set_other lists j s n list
      ])
        where
          part : (i : ℕ) → i ≢ looks.listing.left - 1 → left_of n i ≡ left_of l i
          part i apart = elim (cases_lt i (l.left - 1)) [
            | inl low ↦ left_of-inside n i low ∙ sym (left_of-inside l i (omega (arith, low)))
            | inr high ↦ left_of-outside n i high ∙ sym (left_of-outside l i (omega (arith, high, apart)))
          ]

      by : (y : ℕ) → (y ≡ x) ⊎ (y ≢ x) → option_map (left_at (set lists j n)) (slice_get seats y)
          ≡ slice_get (set (left_in lists seats) x None) y
      by y (inl same) = ap (option_map (left_at (set lists j n))) (ap (slice_get seats) same ∙ x_seat)
          ∙ (ap (λ z. Some z) (left_at-set_same lists j (l.left - 1) n made
          ∙ left_of-outside n (l.left - 1) (omega arith))
          ∙ sym (ap (slice_get (set (left_in lists seats) x None)) same
          ∙ slice_get-set_same (left_in lists seats) x None (let less = slice_get_within seats x _ x_seat in let len =
          length-map seats (left_at lists) in omega (arith, less, len))))
      by y (inr other) = elsewhere y other (slice_get seats y) refl
          ∙ (sym (slice_get-map (left_at lists) seats y)
          ∙ sym (slice_get-set_other (left_in lists seats) x y None other))

  pub looked-lists : map (λ (k : ListingState). k.entries) new ≡ map (λ (k : ListingState). k.entries) lists
  looked-lists = ap (map (λ (k : ListingState). k.entries)) looks.new_is
      ∙ map-set_same (λ (k : ListingState). k.entries) lists j n l
      (ap (λ (k : ListingState). k.entries) (sym (get_or_from_slice_get lists j l l looks.found)))

  pub looked-seated : AreSeated new seats
  looked-seated = subst (λ ls. AreSeated ls seats) (sym looks.new_is) (record {
    stands = λ y s at. same s.list s.at ∙ seated.stands y s at;
    seated = λ k i y at. seated.seated k i y (sym (same k i) ∙ at);
    within = AreWithin-set lists j n seated.within (let old = seated.within j l looks.found in omega (arith, old));
  })
    where
      same : (k i : ℕ) → entry_in (set lists j n) k i ≡ entry_in lists k i
      same k i = elim (cases_eq k j) [
        | inl is ↦ ap (λ m. entry_in (set lists j n) m i) is
            ∙ (entry_in-set_same lists j i n made
            ∙ (sym (entry_in-here lists j i l looks.found) ∙ ap (λ m. entry_in lists m i) (sym is)))
        | inr other ↦ entry_in-set_other lists j k i n other
      ]

  pub looked-less : NoMoreLeft lists new
  looked-less = subst (λ ls. NoMoreLeft lists ls) (sym looks.new_is)
      (NoMoreLeft-set lists j l n looks.found (omega arith) refl)

  pub looked-state : (heads : HeadsState)
      → state_of heads new seats ≡ record {
        heads = heads;
        lists = map (λ (k : ListingState). k.entries) lists;
        owners = owners_of seats;
        left = set (left_in lists seats) x None;
      }
  looked-state heads =
      λ i. record { heads = heads; lists = looked-lists i; owners = owners_of seats; left = looked-left i }

-- where nothing is left
pub none-left : (lists : List ListingState) (seats : List Seat) (c : MarkColour) → NoneIsLeft c lists → (x : ℕ)
    → slice_get (left_in lists seats) x ≢ Some (Some c)
none-left lists seats c none x h = by (slice_get seats x) refl (sym (slice_get-map (left_at lists) seats x) ∙ h)
  where
    in_list : (s : Seat) (o : Option ListingState) → slice_get lists s.list ≡ o
        → option_and_then (λ (k : ListingState). left_of k s.at) o ≡ Some c → ⊥
    in_list s None e g = cc g
    in_list s (Some l) e g = elim (cases_lt s.at l.left) [
      | inl low ↦ none s.list l e (omega (arith, low), same_Some _ _ (sym (left_of-inside l s.at low) ∙ g))
      | inr high ↦ cc (left_of-outside l s.at high, g)
    ]

    by : (o : Option Seat) → slice_get seats x ≡ o → option_map (left_at lists) o ≡ Some (Some c) → ⊥
    by None e g = cc g
    by (Some s) e g = in_list s (slice_get lists s.list) refl (same_Some _ _ g)

pub if_none_then : {X : Type 0} {P Q : Type 0} (r : Option X) → IfNone r P → (P → Q) → IfNone r Q
if_none_then None p f = f p
if_none_then (Some x) p f = tt

-- after the next entry was looked for
module _ (heads : HeadsState) (lists : List ListingState) (seats : List Seat) (black gray : QueueState)
    (sound : IsSound heads lists seats black gray) (c : MarkColour) (r : Option ℕ) (new : List ListingState)
    (some : IfSome r (λ x. LooksAt c x lists new)) (none : IfNone r ((new ≡ lists) × NoneIsLeft c lists)) where
  next-lists : AreSeated new seats × NoMoreLeft lists new
  next-lists = by r some none
    where
      by : (o : Option ℕ) → IfSome o (λ x. LooksAt c x lists new) → IfNone o ((new ≡ lists) × NoneIsLeft c lists)
          → AreSeated new seats × NoMoreLeft lists new
      by None h g = subst (λ ls. AreSeated ls seats × NoMoreLeft lists ls) (sym g.0)
          (sound.seated, NoMoreLeft-same lists)
      by (Some x) h g = (
        looked-seated lists seats sound.seated c x new h,
        looked-less lists seats sound.seated c x new h,
      )

  heads_now : AreHeads heads (length new)
  heads_now = AreHeads-more heads (length lists) (length new) (let sized = next-lists.1.sized in omega (arith, sized))
      sound.heads_are

  pub next-black : (queue : QueueState) → c ≡ colour.Black → IsQueueFor c new queue → IsSound heads new seats queue gray
  next-black queue is serves = record {
    seated = next-lists.0;
    heads_are = heads_now;
    black_waits = subst (λ d. IsQueueFor d new queue) is serves;
    gray_waits = IsQueueFor-less colour.Gray lists new gray next-lists.1 sound.gray_waits;
  }

  pub next-gray : (queue : QueueState) → c ≡ colour.Gray → IsQueueFor c new queue → IsSound heads new seats black queue
  next-gray queue is serves = record {
    seated = next-lists.0;
    heads_are = heads_now;
    black_waits = IsQueueFor-less colour.Black lists new black next-lists.1 sound.black_waits;
    gray_waits = subst (λ d. IsQueueFor d new queue) is serves;
  }

  pub next-some : IfSome r (λ x. (slice_get (left_in lists seats) x ≡ Some (Some c))
      × (state_of heads new seats ≡ record {
        heads = heads;
        lists = map (λ (k : ListingState). k.entries) lists;
        owners = owners_of seats;
        left = set (left_in lists seats) x None;
      }))
  next-some = IfSome_then r some
      (λ x looks. (
        looked-was lists seats sound.seated c x new looks,
        looked-state lists seats sound.seated c x new looks heads,
      ))

  pub next-none : IfNone r ((state_of heads new seats ≡ state_of heads lists seats)
      × ((x : ℕ) → slice_get (left_in lists seats) x ≢ Some (Some c)))
  next-none = if_none_then r none (λ g. (ap (λ ls. state_of heads ls seats) g.0, none-left lists seats c g.1))

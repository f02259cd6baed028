-- The entries by their places: what always holds, and what each call keeps.
use Rattle.std.proofs.Common.{◌≡◌, ◌≤◌, ◌+◌, ◌++◌, ◌∷◌, [], ◌⊎◌, inl, inr, ℕ, zero, suc, Bool, true, false, cond, List}
use Rattle.std.proofs.Common.{Option, Some, None, length, map, take, drop, slice_get, Contains, unwrap_or, Result, Ok}
use Rattle.std.proofs.Common.{Err, OnOk, OnErr, refl, sym, ◌∙◌, ap, subst, arith}
use Rattle.std.specs.Option.{option_map, option_and_then}
use Rattle.std.proofs.Math.Seq.{take-append_seam}
use Rattle.std.proofs.lemmas.List.{length-map}
use Rattle.std.proofs.lemmas.Option.{slice_get-map, same_Some}
use Rattle.std.proofs.lemmas.Result.{on_ok_weaker}
use Rattle.gz_names.specs.declared.numbers.Place.{Place}
use Rattle.weak_maps.specs.Places.{is_same}
use Rattle.weak_maps.specs.Heads.{HeadsState, head_of}
use Rattle.weak_maps.specs.Queues.{QueueState}
use Rattle.weak_maps.specs.Listings.{ListingState}
use Rattle.weak_maps.specs.Seats.{entry_in, left_at, left_in, owners_of, items_of, pushed, AreSeated, NoMoreLeft}
use Rattle.weak_maps.specs.Seats.{NoneLeftInNew}
use Rattle.weak_maps.specs.Sides.{state_of, entries_at, listed, AreHeads, IsSide, IsSound, IsAdded}
use Rattle.weak_maps.specs.declared.colours.MarkColour.TheVariants as colour
use Rattle.weak_maps.specs.declared.seats.Seat.{Seat}
use Rattle.weak_maps.proofs.Places.{is_same-true}
use Rattle.weak_maps.proofs.Adding.{Added}
use Rattle.weak_maps.proofs.Nexting.{IsQueueFor-less, IsQueueFor-new}

-- what a list that was lent as a slice is afterwards
pub take_whole : {X : Type 0} (n : ℕ) (xs ys : List X) → length xs ≡ length ys → n ≡ length ys
    → take n (xs ++ drop (length xs) ys) ≡ xs
take_whole n xs ys same is = ap (λ m. take m (xs ++ drop (length xs) ys)) (is ∙ sym same)
    ∙ take-append_seam xs (drop (length xs) ys)

pub Contains-at : {X : Type 0} (xs : List X) (k : ℕ) (x : X) → slice_get xs k ≡ Some x → Contains xs x
Contains-at [] k x h = cc h
Contains-at (y ∷ ys) zero x h = (zero, omega arith, same_Some y x h)
Contains-at (y ∷ ys) (suc k) x h =
    (let rest = Contains-at ys k x h in (suc rest.0, (let less = rest.1 in omega (arith, less)), rest.2))

pub entries_at-is : (lists : List ListingState) (j i : ℕ)
    → slice_get (entries_at (map (λ (l : ListingState). l.entries) lists) j) i ≡ entry_in lists j i
entries_at-is lists j i =
    ap (λ o. slice_get (unwrap_or o []) i) (slice_get-map (λ (l : ListingState). l.entries) lists j)
    ∙ by (slice_get lists j)
  where
    by : (o : Option ListingState) → slice_get (unwrap_or (option_map (λ (l : ListingState). l.entries) o) []) i
        ≡ option_and_then (λ (l : ListingState). slice_get l.entries i) o
    by None = refl
    by (Some l) = refl

pub owner_is : (seats : List Seat) (x j : ℕ) → slice_get (owners_of seats) x ≡ Some j
    → (s : Seat) × (slice_get seats x ≡ Some s) × (s.list ≡ j)
owner_is seats x j h = by (slice_get seats x) refl (sym (slice_get-map (λ (s : Seat). s.list) seats x) ∙ h)
  where
    by : (o : Option Seat) → slice_get seats x ≡ o → option_map (λ (s : Seat). s.list) o ≡ Some j
        → (s : Seat) × (slice_get seats x ≡ Some s) × (s.list ≡ j)
    by None e h = cc h
    by (Some s) e h = (s, e, same_Some _ _ h)

pub is_owner : (seats : List Seat) (x : ℕ) (s : Seat) → slice_get seats x ≡ Some s
    → slice_get (owners_of seats) x ≡ Some s.list
is_owner seats x s h = slice_get-map (λ (t : Seat). t.list) seats x ∙ ap (option_map (λ (t : Seat). t.list)) h

pub IsSide-from : (heads : HeadsState) (lists : List ListingState) (seats : List Seat) (count : ℕ)
    → AreSeated lists seats → AreHeads heads count → IsSide (state_of heads lists seats)
IsSide-from heads lists seats count seated are = record {
  owned = λ j i x h. is_owner seats x _ (seated.seated j i x (sym (entries_at-is lists j i) ∙ h));
  stands = λ j x h. (
      let owner = owner_is seats x j h in
      Contains-at (entries_at (map (λ (l : ListingState). l.entries) lists) j) owner.0.at x
      (entries_at-is lists j owner.0.at
      ∙ (ap (λ k. entry_in lists k owner.0.at) (sym owner.2) ∙ seated.stands x owner.0 owner.1)));
  once = λ j i k x h g.
      ap (λ (s : Seat). s.at)
      (same_Some _ _ (sym (seated.seated j i x (sym (entries_at-is lists j i) ∙ h))
      ∙ seated.seated j k x (sym (entries_at-is lists j k) ∙ g)));
  apart = are.apart;
  same = length-map seats (left_at lists) ∙ sym (length-map seats (λ (s : Seat). s.list));
}

pub IsSide-sound : (heads : HeadsState) (lists : List ListingState) (seats : List Seat) (black gray : QueueState)
    → IsSound heads lists seats black gray → IsSide (state_of heads lists seats)
IsSide-sound heads lists seats black gray sound =
    IsSide-from heads lists seats (length lists) sound.seated sound.heads_are

pub AreHeads-more : (heads : HeadsState) (count more : ℕ) → count ≤ more → AreHeads heads count
    → AreHeads heads more
AreHeads-more heads count more le are =
    record { within = λ p j h. (let less = are.within p j h in omega (arith, less, le)); apart = are.apart }

-- the lists and seats changed, and no more is left
pub IsSound-less : (heads : HeadsState) (lists new : List ListingState) (seats seats' : List Seat)
    (black gray : QueueState) → IsSound heads lists seats black gray → AreSeated new seats' → NoMoreLeft lists new
    → IsSound heads new seats' black gray
IsSound-less heads lists new seats seats' black gray sound seated less = record {
  seated = seated;
  heads_are = AreHeads-more heads (length lists) (length new) (let sized = less.sized in omega (arith, sized))
      sound.heads_are;
  black_waits = IsQueueFor-less colour.Black lists new black less sound.black_waits;
  gray_waits = IsQueueFor-less colour.Gray lists new gray less sound.gray_waits;
}

-- the queues have more room
pub IsSound-roomier : (heads : HeadsState) (lists : List ListingState) (seats : List Seat)
    (black gray b g : QueueState) → b.waiting ≡ black.waiting → g.waiting ≡ gray.waiting → black.room ≤ b.room
    → gray.room ≤ g.room → IsSound heads lists seats black gray → IsSound heads lists seats b g
IsSound-roomier heads lists seats black gray b g same same_too more more_too sound = record {
  seated = sound.seated;
  heads_are = sound.heads_are;
  black_waits = record {
    waits = λ j l at left. rw same (sound.black_waits.waits j l at left);
    known = λ j has. sound.black_waits.known j (subst (λ (w : List ℕ). Contains w j) same has);
    room = (let held = sound.black_waits.room in omega (arith, held, more));
  };
  gray_waits = record {
    waits = λ j l at left. rw same_too (sound.gray_waits.waits j l at left);
    known = λ j has. sound.gray_waits.known j (subst (λ (w : List ℕ). Contains w j) same_too has);
    room = (let held = sound.gray_waits.room in omega (arith, held, more_too));
  };
}

-- an entry came to a list that was there
pub IsAdded-there : (heads : HeadsState) (lists new : List ListingState) (seats seats' : List Seat) (p : Place)
    (j : ℕ) → head_of heads p ≡ Some j → Added lists new seats seats' j
    → IsAdded (state_of heads lists seats) p (state_of heads new seats')
IsAdded-there heads lists new seats seats' p j found added = record {
  number = j;
  numbers = λ q. by q (is_same p q) refl;
  was = λ k h. same_Some _ _ (sym h ∙ found);
  lists = added.lists_are ∙ ap (pushed (items_of lists) j) (sym (length-map seats (λ (s : Seat). s.list)));
  owners = added.owners;
  left = added.left;
}
  where
    by : (q : Place) (b : Bool) → is_same p q ≡ b
        → head_of heads q ≡ cond b (Some j) (head_of heads q)
    by q true e = ap (λ (r : Place). head_of heads r) (sym (is_same-true p q e)) ∙ found
    by q false e = refl

-- the entries of a place that has a list
pub listed-found : (heads : HeadsState) (lists : List ListingState) (seats : List Seat) (p : Place) (j i : ℕ)
    → head_of heads p ≡ Some j → slice_get (listed (state_of heads lists seats) p) i ≡ entry_in lists j i
listed-found heads lists seats p j i h =
    ap (λ o. slice_get (unwrap_or (option_map (entries_at (map (λ (l : ListingState). l.entries) lists)) o) []) i) h
    ∙ entries_at-is lists j i

pub listed-none : (heads : HeadsState) (lists : List ListingState) (seats : List Seat) (p : Place)
    → head_of heads p ≡ None → listed (state_of heads lists seats) p ≡ []
listed-none heads lists seats p h =
    ap (λ o. unwrap_or (option_map (entries_at (map (λ (l : ListingState). l.entries) lists)) o) []) h

pub listed-is : (heads : HeadsState) (lists : List ListingState) (seats : List Seat) (p : Place) (j : ℕ)
    (l : ListingState) → head_of heads p ≡ Some j → slice_get lists j ≡ Some l
    → listed (state_of heads lists seats) p ≡ l.entries
listed-is heads lists seats p j l h at =
    ap (λ o. unwrap_or (option_map (entries_at (map (λ (l : ListingState). l.entries) lists)) o) []) h
    ∙ ap (λ (o : Option (List ℕ)). unwrap_or o []) (slice_get-map (λ (l : ListingState). l.entries) lists j
    ∙ ap (option_map (λ (l : ListingState). l.entries)) at)

-- a list came, and an entry in it
pub IsSound-new : (heads heads' : HeadsState) (lists new : List ListingState) (seats seats' : List Seat)
    (black gray b g : QueueState) (p : Place) (j : ℕ) → IsSound heads lists seats black gray → AreSeated new seats'
    → NoneLeftInNew lists new → head_of heads p ≡ None → j ≡ length lists
    → ((q : Place) → head_of heads' q ≡ cond (is_same p q) (Some j) (head_of heads q))
    → b ≡ record { waiting = black.waiting; room = black.room + 1 }
    → g ≡ record { waiting = gray.waiting; room = gray.room + 1 } → IsSound heads' new seats' b g
IsSound-new heads heads' lists new seats seats' black gray b g p j sound seated less none j_is updates b_is g_is =
    let wide = IsSound-roomier heads lists seats black gray b g (ap (λ (q : QueueState). q.waiting) b_is)
    (ap (λ (q : QueueState). q.waiting) g_is) (let room = ap (λ (q : QueueState). q.room) b_is in
    omega (arith, room)) (let room = ap (λ (q : QueueState). q.room) g_is in omega (arith, room)) sound in
    record {
      seated = seated;
      heads_are = record {
        within = λ q k h. (let sized = less.sized in elim (split q k h) [
          | inl (_, is) ↦ omega (arith, is, j_is, sized)
          | inr (_, old) ↦ (let was = sound.heads_are.within q k old in omega (arith, was, sized))
        ]);
        apart = λ q r k h i. elim (split q k h) [
          | inl (pq, is) ↦ (elim (split r k i) [
            | inl (pr, _) ↦ sym pq ∙ pr
            | inr (_, old) ↦ absurd (let was = sound.heads_are.within r k old in omega (arith, was, is, j_is))
          ])
          | inr (_, old) ↦ (elim (split r k i) [
            | inl (_, is) ↦ absurd (let was = sound.heads_are.within q k old in omega (arith, was, is, j_is))
            | inr (_, old_too) ↦ sound.heads_are.apart q r k old old_too
          ])
        ];
      };
      black_waits = IsQueueFor-new colour.Black lists new b less (let held = sound.black_waits.room in let room =
          ap (λ (q : QueueState). q.room) b_is in omega (arith, held, room)) wide.black_waits;
      gray_waits = IsQueueFor-new colour.Gray lists new g less (let held = sound.gray_waits.room in let room =
          ap (λ (q : QueueState). q.room) g_is in omega (arith, held, room)) wide.gray_waits;
    }
  where
    split : (q : Place) (k : ℕ) → head_of heads' q ≡ Some k → ((p ≡ q) × (k ≡ j))
        ⊎ ((is_same p q ≡ false) × (head_of heads q ≡ Some k))
    split q k h = by (is_same p q) refl (sym (updates q) ∙ h)
      where
        by : (b : Bool) → is_same p q ≡ b → cond b (Some j) (head_of heads q) ≡ Some k → ((p ≡ q) × (k ≡ j))
            ⊎ ((is_same p q ≡ false) × (head_of heads q ≡ Some k))
        by true e h = inl (is_same-true p q e, same_Some _ _ (sym h))
        by false e h = inr (e, h)

pub IsAdded-new : (heads heads' : HeadsState) (lists new : List ListingState) (seats seats' : List Seat)
    (p : Place) (j : ℕ) → head_of heads p ≡ None → j ≡ length lists
    → ((q : Place) → head_of heads' q ≡ cond (is_same p q) (Some j) (head_of heads q))
    → owners_of seats' ≡ owners_of seats ++ length lists ∷ [] → left_in new seats' ≡ left_in lists seats ++ None ∷ []
    → items_of new ≡ pushed (items_of lists) (length lists) (length seats)
    → IsAdded (state_of heads lists seats) p (state_of heads' new seats')
IsAdded-new heads heads' lists new seats seats' p j none j_is updates owners left lists_are = record {
  number = j;
  numbers = updates;
  was = λ k h. cc (sym none ∙ h);
  lists = lists_are ∙ (λ i. pushed (items_of lists) (sym j_is i) (sym (length-map seats (λ (s : Seat). s.list)) i));
  owners = owners ∙ ap (λ k. owners_of seats ++ k ∷ []) (sym j_is);
  left = left;
}

-- what an entry that came to a list, or wanted memory, leaves
module _ {T E : Type 0} (r : Result T E) (heads : HeadsState) (lists new : List ListingState)
    (seats seats' : List Seat) (black gray : QueueState) (sound : IsSound heads lists seats black gray)
    (seated : OnOk r (AreSeated new seats')) (looks : OnOk r (NoMoreLeft lists new))
    (err : OnErr r ((new ≡ lists) × (seats' ≡ seats))) where
  pub adds-sound : IsSound heads new seats' black gray
  adds-sound = by r seated looks err
    where
      by : (q : Result T E) → OnOk q (AreSeated new seats') → OnOk q (NoMoreLeft lists new)
          → OnErr q ((new ≡ lists) × (seats' ≡ seats)) → IsSound heads new seats' black gray
      by (Ok x) s l e = IsSound-less heads lists new seats seats' black gray sound s l
      by (Err x) s l e = subst (λ ls. IsSound heads ls seats' black gray) (sym e.0)
          (subst (λ ss. IsSound heads lists ss black gray) (sym e.1) sound)

  pub adds-side : OnOk r (IsSide (state_of heads new seats'))
  adds-side = on_ok_weaker r
      (λ (s : AreSeated new seats'). IsSide-from heads new seats' (length new) s adds-sound.heads_are) seated

  pub adds-added : (p : Place) (j : ℕ) → head_of heads p ≡ Some j
      → OnOk r (left_in new seats' ≡ left_in lists seats ++ None ∷ [])
      → OnOk r (owners_of seats' ≡ owners_of seats ++ j ∷ [])
      → OnOk r (items_of new ≡ pushed (items_of lists) j (length seats))
      → OnOk r (IsAdded (state_of heads lists seats) p (state_of heads new seats'))
  adds-added p j found left owners lists_are = by r seated left owners lists_are
    where
      by : (q : Result T E) → OnOk q (AreSeated new seats')
          → OnOk q (left_in new seats' ≡ left_in lists seats ++ None ∷ [])
          → OnOk q (owners_of seats' ≡ owners_of seats ++ j ∷ [])
          → OnOk q (items_of new ≡ pushed (items_of lists) j (length seats))
          → OnOk q (IsAdded (state_of heads lists seats) p (state_of heads new seats'))
      by (Ok x) s l o k = IsAdded-there heads lists new seats seats' p j found
          (record { seated = s; left = l; owners = o; lists_are = k })
      by (Err x) s l o k = tt

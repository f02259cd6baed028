-- What callers may rely on.
use Rattle.std.proofs.Common.{◌≡◌, ◌↔◌, ◌&&◌, ◌⊎◌, inl, inr, ℕ, zero, suc, Bool, true, false, cond, List, [], ◌∷◌}
use Rattle.std.proofs.Common.{length}
use Rattle.std.proofs.Common.{map, get_or, slice_get, Contains, Option, Some, None, unwrap_or, refl, sym, ◌∙◌, ap}
use Rattle.std.proofs.Common.{subst, arith}
use Rattle.std.specs.Option.{option_map}
use Rattle.std.proofs.lemmas.Bool.{cases_eq, cases_lt}
use Rattle.std.proofs.lemmas.List.{length-map}
use Rattle.std.proofs.lemmas.List.Elements.{Contains-get_or, Contains-append_right}
use Rattle.std.proofs.lemmas.Option.{slice_get_within, slice_get-map, slice_get-get_or, slice_get_read}
use Rattle.std.proofs.lemmas.Option.{get_or_from_slice_get, same_Some}
use Rattle.gz_names.specs.declared.numbers.Place.{Place}
use Rattle.weak_maps.specs.Places.{is_same}
use Rattle.weak_maps.specs.Sides.{SideState, entries_at, listed, number_of, shown}
use Rattle.weak_maps.specs.Entries.{AreDistinct, AreEntries, AreThose, AreTied, IsFor, is_entry, is_of, list_of}
use Rattle.weak_maps.specs.Entries.{numbered, table_of, value_at}
use Rattle.weak_maps.specs.declared.entries.WeakEntry.{WeakEntry}
use Rattle.weak_maps.proofs.Places.{is_same-true, is_same-self}
use Rattle.weak_maps.proofs.Table.{and-true}
use Rattle.weak_maps.proofs.Siding.{Contains-at}
use Rattle.weak_maps.proofs.Reading.{map_at}

pub Contains-tail : {X : Type 0} (y : X) (xs : List X) (x : X) → Contains xs x → Contains (y ∷ xs) x
Contains-tail y xs x h = Contains-append_right (y ∷ []) xs x h

-- the first is met, or the rest has it
pub Contains-cases : {X : Type 0} (y : X) (xs : List X) (x : X) → Contains (y ∷ xs) x → (y ≡ x) ⊎ Contains xs x
Contains-cases y xs x (zero, h, e) = inl e
Contains-cases y xs x (suc k, h, e) = inr (k, omega arith, e)

distinct-tail : (e : WeakEntry) (es : List WeakEntry) → AreDistinct (e ∷ es) → AreDistinct es
distinct-tail e es h i j d less within = h (suc i) (suc j) d (omega arith) (omega arith)

distinct-head : (e d : WeakEntry) (es : List WeakEntry) → AreDistinct (e ∷ es) → Contains es d → e.map ≡ d.map
    → e.key ≡ d.key → ⊥
distinct-head e d es h (k, less, is) maps keys =
    h 0 (suc k) d (omega arith) (omega arith) (maps ∙ ap (λ (x : WeakEntry). x.map) (sym is))
    (keys ∙ ap (λ (x : WeakEntry). x.key) (sym is))

is_entry-self : (m k v : Place) → is_entry m k (record { map = m; key = k; value = v }) ≡ true
is_entry-self m k v = λ j. is_same-self m j && is_same-self k j

-- an entry that is there is found
pub found-Contains : (es : List WeakEntry) (m k v : Place) → AreDistinct es
    → Contains es (record { map = m; key = k; value = v }) → value_at es m k ≡ Some v
found-Contains [] m k v h there = absurd (omega (arith, there.1))
found-Contains (e ∷ es) m k v h there = elim (Contains-cases e es _ there) [
  | inl same ↦ rw (same, is_entry-self m k v) refl
  | inr later ↦ by (is_entry m k e) refl later (found-Contains es m k v (distinct-tail e es h) later)
]
  where
    by : (b : Bool) → is_entry m k e ≡ b → Contains es (record { map = m; key = k; value = v })
        → value_at es m k ≡ Some v → cond b (Some e.value) (value_at es m k) ≡ Some v
    by true is later rest =
        let both = and-true (is_same m e.map) (is_same k e.key) is in
        absurd (distinct-head e (record { map = m; key = k; value = v }) es h later (sym (is_same-true m e.map both.0))
        (sym (is_same-true k e.key both.1)))
    by false is later rest = rest

-- what is found is an entry
pub Contains-found : (es : List WeakEntry) (m k v : Place) → value_at es m k ≡ Some v
    → Contains es (record { map = m; key = k; value = v })
Contains-found [] m k v found = cc
Contains-found (e ∷ es) m k v found = by (is_entry m k e) refl found (Contains-found es m k v)
  where
    by : (b : Bool) → is_entry m k e ≡ b → cond b (Some e.value) (value_at es m k) ≡ Some v
        → (value_at es m k ≡ Some v → Contains es (record { map = m; key = k; value = v }))
        → Contains (e ∷ es) (record { map = m; key = k; value = v })
    by true is here rest =
        let both = and-true (is_same m e.map) (is_same k e.key) is in
        let maps = is_same-true m e.map both.0 in
        let keys = is_same-true k e.key both.1 in
        let values : e.value ≡ v = ap (λ o. unwrap_or o v) here in
        let same : e ≡ record { map = m; key = k; value = v } =
        λ j. record { map = sym maps j; key = sym keys j; value = values j } in
        subst (λ (x : WeakEntry). Contains (e ∷ es) x) same (Contains-get_or (e ∷ es) 0 e (omega arith))
    by false is later rest = Contains-tail e es _ (rest later)

-- where an element stands
pub stands_at : {X : Type 0} (xs : List X) (x : X) → Contains xs x → (k : ℕ) × (slice_get xs k ≡ Some x)
stands_at xs x (k, less, is) = (k, slice_get_read xs (length xs) k x refl less (sym is))

-- two entries with one map and key are one
same_number : (entries : List WeakEntry) → AreDistinct entries → (x y : ℕ) (d e : WeakEntry)
    → slice_get entries x ≡ Some d → slice_get entries y ≡ Some e → d.map ≡ e.map → d.key ≡ e.key → x ≡ y
same_number entries distinct x y d e at too maps keys = elim (cases_eq x y) [
  | inl same ↦ same
  | inr other ↦ absurd (elim (cases_lt x y) [
    | inl less ↦ distinct x y d less (slice_get_within entries y e too)
        ((λ j. (get_or_from_slice_get entries x d d at j).map)
        ∙ (maps ∙ (λ j. (sym (get_or_from_slice_get entries y e d too) j).map)))
        ((λ j. (get_or_from_slice_get entries x d d at j).key)
        ∙ (keys ∙ (λ j. (sym (get_or_from_slice_get entries y e d too) j).key)))
    | inr more ↦ distinct y x d (omega (arith, more, other)) (slice_get_within entries x d at)
        ((λ j. (get_or_from_slice_get entries y e d too j).map)
        ∙ (sym maps ∙ (λ j. (sym (get_or_from_slice_get entries x d d at) j).map)))
        ((λ j. (get_or_from_slice_get entries y e d too j).key)
        ∙ (sym keys ∙ (λ j. (sym (get_or_from_slice_get entries x d d at) j).key)))
  ])
]

module _ {E : Type 0} (place_of : E → Place) (entries : List E) (side : SideState)
    (is : IsFor place_of entries side) (p : Place) where
  listed_number : (i x : ℕ) → slice_get (listed side p) i ≡ Some x → (j : ℕ) × (number_of side p ≡ Some j)
      × (slice_get (entries_at side.lists j) i ≡ Some x)
  listed_number i x h = by (number_of side p) refl h
    where
      by : (o : Option ℕ) → number_of side p ≡ o → slice_get (unwrap_or (option_map (entries_at side.lists) o) []) i
          ≡ Some x → (j : ℕ) × (number_of side p ≡ Some j) × (slice_get (entries_at side.lists j) i ≡ Some x)
      by None e g = cc g
      by (Some j) e g = (j, e, g)

  -- a number that is listed is that of an entry of the place
  pub listed_entry : (i x : ℕ) → slice_get (listed side p) i ≡ Some x
      → (e : E) × (slice_get entries x ≡ Some e) × (place_of e ≡ p)
  listed_entry i x h =
      let found = listed_number i x h in
      let owner = is.sound.owned found.0 i x found.2 in
      let number : slice_get (map (λ e. number_of side (place_of e)) entries) x ≡ Some (Some found.0) =
      ap (λ ns. slice_get ns x) is.numbers
      ∙ (slice_get-map (λ j. Some j) side.owners x ∙ ap (option_map (λ j. Some j)) owner) in
      let entry = map_at (λ e. number_of side (place_of e)) entries x (Some found.0) number in
      (entry.0, entry.1, is.sound.apart (place_of entry.0) p found.0 entry.2 found.1)

  -- and each is
  pub entry_listed : (x : ℕ) (e : E) → slice_get entries x ≡ Some e → place_of e ≡ p
      → (i : ℕ) × (slice_get (listed side p) i ≡ Some x)
  entry_listed x e at of =
      let number : slice_get (map (λ j. Some j) side.owners) x ≡ Some (number_of side p) =
      ap (λ ns. slice_get ns x) (sym is.numbers)
      ∙ (slice_get-map (λ e. number_of side (place_of e)) entries x
      ∙ (ap (option_map (λ e. number_of side (place_of e))) at ∙ ap (λ q. Some (number_of side q)) of)) in
      let owner = map_at (λ j. Some j) side.owners x (number_of side p) number in
      let stood = stands_at (entries_at side.lists owner.0) x (is.sound.stands owner.0 x owner.1) in (
        stood.0,
        ap (λ o. slice_get (unwrap_or (option_map (entries_at side.lists) o) []) stood.0) (sym owner.2)
            ∙ stood.1,
      )

  listed_once : (i k x : ℕ) → slice_get (listed side p) i ≡ Some x → slice_get (listed side p) k ≡ Some x → i ≡ k
  listed_once i k x h g =
      let first = listed_number i x h in
      let second = listed_number k x g in
      let same : second.0 ≡ first.0 = same_Some _ _ (sym second.1 ∙ first.1) in
      is.sound.once first.0 i k x first.2 (ap (λ j. slice_get (entries_at side.lists j) k) (sym same) ∙ second.2)

-- the entries of the numbers that are listed are those of the place
module _ {E : Type 0} (place_of : E → Place) (entries : List E) (side : SideState) (is : IsFor place_of entries side)
    (p : Place) (entry_at : ℕ → E) (reads : (x : ℕ) (e : E) → slice_get entries x ≡ Some e → entry_at x ≡ e) where
  pub listed_exact : (e : E) → Contains (map entry_at (listed side p)) e ↔ (Contains entries e × (place_of e ≡ p))
  listed_exact e = (of_list, to_list)
    where
      of_list : Contains (map entry_at (listed side p)) e → Contains entries e × (place_of e ≡ p)
      of_list has =
          let at = stands_at (map entry_at (listed side p)) e has in
          let number = map_at entry_at (listed side p) at.0 e at.1 in
          let entry = listed_entry place_of entries side is p at.0 number.0 number.1 in
          let same : entry.0 ≡ e = sym (reads number.0 entry.0 entry.1) ∙ number.2 in
          subst (λ (x : E). Contains entries x × (place_of x ≡ p)) same
          (Contains-at entries number.0 entry.0 entry.1, entry.2)

      to_list : Contains entries e × (place_of e ≡ p) → Contains (map entry_at (listed side p)) e
      to_list (has, of) =
          let at = stands_at entries e has in
          let here = entry_listed place_of entries side is p at.0 e at.1 of in
          Contains-at (map entry_at (listed side p)) here.0 e
          (slice_get-map entry_at (listed side p) here.0
          ∙ (ap (option_map entry_at) here.1 ∙ ap (λ z. Some z) (reads at.0 e at.1)))

-- the entry of a number
pub numbered_is : (entries : List WeakEntry) (p : Place) (x : ℕ) (e : WeakEntry) → slice_get entries x ≡ Some e
    → numbered entries p x ≡ e
numbered_is entries p x e at = get_or_from_slice_get entries x e (record { map = p; key = p; value = p }) at

module _ (place_of : WeakEntry → Place) (entries : List WeakEntry) (side : SideState)
    (is : IsFor place_of entries side) (p : Place) where
  pub AreThose-listed : AreDistinct entries
      → AreThose (λ e. place_of e ≡ p) entries (map (numbered entries p) (listed side p))
  AreThose-listed distinct = record {
    distinct = λ i k d less within maps keys. (
        let len = length-map (listed side p) (numbered entries p) in
        let first = map_at (numbered entries p) (listed side p) i _
        (slice_get-get_or (map (numbered entries p) (listed side p)) i d (omega (arith, less, within))) in
        let second = map_at (numbered entries p) (listed side p) k _
        (slice_get-get_or (map (numbered entries p) (listed side p)) k d within) in
        let e = listed_entry place_of entries side is p i first.0 first.1 in
        let f = listed_entry place_of entries side is p k second.0 second.1 in
        let e_is : e.0 ≡ get_or (map (numbered entries p) (listed side p)) i d =
        sym (numbered_is entries p first.0 e.0 e.1) ∙ first.2 in
        let f_is : f.0 ≡ get_or (map (numbered entries p) (listed side p)) k d =
        sym (numbered_is entries p second.0 f.0 f.1) ∙ second.2 in
        let same = same_number entries distinct first.0 second.0 e.0 f.0 e.1 f.1
        ((λ j. (e_is j).map) ∙ (maps ∙ (λ j. (sym f_is j).map)))
        ((λ j. (e_is j).key) ∙ (keys ∙ (λ j. (sym f_is j).key))) in
        let once = listed_once place_of entries side is p i k first.0 first.1
        (second.1 ∙ ap (λ z. Some z) (sym same)) in
        absurd (omega (arith, less, once)));
    exact = listed_exact place_of entries side is p (numbered entries p) (numbered_is entries p);
  }

module _ {E : Type 0} (place_of : E → Place) (entries : List E) (p : Place) where
  -- where no list is that of the place
  none_of : (lists : List (List ℕ))
      → ((k n : ℕ) (ns : List ℕ) → slice_get lists k ≡ Some (n ∷ ns) → is_of place_of entries p n ≡ true → ⊥)
      → list_of place_of entries p lists ≡ []
  none_of [] never = refl
  none_of ([] ∷ lists) never = none_of lists (λ k. never (suc k))
  none_of ((n ∷ ns) ∷ lists) never = by (is_of place_of entries p n) refl (none_of lists (λ k. never (suc k)))
    where
      by : (b : Bool) → is_of place_of entries p n ≡ b → list_of place_of entries p lists ≡ []
          → cond b (n ∷ ns) (list_of place_of entries p lists) ≡ []
      by true is rest = absurd (never 0 n ns refl is)
      by false is rest = rest

  -- where only one can be, and is if it has entries
  one_of : (lists : List (List ℕ)) (j : ℕ)
      → ((k n : ℕ) (ns : List ℕ) → slice_get lists k ≡ Some (n ∷ ns) → is_of place_of entries p n ≡ true → k ≡ j)
      → ((n : ℕ) (ns : List ℕ) → slice_get lists j ≡ Some (n ∷ ns) → is_of place_of entries p n ≡ true)
      → list_of place_of entries p lists ≡ entries_at lists j
  one_of [] j only its = refl
  one_of ([] ∷ lists) zero only its =
      none_of lists (λ k n ns at is. (let same = only (suc k) n ns at is in omega (arith, same)))
  one_of ([] ∷ lists) (suc j) only its =
      one_of lists j (λ k n ns at is. (let same = only (suc k) n ns at is in omega (arith, same))) its
  one_of ((n ∷ ns) ∷ lists) zero only its = λ i. cond (its n ns refl i) (n ∷ ns) (list_of place_of entries p lists)
  one_of ((n ∷ ns) ∷ lists) (suc j) only its =
      by (is_of place_of entries p n) refl
      (one_of lists j (λ k n ns at is. (let same = only (suc k) n ns at is in omega (arith, same))) its)
    where
      by : (b : Bool) → is_of place_of entries p n ≡ b → list_of place_of entries p lists ≡ entries_at lists j
          → cond b (n ∷ ns) (list_of place_of entries p lists) ≡ entries_at lists j
      by true is rest = absurd (let same = only 0 n ns refl is in omega (arith, same))
      by false is rest = rest

  -- a list without entries is nobody's
  list_of-shown : (lists : List (List ℕ)) → list_of place_of entries p (shown lists) ≡ list_of place_of entries p lists
  list_of-shown [] = refl
  list_of-shown ([] ∷ lists) = list_of-shown lists
  list_of-shown ((n ∷ ns) ∷ lists) = ap (λ rest. cond (is_of place_of entries p n) (n ∷ ns) rest) (list_of-shown lists)

module _ {E : Type 0} (place_of : E → Place) (entries : List E) (side : SideState)
    (is : IsFor place_of entries side) (p : Place) where
  -- the first entry of a list, and whose it is
  first_entry : (k n : ℕ) (ns : List ℕ) → slice_get side.lists k ≡ Some (n ∷ ns)
      → (e : E) × (slice_get entries n ≡ Some e) × (number_of side (place_of e) ≡ Some k)
  first_entry k n ns at =
      let owner = is.sound.owned k 0 n (ap (λ o. slice_get (unwrap_or o []) 0) at) in
      map_at (λ e. number_of side (place_of e)) entries n (Some k)
      (ap (λ ns. slice_get ns n) is.numbers
      ∙ (slice_get-map (λ j. Some j) side.owners n ∙ ap (option_map (λ j. Some j)) owner))

  is_of-read : (n : ℕ) (e : E) → slice_get entries n ≡ Some e
      → is_of place_of entries p n ≡ is_same p (place_of e)
  is_of-read n e at = ap (λ o. unwrap_or (option_map (λ (d : E). is_same p (place_of d)) o) false) at

  first_tells : (k n : ℕ) (ns : List ℕ) → slice_get side.lists k ≡ Some (n ∷ ns) → is_of place_of entries p n ≡ true
      → number_of side p ≡ Some k
  first_tells k n ns at its =
      let first = first_entry k n ns at in
      ap (number_of side) (is_same-true p (place_of first.0) (sym (is_of-read n first.0 first.1) ∙ its)) ∙ first.2

  first_is : (j n : ℕ) (ns : List ℕ) → number_of side p ≡ Some j → slice_get side.lists j ≡ Some (n ∷ ns)
      → is_of place_of entries p n ≡ true
  first_is j n ns number at =
      let first = first_entry j n ns at in
      is_of-read n first.0 first.1
      ∙ (ap (is_same p) (is.sound.apart (place_of first.0) p j first.2 number) ∙ is_same-self p)

  -- so the list of the place is found
  pub list_of-side : list_of place_of entries p (shown side.lists) ≡ listed side p
  list_of-side = list_of-shown place_of entries p side.lists ∙ by (number_of side p) refl
    where
      by : (o : Option ℕ) → number_of side p ≡ o → list_of place_of entries p side.lists
          ≡ unwrap_or (option_map (entries_at side.lists) o) []
      by None none = none_of place_of entries p side.lists (λ k n ns at its. cc (sym none ∙ first_tells k n ns at its))
      by (Some j) some = one_of place_of entries p side.lists j
          (λ k n ns at its. same_Some _ _ (sym (first_tells k n ns at its) ∙ some)) (λ n ns at. first_is j n ns some at)

pub AreEntries-from_tied : (entries : List WeakEntry) (by_map by_key : SideState) → AreTied entries by_map by_key
    → AreEntries (table_of entries by_map by_key)
AreEntries-from_tied entries by_map by_key tied = record {
  distinct = tied.distinct;
  found = λ m k v. (λ has. found-Contains entries m k v tied.distinct has, λ has. Contains-found entries m k v has);
  of_map = λ m. subst (λ ns. AreThose (λ e. e.map ≡ m) entries (map (numbered entries m) ns))
      (sym (list_of-side (λ e. e.map) entries by_map tied.maps m))
      (AreThose-listed (λ e. e.map) entries by_map tied.maps m tied.distinct);
  of_key = λ k. subst (λ ns. AreThose (λ e. e.key ≡ k) entries (map (numbered entries k) ns))
      (sym (list_of-side (λ e. e.key) entries by_key tied.keys k))
      (AreThose-listed (λ e. e.key) entries by_key tied.keys k tied.distinct);
}

-- Whether places have entries.
use Rattle.std.proofs.Common.{◌≡◌, ◌-◌, ◌||◌, ℕ, Bool, true, false, List, length, slice_get, map, Contains, Option}
use Rattle.std.proofs.Common.{Some, None, IfSome, IfNone, refl, sym, ◌∙◌, ap, arith}
use Rattle.std.specs.Option.{option_map}
use Rattle.std.proofs.lemmas.Option.{slice_get_within, slice_get-map, slice_get-get_or}
use Rattle.gz_names.specs.declared.numbers.Place.{Place}
use Rattle.weak_maps.specs.Places.{is_same}
use Rattle.weak_maps.specs.Sides.{SideState, listed, number_of}
use Rattle.weak_maps.specs.Entries.{IsFor}
use Rattle.weak_maps.specs.declared.entries.WeakEntry.{WeakEntry}
use Rattle.weak_maps.proofs.Places.{is_same-true, is_same-self}
use Rattle.weak_maps.proofs.Reading.{map_at}
use Rattle.weak_maps.proofs.Sound.{entry_listed, listed_entry, stands_at}

module _ {E : Type 0} (place_of : E → Place) (entries : List E) (side : SideState)
    (is : IsFor place_of entries side) where
  -- where no place of an arena has a list
  pub none_in : (arena : ℕ) → ((p : Place) → p.0 ≡ arena → number_of side p ≡ None) → (e : E) → Contains entries e
      → (place_of e).0 ≡ arena → ⊥
  none_in arena none e has here =
      let at = stands_at entries e has in
      let number : slice_get (map (λ j. Some j) side.owners) at.0 ≡ Some (number_of side (place_of e)) =
      ap (λ ns. slice_get ns at.0) (sym is.numbers)
      ∙ (slice_get-map (λ e. number_of side (place_of e)) entries at.0
      ∙ ap (option_map (λ e. number_of side (place_of e))) at.1) in
      let owner = map_at (λ j. Some j) side.owners at.0 (number_of side (place_of e)) number in
      cc (owner.2, none (place_of e) here)

  -- where the list of a place has no last entry
  pub none_of_place : (p : Place) → slice_get (listed side p) (length (listed side p) - 1) ≡ None → (e : E)
      → Contains entries e → is_same p (place_of e) ≡ false
  none_of_place p none e has = by (is_same p (place_of e)) refl
    where
      by : (b : Bool) → is_same p (place_of e) ≡ b → b ≡ false
      by false same = refl
      by true same =
          let at = stands_at entries e has in
          let here = entry_listed place_of entries side is p at.0 e at.1 (sym (is_same-true p (place_of e) same)) in
          let less = slice_get_within (listed side p) here.0 at.0 here.1 in
          absurd (cc (none, slice_get-get_or (listed side p) (length (listed side p) - 1) 0 (omega (arith, less))))

-- an entry of a place as a map or as a key
abbrev pub OwnedAt : List WeakEntry → Place → ℕ → Type 0
OwnedAt entries p n = (entry : WeakEntry) × (slice_get entries n ≡ Some entry)
    × ((is_same p entry.map || is_same p entry.key) ≡ true)

module _ (entries : List WeakEntry) (by_map by_key : SideState) (maps : IsFor (λ entry. entry.map) entries by_map)
    (keys : IsFor (λ entry. entry.key) entries by_key) (p : Place) where
  pub last_of_map : (x : ℕ) → slice_get (listed by_map p) (length (listed by_map p) - 1) ≡ Some x
      → OwnedAt entries p x
  last_of_map x h =
      let found = listed_entry (λ entry. entry.map) entries by_map maps p (length (listed by_map p) - 1) x h in
      (found.0, found.1, ap (λ b. b || is_same p found.0.key) (ap (is_same p) found.2 ∙ is_same-self p))

  pub last_of_key : (o : Option ℕ) → o ≡ slice_get (listed by_key p) (length (listed by_key p) - 1)
      → IfSome o (OwnedAt entries p)
  last_of_key None h = tt
  last_of_key (Some x) h =
      let found = listed_entry (λ entry. entry.key) entries by_key keys p (length (listed by_key p) - 1) x (sym h) in
      (found.0, found.1, second (is_same p found.0.map) (ap (is_same p) found.2 ∙ is_same-self p))
    where
      second : (a : Bool) → {b : Bool} → b ≡ true → (a || b) ≡ true
      second true e = refl
      second false e = e

  pub none_owned_by : (o : Option ℕ) → slice_get (listed by_map p) (length (listed by_map p) - 1) ≡ None
      → o ≡ slice_get (listed by_key p) (length (listed by_key p) - 1)
      → IfNone o ((entry : WeakEntry) → Contains entries entry
      → (is_same p entry.map || is_same p entry.key) ≡ false)
  none_owned_by (Some x) none h = tt
  none_owned_by None none h = λ entry has.
      (λ j. none_of_place (λ entry. entry.map) entries by_map maps p none entry has j
      || none_of_place (λ entry. entry.key) entries by_key keys p (sym h) entry has j)

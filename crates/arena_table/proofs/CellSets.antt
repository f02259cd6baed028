-- Sets of cells: masks, and the arenas whose mask is not 0.
use Rattle.std.proofs.Common.{◌≡◌, ◌≢◌, ◌<◌, ◌≤◌, ◌+◌, ◌*◌, ◌==◌, ◌-◌, ◌^◌, ◌%◌, inl, inr, ℕ, List, [], ◌∷◌, ◌++◌}
use Rattle.std.proofs.Common.{length, set, bit_and, w64}
use Rattle.std.proofs.Common.{get_or, if◌then◌else◌, refl, sym, ap, ◌∙◌, arith, length-append}
use Rattle.std.proofs.Common.{get_or-set_same, get_or-set_other}
use Rattle.std.proofs.lemmas.List.{get_or_read, length-set}
use Rattle.std.proofs.lemmas.Bool.{cases_eq}
use Rattle.std.proofs.Common.{Contains, Option, Some, None, SomeIff, IfSome, IfNone, bit_or, subst}
use Rattle.std.specs.List.Sorted.{IsPermutation}
use Rattle.std.proofs.lemmas.List.Sorted.{IsPermutation-refl, length_permutation}
use Rattle.std.proofs.lemmas.Nat.Bits.{bit_at-zero, bit_at-trailing_zeros, bit_at_set_same, bit_at_set_other}
use Rattle.std.specs.Int.{bit_at, trailing_zeros}
use Rattle.gz_names.specs.declared.numbers.Place.{Place}
use Rattle.mark_stack.specs.Stack.{Piles}
use Rattle.arena_table.specs.Sets.{arena_bit}
use Rattle.arena_table.specs.Delayed.{AreCells, ArePadded, places_from}
use Rattle.arena_table.proofs.WordBits.{get_or-push_zero, if_same, if_other, within-from_some}
use Rattle.arena_table.proofs.DelayedCells.{places_from-none, places_from-push_zero, places-less, places-more}
use Rattle.arena_table.proofs.DelayedCells.{length-places_from}

pub ArePadded-refl : (masks : List ℕ) → ArePadded masks masks
ArePadded-refl masks = record { masks = λ a. refl; places = refl; kept = omega arith }

pub ArePadded-push : (before masks : List ℕ) → ArePadded before masks → ArePadded before (masks ++ 0 ∷ [])
ArePadded-push before masks h = record {
  masks = λ a. get_or-push_zero masks a ∙ h.masks a;
  places = places_from-push_zero 0 masks ∙ h.places;
  kept = (let longer = length-append masks (0 ∷ []) in let old = h.kept in omega arith);
}

-- there are no more cells than places
pub count-bound : (masks arenas : List ℕ) (count : ℕ) → AreCells masks arenas count → count ≤ 4294967232
count-bound masks arenas count h =
    let most = length-places_from 0 masks in
    let few = h.few in
    let counted = h.counted in
    omega arith

-- a mask takes a place more, and its arena is in the set
pub AreCells-more : (masks arenas more : List ℕ) (count a v : ℕ) → AreCells masks arenas count → a < length masks
    → v ≢ 0 → length more ≡ length arenas
    → ((other : ℕ) → arena_bit more other ≡ (if other == a then 1 else arena_bit arenas other))
    → length (places_from 0 (set masks a v)) ≡ count + 1 → AreCells (set masks a v) more (count + 1)
AreCells-more masks arenas more count a v h lt some sized bits counted = record {
  few = (let few = h.few in let same = length-set masks a v in omega arith);
  room = (let room = h.room in let same = length-set masks a v in omega arith);
  marked = λ b. elim (cases_eq b a) [
    | inl e ↦ (
      λ _. rw (e, get_or-set_same masks a v 0 lt) some,
      λ _. bits b
          ∙ if_same b a 1 (arena_bit arenas b) e,
    )
    | inr n ↦ rw (get_or-set_other masks a b v 0 n, bits b, if_other b a 1 (arena_bit arenas b) n) (h.marked b)
  ];
  counted = sym counted;
}

-- a mask loses a place, and is not 0
pub AreCells-less : (masks arenas : List ℕ) (count a v : ℕ) → AreCells masks arenas count → a < length masks
    → v ≢ 0 → arena_bit arenas a ≡ 1 → length (places_from 0 (set masks a v)) + 1 ≡ count
    → AreCells (set masks a v) arenas (count - 1)
AreCells-less masks arenas count a v h lt some one counted = record {
  few = (let few = h.few in let same = length-set masks a v in omega arith);
  room = (let room = h.room in let same = length-set masks a v in omega arith);
  marked = λ b. elim (cases_eq b a) [
    | inl e ↦ (λ _. rw (e, get_or-set_same masks a v 0 lt) some, λ _. rw e one)
    | inr n ↦ rw (get_or-set_other masks a b v 0 n) (h.marked b)
  ];
  counted = omega arith;
}

-- a mask loses its only place, and its arena leaves the set
pub AreCells-emptied : (masks arenas fewer : List ℕ) (count a v : ℕ) → AreCells masks arenas count → a < length masks
    → v ≡ 0 → length fewer ≡ length arenas
    → ((other : ℕ) → arena_bit fewer other ≡ (if other == a then 0 else arena_bit arenas other))
    → length (places_from 0 (set masks a v)) + 1 ≡ count → AreCells (set masks a v) fewer (count - 1)
AreCells-emptied masks arenas fewer count a v h lt none sized bits counted = record {
  few = (let few = h.few in let same = length-set masks a v in omega arith);
  room = (let room = h.room in let same = length-set masks a v in omega arith);
  marked = λ b. elim (cases_eq b a) [
    | inl e ↦ (
      λ one. absurd (let zero = bits b ∙ if_same b a 0 (arena_bit arenas b) e in omega arith),
      λ n. absurd (n (rw (e, get_or-set_same masks a v 0 lt) none)),
    )
    | inr n ↦ rw (get_or-set_other masks a b v 0 n, bits b, if_other b a 0 (arena_bit arenas b) n) (h.marked b)
  ];
  counted = omega arith;
}

-- no masks, and no cells
pub AreCells-none : (masks arenas : List ℕ) → masks ≡ [] → arenas ≡ [] → AreCells masks arenas 0
AreCells-none masks arenas m a = rw (m, a) (record {
  few = omega arith;
  room = omega arith;
  marked = λ b. (
    λ one. absurd (let zero = bit_at-zero (b % 64) in omega arith),
    λ some. absurd (some refl),
  );
  counted = refl;
})

-- there is memory for more arenas
pub AreCells-covered : (masks arenas more groups : List ℕ) (n : ℕ) → AreCells masks arenas n → ArePadded masks more
    → length more ≤ 67108863 → length more ≤ 64 * length groups
    → ((a : ℕ) → arena_bit groups a ≡ arena_bit arenas a) → AreCells more groups n
AreCells-covered masks arenas more groups n h padded few room bits = record {
  few = few;
  room = room;
  marked = λ a. rw (bits a, padded.masks a) (h.marked a);
  counted = h.counted ∙ ap length (sym padded.places);
}

-- the masks before the lowest arena of the set are 0
pub masks-before : (masks arenas : List ℕ) (count at : ℕ) → AreCells masks arenas count
    → ((a : ℕ) → a < at → arena_bit arenas a ≡ 0) → (k : ℕ) → k < at → get_or masks k 0 ≡ 0
masks-before masks arenas count at h none k lt = elim (cases_eq (get_or masks k 0) 0) [
  | inl e ↦ e
  | inr n ↦ absurd (let one = (h.marked k).1 n in let zero = none k lt in omega arith)
]

-- where the set has no arena there are no cells
pub places-none : (masks arenas : List ℕ) (count : ℕ) → AreCells masks arenas count
    → ((a : ℕ) → arena_bit arenas a ≡ 0) → places_from 0 masks ≡ []
places-none masks arenas count h none =
    places_from-none 0 masks (λ k. elim (cases_eq (get_or masks k 0) 0) [
      | inl e ↦ e
      | inr n ↦ absurd (let one = (h.marked k).1 n in let zero = none k in omega arith)
    ])

without : {X : Type 0} (xs : List X) → length xs ≡ 0 → xs ≡ []
without [] e = refl
without (x ∷ xs) e = absurd (omega arith)

pub places-uncounted : (masks arenas : List ℕ) (count : ℕ) → AreCells masks arenas count → count ≡ 0
    → places_from 0 masks ≡ []
places-uncounted masks arenas count h e = without (places_from 0 masks) (sym h.counted ∙ e)

-- the lowest cell is at the lowest bit of the mask of the lowest arena
pub record IsLowestCell (masks : List ℕ) (count a w : ℕ) : Type 0 where
  pub within : a < length masks
  pub some : 0 < w
  pub below : trailing_zeros w64 w < 64
  pub places : places_from 0 masks ≡ (a, trailing_zeros w64 w) ∷ places_from 0 (set masks a (bit_and w (w - 1)))
  pub counted : length (places_from 0 (set masks a (bit_and w (w - 1)))) + 1 ≡ count

pub lowest-cell : (masks arenas : List ℕ) (count a w : ℕ) → AreCells masks arenas count → arena_bit arenas a ≡ 1
    → ((b : ℕ) → b < a → arena_bit arenas b ≡ 0) → w ≡ get_or masks a w → w < 2 ^ 64 → IsLowestCell masks count a w
lowest-cell masks arenas count a w h one before read fits =
    let some : get_or masks a 0 ≢ 0 = (h.marked a).0 one in
    let within : a < length masks = within-from_some masks a some in
    let is : get_or masks a 0 ≡ w = sym (get_or_read masks a w within read 0) in
    let positive : 0 < w = omega (arith, is, some) in
    let places = places-less masks a w is within positive fits (masks-before masks arenas count a h before) in
    let sizes = ap (λ (ps : List Place). length ps) places in
    let counted = h.counted in
    record {
      within = within;
      some = positive;
      below = (bit_at-trailing_zeros w64 w positive fits).0;
      places = places;
      counted = omega (arith, sizes, counted);
    }

-- a cell comes into the set: the bit of its slot is set in the mask of its arena
pub record IsInserted (masks more : List ℕ) (count : ℕ) (place : Place) (a v : ℕ) : Type 0 where
  pub cells : AreCells (set masks a v) more (count + 1)
  pub places : IsPermutation (place ∷ places_from 0 masks) (places_from 0 (set masks a v))

pub inserted : (masks arenas more : List ℕ) (count : ℕ) (place : Place) (a t w : ℕ) → AreCells masks arenas count
    → a ≡ place.0 → t ≡ place.1 → place.0 < length masks → t < 64 → w ≡ get_or masks a w
    → (Contains (places_from 0 masks) place → ⊥) → length more ≡ length arenas
    → ((other : ℕ) → arena_bit more other ≡ (if other == a then 1 else arena_bit arenas other))
    → IsInserted masks more count place a (bit_or w (1 * 2 ^ t % 18446744073709551616))
inserted masks arenas more count place a t w h at slot lt below read fresh sized bits =
    let one : bit_at (bit_or w (1 * 2 ^ t % 18446744073709551616)) t ≡ 1 = bit_at_set_same w64 w t below in
    let some : bit_or w (1 * 2 ^ t % 18446744073709551616) ≢ 0 =
    λ none. (let zero = ap (λ x. bit_at x t) none ∙ bit_at-zero t in omega (arith, zero, one)) in
    let here : (a, t) ≡ place = ap (λ x. (x, t)) at ∙ ap (λ y. (place.0, y)) slot in
    let within : a < length masks = omega (arith, at, lt) in
    let is : w ≡ get_or masks a 0 = get_or_read masks a w within read 0 in
    let more_places = places-more masks a t (bit_or w (1 * 2 ^ t % 18446744073709551616)) within below
    (λ c. fresh (subst (Contains (places_from 0 masks)) here c)) one
    (λ k ne. bit_at_set_other w64 w t below k ne ∙ ap (λ x. bit_at x k) is) in
    let long = length_permutation ((a, t) ∷ places_from 0 masks)
    (places_from 0 (set masks a (bit_or w (1 * 2 ^ t % 18446744073709551616)))) more_places in
    let counted = h.counted in
    record {
      cells = AreCells-more masks arenas more count a (bit_or w (1 * 2 ^ t % 18446744073709551616)) h within some sized
          bits (omega (arith, long, counted));
      places = subst (λ (p : Place). IsPermutation (p ∷ places_from 0 masks)
          (places_from 0 (set masks a (bit_or w (1 * 2 ^ t % 18446744073709551616))))) here more_places;
    }

-- the lowest cell is gone
pub AreCells-taken : (masks arenas fewer : List ℕ) (count a w : ℕ) → AreCells masks arenas count
    → arena_bit arenas a ≡ 1 → IsLowestCell masks count a w → length fewer ≡ length arenas
    → (bit_and w (w - 1) ≡ 0 → (other : ℕ)
    → arena_bit fewer other ≡ (if other == a then 0 else arena_bit arenas other))
    → (bit_and w (w - 1) ≢ 0 → fewer ≡ arenas) → AreCells (set masks a (bit_and w (w - 1))) fewer (count - 1)
AreCells-taken masks arenas fewer count a w h one low sized emptied left =
    elim (cases_eq (bit_and w (w - 1)) 0) [
      | inl none ↦ AreCells-emptied masks arenas fewer count a (bit_and w (w - 1)) h low.within none sized
          (emptied none) low.counted
      | inr some ↦ subst (λ (ws : List ℕ). AreCells (set masks a (bit_and w (w - 1))) ws (count - 1)) (sym (left some))
          (AreCells-less masks arenas count a (bit_and w (w - 1)) h low.within some one low.counted)
    ]

-- the place that was made of its numbers
pub made-place : (o : Option Place) (slot : ℕ) (p : Place) → slot < 64 → SomeIff o (slot < 64) p → o ≡ Some p
made-place None slot p below made = absurd (made below)
made-place (Some x) slot p below made = ap (λ (y : Place). Some y) made.1

-- so it is taken
pub some-taken : (o : Option Place) (p : Place) (old new : List Place) → o ≡ Some p → old ≡ p ∷ new
    → IfSome o (λ place. old ≡ place ∷ new)
some-taken o p old new is places = subst (λ (z : Option Place). IfSome z (λ place. old ≡ place ∷ new)) (sym is) places

pub none-taken : (o : Option Place) (p : Place) (P : Type 0) → o ≡ Some p → IfNone o P
none-taken o p P is = subst (λ (z : Option Place). IfNone z P) (sym is) tt

-- a list is its first element and the rest, in any order
pub front-more : (old : List Place) (x : Place) (new : List Place) → old ≡ x ∷ new → IsPermutation (x ∷ new) old
front-more old x new e = subst (IsPermutation (x ∷ new)) (sym e) (IsPermutation-refl (x ∷ new))

-- nothing was there, so all is as it was
pub none-left : (made : List Place → Piles) (o : Option Place) (old new : List Place)
    → IfNone o ((old ≡ []) × (new ≡ [])) → IfNone o ((old ≡ []) × (made new ≡ made old))
none-left made None old new e = (e.0, ap made (e.1 ∙ sym e.0))
none-left made (Some x) old new e = tt

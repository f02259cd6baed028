-- What is counted over arenas, one after the other.
use Rattle.std.proofs.Common.{◌≡◌, ◌≢◌, ◌<◌, ◌≤◌, ◌+◌, ◌-◌, ◌*◌, ◌==◌, ◌&&◌, ℕ, zero, suc, Bool, true, false, List, []}
use Rattle.std.proofs.Common.{◌∷◌, length, take, Option, Some, None, slice_get, nat_lt, if◌then◌else◌, refl, sym, ◌∙◌}
use Rattle.std.proofs.Common.{ap}
use Rattle.std.proofs.Common.{eq-eqb, ne_eqb, arith}
use Rattle.std.proofs.lemmas.Bool.{false≢true, le-ltb, lt-ltb}
use Rattle.std.proofs.lemmas.List.{take_all}
use Rattle.std.proofs.lemmas.Option.{none-some, same_Some}
use Rattle.arena_table.specs.Cells.{CellState}
use Rattle.arena_table.specs.Slots.{held_in}
use Rattle.heap_core.specs.Shape.{ArenaShape, AreWhole}
use Rattle.compact.specs.Packing.{count_below, free_below, held_of_zone}

-- a number for each arena, by its number, and all of them together
abbrev pub sum_from : (ℕ → ArenaShape → ℕ) → ℕ → List ArenaShape → ℕ
sum_from w n [] = zero
sum_from w n (x ∷ xs) = w n x + sum_from w (suc n) xs

module _ (w : ℕ → ArenaShape → ℕ) where
  -- one more
  sum-more : (n : ℕ) (xs : List ArenaShape) (b : ℕ) (x : ArenaShape) → slice_get xs b ≡ Some x
      → sum_from w n (take (suc b) xs) ≡ sum_from w n (take b xs) + w (n + b) x
  sum-more n [] b x at = absurd (none-some x at)
  sum-more n (y ∷ ys) zero x at =
      let same : n ≡ n + 0 = omega arith in
      let here = ap (w n) (same_Some y x at) ∙ ap (λ m. w m x) same in
      omega (arith, here)
  sum-more n (y ∷ ys) (suc b) x at =
      let rest = sum-more (suc n) ys b x at in
      let same : suc n + b ≡ n + suc b = omega arith in
      let here = ap (λ m. w m x) same in
      omega (arith, rest, here)

  sum-past : (n : ℕ) (xs : List ArenaShape) (b : ℕ) → slice_get xs b ≡ None
      → sum_from w n (take (suc b) xs) ≡ sum_from w n (take b xs)
  sum-past n [] zero none = refl
  sum-past n [] (suc b) none = refl
  sum-past n (x ∷ xs) zero none = absurd (none-some x (sym none))
  sum-past n (x ∷ xs) (suc b) none = ap (λ k. w n x + k) (sum-past (suc n) xs b none)

  -- what counts nothing
  pub sum-none : (xs : List ArenaShape) (from d : ℕ)
      → ((b : ℕ) (x : ArenaShape) → from ≤ b → b < from + d → slice_get xs b ≡ Some x → w b x ≡ 0)
      → sum_from w 0 (take (from + d) xs) ≡ sum_from w 0 (take from xs)
  sum-none xs from zero none =
      (let same : from + 0 ≡ from = omega arith in ap (λ n. sum_from w 0 (take n xs)) same)
  sum-none xs from (suc d) none =
      let last : from + suc d ≡ suc (from + d) = omega arith in
      ap (λ n. sum_from w 0 (take n xs)) last ∙ by (slice_get xs (from + d)) refl
      ∙ sum-none xs from d (λ b x le lt at. none b x le (omega (arith, lt)) at)
    where
      by : (o : Option ArenaShape) → slice_get xs (from + d) ≡ o
          → sum_from w 0 (take (suc (from + d)) xs) ≡ sum_from w 0 (take (from + d) xs)
      by None at = sum-past 0 xs (from + d) at
      by (Some x) at =
          let more = sum-more 0 xs (from + d) x at in
          let nothing = none (from + d) x (omega arith) (omega arith) at in
          let same : 0 + (from + d) ≡ from + d = omega arith in
          let here = ap (λ m. w m x) same in
          omega (arith, more, nothing, here)

  -- from a number to the next that counts
  pub sum-step : (xs : List ArenaShape) (from a : ℕ) (x : ArenaShape) → from ≤ a → slice_get xs a ≡ Some x
      → ((b : ℕ) (y : ArenaShape) → from ≤ b → b < a → slice_get xs b ≡ Some y → w b y ≡ 0)
      → sum_from w 0 (take (a + 1) xs) ≡ sum_from w 0 (take from xs) + w a x
  sum-step xs from a x le at none =
      let gap : from + (a - from) ≡ a = omega (arith, le) in
      let skipped = sum-none xs from (a - from) (λ b y le lt got. none b y le (omega (arith, lt, gap)) got) in
      let here = ap (λ n. sum_from w 0 (take n xs)) gap in
      let more = sum-more 0 xs a x at in
      let same : 0 + a ≡ a = omega arith in
      let counted = ap (λ m. w m x) same in
      let next : suc a ≡ a + 1 = omega arith in
      let there = ap (λ n. sum_from w 0 (take n xs)) next in
      omega (arith, skipped, here, more, counted, there)

  -- and to the end
  pub sum-end : (xs : List ArenaShape) (from : ℕ)
      → ((b : ℕ) (y : ArenaShape) → from ≤ b → slice_get xs b ≡ Some y → w b y ≡ 0)
      → sum_from w 0 (take from xs) ≡ sum_from w 0 xs
  sum-end xs from none =
      sym (sum-none xs from (length xs) (λ b y le lt at. none b y le at))
      ∙ ap (sum_from w 0) (take_all (from + length xs) xs (omega arith))

  -- a part of them
  pub sum-part : (n : ℕ) (xs : List ArenaShape) (b : ℕ) → sum_from w n (take b xs) ≤ sum_from w n xs
  sum-part n [] zero = omega arith
  sum-part n [] (suc b) = omega arith
  sum-part n (x ∷ xs) zero = omega arith
  sum-part n (x ∷ xs) (suc b) = (let rest = sum-part (suc n) xs b in omega (arith, rest))

-- the cells of a zone, its arenas, and those below a number
abbrev pub held_at : ℕ → ℕ → ArenaShape → ℕ
held_at zone n x = if x.zone == zone then held_in x.slots else 0

abbrev pub one_at : ℕ → ℕ → ArenaShape → ℕ
one_at zone n x = if x.zone == zone then 1 else 0

abbrev pub free_at : ℕ → ℕ → ℕ → ArenaShape → ℕ
free_at zone first n x = if nat_lt n first && (x.zone == zone) then 64 - held_in x.slots else 0

pub held-sum : (zone n : ℕ) (xs : List ArenaShape) → held_of_zone zone xs ≡ sum_from (held_at zone) n xs
held-sum zone n [] = refl
held-sum zone n (x ∷ xs) = ap (λ m. (if x.zone == zone then held_in x.slots else 0) + m) (held-sum zone (suc n) xs)

pub free-sum : (zone first n : ℕ) (xs : List ArenaShape)
    → free_below zone first n xs ≡ sum_from (free_at zone first) n xs
free-sum zone first n [] = refl
free-sum zone first n (x ∷ xs) =
    ap (λ m. (if nat_lt n first && (x.zone == zone) then 64 - held_in x.slots else 0) + m)
    (free-sum zone first (suc n) xs)

-- what other arenas count
pub other-held : (zone b : ℕ) (x : ArenaShape) → x.zone ≢ zone → held_at zone b x ≡ 0
other-held zone b x other = ap (λ t. if t then held_in x.slots else 0) (ne_eqb x.zone zone other)

pub other-one : (zone b : ℕ) (x : ArenaShape) → x.zone ≢ zone → one_at zone b x ≡ 0
other-one zone b x other = ap (λ t. if t then 1 else 0) (ne_eqb x.zone zone other)

pub other-free : (zone first b : ℕ) (x : ArenaShape) → x.zone ≢ zone → free_at zone first b x ≡ 0
other-free zone first b x other =
    ap (λ t. if nat_lt b first && t then 64 - held_in x.slots else 0) (ne_eqb x.zone zone other)
    ∙ none (nat_lt b first)
  where
    none : (t : Bool) → (if t && false then 64 - held_in x.slots else 0) ≡ 0
    none true = refl
    none false = refl

pub past-free : (zone first b : ℕ) (x : ArenaShape) → first ≤ b → free_at zone first b x ≡ 0
past-free zone first b x le = ap (λ t. if t && (x.zone == zone) then 64 - held_in x.slots else 0) (le-ltb b first le)

-- an arena of the zone
pub own-held : (zone b : ℕ) (x : ArenaShape) → x.zone ≡ zone → held_at zone b x ≡ held_in x.slots
own-held zone b x own = ap (λ t. if t then held_in x.slots else 0) (eq-eqb x.zone zone own)

pub own-one : (zone b : ℕ) (x : ArenaShape) → x.zone ≡ zone → one_at zone b x ≡ 1
own-one zone b x own = ap (λ t. if t then 1 else 0) (eq-eqb x.zone zone own)

pub own-free : (zone first b : ℕ) (x : ArenaShape) → x.zone ≡ zone → b < first
    → free_at zone first b x ≡ 64 - held_in x.slots
own-free zone first b x own lt =
    ap (λ t. if t && (x.zone == zone) then 64 - held_in x.slots else 0) (lt-ltb b first lt)
    ∙ ap (λ t. if t then 64 - held_in x.slots else 0) (eq-eqb x.zone zone own)

-- the arenas below a number are those before it
below-none : (zone first n : ℕ) (xs : List ArenaShape) → first ≤ n → count_below zone first n xs ≡ 0
below-none zone first n [] le = refl
below-none zone first n (x ∷ xs) le =
    let here : ◌≡◌ {A = ℕ} (if nat_lt n first && (x.zone == zone) then 1 else 0) 0 =
    ap (λ t. if t && (x.zone == zone) then 1 else 0) (le-ltb n first le) in
    let rest = below-none zone first (suc n) xs (omega (arith, le)) in
    omega (arith, here, rest)

pub below-take : (zone first n k : ℕ) (xs : List ArenaShape) → first ≡ n + k
    → count_below zone first n xs ≡ sum_from (one_at zone) n (take k xs)
below-take zone first n zero [] is = refl
below-take zone first n (suc k) [] is = refl
below-take zone first n zero (x ∷ xs) is = below-none zone first n (x ∷ xs) (omega (arith, is))
below-take zone first n (suc k) (x ∷ xs) is =
    ap (λ t. (if t && (x.zone == zone) then 1 else 0) + count_below zone first (suc n) xs)
    (lt-ltb n first (omega (arith, is)))
    ∙ ap (λ m. (if x.zone == zone then 1 else 0) + m) (below-take zone first (suc n) k xs (omega (arith, is)))

-- each arena has 64 slots
held-most : (slots : List (Option CellState)) → held_in slots ≤ length slots
held-most [] = omega arith
held-most (None ∷ slots) = (let rest = held-most slots in omega (arith, rest))
held-most (Some cell ∷ slots) = (let rest = held-most slots in omega (arith, rest))

whole-first : (x : ArenaShape) (xs : List ArenaShape) → AreWhole (x ∷ xs) → held_in x.slots ≤ 64
whole-first x xs whole = (let most = held-most x.slots in let long = whole zero x refl in omega (arith, most, long))

whole-rest : (x : ArenaShape) (xs : List ArenaShape) → AreWhole (x ∷ xs) → AreWhole xs
whole-rest x xs whole a arena at = whole (suc a) arena at

-- the cells of the arenas before a number and their free slots
pub room-below : (zone first n k : ℕ) (xs : List ArenaShape) → AreWhole xs → first ≡ n + k
    → free_below zone first n xs + sum_from (held_at zone) n (take k xs) ≡ 64 * count_below zone first n xs
room-below zone first n zero [] whole is = refl
room-below zone first n (suc k) [] whole is = refl
room-below zone first n zero (x ∷ xs) whole is =
    let none = below-none zone first n (x ∷ xs) (omega (arith, is)) in
    let free = free-none n (x ∷ xs) (omega (arith, is)) in
    omega (arith, none, free)
  where
    free-none : (n : ℕ) (xs : List ArenaShape) → first ≤ n → free_below zone first n xs ≡ 0
    free-none n [] le = refl
    free-none n (x ∷ xs) le =
        let here : (if nat_lt n first && (x.zone == zone) then 64 - held_in x.slots else 0) ≡ 0 =
        ap (λ t. if t && (x.zone == zone) then 64 - held_in x.slots else 0) (le-ltb n first le) in
        let rest = free-none (suc n) xs (omega (arith, le)) in
        omega (arith, here, rest)
room-below zone first n (suc k) (x ∷ xs) whole is =
    let rest = room-below zone first (suc n) k xs (whole-rest x xs whole) (omega (arith, is)) in
    let most = whole-first x xs whole in
    let under = lt-ltb n first (omega (arith, is)) in
    by (nat_lt n first) (x.zone == zone) under rest most
  where
    by : (t u : Bool) → t ≡ true
        → free_below zone first (suc n) xs + sum_from (held_at zone) (suc n) (take k xs)
        ≡ 64 * count_below zone first (suc n) xs → held_in x.slots ≤ 64
        → (if t && u then 64 - held_in x.slots else 0) + free_below zone first (suc n) xs
        + ((if u then held_in x.slots else 0) + sum_from (held_at zone) (suc n) (take k xs))
        ≡ 64 * ((if t && u then 1 else 0) + count_below zone first (suc n) xs)
    by true true e rest most = omega (arith, rest, most)
    by true false e rest most = omega (arith, rest)
    by false u e rest most = absurd (false≢true e)

-- all cells of the zone fit into its arenas
pub all-below : (zone first n k : ℕ) (xs : List ArenaShape) → AreWhole xs → first ≡ n + k → length xs ≤ k
    → held_of_zone zone xs ≤ 64 * count_below zone first n xs
all-below zone first n k [] whole is all = omega arith
all-below zone first n zero (x ∷ xs) whole is all = absurd (omega (arith, all))
all-below zone first n (suc k) (x ∷ xs) whole is all =
    let rest = all-below zone first (suc n) k xs (whole-rest x xs whole) (omega (arith, is)) (omega (arith, all)) in
    let most = whole-first x xs whole in
    let under = lt-ltb n first (omega (arith, is)) in
    by (nat_lt n first) (x.zone == zone) under rest most
  where
    by : (t u : Bool) → t ≡ true → held_of_zone zone xs ≤ 64 * count_below zone first (suc n) xs
        → held_in x.slots ≤ 64
        → (if u then held_in x.slots else 0) + held_of_zone zone xs
        ≤ 64 * ((if t && u then 1 else 0) + count_below zone first (suc n) xs)
    by true true e rest most = omega (arith, rest, most)
    by true false e rest most = omega (arith, rest)
    by false u e rest most = absurd (false≢true e)

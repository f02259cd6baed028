-- What a command leaves of the looks at weak entries: one that is put brings at most six, and one that goes none.
use Rattle.std.proofs.Common.{◌≡◌, ◌≢◌, ◌+◌, ◌<◌, ◌≤◌, ℕ, zero, suc, Bool, true, false, refl, sym, ap, ◌∙◌}
use Rattle.std.proofs.Common.{subst, arith, cond, inl, inr, List, [], ◌∷◌, length, count_by, sum_by, Contains, Option}
use Rattle.std.proofs.Common.{None}
use Rattle.std.proofs.Common.{Some, is_some, slice_get, slice_index_or}
use Rattle.std.proofs.lemmas.Bool.{cases_lt}
use Rattle.std.proofs.lemmas.List.Sums.{sum_by-cons, sum_by_push}
use Rattle.std.specs.Prelude.{AllPairs, if◌then◌else◌, unwrap_or}
use Rattle.std.proofs.lemmas.Option.{get_or_from_slice_get, slice_get_within, unwrap_or-slice_get}
use Rattle.gz_names.specs.declared.numbers.Place.{Place}
use Rattle.weak_maps.specs.Delegates.{DelegateRow, row_of}
use Rattle.weak_maps.specs.Entries.{is_entry, put_at}
use Rattle.weak_maps.specs.WeakMaps.{AreParallel, Carries, IsSound as AreSound, LooksState, PutsLeft, WeakMapsState}
use Rattle.weak_maps.specs.WeakMaps.{looks_with, rows_with}
use Rattle.weak_maps.specs.declared.delegates.Delegate.{Delegate}
use Rattle.weak_maps.specs.declared.entries.EntryKey.{EntryKey}
use Rattle.weak_maps.specs.declared.colours.MarkColour.{MarkColour}
use Rattle.mark_stack.specs.Stack.{Piles}
use Rattle.colour_defs.proofs.Lists.{contains_at, contains_cases, contains_head, contains_tail, nothing_in_none}
use Rattle.wrappers.proofs.Finding.{slice_get-read}
use Rattle.heap_core.specs.Heap.{HeapState}
use Rattle.marker.specs.Looks.{looks_now}
use Rattle.marker.specs.UnitsToCome.{row_starts, scans, starts_of}
use Rattle.weak_maps.specs.declared.entries.WeakEntry.{WeakEntry}
use Rattle.slice_driver.proofs.abstraction.Named.{some_one}
use Rattle.slice_driver.proofs.measure.CountedCells.{AreApartBy, sum_matched}
use Rattle.slice_driver.proofs.measure.FewerEntries.{sum_no_more}

-- what a row counts for
abbrev pub row_count : HeapState → Piles → Option Delegate → ℕ
row_count h p None = 0
row_count h p (Some d) = scans h p d.target

-- an entry that is put counts for itself, at most
pub put_starts : (h : HeapState) (p : Piles) (es : List WeakEntry) (m k v : Place)
    → sum_by (starts_of h p) (put_at es m k v)
    ≤ sum_by (starts_of h p) es + starts_of h p (record { map = m; key = k; value = v })
put_starts h p [] m k v =
    let one = sum_by-cons (starts_of h p) (record { map = m; key = k; value = v }) [] in
    omega (arith, one)
put_starts h p (e ∷ es) m k v = go (is_entry m k e) (put_starts h p es m k v)
  where
    go : (b : Bool)
        → sum_by (starts_of h p) (put_at es m k v)
        ≤ sum_by (starts_of h p) es + starts_of h p (record { map = m; key = k; value = v })
        → sum_by (starts_of h p)
        (cond b (record { map = e.map; key = e.key; value = v } ∷ es) (e ∷ put_at es m k v))
        ≤ sum_by (starts_of h p) (e ∷ es) + starts_of h p (record { map = m; key = k; value = v })
    go true rest =
        let now = sum_by-cons (starts_of h p) (record { map = e.map; key = e.key; value = v }) es in
        let was = sum_by-cons (starts_of h p) e es in
        omega (arith, now, was)
    go false rest =
        let now = sum_by-cons (starts_of h p) e (put_at es m k v) in
        let was = sum_by-cons (starts_of h p) e es in
        omega (arith, now, was, rest)

-- and its row, if it has one, counts for itself
pub put_rows : (h : HeapState) (p : Piles) (rows : List DelegateRow) (key : EntryKey) (o : Option Delegate) (old : Bool)
    → sum_by (row_starts h p) (if old then rows else rows_with rows key o)
    ≤ sum_by (row_starts h p) rows + row_count h p o
put_rows h p rows key o true = omega arith
put_rows h p rows key None false = omega arith
put_rows h p rows key (Some d) false =
    let more = sum_by_push (row_starts h p) rows (row_of key d) in
    omega (arith, more)

-- and is not to be looked at
pub put_looks : (o : Option Place) (d : Option Delegate) (old new : LooksState) → PutsLeft o d old new
    → looks_now new ≡ looks_now old
put_looks (Some v) d old new is = ap looks_now is
put_looks None d old new is =
    let same = ap looks_now is in
    let maps = sum_by_push (λ (c : Option MarkColour). cond (is_some c) 1 0) old.by_map None in
    let keys = sum_by_push (λ (c : Option MarkColour). cond (is_some c) 1 0) old.by_key None in
    let rows = row_looks d in
    omega (arith, same, maps, keys, rows)
  where
    row_looks : (d : Option Delegate)
        → count_by is_some (looks_with old.by_delegate d) ≡ count_by is_some old.by_delegate
    row_looks None = refl
    row_looks (Some x) =
        (let more = sum_by_push (λ (c : Option MarkColour). cond (is_some c) 1 0) old.by_delegate None in
        omega (arith, more))

-- n numbers, from s on
numbers : ℕ → ℕ → List ℕ
numbers s zero = []
numbers s (suc n) = s ∷ numbers (suc s) n

numbers_in : (s n i : ℕ) → Contains (numbers s n) i → (s ≤ i) × (i < s + n)
unfolding numbers
numbers_in s zero i c = absurd (nothing_in_none i c)
numbers_in s (suc n) i c = elim (contains_cases s (numbers (suc s) n) i c) [
  | inl is ↦ (omega (arith, is), omega (arith, is))
  | inr rest ↦ (let low = numbers_in (suc s) n i rest in (omega (arith, low.0), omega (arith, low.1)))
]

in_numbers : (s n i : ℕ) → s ≤ i → i < s + n → Contains (numbers s n) i
unfolding numbers
in_numbers s zero i from below = absurd (omega (arith, from, below))
in_numbers s (suc n) i from below = elim (cases_lt s i) [
  | inl later ↦ contains_tail s (numbers (suc s) n) i
      (in_numbers (suc s) n i (omega (arith, later)) (omega (arith, below)))
  | inr here ↦ (let same : s ≡ i = omega (arith, from, here) in
      subst (λ j. Contains (s ∷ numbers (suc s) n) j) same (contains_head s (numbers (suc s) n)))
]

-- a sum over a list is one over its numbers
shifted : (f : ℕ → ℕ) (s n : ℕ) → sum_by f (numbers (suc s) n) ≡ sum_by (λ i. f (suc i)) (numbers s n)
unfolding numbers
shifted f s zero = refl
shifted f s (suc n) =
    let rest = shifted f (suc s) n in
    let now = sum_by-cons f (suc s) (numbers (suc (suc s)) n) in
    let was = sum_by-cons (λ i. f (suc i)) s (numbers (suc s) n) in
    omega (arith, rest, now, was)

-- whether an entry of a number is to be looked at
abbrev one_at : List (Option MarkColour) → ℕ → ℕ
one_at looks i = cond (is_some (slice_index_or looks i None)) 1 0

by_number : (looks : List (Option MarkColour))
    → count_by is_some looks ≡ sum_by (one_at looks) (numbers 0 (length looks))
unfolding numbers
by_number [] = refl
by_number (c ∷ looks) =
    let rest = by_number looks in
    let all = sum_by-cons (λ (o : Option MarkColour). cond (is_some o) 1 0) c looks in
    let first = sum_by-cons (one_at (c ∷ looks)) 0 (numbers 1 (length looks)) in
    let later = shifted (one_at (c ∷ looks)) 0 (length looks) in
    omega (arith, rest, all, first, later)

-- the looks of one side, where each entry, or each row, was there and is to be looked at as it was
module _ {X : Type 0} (map key : X → Place) (old new : List X) (were are : List (Option MarkColour))
    (was : length were ≡ length old) (now : length are ≡ length new)
    (distinct : AllPairs (λ d e. map d ≡ map e → key d ≢ key e) new)
    (carries : (i : ℕ) (e : X) → slice_get new i ≡ Some e
    → (j : ℕ) × (slice_get old j ≡ Some e) × (slice_get are i ≡ slice_get were j)) where
  -- an entry has one number before and one after
  abbrev IsCarried : ℕ → ℕ → Type 0
  IsCarried i j = (e : X) × (slice_get new i ≡ Some e) × (slice_get old j ≡ Some e)

  apart_at : (i z j : ℕ) → i < z → IsCarried i j → IsCarried z j → ⊥
  apart_at i z j lt first second =
      let same : first.0 ≡ second.0 = some_one _ _ (sym first.2 ∙ second.2) in
      let one : slice_index_or new i first.0 ≡ first.0 = get_or_from_slice_get new i first.0 first.0 first.1 in
      let two : slice_index_or new z first.0 ≡ second.0 = get_or_from_slice_get new z second.0 first.0 second.1 in
      let is : slice_index_or new i first.0 ≡ slice_index_or new z first.0 = one ∙ (same ∙ sym two) in
      distinct i z first.0 lt (slice_get_within new z second.0 second.1) (ap map is) (ap key is)

  numbers_apart : (s n : ℕ) → AreApartBy IsCarried (numbers s n)
  unfolding numbers
  numbers_apart s zero = tt
  numbers_apart s (suc n) = (
    λ z c j first second. (let low = numbers_in (suc s) n z c in apart_at s z j (omega (arith, low.0)) first second),
    numbers_apart (suc s) n,
  )

  -- so no more are to be looked at
  count_carried : count_by is_some are ≤ count_by is_some were
  count_carried =
      let all = sum_matched (one_at were) (one_at are) IsCarried (numbers 0 (length were)) (numbers 0 (length are))
      (numbers_apart 0 (length are)) matched in
      let after = by_number are in
      let before = by_number were in
      omega (arith, all, after, before)
    where
      at : (i : ℕ) → i < length new → (e : X) × (slice_get new i ≡ Some e)
      at i lt = go new i lt
        where
          go : (es : List X) (n : ℕ) → n < length es → (e : X) × (slice_get es n ≡ Some e)
          go [] n low = absurd (omega (arith, low))
          go (e ∷ es) zero low = (e, refl)
          go (e ∷ es) (suc n) low = go es n (omega (arith, low))

      matched : (i : ℕ) → Contains (numbers 0 (length are)) i
          → (j : ℕ) × Contains (numbers 0 (length were)) j × IsCarried i j × (one_at are i ≤ one_at were j)
      matched i c =
          let low = numbers_in 0 (length are) i c in
          let here = at i (omega (arith, low.1, now)) in
          let from = carries i here.0 here.1 in
          let within = slice_get_within old from.0 here.0 from.1 in
          let same : one_at are i ≡ one_at were from.0 =
          ap (λ (o : Option MarkColour). cond (is_some o) 1 0)
          (sym (unwrap_or-slice_get are i None)
          ∙ (ap (λ (o : Option (Option MarkColour)). unwrap_or o None) from.2
          ∙ unwrap_or-slice_get were from.0 None)) in (
            from.0,
            in_numbers 0 (length were) from.0 (omega arith) (omega (arith, within, was)),
            (here.0, here.1, from.1),
            omega (arith, same),
          )

-- where entries went, no more looks are to come
pub carried_looks : (old new : WeakMapsState) → Carries old new → AreParallel old → AreParallel new
    → AreSound new.table → looks_now new.looks ≤ looks_now old.looks
carried_looks old new carries was now sound =
    let maps = count_carried (λ (e : WeakEntry). e.map) (λ (e : WeakEntry). e.key) old.table.entries new.table.entries
    old.looks.by_map new.looks.by_map was.0 now.0 sound.distinct
    (λ i e at. (let from = carries.from i e at in (from.0, from.1, from.2))) in
    let keys = count_carried (λ (e : WeakEntry). e.map) (λ (e : WeakEntry). e.key) old.table.entries new.table.entries
    old.looks.by_key new.looks.by_key was.1 now.1 sound.distinct
    (λ i e at. (let from = carries.from i e at in (from.0, from.1, from.3))) in
    let rows = count_carried (λ (r : DelegateRow). r.map) (λ (r : DelegateRow). r.key) old.table.delegates.rows
    new.table.delegates.rows old.looks.by_delegate new.looks.by_delegate was.2 now.2 sound.delegates.distinct
    (λ i r at. (let from = carries.from_row i r at in (from.0, from.1, from.2))) in
    omega (arith, maps, keys, rows)

-- and what the others count for is no more
pub carried_starts : (h : HeapState) (p : Piles) (old new : WeakMapsState) → Carries old new → AreSound new.table
    → sum_by (starts_of h p) new.table.entries ≤ sum_by (starts_of h p) old.table.entries
carried_starts h p old new carries sound = sum_no_more (λ (e : WeakEntry). e.map) (λ (e : WeakEntry). e.key)
    (starts_of h p) new.table.entries old.table.entries sound.distinct
    (λ e c. (let from = carries.from c.0 e (slice_get-read new.table.entries c.0 e e c.1 c.2) in
    contains_at old.table.entries from.0 e from.1))

pub carried_rows : (h : HeapState) (p : Piles) (old new : WeakMapsState) → Carries old new → AreSound new.table
    → sum_by (row_starts h p) new.table.delegates.rows ≤ sum_by (row_starts h p) old.table.delegates.rows
carried_rows h p old new carries sound = sum_no_more (λ (r : DelegateRow). r.map) (λ (r : DelegateRow). r.key)
    (row_starts h p) new.table.delegates.rows old.table.delegates.rows sound.delegates.distinct
    (λ r c. (let from = carries.from_row c.0 r (slice_get-read new.table.delegates.rows c.0 r r c.1 c.2) in
    contains_at old.table.delegates.rows from.0 r from.1))

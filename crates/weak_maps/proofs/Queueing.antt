-- A list is added to a queue, and taken out.
use Rattle.std.proofs.Common.{◌≡◌, ◌⊎◌, ◌<◌, ◌≤◌, ◌+◌, ◌-◌, ◌++◌, ◌∷◌, [], inl, inr, ℕ, Bool, true, false, cond, List}
use Rattle.std.proofs.Common.{Some, None}
use Rattle.std.proofs.Common.{length, set, get_or, slice_get, Contains, refl, sym, ◌∙◌, ap, subst, arith, length-set}
use Rattle.std.proofs.Common.{length-append}
use Rattle.std.specs.List.{count_by}
use Rattle.std.proofs.lemmas.Bool.{false≢true, cases_eq}
use Rattle.std.proofs.lemmas.List.Elements.{Contains-append_left, Contains-append_right, Contains-append_cases}
use Rattle.std.proofs.lemmas.List.Sums.{sum_by-set, sum_by_push, count_by-le-length}
use Rattle.std.proofs.lemmas.Option.{slice_get_within, get_or_from_slice_get, slice_get_read, slice_get-get_or}
use Rattle.std.proofs.lemmas.Option.{none-some, same_Some}
use Rattle.weak_maps.specs.Queues.{IsQueue, IsDropped}
use Rattle.weak_maps.proofs.Reading.{slice_get-set_same, slice_get-set_other, slice_get-set_cases, slice_get-push_at}
use Rattle.weak_maps.proofs.Reading.{slice_get-push_before, slice_get-push_cases}

abbrev one : Bool → ℕ
one b = cond b 1 0

added : (waits : List Bool) (k : ℕ) → k < length waits → get_or waits k true ≡ false
    → count_by (λ b. b) (set waits k true) ≡ count_by (λ b. b) waits + 1
added waits k less free =
    let more : count_by (λ b. b) (set waits k true) + one (get_or waits k true) ≡ count_by (λ b. b) waits + 1 =
    sum_by-set one waits k true true less in
    let none : one (get_or waits k true) ≡ 0 = ap one free in
    omega (arith, more, none)

-- where a list doesn't wait, one more may
pub room_for : (waiting : List ℕ) (capacity : ℕ) (waits : List Bool) (k : ℕ) → IsQueue waiting capacity waits
    → k < length waits → get_or waits k true ≡ false → length waiting < capacity
room_for waiting capacity waits k queue less free =
    let more = added waits k less free in
    let most = count_by-le-length (λ b. b) (set waits k true) in
    let same = length-set waits k true in
    let count = queue.count in
    let held = queue.held in
    omega (arith, more, most, same, count, held)

waits_not : (waiting : List ℕ) (capacity : ℕ) (waits : List Bool) (i k : ℕ) → IsQueue waiting capacity waits
    → get_or waits k true ≡ false → slice_get waiting i ≡ Some k → ⊥
waits_not waiting capacity waits i k queue free at =
    false≢true (sym free ∙ get_or_from_slice_get waits k true true (queue.marked i k at))

pub Contains-push : (waiting : List ℕ) (k n : ℕ) → (Contains (waiting ++ k ∷ []) n → Contains waiting n ⊎ (n ≡ k))
    × (Contains waiting n ⊎ (n ≡ k) → Contains (waiting ++ k ∷ []) n)
Contains-push waiting k n = (of_new, to_new)
  where
    of_new : Contains (waiting ++ k ∷ []) n → Contains waiting n ⊎ (n ≡ k)
    of_new has = elim (Contains-append_cases waiting (k ∷ []) n has) [
      | inl before ↦ inl before
      | inr (i, less, is) ↦ inr (let first : i ≡ 0 = omega arith in
          sym (ap (λ j. get_or (k ∷ []) j n) (sym first) ∙ is))
    ]

    to_new : Contains waiting n ⊎ (n ≡ k) → Contains (waiting ++ k ∷ []) n
    to_new (inl before) = Contains-append_left waiting (k ∷ []) n before
    to_new (inr is) = Contains-append_right waiting (k ∷ []) n (0, omega arith, sym is)

pub IsQueue-added : (waiting : List ℕ) (capacity : ℕ) (waits : List Bool) (k : ℕ) → IsQueue waiting capacity waits
    → k < length waits → get_or waits k true ≡ false → IsQueue (waiting ++ k ∷ []) capacity (set waits k true)
IsQueue-added waiting capacity waits k queue less free = record {
  marked = λ i j at. elim (cases_eq j k) [
    | inl same ↦ ap (slice_get (set waits k true)) same ∙ slice_get-set_same waits k true less
    | inr other ↦ slice_get-set_other waits k j true other ∙ (elim (slice_get-push_cases waiting i k j at) [
      | inl (_, is) ↦ absurd (other is)
      | inr (_, before) ↦ queue.marked i j before
    ])
  ];
  there = λ j is. elim (slice_get-set_cases waits k j true true is) [
    | inl (same, _, _) ↦ (Contains-push waiting k j).1 (inr same)
    | inr (_, before) ↦ (Contains-push waiting k j).1 (inl (queue.there j before))
  ];
  once = λ i j n at too. elim (slice_get-push_cases waiting i k n at) [
    | inl (last, is) ↦ (elim (slice_get-push_cases waiting j k n too) [
      | inl (last_too, _) ↦ last ∙ sym last_too
      | inr (_, before) ↦ absurd (waits_not waiting capacity waits j k queue free (before ∙ ap (λ z. Some z) is))
    ])
    | inr (_, before) ↦ (elim (slice_get-push_cases waiting j k n too) [
      | inl (_, is) ↦ absurd (waits_not waiting capacity waits i k queue free (before ∙ ap (λ z. Some z) is))
      | inr (_, also) ↦ queue.once i j n before also
    ])
  ];
  count = (let more = added waits k less free in let longer = length-append waiting (k ∷ []) in let count =
      queue.count in omega (arith, more, longer, count));
  held = (let same = length-set waits k true in let held = queue.held in omega (arith, same, held));
}

-- the last one is taken out
pub IsQueue-dropped : (waiting rest : List ℕ) (capacity : ℕ) (waits : List Bool) (k : ℕ)
    → IsQueue waiting capacity waits → waiting ≡ rest ++ k ∷ [] → IsQueue rest capacity (set waits k false)
IsQueue-dropped waiting rest capacity waits k queue all =
    let before : (i n : ℕ) → slice_get rest i ≡ Some n → slice_get waiting i ≡ Some n =
    λ i n at. ap (λ (w : List ℕ). slice_get w i) all
    ∙ (slice_get-push_before rest i k (slice_get_within rest i n at) ∙ at) in
    let last : slice_get waiting (length rest) ≡ Some k = ap (λ (w : List ℕ). slice_get w (length rest)) all
    ∙ slice_get-push_at rest k in
    let mark = queue.marked (length rest) k last in
    let less = slice_get_within waits k true mark in
    record {
      marked = λ i j at. (slice_get-set_other waits k j false
          (λ same. (let again = queue.once i (length rest) k (before i j at ∙ ap (λ z. Some z) same) last in
          let within = slice_get_within rest i j at in omega (arith, again, within)))
          ∙ queue.marked i j (before i j at));
      there = λ j is. elim (slice_get-set_cases waits k j false true is) [
        | inl (_, differ, _) ↦ absurd (false≢true (sym differ))
        | inr (other, had) ↦
            (elim ((Contains-push rest k j).0 (subst (λ (w : List ℕ). Contains w j) all (queue.there j had))) [
              | inl here ↦ here
              | inr same ↦ absurd (other same)
            ])
      ];
      once = λ i j n at too. queue.once i j n (before i n at) (before j n too);
      count = (
          let fewer : count_by (λ b. b) (set waits k false) + one (get_or waits k false) ≡ count_by (λ b. b) waits + 0 =
          sum_by-set one waits k false false less in
          let was : one (get_or waits k false) ≡ 1 = ap one (get_or_from_slice_get waits k true false mark) in
          let len : length waiting ≡ length (rest ++ k ∷ []) = ap length all in
          let longer = length-append rest (k ∷ []) in
          let count = queue.count in
          omega (arith, fewer, was, len, longer, count));
      held = (let same = length-set waits k false in let held = queue.held in omega (arith, same, held));
    }

pub IsQueue-grown : (waiting : List ℕ) (capacity room : ℕ) (waits : List Bool) → IsQueue waiting capacity waits
    → length waits + 1 ≤ room → IsQueue waiting room (waits ++ false ∷ [])
IsQueue-grown waiting capacity room waits queue more = record {
  marked = λ i j at. (let before = queue.marked i j at in
      slice_get-push_before waits j false (slice_get_within waits j true before) ∙ before);
  there = λ j is. elim (slice_get-push_cases waits j false true is) [
    | inl (_, differ) ↦ absurd (false≢true (sym differ))
    | inr (_, before) ↦ queue.there j before
  ];
  once = queue.once;
  count = queue.count ∙ sym (let pushed : count_by (λ b. b) (waits ++ false ∷ []) ≡ count_by (λ b. b) waits + 0 =
      sum_by_push one waits false in omega (arith, pushed));
  held = (let longer = length-append waits (false ∷ []) in omega (arith, longer));
}

pub fewer_wait : (waiting : List ℕ) (capacity : ℕ) (waits : List Bool) → IsQueue waiting capacity waits
    → length waiting ≤ length waits
fewer_wait waiting capacity waits queue =
    let most = count_by-le-length (λ b. b) waits in
    let count = queue.count in
    omega (arith, most, count)

-- what an index read
pub read_as : {X : Type 0} (xs : List X) (i : ℕ) (x y : X) → i < length xs → x ≡ get_or xs i x → x ≡ y
    → slice_get xs i ≡ Some y
read_as xs i x y less is same = slice_get_read xs (length xs) i x refl less is ∙ ap (λ z. Some z) same

pub is_free : (waits : List Bool) (i : ℕ) (x : Bool) → i < length waits → x ≡ get_or waits i x → x ≡ false
    → get_or waits i true ≡ false
is_free waits i x less is free = get_or_from_slice_get waits i false true (read_as waits i x false less is free)

-- the last one
pub contains_last : (waiting : List ℕ) (k : ℕ) → slice_get waiting (length waiting - 1) ≡ Some k → Contains waiting k
contains_last waiting k is = (
  length waiting - 1,
  slice_get_within waiting (length waiting - 1) k is,
  get_or_from_slice_get waiting (length waiting - 1) k k is,
)

-- there is none
pub none_contains : (waiting : List ℕ) (k : ℕ) → slice_get waiting (length waiting - 1) ≡ None → Contains waiting k → ⊥
none_contains waiting k is (i, less, _) =
    none-some _ (sym is ∙ slice_get-get_or waiting (length waiting - 1) k (omega (arith, less)))

-- the last one is taken out
pub dropped_last : (waiting rest : List ℕ) (k was now : ℕ) → waiting ≡ rest ++ k ∷ [] → now ≡ was → (list : ℕ)
    → slice_get waiting (length waiting - 1) ≡ Some list
    → IsDropped (record { waiting = waiting; room = was }) list (record { waiting = rest; room = now })
dropped_last waiting rest k was now all same list at =
    let long : length waiting ≡ length (rest ++ k ∷ []) = ap length all in
    let more = length-append rest (k ∷ []) in
    let index : length rest ≡ length waiting - 1 = omega (arith, long, more) in
    let is : k ≡ list = same_Some _ _ (sym (slice_get-push_at rest k)
    ∙ (ap (λ (w : List ℕ). slice_get w (length rest)) (sym all) ∙ (ap (slice_get waiting) index ∙ at))) in
    record {
      those = λ n. rw (← is, all) (Contains-push rest k n);
      fewer = omega (arith, long, more);
      room = same;
    }

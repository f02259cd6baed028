-- Where a new cell goes.
use Rattle.std.proofs.Common.{◌≡◌, ◌≢◌, ◌<◌, ◌≤◌, ◌+◌, ◌*◌, ◌/◌, ◌%◌, ◌^◌, ◌==◌, ◌&&◌, inl, inr, ℕ, zero, suc, Bool}
use Rattle.std.proofs.Common.{true, false, not, if◌then◌else◌, IsSomeAnd, SomeIff, List, [], ◌∷◌, length, replicate}
use Rattle.std.proofs.Common.{Option, Some, None, slice_get, is_some, pow-suc, eqb-true, refl, sym, ◌∙◌, ap, arith, w64}
use Rattle.std.proofs.lemmas.Bool.{false≢true, true≢false, cases_eq, cases_lt, and_parts}
use Rattle.std.proofs.lemmas.List.Elements.{All-nil}
use Rattle.std.proofs.lemmas.Nat.Bits.{bit_at_lowest, bit_at-suc, bit_at-zero, bit_at-trailing_ones}
use Rattle.std.specs.Int.{bit_at, trailing_ones}
use Rattle.std.specs.Option.{option_and_then}
use Rattle.gz_names.specs.declared.numbers.Place.{Place}
use Rattle.arena_table.specs.Cells.{CellState}
use Rattle.arena_table.specs.Sets.{arena_bit}
use Rattle.arena_table.specs.Slots.{Arena, cell_in, cell_at, alloc_word_of, has_free, first_free, bit_of, is_out_at}
use Rattle.arena_table.specs.Stored.{IsHeadOf}
use Rattle.arena_table.specs.declared.store.Head.{Head}
use Rattle.arena_table.specs.Indexed.{IndexState, IsIndexed, words_at, is_open}
use Rattle.arena_table.specs.Placement.{place_from, place_for}

-- the bit of a slot in the word of the slots
pub bit_at-alloc_word : (slots : List (Option CellState)) (k : ℕ)
    → bit_at (alloc_word_of slots) k ≡ bit_of (is_some (cell_in slots k))
bit_at-alloc_word [] k = bit_at-zero k
bit_at-alloc_word (None ∷ slots) zero = bit_at_lowest (0 + 2 * alloc_word_of slots) ∙ omega arith
bit_at-alloc_word (Some cell ∷ slots) zero = bit_at_lowest (1 + 2 * alloc_word_of slots) ∙ omega arith
bit_at-alloc_word (None ∷ slots) (suc k) = bit_at-suc (0 + 2 * alloc_word_of slots) k
    ∙ (ap (λ w. bit_at w k) (let half : (0 + 2 * alloc_word_of slots) / 2 ≡ alloc_word_of slots = omega arith in half)
    ∙ bit_at-alloc_word slots k)
bit_at-alloc_word (Some cell ∷ slots) (suc k) = bit_at-suc (1 + 2 * alloc_word_of slots) k
    ∙ (ap (λ w. bit_at w k) (let half : (1 + 2 * alloc_word_of slots) / 2 ≡ alloc_word_of slots = omega arith in half)
    ∙ bit_at-alloc_word slots k)

-- the word of this number of slots
pub alloc_word_of-fits : (slots : List (Option CellState)) → alloc_word_of slots < 2 ^ length slots
alloc_word_of-fits [] = omega arith
alloc_word_of-fits (None ∷ slots) =
    (let twice : 2 ^ suc (length slots) ≡ 2 ^ length slots * 2 = pow-suc 2 (length slots) in let rest =
    alloc_word_of-fits slots in omega arith)
alloc_word_of-fits (Some cell ∷ slots) =
    (let twice : 2 ^ suc (length slots) ≡ 2 ^ length slots * 2 = pow-suc 2 (length slots) in let rest =
    alloc_word_of-fits slots in omega arith)

-- a word that is not full has a free slot, and the other way round
pub alloc_word_of-free : (slots : List (Option CellState)) → has_free slots ≡ true
    → alloc_word_of slots + 1 < 2 ^ length slots
alloc_word_of-free [] h = absurd (false≢true h)
alloc_word_of-free (None ∷ slots) h =
    (let twice : 2 ^ suc (length slots) ≡ 2 ^ length slots * 2 = pow-suc 2 (length slots) in let rest =
    alloc_word_of-fits slots in omega arith)
alloc_word_of-free (Some cell ∷ slots) h =
    (let twice : 2 ^ suc (length slots) ≡ 2 ^ length slots * 2 = pow-suc 2 (length slots) in let rest =
    alloc_word_of-free slots h in omega arith)

pub alloc_word_of-full : (slots : List (Option CellState)) → has_free slots ≡ false
    → alloc_word_of slots + 1 ≡ 2 ^ length slots
alloc_word_of-full [] h = refl
alloc_word_of-full (None ∷ slots) h = absurd (true≢false h)
alloc_word_of-full (Some cell ∷ slots) h =
    (let twice : 2 ^ suc (length slots) ≡ 2 ^ length slots * 2 = pow-suc 2 (length slots) in let rest =
    alloc_word_of-full slots h in omega arith)

pub has_free-word : (slots : List (Option CellState)) (w : ℕ) → length slots ≡ 64 → alloc_word_of slots ≡ w
    → w ≢ 18446744073709551615 → has_free slots ≡ true
has_free-word slots w long e n = by (has_free slots) refl
  where
    by : (b : Bool) → has_free slots ≡ b → b ≡ true
    by true f = refl
    by false f = absurd (n (let full = alloc_word_of-full slots f in let all : 2 ^ length slots ≡ 18446744073709551616 =
        ap (λ k. 2 ^ k) long in omega arith))

pub has_free-full : (slots : List (Option CellState)) (w : ℕ) → length slots ≡ 64 → alloc_word_of slots ≡ w
    → w ≡ 18446744073709551615 → has_free slots ≡ false
has_free-full slots w long e n = by (has_free slots) refl
  where
    by : (b : Bool) → has_free slots ≡ b → b ≡ false
    by false f = refl
    by true f = absurd (let free = alloc_word_of-free slots f in let all : 2 ^ length slots ≡ 18446744073709551616 =
        ap (λ k. 2 ^ k) long in omega arith)

-- the lowest free slot is free, and those below it are not
first_free-below : (slots : List (Option CellState)) (k : ℕ) → k < first_free slots
    → bit_of (is_some (cell_in slots k)) ≡ 1
first_free-below [] k lt = absurd (omega arith)
first_free-below (None ∷ slots) k lt = absurd (omega arith)
first_free-below (Some cell ∷ slots) zero lt = refl
first_free-below (Some cell ∷ slots) (suc k) lt = first_free-below slots k (omega arith)

pub first_free-none : (slots : List (Option CellState)) → cell_in slots (first_free slots) ≡ None
first_free-none [] = refl
first_free-none (None ∷ slots) = refl
first_free-none (Some cell ∷ slots) = first_free-none slots

-- it is told by the word of the slots
pub first_free-word : (slots : List (Option CellState)) → length slots ≡ 64 → has_free slots ≡ true
    → (trailing_ones w64 (alloc_word_of slots) ≡ first_free slots) × (first_free slots < 64)
first_free-word slots long free =
    let all : 2 ^ length slots ≡ 18446744073709551616 = ap (λ k. 2 ^ k) long in
    let few = alloc_word_of-free slots free in
    let w = alloc_word_of slots in
    let below : w + 1 < 2 ^ 64 = omega arith in
    let ones = bit_at-trailing_ones w64 w below in
    let t = trailing_ones w64 w in
    let f = first_free slots in
    let clear : bit_at w f ≡ 0 = bit_at-alloc_word slots f ∙ ap (λ o. bit_of (is_some o)) (first_free-none slots) in
    let within : t < 64 = ones.0 in
    let here : bit_at w t ≡ 0 = ones.1 in
    elim (cases_eq t f) [
      | inl e ↦ (e, (let same : t ≡ f = e in omega arith))
      | inr n ↦ (elim (cases_lt t f) [
        | inl lt ↦ absurd (let one : bit_at w t ≡ 1 = bit_at-alloc_word slots t ∙ first_free-below slots t lt in
            omega arith)
        | inr le ↦ absurd (let one : bit_at w f ≡ 1 = ones.2 f (omega arith) in omega arith)
      ])
    ]

abbrev free-of : Option Arena → ℕ
free-of None = 0
free-of (Some z) = first_free z.slots

place-first : (n a b : ℕ) (c : Bool) (p : Place) → c ≡ true → n ≡ b → (if c then (n, a) else p) ≡ (b, a)
place-first n a b c p e f = ap (λ t. if t then (n, a) else p) e ∙ ap (λ k. (k, a)) f

place-later : (n a : ℕ) (c : Bool) (p q : Place) → c ≡ false → p ≡ q → (if c then (n, a) else p) ≡ q
place-later n a c p q e f = ap (λ t. if t then (n, a) else p) e ∙ f

-- which arena takes a cell
pub place_from-open : (n a : ℕ) (xs : List Arena) (zone : ℕ) (x : Arena) → slice_get xs a ≡ Some x
    → is_open zone (Some x) ≡ true → ((b : ℕ) → b < a → is_open zone (slice_get xs b) ≡ false)
    → place_from n xs zone ≡ (n + a, first_free x.slots)
place_from-open n a [] zone x e takes below = absurd (cc)
place_from-open n zero (y ∷ xs) zone x e takes below =
    place-first n (first_free y.slots) (n + 0) (is_open zone (Some y)) (place_from (suc n) xs zone)
    (ap (is_open zone) e ∙ takes) (omega arith) ∙ ap (λ (o : Option Arena). (n + 0, free-of o)) e
place_from-open n (suc a) (y ∷ xs) zone x e takes below =
    place-later n (first_free y.slots) (is_open zone (Some y)) (place_from (suc n) xs zone)
    (n + suc a, first_free x.slots) (below 0 (omega arith))
    (place_from-open (suc n) a xs zone x e takes (λ b lt. below (suc b) (omega arith))
    ∙ ap (λ k. (k, first_free x.slots)) (let same : suc n + a ≡ n + suc a = omega arith in same))

pub place_from-none : (n : ℕ) (xs : List Arena) (zone : ℕ) → ((b : ℕ) → is_open zone (slice_get xs b) ≡ false)
    → place_from n xs zone ≡ (n + length xs, 0)
place_from-none n [] zone h = ap (λ k. (k, 0)) (let same : n ≡ n + 0 = omega arith in same)
place_from-none n (x ∷ xs) zone h =
    place-later n (first_free x.slots) (is_open zone (Some x)) (place_from (suc n) xs zone) (n + suc (length xs), 0)
    (h 0) (place_from-none (suc n) xs zone (λ b. h (suc b))
    ∙ ap (λ k. (k, 0)) (let same : suc n + length xs ≡ n + suc (length xs) = omega arith in same))

-- whatever place it is, it is free
place_from-free : (n : ℕ) (xs : List Arena) (zone : ℕ) → (k s : ℕ) × (place_from n xs zone ≡ (n + k, s))
    × (option_and_then (λ (x : Arena). cell_in x.slots s) (slice_get xs k) ≡ None)
place_from-free n [] zone = (0, 0, ap (λ k. (k, 0)) (let same : n ≡ n + 0 = omega arith in same), refl)
place_from-free n (x ∷ xs) zone = by (is_open zone (Some x)) refl (place_from-free (suc n) xs zone)
  where
    by : (b : Bool) → is_open zone (Some x) ≡ b → (k s : ℕ) × (place_from (suc n) xs zone ≡ (suc n + k, s))
        × (option_and_then (λ (x : Arena). cell_in x.slots s) (slice_get xs k) ≡ None)
        → (k s : ℕ) × (place_from n (x ∷ xs) zone ≡ (n + k, s))
        × (option_and_then (λ (x : Arena). cell_in x.slots s) (slice_get (x ∷ xs) k) ≡ None)
    by true e h = (
      0,
      first_free x.slots,
      place-first n (first_free x.slots) (n + 0) (is_open zone (Some x)) (place_from (suc n) xs zone) e (omega arith),
      first_free-none x.slots,
    )
    by false e (k, s, p, q) = (
      suc k,
      s,
      place-later n (first_free x.slots) (is_open zone (Some x)) (place_from (suc n) xs zone)
          (n + suc k, s) e (p ∙ ap (λ k. (k, s)) (let same : suc n + k ≡ n + suc k = omega arith in same)),
      q,
    )

pub place_for-free : (xs : List Arena) (zone : ℕ) → cell_at xs (place_for xs zone) ≡ None
place_for-free xs zone = by (place_from-free 0 xs zone)
  where
    by : (k s : ℕ) × (place_from 0 xs zone ≡ (0 + k, s))
        × (option_and_then (λ (x : Arena). cell_in x.slots s) (slice_get xs k) ≡ None)
        → cell_at xs (place_for xs zone) ≡ None
    by (k, s, p, q) = ap (cell_at xs) p
        ∙ (ap (λ i. option_and_then (λ (x : Arena). cell_in x.slots s) (slice_get xs i))
        (let same : 0 + k ≡ k = omega arith in same) ∙ q)

-- an arena of which the index says that it takes cells
pub open-yes : (arenas : List Arena) (index : IndexState) (zone a : ℕ) → IsIndexed arenas index → zone < 64
    → arena_bit (words_at index.open_ zone) a ≡ 1 → is_open zone (slice_get arenas a) ≡ true
open-yes arenas index zone a h lt one = by (is_open zone (slice_get arenas a)) (sym (h.open_ zone a lt) ∙ one)
  where
    by : (b : Bool) → bit_of b ≡ 1 → b ≡ true
    by true e = refl
    by false e = absurd (omega arith)

pub open-no : (arenas : List Arena) (index : IndexState) (zone a : ℕ) → IsIndexed arenas index → zone < 64
    → arena_bit (words_at index.open_ zone) a ≡ 0 → is_open zone (slice_get arenas a) ≡ false
open-no arenas index zone a h lt none = by (is_open zone (slice_get arenas a)) (sym (h.open_ zone a lt) ∙ none)
  where
    by : (b : Bool) → bit_of b ≡ 0 → b ≡ false
    by false e = refl
    by true e = absurd (omega arith)

pub open-within : (arenas : List Arena) (zone a : ℕ) → is_open zone (slice_get arenas a) ≡ true → a < length arenas
open-within [] zone a e = absurd (false≢true e)
open-within (x ∷ xs) zone zero e = omega arith
open-within (x ∷ xs) zone (suc a) e = (let rest = open-within xs zone a e in omega arith)

abbrev is_free : Option Arena → Bool
is_free None = false
is_free (Some x) = has_free x.slots

-- what it says of itself
pub open-parts : (zone : ℕ) (x : Arena) → is_open zone (Some x) ≡ true → (x.zone ≡ zone) × (x.is_out ≡ false)
    × (has_free x.slots ≡ true)
open-parts zone x e =
    let p = and_parts (x.zone == zone) (not x.is_out && has_free x.slots) e in
    let q = and_parts (not x.is_out) (has_free x.slots) p.1 in
    (eqb-true _ _ p.0, by x.is_out q.0, q.1)
  where
    by : (b : Bool) → not b ≡ true → b ≡ false
    by false f = refl
    by true f = absurd (false≢true f)

pub place_for-none : (arenas : List Arena) (index : IndexState) (zone : ℕ) → IsIndexed arenas index → zone < 64
    → ((b : ℕ) → arena_bit (words_at index.open_ zone) b ≡ 0) → place_for arenas zone ≡ (length arenas, 0)
place_for-none arenas index zone h lt none =
    place_from-none 0 arenas zone (λ b. open-no arenas index zone b h lt (none b))
    ∙ ap (λ k. (k, 0)) (let same : 0 + length arenas ≡ length arenas = omega arith in same)

-- both together: the place that was found, and that its arena takes cells
pub found-place : (arenas : List Arena) (index : IndexState) (zone a ones : ℕ) (h : Head) (found : Option Place)
    → IsIndexed arenas index → zone < 64 → arena_bit (words_at index.open_ zone) a ≡ 1
    → ((b : ℕ) → b < a → arena_bit (words_at index.open_ zone) b ≡ 0)
    → IsSomeAnd (slice_get arenas a) (λ x. IsHeadOf x h) → ones ≡ trailing_ones w64 h.alloc_word
    → SomeIff found (ones < 64) (a, ones) → (p : Place) × (found ≡ Some p) × (p ≡ place_for arenas zone)
    × (is_open zone (slice_get arenas p.0) ≡ true)
found-place arenas index zone a ones h found indexed lt one below head count some = by (slice_get arenas a) refl head
  where
    takes : is_open zone (slice_get arenas a) ≡ true
    takes = open-yes arenas index zone a indexed lt one

    by : (o : Option Arena) → slice_get arenas a ≡ o → IsSomeAnd o (λ x. IsHeadOf x h) → (p : Place) × (found ≡ Some p)
        × (p ≡ place_for arenas zone) × (is_open zone (slice_get arenas p.0) ≡ true)
    by None e none = absurd none
    by (Some x) e is =
        let parts = open-parts zone x (ap (is_open zone) (sym e) ∙ takes) in
        let word = first_free-word x.slots is.whole parts.2 in
        let slot : ones ≡ first_free x.slots = count ∙ (ap (trailing_ones w64) (sym is.alloc_word) ∙ word.0) in
        let place : place_for arenas zone ≡ (0 + a, first_free x.slots) =
        place_from-open 0 a arenas zone x e (ap (is_open zone) (sym e) ∙ takes)
        (λ b less. open-no arenas index zone b indexed lt (below b less)) in (
          (a, ones),
          got found some (let w = word.1 in omega arith),
          ap (λ s. (a, s)) slot
              ∙ (ap (λ k. (k, first_free x.slots)) (let same : a ≡ 0 + a = omega arith in same) ∙ sym place),
          takes,
        )
      where
        got : (o : Option Place) → SomeIff o (ones < 64) (a, ones) → ones < 64 → o ≡ Some (a, ones)
        got None n within = absurd (n within)
        got (Some p) (w, q) within = ap (λ (r : Place). Some r) q

-- no arenas
pub IsIndexed-none : (arenas : List Arena) (index : IndexState) → arenas ≡ []
    → index ≡ record { owned = replicate 64 []; open_ = replicate 64 [] } → IsIndexed arenas index
IsIndexed-none arenas index e f = rw e (rw f (record {
  owned = record {
    zones = All-nil (λ (arena : Arena). arena.zone ≤ 64);
    bits = λ z a lt. no-bit z a;
  };
  open_ = λ z a lt. no-bit z a;
  covered = λ z a lt h. absurd (false≢true h);
}))
  where
    no-words : (n z : ℕ) → words_at (replicate n []) z ≡ []
    no-words zero z = refl
    no-words (suc n) zero = refl
    no-words (suc n) (suc z) = no-words n z

    no-bit : (z a : ℕ) → arena_bit (words_at (replicate 64 []) z) a ≡ 0
    no-bit z a = ap (λ ws. arena_bit ws a) (no-words 64 z) ∙ bit_at-zero (a % 64)

-- what a head says of its arena
pub bits-of_head : (arenas : List Arena) (a : ℕ) (h : Head) → IsSomeAnd (slice_get arenas a) (λ x. IsHeadOf x h)
    → (slot : ℕ) → bit_at h.alloc_word slot ≡ bit_of (is_some (cell_at arenas (a, slot)))
bits-of_head arenas a h head slot = by (slice_get arenas a) head
  where
    by : (o : Option Arena) → IsSomeAnd o (λ x. IsHeadOf x h)
        → bit_at h.alloc_word slot ≡ bit_of (is_some (option_and_then (λ (x : Arena). cell_in x.slots slot) o))
    by None none = absurd none
    by (Some x) is = ap (λ w. bit_at w slot) (sym is.alloc_word) ∙ bit_at-alloc_word x.slots slot

pub out-of_head : (arenas : List Arena) (a : ℕ) (h : Head) → IsSomeAnd (slice_get arenas a) (λ x. IsHeadOf x h)
    → h.is_out ≡ is_out_at arenas a
out-of_head [] a h head = absurd head
out-of_head (x ∷ xs) zero h head = sym head.is_out
out-of_head (x ∷ xs) (suc a) h head = out-of_head xs a h head

pub out-past : (arenas : List Arena) (a : ℕ) → length arenas ≤ a → false ≡ is_out_at arenas a
out-past [] a le = refl
out-past (x ∷ xs) zero le = absurd (omega arith)
out-past (x ∷ xs) (suc a) le = out-past xs a (omega arith)

-- The gray slots of an arena, by a word of bits.
use Rattle.std.proofs.Common.{◌≡◌, ◌↔◌, ◌<◌, ◌≤◌, ◌+◌, ◌-◌, ◌^◌, ◌++◌, ℕ, zero, suc, Bool, true, false, List}
use Rattle.std.proofs.Common.{[], ◌∷◌, length, Option, Some, None, slice_get, min, refl, sym, ap}
use Rattle.std.proofs.Common.{◌∙◌, inl, inr, arith, bit_and, w64}
use Rattle.std.proofs.lemmas.Bool.{cases_eq}
use Rattle.std.proofs.lemmas.Grind.{common_steps}
use Rattle.std.proofs.lemmas.List.{append-nil}
use Rattle.std.proofs.lemmas.Nat.Bits.{bit_at-lt, bit_at-zero, bit_at_and, bit_at_not, bit_at-trailing_zeros}
use Rattle.std.proofs.lemmas.Option.{slice_get_within}
use Rattle.std.specs.Prelude.{if◌then◌else◌}
use Rattle.std.specs.Int.{bit_at, bit_not, trailing_zeros}
use Rattle.std.specs.Option.{option_map}
use Rattle.gz_names.specs.declared.names.Name.{Name}
use Rattle.cell_bits.specs.declared.bits.Bits.{Bits}
use Rattle.cell_bits.specs.declared.bits.Colour.{Colour}
use Rattle.cell_bits.specs.declared.bits.Colour.TheVariants as colour
use Rattle.cell_bits.specs.Colours as bits
use Rattle.arena_table.proofs.LowestBit.{bit_at-rest}
use Rattle.arena_table.proofs.WordBits.{if_same, if_other}
use Rattle.heap_core.specs.Shape.{ArenaShape, is_owned_in, name_at}
use Rattle.heap_core.specs.Heap.{HeapState, colour_in, colour_of, flown_or, joined}
use Rattle.barriers.specs.Colours.{IsGray}
use Rattle.barriers.proofs.Flying.{flown_get}
use Rattle.slice_driver.specs.Grays.{gray_name, grays_below, grays_up_to, is_gray_colour, names_in}
use Rattle.slice_driver.proofs.group_end.Grays.{gray_pushed}
use Rattle.slice_driver.proofs.group_end.GraysHere.{grays_passed}

-- an arena that is not in flight has its own bits
own_bits : (h : HeapState) (flown : ℕ → Option Bits) (a : ℕ) → flown a ≡ None
    → slice_get (joined h flown).colours a ≡ slice_get h.colours a
own_bits h flown a none = flown_get flown h.colours a 0 a (omega arith)
    ∙ (ap (λ (o : Option Bits). option_map (flown_or o) (slice_get h.colours a)) none ∙ same (slice_get h.colours a))
  where
    same : (o : Option Bits) → option_map (flown_or None) o ≡ o
    same None = refl
    same (Some b) = refl

pub own_colour : (h : HeapState) (flown : ℕ → Option Bits) (a slot : ℕ) → flown a ≡ None
    → colour_of (joined h flown) (a, slot) ≡ colour_of h (a, slot)
own_colour h flown a slot none = ap (λ (o : Option Bits). colour_in o slot) (own_bits h flown a none)

pub own_grays : (h : HeapState) (flown : ℕ → Option Bits) (a n : ℕ) → flown a ≡ None
    → grays_below (joined h flown) a n ≡ grays_below h a n
own_grays h flown a zero none = refl
own_grays h flown a (suc n) none = ap (λ (xs : List Name). xs ++ gray_name (joined h flown) (a, n))
    (own_grays h flown a n none) ∙ ap (λ (c : Colour). grays_below h a n ++
    (if is_gray_colour c then names_in (name_at h.shape (a, n)) else [])) (own_colour h flown a n none)

-- the slots of a word that are left, all of its slots below a number being done
pub record IsLeft (mask left n : ℕ) : Type 0 where
  pub within : n ≤ 64
  pub done : (k : ℕ) → k < n → bit_at left k ≡ 0
  pub same : (k : ℕ) → n ≤ k → bit_at left k ≡ bit_at mask k

-- the lowest of them
pub record IsNextSlot (mask left n : ℕ) : Type 0 where
  pub on : n ≤ trailing_zeros w64 left
  pub below : trailing_zeros w64 left < 64
  pub set : bit_at mask (trailing_zeros w64 left) ≡ 1
  pub between : (k : ℕ) → n ≤ k → k < trailing_zeros w64 left → bit_at mask k ≡ 0
  pub rest : IsLeft mask (bit_and left (left - 1)) (trailing_zeros w64 left + 1)

pub next_slot : (mask left n : ℕ) → IsLeft mask left n → 0 < left → left < 2 ^ 64 → IsNextSlot mask left n
next_slot mask left n h some fits =
    let t = bit_at-trailing_zeros w64 left some fits in
    let on : n ≤ trailing_zeros w64 left = elim (Rattle.std.proofs.lemmas.Bool.cases_lt (trailing_zeros w64 left) n) [
      | inl lt ↦ absurd (let none = h.done (trailing_zeros w64 left) lt in let one = t.1 in omega arith)
      | inr ge ↦ omega (arith, ge)
    ] in
    record {
      on = on;
      below = t.0;
      set = sym (h.same (trailing_zeros w64 left) on) ∙ t.1;
      between = λ k ge lt. sym (h.same k ge) ∙ t.2 k lt;
      rest = record {
        within = (let below : trailing_zeros w64 left < 64 = t.0 in omega arith);
        done = λ k lt. bit_at-rest left k some fits ∙ (elim (cases_eq k (trailing_zeros w64 left)) [
          | inl e ↦ if_same k (trailing_zeros w64 left) 0 (bit_at left k) e
          | inr ne ↦ (if_other k (trailing_zeros w64 left) 0 (bit_at left k) ne ∙ t.2 k (omega (arith, lt, ne)))
        ]);
        same = λ k ge. bit_at-rest left k some fits ∙ (if_other k (trailing_zeros w64 left) 0 (bit_at left k)
            (λ e. omega (arith, ge, e)) ∙ h.same k (omega (arith, ge, on)));
      };
    }

-- the word of the gray slots
pub gray_bit : (b : Bits) (k : ℕ) → b.black < 2 ^ 64 → k < 64
    → (bit_at (bit_and b.gob (bit_not w64 b.black)) k ≡ 1) ↔ (bits.colour_of b k ≡ colour.Gray)
gray_bit b k fits lt =
    let is : bit_at (bit_and b.gob (bit_not w64 b.black)) k ≡ min (bit_at b.gob k)
    (1 - bit_at b.black k) = bit_at_and b.gob (bit_not w64 b.black) k
    ∙ ap (min (bit_at b.gob k)) (bit_at_not w64 b.black k fits lt) in
    let x = bit_at-lt b.gob k in
    let y = bit_at-lt b.black k in
    grind (arith, common_steps)

module _ (h : HeapState) (a word : ℕ) (both : (k : ℕ) → k < 64 → (bit_at word k ≡ 1) ↔ IsGray h (a, k)) where
  not_gray : (k : ℕ) → k < 64 → bit_at word k ≡ 0 → gray_name h (a, k) ≡ []
  not_gray k lt none = by (colour_of h (a, k)) refl
    where
      by : (c : Colour) → colour_of h (a, k) ≡ c → (if is_gray_colour c then names_in (name_at h.shape (a, k)) else [])
          ≡ []
      by colour.White e = refl
      by colour.Black e = refl
      by colour.Gray e = absurd (let one = (both k lt).1 e in omega (arith, none, one))

  -- slots that are not gray add no name
  grays_skipped : (d n m : ℕ) → n + d ≡ m → m ≤ 64 → ((k : ℕ) → n ≤ k → k < m → bit_at word k ≡ 0)
      → grays_below h a m ≡ grays_below h a n
  grays_skipped zero n m e le none = ap (grays_below h a) (let same : m ≡ n = omega arith in same)
  grays_skipped (suc d) n m e le none = grays_skipped d (suc n) m (omega arith) le
      (λ k ge lt. none k (omega (arith, ge)) lt) ∙ (ap (λ (xs : List Name). grays_below h a n ++ xs)
      (not_gray n (omega (arith, le, e)) (none n (omega arith) (omega (arith, e)))) ∙ append-nil (grays_below h a n))

  -- one gray slot more
  pub gray_more : (before now old : List Name) (left n : ℕ) (x : Name) → IsLeft word left n → 0 < left → left < 2 ^ 64
      → before ≡ old ++ grays_below h a n → name_at h.shape (a, trailing_zeros w64 left) ≡ Some x
      → now ≡ before ++ x ∷ [] → now ≡ old ++ grays_below h a (trailing_zeros w64 left + 1)
  gray_more before now old left n x l some fits64 so_far named more =
      let s = next_slot word left n l some fits64 in
      let t = trailing_zeros w64 left in
      let gray = (both (trailing_zeros w64 left) s.below).0 s.set in
      let skipped = grays_skipped (trailing_zeros w64 left - n) n (trailing_zeros w64 left)
      (let on = s.on in omega arith) (let below = s.below in omega arith) s.between in
      let next : suc (trailing_zeros w64 left) ≡ trailing_zeros w64 left + 1 = omega arith in
      more ∙ (ap (λ (xs : List Name). xs ++ x ∷ []) so_far ∙ (Rattle.std.proofs.Common.append_assoc old
      (grays_below h a n) (x ∷ []) ∙ (ap (λ (xs : List Name). old ++ (xs ++ x ∷ [])) (sym skipped)
      ∙ (ap (λ (xs : List Name). old ++ (grays_below h a (trailing_zeros w64 left) ++ xs))
      (sym (gray_pushed h (a, trailing_zeros w64 left) x gray named)) ∙ ap (λ m. old ++ grays_below h a m) next))))

  -- no slot is left
  pub grays_done : (names old : List Name) (left n : ℕ) → IsLeft word left n → left ≡ 0
      → names ≡ old ++ grays_below h a n → names ≡ old ++ grays_below h a 64
  grays_done names old left n l none so_far = so_far ∙ ap (λ (xs : List Name). old ++ xs)
      (sym (grays_skipped (64 - n) n 64 (let le = l.within in omega arith) (omega arith) (λ k ge lt. sym (l.same k ge)
      ∙ (ap (λ w. bit_at w k) none ∙ bit_at-zero k))))

-- arenas that fail the test add no name
pub arenas_skipped : (h : HeapState) (test : ℕ → Bool) (d n m : ℕ) → n + d ≡ m
    → ((k : ℕ) → n ≤ k → k < m → test k ≡ false) → grays_up_to h test n ≡ grays_up_to h test m
arenas_skipped h test zero n m e none = ap (grays_up_to h test) (let same : n ≡ m = omega arith in same)
arenas_skipped h test (suc d) n m e none = grays_passed h test n (grays_up_to h test n) refl
    (none n (omega arith) (omega (arith, e))) ∙ arenas_skipped h test d (n + 1) m (omega arith)
    (λ k ge lt. none k (omega (arith, ge)) lt)

-- an arena of these zones was made
pub owned_made : (arenas : List ArenaShape) (word a : ℕ) → is_owned_in word (slice_get arenas a) ≡ true
    → a < length arenas
owned_made arenas word a e = go (slice_get arenas a) refl e
  where
    go : (o : Option ArenaShape) → slice_get arenas a ≡ o → is_owned_in word o ≡ true → a < length arenas
    go None f e = absurd (cc e)
    go (Some arena) f e = slice_get_within arenas a arena f

-- Cells of marking zones turn black, one after another, and each is pending in black.
use Rattle.std.proofs.Common.{◌≡◌, ◌≢◌, ◌⊎◌, ◌+◌, ◌<◌, ◌≤◌, ◌^◌, ℕ, max, Bool, true, List, [], ◌∷◌, ◌++◌}
use Rattle.std.proofs.Common.{Some, inl, inr, refl, sym, ap, ◌∙◌, subst, arith, length, Contains, zero, suc, bit_or}
use Rattle.std.proofs.Common.{length-set, slice_get, slice_set, if◌then◌else◌}
use Rattle.std.specs.Int.{bit_at}
use Rattle.std.proofs.lemmas.Bool.Decides.{eqb_tells}
use Rattle.std.proofs.lemmas.List.{ext_get_or, get_or-set_other, get_or-set_same}
use Rattle.std.proofs.lemmas.List.Sorted.{IsPermutation-refl}
use Rattle.std.proofs.lemmas.Nat.Bits.{bit_at-lt, bit_at-pow_other, bit_at-pow_same, bit_at_or, same_from_bits}
use Rattle.std.proofs.lemmas.Option.{slice_get-get_or}
use Rattle.gz_names.specs.declared.numbers.Place.{Place}
use Rattle.cell_bits.specs.declared.bits.Bits.{Bits}
use Rattle.mark_stack.specs.Stack.{IsPushed, Piles, pile_of}
use Rattle.mark_stack.specs.declared.stack.Pile.{Pile}
use Rattle.mark_stack.specs.declared.stack.Pile.TheVariants as pile
use Rattle.mark_words.specs.Sums.{only, times}
use Rattle.mark_words.proofs.Counts.{only-arena, only-same, only-slot}
use Rattle.heap_core.specs.Shape.{IsPresent, is_marking}
use Rattle.heap_core.specs.Heap.{HeapState}
use Rattle.heap_core.specs.MarkBits.{SetsBlack}
use Rattle.heap_core.proofs.Places.{present_within}
use Rattle.barriers.specs.Invariant.{InvariantWhile}
use Rattle.barriers.specs.Spreading.{Blackened, Grows, Turns}
use Rattle.barriers.proofs.Blackening.{turned_black}
use Rattle.barriers.proofs.Spreading.{grows_more, grows_none}
use Rattle.barriers.proofs.Turning.{turn_effect}
use Rattle.mark_ahead.specs.Ahead.{bits_in, black_bit}
use Rattle.mark_ahead.proofs.BlackBits.{black_is_bit}

-- the bits of an arena with the black bit of a slot
abbrev pub with_black : Bits → ℕ → Bits
with_black b slot = record b { black = bit_or b.black (2 ^ slot) }

max_one : (n m : ℕ) → n < 2 → m ≡ 1 → max n m ≡ 1
max_one n m few e = omega arith

max_none : (n m : ℕ) → m ≡ 0 → max n m ≡ n
max_none n m e = omega arith

set_at : (w slot s : ℕ) → s ≡ slot → bit_at (bit_or w (2 ^ slot)) s ≡ 1
set_at w slot s e = bit_at_or w (2 ^ slot) s
    ∙ max_one (bit_at w s) (bit_at (2 ^ slot) s) (bit_at-lt w s) (ap (bit_at (2 ^ slot)) e ∙ bit_at-pow_same slot)

set_elsewhere : (w slot s : ℕ) → s ≢ slot → bit_at (bit_or w (2 ^ slot)) s ≡ bit_at w s
set_elsewhere w slot s n = bit_at_or w (2 ^ slot) s
    ∙ max_none (bit_at w s) (bit_at (2 ^ slot) s) (bit_at-pow_other slot s n)

sets_black : (b : Bits) (slot : ℕ) → slot < 64 → bit_at b.black slot ≢ 1 → SetsBlack b slot (with_black b slot)
sets_black b slot within was = record {
  within = within;
  was = was;
  black = λ s. elim (eqb_tells s slot) [
    | inl same ↦ set_at b.black slot s same.1
        ∙ sym (ap (λ (t : Bool). if t then 1 else bit_at b.black s) same.0)
    | inr other ↦ set_elsewhere b.black slot s other.1
        ∙ sym (ap (λ (t : Bool). if t then 1 else bit_at b.black s) other.0)
  ];
  gob = refl;
}

-- the bits of the arenas with the black bit of a cell, and with those of some cells
abbrev pub black_at : List Bits → Place → List Bits
black_at xs x = slice_set xs x.0 (with_black (bits_in xs x.0) x.1)

abbrev pub all_black : List Bits → List Place → List Bits
all_black xs [] = xs
all_black xs (x ∷ won) = black_at (all_black xs won) x

pub all_sized : (xs : List Bits) (won : List Place) → length (all_black xs won) ≡ length xs
all_sized xs [] = refl
all_sized xs (x ∷ won) = length-set (all_black xs won) x.0 (with_black (bits_in (all_black xs won) x.0) x.1)
    ∙ all_sized xs won

at_same : (xs : List Bits) (x : Place) (a : ℕ) → x.0 < length xs → a ≡ x.0
    → bits_in (black_at xs x) a ≡ with_black (bits_in xs x.0) x.1
at_same xs x a within e = ap (bits_in (black_at xs x)) e
    ∙ get_or-set_same xs x.0 (with_black (bits_in xs x.0) x.1) (record { black = 0; gob = 0 }) within

at_other : (xs : List Bits) (x : Place) (a : ℕ) → a ≢ x.0 → bits_in (black_at xs x) a ≡ bits_in xs a
at_other xs x a n =
    get_or-set_other xs x.0 a (with_black (bits_in xs x.0) x.1) (record { black = 0; gob = 0 }) n

-- one bit more is set
one_more : (xs : List Bits) (x y : Place) → x.0 < length xs → black_bit xs x ≡ 0
    → black_bit (black_at xs x) y ≡ only y x + black_bit xs y
one_more xs x y within none = elim (eqb_tells y.0 x.0) [
  | inr other ↦ (let here : black_bit (black_at xs x) y ≡ black_bit xs y =
      ap (λ (b : Bits). bit_at b.black y.1) (at_other xs x y.0 other.1) in
      let zero = only-arena y x (λ e. other.1 (sym e)) in
      omega (arith, here, zero))
  | inl same ↦ (let here : black_bit (black_at xs x) y ≡ bit_at (with_black (bits_in xs x.0) x.1).black y.1 =
      ap (λ (b : Bits). bit_at b.black y.1) (at_same xs x y.0 within same.1) in
      elim (eqb_tells y.1 x.1) [
        | inr other ↦ (let bit = set_elsewhere (bits_in xs x.0).black x.1 y.1 other.1 in
            let was : bit_at (bits_in xs x.0).black y.1 ≡ black_bit xs y =
            ap (λ a. bit_at (bits_in xs a).black y.1) (sym same.1) in
            let zero = only-slot y x (λ e. other.1 (sym e)) in
            omega (arith, here, bit, was, zero))
        | inl slot ↦ (let bit = set_at (bits_in xs x.0).black x.1 y.1 slot.1 in
            let is : y ≡ x = ap (λ n. (n, y.1)) same.1 ∙ ap (λ n. (x.0, n)) slot.1 in
            let was : black_bit xs y ≡ 0 = ap (black_bit xs) is ∙ none in
            let one : only y x ≡ 1 = ap (λ z. only z x) is ∙ only-same x in
            omega (arith, here, bit, was, one))
      ])
]

-- cells of marking zones that are not black, each once
pub record AreFresh (h : HeapState) (won : List Place) : Type 0 where
  pub once : (x : Place) → times x won ≤ 1
  pub present : (x : Place) → Contains won x → IsPresent h.shape x
  pub slot : (x : Place) → Contains won x → x.1 < 64
  pub marking : (x : Place) → Contains won x → is_marking h.shape x ≡ true
  pub unmarked : (x : Place) → Contains won x → black_bit h.colours x ≡ 0

pub first_in : {X : Type 0} (x : X) (xs : List X) → Contains (x ∷ xs) x
first_in x xs = (0, omega arith, refl)

pub later_in : {X : Type 0} (x y : X) (xs : List X) → Contains xs y → Contains (x ∷ xs) y
later_in x y xs c = (suc c.0, omega (arith, c.1), c.2)

pub in_first : {X : Type 0} (x : X) (xs : List X) (y : X) → Contains (x ∷ xs) y → (x ≡ y) ⊎ Contains xs y
in_first x xs y (zero, within, is) = inl is
in_first x xs y (suc i, within, is) = inr (i, omega (arith, within), is)

fresh_rest : (h : HeapState) (x : Place) (won : List Place) → AreFresh h (x ∷ won) → AreFresh h won
fresh_rest h x won f = record {
  once = λ y. omega (arith, f.once y);
  present = λ y c. f.present y (later_in x y won c);
  slot = λ y c. f.slot y (later_in x y won c);
  marking = λ y c. f.marking y (later_in x y won c);
  unmarked = λ y c. f.unmarked y (later_in x y won c);
}

-- the bits of all these cells are set, and no others
pub all_bits : (h : HeapState) (won : List Place) → length h.colours ≡ length h.shape.arenas → AreFresh h won
    → (y : Place) → black_bit (all_black h.colours won) y ≡ times y won + black_bit h.colours y
all_bits h [] sized f y = omega arith
all_bits h (x ∷ won) sized f y =
    let rest = all_bits h won sized (fresh_rest h x won f) in
    let long = all_sized h.colours won in
    let within = present_within h.shape x (f.present x (first_in x won)) in
    let one = only-same x in
    let at = one_more (all_black h.colours won) x y (omega (arith, long, within, sized))
    (omega (arith, rest x, f.once x, one, f.unmarked x (first_in x won))) in
    omega (arith, at, rest y)

gob_same : (xs : List Bits) (won : List Place) (a : ℕ) → a < length xs
    → (bits_in (all_black xs won) a).gob ≡ (bits_in xs a).gob
gob_same xs [] a within = refl
gob_same xs (x ∷ won) a within = elim (eqb_tells a x.0) [
  | inr other ↦ ap (λ (b : Bits). b.gob) (at_other (all_black xs won) x a other.1) ∙ gob_same xs won a within
  | inl same ↦ (let long = all_sized xs won in
      let here = at_same (all_black xs won) x a (omega (arith, long, within, same.1)) same.1 in
      ap (λ (b : Bits). b.gob) here ∙ ap (λ n. (bits_in (all_black xs won) n).gob) (sym same.1)
      ∙ gob_same xs won a within)
]

-- so bits that differ by these cells alone are the same
pub same_bits : (h : HeapState) (won : List Place) (ks : List Bits) → length h.colours ≡ length h.shape.arenas
    → AreFresh h won → length ks ≡ length h.colours
    → ((y : Place) → y.0 < length h.colours → black_bit ks y ≡ times y won + black_bit h.colours y)
    → ((a : ℕ) → a < length h.colours → (bits_in ks a).gob ≡ (bits_in h.colours a).gob)
    → ks ≡ all_black h.colours won
same_bits h won ks sized f long black gob =
    ext_get_or (record { black = 0; gob = 0 }) ks (all_black h.colours won) (long ∙ sym (all_sized h.colours won))
    (λ a within. both a (omega (arith, within, long)))
  where
    both : (a : ℕ) → a < length h.colours → bits_in ks a ≡ bits_in (all_black h.colours won) a
    both a within =
        let blacks : (bits_in ks a).black ≡ (bits_in (all_black h.colours won) a).black =
        same_from_bits (bits_in ks a).black (bits_in (all_black h.colours won) a).black
        (λ s. black (a, s) within ∙ sym (all_bits h won sized f (a, s))) in
        let gobs : (bits_in ks a).gob ≡ (bits_in (all_black h.colours won) a).gob =
        gob a within ∙ sym (gob_same h.colours won a within) in
        ap {B = Bits} (λ (n : ℕ). record { black = n; gob = (bits_in ks a).gob }) blacks
        ∙ ap {B = Bits} (λ (n : ℕ). record { black = (bits_in (all_black h.colours won) a).black; gob = n }) gobs

-- the heap with these cells black, and the piles with these cells pending in black
abbrev pub all_turned : HeapState → List Place → HeapState
all_turned h won = record h { colours = all_black h.colours won }

abbrev pub with_pending : Piles → List Place → Piles
with_pending p won = record p { black = won ++ p.black }

pub pushed_more : (p : Piles) (x : Place) → IsPushed p pile.Black x (record p { black = x ∷ p.black })
pushed_more p x = record { more = IsPermutation-refl (x ∷ p.black); others = others }
  where
    others : (other : Pile) → other ≢ pile.Black
        → pile_of (record p { black = x ∷ p.black }) other ≡ pile_of p other
    others pile.Black n = absurd (n refl)
    others pile.Gray n = refl
    others pile.Wake n = refl

-- they turned black one by one
pub record AllTurned (h : HeapState) (p : Piles) (won : List Place) : Type 0 where
  pub grows : Grows (Contains won) h p (all_turned h won) (with_pending p won)
  pub invariant : (followed : List Place) → InvariantWhile followed h p
      → InvariantWhile followed (all_turned h won) (with_pending p won)

module _ (h : HeapState) (p : Piles) (sized : length h.colours ≡ length h.shape.arenas) where
  one_turns : (x : Place) (won : List Place) → AreFresh h (x ∷ won)
      → Turns (all_turned h won) (with_pending p won) x (all_turned h (x ∷ won)) (with_pending p (x ∷ won))
  one_turns x won f =
      let k : HeapState = all_turned h won in
      let here = first_in x won in
      let within = present_within h.shape x (f.present x here) in
      let long = all_sized h.colours won in
      let bit : black_bit k.colours x ≡ 0 = (
      let all = all_bits h won sized (fresh_rest h x won f) x in
      let one = only-same x in
      omega (arith, all, f.once x, one, f.unmarked x here)) in
      let at : slice_get k.colours x.0 ≡ Some (bits_in k.colours x.0) =
      slice_get-get_or k.colours x.0 (record { black = 0; gob = 0 }) (omega (arith, within, long, sized)) in
      let marks = f.marking x here in
      let turned : Blackened k x (all_turned h (x ∷ won)) =
      turned_black k x (bits_in k.colours x.0) (with_black (bits_in k.colours x.0) x.1) (λ off. cc (marks, off))
      (f.present x here) at (sets_black (bits_in k.colours x.0) x.1 (f.slot x here) (λ e. omega (arith, e, bit)))
      (λ b. (let e = black_is_bit k x b in omega (arith, e, bit))) in
      inr (inl (turned, marks, pushed_more (with_pending p won) x))

  pub all_turn : (won : List Place) → AreFresh h won → AllTurned h p won
  all_turn [] f = record { grows = grows_none (Contains []) h p; invariant = λ followed inv. inv }
  all_turn (x ∷ won) f =
      let rest = all_turn won (fresh_rest h x won f) in
      let ef = turn_effect (all_turned h won) (with_pending p won) x (all_turned h (x ∷ won))
      (with_pending p (x ∷ won)) (one_turns x won f) in
      record {
        grows = grows_more (Contains won) (λ y. y ≡ x) (Contains (x ∷ won)) h p (all_turned h won) (with_pending p won)
            (all_turned h (x ∷ won)) (with_pending p (x ∷ won)) rest.grows ef.grows (λ y c. later_in x y won c)
            (λ y e. subst (λ z. Contains (x ∷ won) z) (sym e) (first_in x won));
        invariant = λ followed inv. ef.invariant followed (rest.invariant followed inv);
      }

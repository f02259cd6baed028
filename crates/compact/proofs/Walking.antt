-- The walk over the free slots of a zone comes from arena to arena.
use Rattle.std.proofs.Common.{◌≡◌, ◌<◌, ◌≤◌, ◌+◌, ◌-◌, ◌^◌, ℕ, Bool, true, false, List, take}
use Rattle.std.proofs.Common.{Option, Some, None, is_some, slice_get, option_map, nat_le, if◌then◌else◌, inl, inr}
use Rattle.std.proofs.Common.{refl, sym, ◌∙◌, ap, subst, arith, w64}
use Rattle.std.specs.Int.{bit_at, bit_not}
use Rattle.std.specs.Int.Count.{ones-ones}
use Rattle.std.specs.Int.RustNames.{count_ones}
use Rattle.std.proofs.lemmas.Bool.{cases_lt, cases_order, le-leb, lt-leb}
use Rattle.std.proofs.lemmas.Nat.Bits.{bit_at-zero, bit_at_above, bit_at_not}
use Rattle.std.proofs.lemmas.Option.{same_Some, slice_get_within}
use Rattle.gz_names.specs.declared.numbers.Place.{Place}
use Rattle.arena_table.specs.Cells.{CellState}
use Rattle.arena_table.specs.Slots.{alloc_word_of, bit_of, cell_in}
use Rattle.arena_table.proofs.Placing.{bit_at-alloc_word}
use Rattle.heap_core.specs.Shape.{ArenaShape, Shape, cell_in_arena, cell_of, out_in, out_of, present_in, zone_in}
use Rattle.compact.specs.Arenas.{IsNextArena, NoArenaFrom}
use Rattle.compact.specs.Holes.{ComesOn, FindsNone, IsAhead, IsAt, IsBegun, IsCounted, IsFree}
use Rattle.compact.specs.Packing.{free_below}
use Rattle.compact.specs.declared.holes.Holes.{Holes}
use Rattle.compact.proofs.Owned.{get-within}
use Rattle.compact.proofs.Counting.{free-sum, free_at, other-free, own-free, past-free, sum-end, sum-step}
use Rattle.compact.proofs.Ones.{not-fits, ones-free}

-- a slot of an arena that is not out
pub kept-cell : (s : Shape) (a k : ℕ) (x : ArenaShape) → slice_get s.arenas a ≡ Some x → out_of s a ≡ None
    → cell_of s (a, k) ≡ cell_in x.slots k
kept-cell s a k x at kept =
    ap (λ o. cell_in_arena o k) at ∙ ap (λ o. present_in o x.slots k) (ap out_in (sym at) ∙ kept)

-- nothing is left of an arena
none-left : (h : Holes) (b : Bool) → h.left ≡ 0 → (if b then count_ones h.left else 0) ≡ 0
none-left h true empty = ap count_ones empty ∙ ones-ones 0
none-left h false empty = refl

-- a walk that begins
pub begun-at : (s : Shape) (h : Holes) → IsBegun h → IsAt s h
begun-at s h is = record {
  free = λ p e one. absurd (let from = is.from in omega (arith, e, from));
  begun = λ some. absurd (some is.left);
  fits = (let left = is.left in omega (arith, left));
}

pub begun-counted : (s : Shape) (h : Holes) (first : ℕ) → IsBegun h → IsCounted s h first 0
begun-counted s h first is =
    let none = none-left h (nat_le h.from first) is.left in
    let same : free_below h.zone first 0 (take h.from s.arenas) ≡ 0 =
    ap (λ n. free_below h.zone first 0 (take n s.arenas)) is.from in
    omega (arith, none, same)

pub begun-ahead : (h : Holes) (p : Place) → IsBegun h → IsAhead h p
begun-ahead h p is = inl (let from = is.from in omega (arith, from))

-- the walk stays, and comes on twice
pub comes-self : (s : Shape) (h : Holes) → IsAt s h → ComesOn s h h
comes-self s h at = record {
  at = at;
  same = λ p free. ((λ x. x), (λ x. x));
  zone_is = refl;
  counted = λ first count is. is;
}

pub comes-then : (s : Shape) (g h k : Holes) → ComesOn s g h → ComesOn s h k → ComesOn s g k
comes-then s g h k one two = record {
  at = two.at;
  same = λ p free.
      (let there : IsFree s h.zone p = subst (λ z. IsFree s z p) (sym one.zone_is) free in
      ((λ x. (one.same p free).0 ((two.same p there).0 x)), (λ x. (two.same p there).1 ((one.same p free).1 x))));
  zone_is = two.zone_is ∙ one.zone_is;
  counted = λ first count is. two.counted first count (one.counted first count is);
}

-- the next arena, and the word of its cells
pub record IsWord (s : Shape) (h : Holes) (a word : ℕ) : Type 0 where
  pub kept : out_of s a ≡ None
  pub next : IsNextArena s.arenas h.zone h.from a
  pub word_is : option_map (λ (y : ArenaShape). alloc_word_of y.slots) (slice_get s.arenas a) ≡ Some word
  pub fits : word < 2 ^ 64

-- the walk comes to it
module _ (s : Shape) (h : Holes) (a word : ℕ) (w : IsWord s h a word) where
  abbrev pub come_to : Holes
  come_to = record { zone = h.zone; from = a + 1; left = bit_not w64 word }

  abbrev slots : List (Option CellState)
  slots = w.next.arena.slots

  word-at : alloc_word_of slots ≡ word
  word-at = same_Some (alloc_word_of slots) word
      (ap (option_map (λ (y : ArenaShape). alloc_word_of y.slots)) (sym w.next.at) ∙ w.word_is)

  cell-here : (k : ℕ) → cell_of s (a, k) ≡ cell_in slots k
  cell-here k = kept-cell s a k w.next.arena w.next.at w.kept

  bit-here : (k : ℕ) → k < 64 → bit_at (bit_not w64 word) k ≡ 1 - bit_of (is_some (cell_in slots k))
  bit-here k lt = bit_at_not w64 word k w.fits lt
      ∙ ap (λ n. 1 - n) (ap (λ n. bit_at n k) (sym word-at) ∙ bit_at-alloc_word slots k)

  free-slot : (k : ℕ) → bit_at (bit_not w64 word) k ≡ 1 → (k < 64) × (cell_of s (a, k) ≡ None)
  free-slot k one = elim (cases_lt k 64) [
    | inl lt ↦ (lt, cell-here k ∙ none (cell_in slots k) (sym (bit-here k lt) ∙ one))
    | inr past ↦
        (let none = bit_at_above (bit_not w64 word) 64 k (not-fits word) past in absurd (omega (arith, none, one)))
  ]
    where
      none : (o : Option CellState) → 1 - bit_of (is_some o) ≡ 1 → o ≡ None
      none None e = refl
      none (Some cell) e = absurd (let no : 0 ≡ 1 = e in omega (arith, no))

  slot-free : (k : ℕ) → k < 64 → cell_of s (a, k) ≡ None → bit_at (bit_not w64 word) k ≡ 1
  slot-free k lt free = bit-here k lt ∙ ap (λ o. 1 - bit_of (is_some o)) (sym (cell-here k) ∙ free)

  at-come : IsAt s come_to
  at-come = record {
    free = λ p e one. (let here : p.0 ≡ a = omega (arith, e) in
        let within = slice_get_within s.arenas a w.next.arena w.next.at in
        let slot = free-slot p.1 one in
        record {
          made = omega (arith, here, within);
          zone_is = ap (λ b. zone_in (slice_get s.arenas b)) here ∙ ap zone_in w.next.at ∙ w.next.zone_is;
          slot = slot.0;
          free = ap (λ b. cell_in_arena (slice_get s.arenas b) p.1) here ∙ slot.1;
        });
    begun = λ some. omega arith;
    fits = not-fits word;
  }

  -- a free slot is in no arena before the next one
  not-before : (p : Place) → IsFree s h.zone p → h.from ≤ p.0 → p.0 < a → ⊥
  not-before p free le lt =
      let x = get-within s.arenas p.0 free.made in
      w.next.lowest p.0 x.0 le lt x.1 (sym (ap zone_in x.1) ∙ free.zone_is)

  module _ (empty : h.left ≡ 0) where
    ahead-then : (p : Place) → IsAhead come_to p → IsAhead h p
    ahead-then p (inl le) = inl (let from = w.next.from_is in omega (arith, le, from))
    ahead-then p (inr (e, one)) = inl (let from = w.next.from_is in omega (arith, e, from))

    then-ahead : (p : Place) → IsFree s h.zone p → IsAhead h p → IsAhead come_to p
    then-ahead p free (inr (e, one)) = absurd (let none = ap (λ n. bit_at n p.1) (sym empty) ∙ one in
        let zero_there = bit_at-zero p.1 in omega (arith, none, zero_there))
    then-ahead p free (inl le) = elim (cases_order p.0 a) [
      | inl same ↦ inr (
        omega (arith, same),
        slot-free p.1 free.slot (ap (λ b. cell_in_arena (slice_get s.arenas b) p.1) (sym same) ∙ free.free),
      )
      | inr other ↦ elim other [
        | inl lt ↦ absurd (not-before p free le lt)
        | inr gt ↦ inl (omega (arith, gt))
      ]
    ]

    counted-then : (first count : ℕ) → IsCounted s h first count → IsCounted s come_to first count
    counted-then first count is =
        let none = none-left h (nat_le h.from first) empty in
        let was = free-sum h.zone first 0 (take h.from s.arenas) in
        let now = free-sum h.zone first 0 (take (a + 1) s.arenas) in
        let step = sum-step (free_at h.zone first) s.arenas h.from a w.next.arena w.next.from_is w.next.at
        (λ b y le lt at. other-free h.zone first b y (w.next.lowest b y le lt at)) in
        let here = here-is in
        omega (arith, is, none, was, now, step, here)
      where
        here-is : (if nat_le (a + 1) first then count_ones (bit_not w64 word) else 0)
            ≡ free_at h.zone first a w.next.arena
        here-is = elim (cases_lt a first) [
          | inl lt ↦ ap (λ b. if b then count_ones (bit_not w64 word) else 0) (le-leb (a + 1) first (omega (arith, lt)))
              ∙ ones-free slots word word-at w.fits ∙ sym (own-free h.zone first a w.next.arena w.next.zone_is lt)
          | inr past ↦ ap (λ b. if b then count_ones (bit_not w64 word) else 0)
              (lt-leb (a + 1) first (omega (arith, past)))
              ∙ sym (past-free h.zone first a w.next.arena past)
        ]

    pub comes-to : ComesOn s h come_to
    comes-to = record {
      at = at-come;
      same = λ p free. (ahead-then p, then-ahead p free);
      zone_is = refl;
      counted = counted-then;
    }

-- no arena is left
pub none-found : (s : Shape) (g h : Holes) → ComesOn s g h → h.left ≡ 0 → NoArenaFrom s.arenas h.zone h.from
    → FindsNone s g
none-found s g h on empty none first count is =
    let now = on.counted first count is in
    let left = none-left h (nat_le h.from first) empty in
    let part = free-sum h.zone first 0 (take h.from s.arenas) in
    let end = sum-end (free_at h.zone first) s.arenas h.from
    (λ b y le at. other-free h.zone first b y (none b y le at)) in
    let whole = free-sum h.zone first 0 s.arenas in
    let zone = ap (λ z. free_below z first 0 s.arenas) on.zone_is in
    omega (arith, now, left, part, end, whole, zone)

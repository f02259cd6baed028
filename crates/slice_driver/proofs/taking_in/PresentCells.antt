-- Present cells counted.
use Rattle.std.proofs.Common.{◌≡◌, ◌↔◌, ◌<◌, ◌+◌, ◌==◌, ◌++◌, ◌&&◌, ℕ, zero, suc, Bool, true, false, not, if◌then◌else◌}
use Rattle.std.proofs.Common.{Option, Some, None, IsSome, is_some, slice_get, List, [], ◌∷◌, length, sum_by, take, refl}
use Rattle.std.proofs.Common.{sym, ap, subst, ◌∙◌, inl, inr, arith}
use Rattle.std.specs.Int.{bit_at}
use Rattle.std.proofs.Math.Seq.{take-length}
use Rattle.std.proofs.lemmas.Bool.{cases_lt}
use Rattle.std.proofs.lemmas.Bool.Decides.{eqb_tells}
use Rattle.std.proofs.lemmas.List.{take_more}
use Rattle.std.proofs.lemmas.List.Sums.{sum_by-append, sum_by-cons}
use Rattle.std.proofs.lemmas.Option.{get_or_from_slice_get, slice_get_within}
use Rattle.cell_bits.specs.declared.bits.Bits.{Bits}
use Rattle.cell_bits.specs.declared.bits.Colour.TheVariants as colour
use Rattle.cell_bits.specs.Colours.{colour_of}
use Rattle.arena_table.specs.Cells.{CellState}
use Rattle.arena_table.specs.Slots.{alloc_word_of, bit_of, cell_in, held_in}
use Rattle.arena_table.proofs.Placing.{bit_at-alloc_word}
use Rattle.heap_core.specs.Shape.{ArenaShape, AreWhole, is_white, out_in, present_in}
use Rattle.heap_core.specs.Sweeping.{held_in_all}
use Rattle.barriers.specs.Colours.{slots_below}
use Rattle.slice_driver.specs.Present.{present_in_all, present_in_arena}
use Rattle.slice_driver.proofs.taking_in.FirstOut.{out_past}
use Rattle.slice_driver.proofs.taking_in.SetBits.{from_first, has_bit, one_if, split}

-- the cells of slots, counted by slot
held_slots : (slots : List (Option CellState)) → held_in slots ≡ slots_below (λ i. is_some (cell_in slots i))
    (length slots)
unfolding slots_below
held_slots [] = refl
held_slots (None ∷ slots) = let first = from_first (λ i. is_some (cell_in (None ∷ slots) i))
    (length slots) in let rest = held_slots slots in omega (arith, first, rest)
held_slots (Some cell ∷ slots) = let first = from_first (λ i. is_some (cell_in (Some cell ∷ slots) i))
    (length slots) in let rest = held_slots slots in omega (arith, first, rest)

pub held_whole : (slots : List (Option CellState)) → length slots ≡ 64 → held_in slots ≡ slots_below
    (λ i. is_some (cell_in slots i)) 64
held_whole slots whole = held_slots slots ∙ ap (slots_below (λ i. is_some (cell_in slots i))) whole

-- white by the bits is white by the colour
white_test : (x y : Bool) → ((if x then colour.Black else (if y then colour.Gray else colour.White)) ≡ colour.White) ↔
    ((not x && not y) ≡ true)
white_test true y = (λ e. absurd (cc e), λ e. absurd (cc e))
white_test false true = (λ e. absurd (cc e), λ e. absurd (cc e))
white_test false false = (λ e. refl, λ e. refl)

white_colour : (bits : Bits) (i : ℕ) → (colour_of bits i ≡ colour.White) ↔ (is_white bits i ≡ true)
white_colour bits i = white_test (bit_at bits.black i == 1) (bit_at bits.gob i == 1)

-- a slot has no cell, or a present one, or one that was white
one_slot : (o : Option CellState) (white : Bool) (m : ℕ) → ((m ≡ 1) ↔ ((bit_of (is_some o) ≡ 1) × (white ≡ true)))
    → one_if (is_some o) ≡ one_if (is_some (if white then None else o)) + one_if (m == 1)
one_slot o white m is = elim (eqb_tells m 1) [
  | inl there ↦ (let both = is.0 there.1 in let one = ap one_if there.0 in marked o white both.0 both.1 one)
  | inr other ↦ (let none = ap one_if other.0 in unmarked o white (λ e f. other.1 (is.1 (e, f))) none)
]
  where
    marked : (o : Option CellState) (white : Bool) → bit_of (is_some o) ≡ 1 → white ≡ true → one_if (m == 1) ≡ 1
        → one_if (is_some o) ≡ one_if (is_some (if white then None else o)) + one_if (m == 1)
    marked None white e f one = absurd (omega (arith, e))
    marked (Some cell) true e f one = omega (arith, one)
    marked (Some cell) false e f one = absurd (cc f)

    unmarked : (o : Option CellState) (white : Bool) → (bit_of (is_some o) ≡ 1 → white ≡ true → ⊥) → one_if
        (m == 1) ≡ 0 → one_if (is_some o) ≡ one_if (is_some (if white then None else o)) + one_if (m == 1)
    unmarked None true n none = omega (arith, none)
    unmarked None false n none = omega (arith, none)
    unmarked (Some cell) true n none = absurd (n refl refl)
    unmarked (Some cell) false n none = omega (arith, none)

-- an arena that is not handed to sweeping
pub all_present : (a : ArenaShape) → length a.slots ≡ 64 → a.out ≡ None → held_in a.slots ≡ present_in_arena a
all_present a whole kept = held_whole a.slots whole ∙ ap
    (λ (o : Option Bits). slots_below (λ i. is_some (present_in o a.slots i)) 64) (sym kept)

-- one that is, with the word of its cells that were white
pub some_present : (a : ArenaShape) (bits : Bits) (white : ℕ) → length a.slots ≡ 64 → a.out ≡ Some bits
    → ((i : ℕ) → i < 64 → (bit_at white i ≡ 1) ↔
    ((bit_at (alloc_word_of a.slots) i ≡ 1) × (colour_of bits i ≡ colour.White)))
    → held_in a.slots ≡ slots_below (has_bit white) 64 + present_in_arena a
some_present a bits white whole out is =
    let parts = split (λ i. is_some (cell_in a.slots i)) (λ i. is_some (present_in (Some bits) a.slots i))
    (has_bit white) 64 (λ i lt. one_slot (cell_in a.slots i) (is_white bits i) (bit_at white i) (both i lt)) in
    let own = ap (λ (o : Option Bits). slots_below (λ i. is_some (present_in o a.slots i)) 64) out in
    let all = held_whole a.slots whole in
    omega (arith, parts, own, all)
  where
    both : (i : ℕ) → i < 64 → (bit_at white i ≡ 1) ↔
        ((bit_of (is_some (cell_in a.slots i)) ≡ 1) × (is_white bits i ≡ true))
    both i lt = (
      λ e. (let f = (is i lt).0 e in (sym (bit_at-alloc_word a.slots i) ∙ f.0, (white_colour bits i).0 f.1)),
      λ f. (is i lt).1 (bit_at-alloc_word a.slots i ∙ f.0, (white_colour bits i).1 f.1),
    )

abbrev pub held_of : ArenaShape → ℕ
held_of a = held_in a.slots

pub held_sum : (arenas : List ArenaShape) → held_in_all arenas ≡ sum_by held_of arenas
held_sum [] = refl
held_sum (a ∷ arenas) = let rest = held_sum arenas in let both = sum_by-cons held_of a arenas in omega
    (arith, rest, both)

-- one arena more
pub take_one_more : (f : ArenaShape → ℕ) (arenas : List ArenaShape) (i : ℕ) (a : ArenaShape)
    → slice_get arenas i ≡ Some a → sum_by f (take (i + 1) arenas) ≡ sum_by f (take i arenas) + f a
take_one_more f arenas i a at =
    let more = take_more arenas i a (slice_get_within arenas i a at) in
    let is = ap (λ (x : ArenaShape). take i arenas ++ x ∷ []) (get_or_from_slice_get arenas i a a at) in
    let both = sum_by-append f (take i arenas) (a ∷ []) in
    let last = sum_by-cons f a [] in
    let none : sum_by f [] ≡ 0 = refl in
    let all = ap (sum_by f) (more ∙ is) in
    omega (arith, both, last, none, all)

-- no arena below a number is out
pub none_lost : (arenas : List ArenaShape) (n : ℕ) → AreWhole arenas →
    ((a : ℕ) → a < n → out_in (slice_get arenas a) ≡ None) → sum_by held_of (take n arenas) ≡ sum_by present_in_arena
    (take n arenas)
none_lost [] zero whole kept = refl
none_lost [] (suc n) whole kept = refl
none_lost (a ∷ arenas) zero whole kept = refl
none_lost (a ∷ arenas) (suc n) whole kept =
    let here = all_present a (whole 0 a refl) (kept 0 (omega arith)) in
    let rest = none_lost arenas n (λ i x at. whole (suc i) x at) (λ i lt. kept (suc i) (omega (arith, lt))) in
    let held = sum_by-cons held_of a (take n arenas) in
    let present = sum_by-cons present_in_arena a (take n arenas) in
    omega (arith, here, rest, held, present)

pub none_lost_at_all : (arenas : List ArenaShape) → AreWhole arenas → ((a : ℕ) → out_in (slice_get arenas a) ≡ None)
    → held_in_all arenas ≡ present_in_all arenas
none_lost_at_all arenas whole kept =
    held_sum arenas ∙ subst (λ (xs : List ArenaShape). sum_by held_of xs ≡ sum_by present_in_arena xs)
    (take-length arenas) (none_lost arenas (length arenas) whole (λ a lt. kept a))

-- the arena of a number
pub arena_there : (arenas : List ArenaShape) (i : ℕ) → i < length arenas → (a : ArenaShape) ×
    (slice_get arenas i ≡ Some a)
arena_there [] i below = absurd (omega (arith, below))
arena_there (a ∷ arenas) zero below = (a, refl)
arena_there (a ∷ arenas) (suc i) below = arena_there arenas i (omega (arith, below))

-- one arena more is counted
pub counts_on : (arenas : List ArenaShape) (i lost more : ℕ) → i < length arenas →
    ((a : ArenaShape) → slice_get arenas i ≡ Some a → held_in a.slots ≡ more + present_in_arena a)
    → sum_by held_of (take i arenas) ≡ lost + sum_by present_in_arena (take i arenas)
    → sum_by held_of (take (i + 1) arenas) ≡ (lost + more) + sum_by present_in_arena (take (i + 1) arenas)
counts_on arenas i lost more below one so_far =
    let at = arena_there arenas i below in
    let here = one at.0 at.1 in
    let held = take_one_more held_of arenas i at.0 at.1 in
    let present = take_one_more present_in_arena arenas i at.0 at.1 in
    omega (arith, so_far, here, held, present)

-- all are counted
pub counts_all : (arenas : List ArenaShape) (lost : ℕ) → sum_by held_of
    (take (length arenas) arenas) ≡ lost + sum_by present_in_arena (take (length arenas) arenas)
    → held_in_all arenas ≡ lost + present_in_all arenas
counts_all arenas lost counted =
    held_sum arenas ∙ subst (λ (xs : List ArenaShape). sum_by held_of xs ≡ lost + sum_by present_in_arena xs)
    (take-length arenas) counted

-- an arena that is out was made
pub out_made : (arenas : List ArenaShape) (i : ℕ) → IsSome (out_in (slice_get arenas i)) → i < length arenas
out_made arenas i out = elim (cases_lt i (length arenas)) [
  | inl below ↦ below
  | inr past ↦ absurd (let none = out_past arenas i (omega (arith, past)) in cc (out, none))
]

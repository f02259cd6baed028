-- What is in flight is only woken by a step of marking.
use Rattle.std.proofs.Common.{◌≡◌, ◌⊎◌, ℕ, Bool, true, false, List, length, Option, Some, None, IsSome, is_some}
use Rattle.std.proofs.Common.{slice_get, if◌then◌else◌, inl, inr, refl, sym, ap, ◌∙◌, arith}
use Rattle.gz_names.specs.declared.numbers.Place.{Place}
use Rattle.cell_bits.specs.declared.bits.Bits.{Bits}
use Rattle.cell_bits.specs.declared.bits.Colour.TheVariants as colour
use Rattle.cell_bits.specs.Colours as bits
use Rattle.arena_table.specs.Cells.{CellState}
use Rattle.heap_core.specs.Shape.{ArenaShape, Shape, IsPresent, cell_in_arena, is_marking, is_white, out_in, out_of}
use Rattle.heap_core.specs.Shape.{present_in}
use Rattle.heap_core.specs.Heap.{HeapState, colour_in, colour_of, joined}
use Rattle.barriers.specs.Colours.{IsBlack}
use Rattle.barriers.specs.Invariant.{ColourInvariant}
use Rattle.barriers.specs.Spreading.{Covers}
use Rattle.barriers.proofs.Flying.{flown_there}
use Rattle.barriers.proofs.NewCells.{white_tells}
use Rattle.slice_driver.specs.Worlds.{IsInFlight, IsWokenFrom}
use Rattle.slice_driver.proofs.abstraction.Serving.{within_arenas}

-- a present cell of an arena that is out was not white
not_white : (s : Shape) (a i : ℕ) (b : Bits) → out_of s a ≡ Some b → IsPresent s (a, i) → is_white b i ≡ true → ⊥
not_white s a i b out there white = go (slice_get s.arenas a) out there
  where
    gone : (o : Option Bits) (slots : List (Option CellState)) → o ≡ Some b → IsSome (present_in o slots i) → ⊥
    gone None slots e some = cc e
    gone (Some x) slots e some =
        go2 (is_white x i) (ap (λ (y : Bits). is_white y i)
        (Rattle.slice_driver.proofs.abstraction.Named.some_one x b e) ∙ white) some
      where
        go2 : (t : Bool) → t ≡ true → IsSome (if t then None else Rattle.arena_table.specs.Slots.cell_in slots i) → ⊥
        go2 true e some = absurd (cc some)
        go2 false e some = cc e

    go : (o : Option ArenaShape) → out_in o ≡ Some b → IsSome (cell_in_arena o i) → ⊥
    go None e some = cc e
    go (Some arena) e some = gone arena.out arena.slots e some

-- an arena that is out is in flight
some_flown : (o : Option Bits) → is_some o ≡ true → (b : Bits) × (o ≡ Some b)
some_flown None e = absurd (cc e)
some_flown (Some b) e = (b, refl)

module _ (h k : HeapState) (flown flying : ℕ → Option Bits) (was : IsInFlight h.shape flown) (same : k.shape ≡ h.shape)
    (colours : ColourInvariant (joined h flown)) (after : ColourInvariant (joined k flying))
    (covers : Covers k.shape flying) (sized : length h.colours ≡ length h.shape.arenas)
    (grown : length k.colours ≡ length k.shape.arenas) (darker : (p : Place) → IsBlack (joined h flown) p
    → IsBlack (joined k flying) p) (others : (p : Place) → IsBlack (joined k flying) p
    ⊎ ((colour_of (joined k flying) p ≡ colour_of (joined h flown) p) ⊎ (is_marking h.shape p ≡ true))) where
  colour_then : (a i : ℕ) (old prev : Bits) → out_of h.shape a ≡ Some old → flown a ≡ Some prev
      → colour_of (joined h flown) (a, i) ≡ bits.colour_of prev i
  colour_then a i old prev out at = let lt = within_arenas h.shape a (ap is_some out) in
      ap (λ o. colour_in o i) (flown_there h flown a prev (omega (arith, lt, sized)) at)

  colour_now : (a i : ℕ) (old new : Bits) → out_of k.shape a ≡ Some old → flying a ≡ Some new
      → colour_of (joined k flying) (a, i) ≡ bits.colour_of new i
  colour_now a i old new out at = let lt = within_arenas k.shape a (ap is_some out) in
      ap (λ o. colour_in o i) (flown_there k flying a new (omega (arith, lt, grown)) at)

  woken_from : (a : ℕ) (old prev new : Bits) → out_of k.shape a ≡ Some old → out_of h.shape a ≡ Some old
      → flown a ≡ Some prev → flying a ≡ Some new → IsWokenFrom old prev → IsWokenFrom old new
  woken_from a old prev new out out_then before now w = record {
    white = λ i e. elim (turned i) [
      | inl b ↦ absurd (not_white k.shape a i old out
          (after.seen_present (a, i) (inr (colour_now a i old new out now ∙ b))) (is_white_then i e))
      | inr same ↦ same ∙ w.white i e
    ];
    gray = λ i e. elim (w.gray i e) [
      | inr b ↦ inr (black_now i b)
      | inl g ↦ elim (turned i) [ inl b ↦ inr b | inr same ↦ inl (same ∙ g) ]
    ];
    black = λ i e. black_now i (w.black i e);
  }
    where
      black_now : (i : ℕ) → bits.colour_of prev i ≡ colour.Black → bits.colour_of new i ≡ colour.Black
      black_now i b = sym (colour_now a i old new out now)
          ∙ darker (a, i) (colour_then a i old prev out_then before ∙ b)

      turned : (i : ℕ) → (bits.colour_of new i ≡ colour.Black) ⊎ (bits.colour_of new i ≡ bits.colour_of prev i)
      turned i = elim (others (a, i)) [
        | inl b ↦ inl (sym (colour_now a i old new out now) ∙ b)
        | inr (inl is) ↦ inr (sym (colour_now a i old new out now) ∙ is ∙ colour_then a i old prev out_then before)
        | inr (inr m) ↦ absurd (let none : out_of h.shape a ≡ None = colours.shape.kept (a, i) m in cc (none, out_then))
      ]

      is_white_then : (i : ℕ) → bits.colour_of old i ≡ colour.White → is_white old i ≡ true
      is_white_then i e = elim (white_tells old i) [ inl t ↦ t.0 | inr f ↦ absurd (f.1 e) ]

  pub still_flies : IsInFlight k.shape flying
  still_flies = record {
    covers = covers;
    woken = λ a old new out now. (
        let out_then : out_of h.shape a ≡ Some old = ap (λ (s : Shape). out_of s a) (sym same) ∙ out in
        let prev = some_flown (flown a) (was.covers a ∙ ap is_some out_then) in
        woken_from a old prev.0 new out out_then prev.1 now (was.woken a old prev.0 out_then prev.1));
  }

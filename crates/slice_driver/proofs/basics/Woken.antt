-- How black spreads from what a command wakes.
use Rattle.std.proofs.Common.{◌≡◌, ◌≢◌, ◌<◌, ◌≤◌, ◌+◌, ◌==◌, ℕ, zero, suc, Bool, true, false, List, [], ◌∷◌, length}
use Rattle.std.proofs.Common.{Option, Some, None, IsSome, is_some, slice_get, if◌then◌else◌, refl, sym, ap, subst, ◌∙◌}
use Rattle.std.proofs.Common.{inl, inr, arith, option_map}
use Rattle.gz_names.specs.declared.numbers.Place.{Place}
use Rattle.cell_bits.specs.declared.bits.Bits.{Bits}
use Rattle.arena_table.specs.Cells.{CellState}
use Rattle.mark_stack.specs.Stack.{Piles}
use Rattle.cell_bits.specs.declared.bits.Colour.TheVariants as colour
use Rattle.heap_core.specs.Shape.{ArenaShape, Shape, is_prepared, out_in, out_of, field_in, cell_in_arena}
use Rattle.heap_core.specs.Shape.{IsDelegate}
use Rattle.heap_core.specs.Heap.{HeapState, colour_in, colour_of, flown_or, joined}
use Rattle.heap_core.specs.Changes.{Makes}
use Rattle.heap_core.proofs.MakingCells.{same-place}
use Rattle.barriers.specs.Reached.{Reached}
use Rattle.barriers.specs.Reached as reached
use Rattle.barriers.specs.Colours.{IsBlack}
use Rattle.barriers.specs.Exposing.{BlackOr}
use Rattle.barriers.specs.Invariant.{IsSettled, MarkingInvariant}
use Rattle.barriers.specs.Spreading.{Covers}
use Rattle.barriers.proofs.BlackClosure.{reached_is_black, reached_more}
use Rattle.barriers.proofs.Flying.{flown_get}
use Rattle.slice_driver.specs.Commands.{SpreadsBlack}
use Rattle.weak_maps.specs.WeakMaps.{value_of}

-- reached in a heap with the same arenas and entries
pub reached_kept : (s t : Shape) (P : Place → Type 0) → t.arenas ≡ s.arenas → t.weak ≡ s.weak → {p : Place}
    → Reached s P p → Reached t P p
reached_kept s t P e f (reached.from st) = reached.from st
reached_kept s t P e f (reached.along {x} {y} r (i, lt, at)) =
    reached.along (reached_kept s t P e f r)
    (i, lt, ap (λ (xs : List ArenaShape). field_in (cell_in_arena (slice_get xs x.0) x.1) i) e ∙ at)
reached_kept s t P e f (reached.weak {m} {k} {v} at a b) =
    reached.weak (ap (λ w. value_of w m k) f ∙ at) (reached_kept s t P e f a) (reached_kept s t P e f b)
reached_kept s t P e f (reached.delegate {m} {k} {v} {d} at is a b) =
    reached.delegate (ap (λ w. value_of w m k) f ∙ at)
    (subst (λ (xs : List ArenaShape). IsDelegate (record t { arenas = xs }) k d) (sym e) is)
    (reached_kept s t P e f a) (reached_kept s t P e f b)

-- one cell turned black
pub one_spreads : (h k : HeapState) (stack : Piles) (p : Place) → MarkingInvariant k stack
    → IsSettled k → IsBlack k p → ((q : Place) → q ≢ p → colour_of k q ≡ colour_of h q)
    → SpreadsBlack h p k
one_spreads h k stack p inv none black same q = (
  λ b. elim (same-place q p) [ inl e ↦ reached.from (inr e.0) | inr n ↦ reached.from (inl (sym (same q n.0) ∙ b)) ],
  λ r. reached_is_black k stack inv none (reached_more k.shape (BlackOr h p) (IsBlack k) (λ y s. elim s [
    | inr e ↦ subst (IsBlack k) (sym e) black
    | inl b ↦ elim (same-place y p) [ inl e ↦ subst (IsBlack k) (sym e.0) black | inr n ↦ same y n.0 ∙ b ]
  ]) r),
)

-- colours with bits in flight, as a cell is made
module _ (old : HeapState) (zone : ℕ) (p : Place) (cell : CellState) (new : HeapState) (flown : ℕ → Option Bits)
    (m : Makes old zone p cell new) (covers : Covers old.shape flown)
    (sized : length old.colours ≡ length old.shape.arenas) where
  joined_bits : (h : HeapState) (q : Place)
      → colour_of (joined h flown) q ≡ colour_in (option_map (flown_or (flown q.0)) (slice_get h.colours q.0)) q.1
  joined_bits h q = ap (λ o. colour_in o q.1) (flown_get flown h.colours q.0 0 q.0 (omega arith))

  own : (o : Option Bits) → option_map (flown_or None) o ≡ o
  own None = refl
  own (Some b) = refl

  flown_bits : (xs : List Bits) (i : ℕ) (b : Bits) → i < length xs → option_map (flown_or (Some b)) (slice_get xs i)
      ≡ Some b
  flown_bits [] i b lt = absurd (omega (arith, lt))
  flown_bits (x ∷ xs) zero b lt = refl
  flown_bits (x ∷ xs) (suc i) b lt = flown_bits xs i b (omega (arith, lt))

  out_within : (xs : List ArenaShape) (a : ℕ) → IsSome (out_in (slice_get xs a)) → a < length xs
  out_within [] a e = absurd (cc e)
  out_within (x ∷ xs) zero e = omega arith
  out_within (x ∷ xs) (suc a) e = let r = out_within xs a e in omega (arith, r)

  no_fewer : (b : Bool) (n : ℕ) → n ≤ (if b then n + 1 else n)
  no_fewer true n = omega arith
  no_fewer false n = omega arith

  pub others_keep : (q : Place) → q ≢ p → colour_of (joined new flown) q ≡ colour_of (joined old flown) q
  others_keep q n = joined_bits new q ∙ (go (flown q.0) refl ∙ sym (joined_bits old q))
    where
      go : (o : Option Bits) → flown q.0 ≡ o
          → colour_in (option_map (flown_or (flown q.0)) (slice_get new.colours q.0)) q.1
          ≡ colour_in (option_map (flown_or (flown q.0)) (slice_get old.colours q.0)) q.1
      go None e =
          ap (λ f. colour_in (option_map (flown_or f) (slice_get new.colours q.0)) q.1) e
          ∙ (ap (λ o. colour_in o q.1) (own (slice_get new.colours q.0)) ∙ (m.colours q n
          ∙ (ap (λ o. colour_in o q.1) (sym (own (slice_get old.colours q.0)))
          ∙ ap (λ f. colour_in (option_map (flown_or f) (slice_get old.colours q.0)) q.1) (sym e))))
      go (Some b) e =
          let out : IsSome (out_of old.shape q.0) = sym (covers q.0) ∙ ap is_some e in
          let lt : q.0 < length old.shape.arenas = out_within old.shape.arenas q.0 out in
          let more : length old.shape.arenas
          ≤ (if p.0 == length old.shape.arenas then length old.shape.arenas + 1 else length old.shape.arenas) =
          no_fewer (p.0 == length old.shape.arenas) (length old.shape.arenas) in
          let size : length new.colours
          ≡ (if p.0 == length old.shape.arenas then length old.shape.arenas + 1 else length old.shape.arenas) =
          m.coloured ∙ m.grown in
          ap (λ f. colour_in (option_map (flown_or f) (slice_get new.colours q.0)) q.1) e
          ∙ (ap (λ o. colour_in o q.1) (flown_bits new.colours q.0 b (rw size (omega (arith, lt, more)))
          ∙ sym (flown_bits old.colours q.0 b (omega (arith, lt, sized))))
          ∙ ap (λ f. colour_in (option_map (flown_or f) (slice_get old.colours q.0)) q.1) (sym e))

  -- where its zone is not being prepared, the new cell is black
  pub made_black : is_prepared old.shape zone ≡ false → IsBlack (joined new flown) p
  made_black off = joined_bits new p
      ∙ (ap (λ f. colour_in (option_map (flown_or f) (slice_get new.colours p.0)) p.1)
      (none (flown p.0) (covers p.0 ∙ ap is_some m.in_place))
      ∙ (ap (λ o. colour_in o p.1) (own (slice_get new.colours p.0)) ∙ m.born
      ∙ ap (λ (b : Bool). if b then colour_of old p else colour.Black) off))
    where
      none : (o : Option Bits) → is_some o ≡ false → o ≡ None
      none None e = refl
      none (Some b) e = absurd (cc e)

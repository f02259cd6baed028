-- A mark bit is set in the arenas, and so in the heap.
use Rattle.std.proofs.Common.{◌≡◌, ◌≢◌, ◌<◌, ◌==◌, ◌↔◌, ℕ, zero, suc, Bool, true, false, List, [], ◌∷◌, Option, Some}
use Rattle.std.proofs.Common.{None, IsSomeAnd, IsTrue, length, slice_get, if◌then◌else◌, refl, sym, ◌∙◌, ap, subst}
use Rattle.std.proofs.Common.{arith}
use Rattle.std.specs.Int.{bit_at}
use Rattle.std.specs.Option.{option_map}
use Rattle.std.proofs.lemmas.List.{length-map}
use Rattle.std.proofs.lemmas.Option.{slice_get-map}
use Rattle.gz_names.specs.declared.numbers.Place.{Place}
use Rattle.cell_bits.specs.declared.bits.Bits.{Bits}
use Rattle.cell_bits.specs.declared.bits.Colour.{Colour}
use Rattle.cell_bits.specs.declared.bits.Colour.TheVariants as colour
use Rattle.cell_bits.specs.Colours as bits
use Rattle.cell_bits.specs.Colours.{Marks}
use Rattle.arena_table.specs.Slots.{Arena, change_at, with_bits}
use Rattle.arena_table.specs.Table.{ArenasState}
use Rattle.heap_core.specs.Shape.{arena_shapes, out_in, out_of}
use Rattle.heap_core.specs.Heap.{HeapState, colour_in, colour_of}
use Rattle.heap_core.specs.MarkBits.{SetsBlack, SetsGray, TakesBlack, TakesGray}
use Rattle.heap_core.proofs.Views.{out-kept, set_bits-seen, with_state}

-- the colour of a slot by what a setting of its bit answers
pub was_black : (b : Bits) (slot : ℕ) (r : Bool) → (IsTrue r ↔ (bits.colour_of b slot ≢ colour.Black)) → r ≡ false
    → bits.colour_of b slot ≡ colour.Black
was_black b slot r set off = go (bits.colour_of b slot) refl
  where
    go : (c : Colour) → bits.colour_of b slot ≡ c → bits.colour_of b slot ≡ colour.Black
    go colour.White e = absurd (let yes : r ≡ true = set.1 (λ black. cc (e, black)) in cc (yes, off))
    go colour.Gray e = absurd (let yes : r ≡ true = set.1 (λ black. cc (e, black)) in cc (yes, off))
    go colour.Black e = e

black_by_bit : (b : Bits) (slot : ℕ) → bit_at b.black slot ≡ 1 → bits.colour_of b slot ≡ colour.Black
black_by_bit b slot one =
    ap (λ (n : ℕ). if n == 1 then colour.Black else (if bit_at b.gob slot == 1 then colour.Gray else colour.White)) one

kept-in : (xs : List Arena) (a : ℕ) → a < length xs → out_in (slice_get (arena_shapes xs) a) ≡ None
    → IsSomeAnd (slice_get xs a) (λ x. x.is_out ≡ false)
kept-in [] a lt e = absurd (omega (arith, lt))
kept-in (x ∷ xs) zero lt e = out-kept x e
kept-in (x ∷ xs) (suc a) lt e = kept-in xs a (omega (arith, lt)) e

-- a heap by its arenas, and a place whose arena was made and is not out
module _ (h k : HeapState) (s : ArenasState) (x : Place) (a : ℕ) (view : with_state h s ≡ k) (at : a ≡ x.0) where
  pub made-at : x.0 < length k.colours → a < length s.arenas
  made-at = subst (λ (k : HeapState). x.0 < length k.colours → a < length s.arenas) view
      (λ lt. omega (arith, length-map s.arenas (λ (arena : Arena). arena.bits), lt, at))

  pub kept-at : x.0 < length k.colours → out_of k.shape x.0 ≡ None
      → IsSomeAnd (slice_get s.arenas a) (λ arena. arena.is_out ≡ false)
  kept-at made kept = kept-in s.arenas a (made-at made)
      (subst (λ (k : HeapState). out_of k.shape a ≡ None) (sym view) (ap (out_of k.shape) at ∙ kept))

  pub bits-at : (b : Bits) → option_map (λ arena. arena.bits) (slice_get s.arenas a) ≡ Some b
      → slice_get k.colours x.0 ≡ Some b
  bits-at b found = subst (λ (n : ℕ). slice_get k.colours n ≡ Some b) at
      (subst (λ (k : HeapState). slice_get k.colours a ≡ Some b) view
      (slice_get-map (λ (arena : Arena). arena.bits) s.arenas a ∙ found))

  pub colour-at : (b : Bits) (slot : ℕ) → slot ≡ x.1 → option_map (λ arena. arena.bits) (slice_get s.arenas a) ≡ Some b
      → colour_of k x ≡ bits.colour_of b slot
  colour-at b slot is found = ap (λ (o : Option Bits). colour_in o x.1) (bits-at b found)
      ∙ ap (bits.colour_of b) (sym is)

  -- its arena took other bits
  module _ (t : ArenasState) (b d : Bits) (slot : ℕ) (is : slot ≡ x.1) (lt : slot < 64)
      (kept : out_of k.shape x.0 ≡ None) (found : option_map (λ arena. arena.bits) (slice_get s.arenas a) ≡ Some b)
      (takes : t ≡ record s { arenas = change_at (with_bits d) s.arenas x.0 }) where
    pub takes_black : bits.colour_of b slot ≢ colour.Black
        → ((n : ℕ) → bit_at d.black n ≡ (if n == slot then 1 else bit_at b.black n)) → d.gob ≡ b.gob
        → TakesBlack k x (with_state h t)
    takes_black was black gob = record {
      before = b;
      after = d;
      found = bits-at b found;
      sets = subst (λ (n : ℕ). SetsBlack b n d) is (record {
        within = lt;
        was = λ one. was (black_by_bit b slot one);
        black = black;
        gob = gob;
      });
      new_is = set_bits-seen h k s t x.0 d view kept takes;
    }

    pub takes_gray : bits.colour_of b slot ≡ colour.White → d.black ≡ b.black
        → ((n : ℕ) → bit_at d.gob n ≡ (if n == slot then 1 else bit_at b.gob n)) → Marks b slot colour.Gray d
        → TakesGray k x (with_state h t)
    takes_gray white black gob marks = record {
      before = b;
      after = d;
      found = bits-at b found;
      sets = subst (λ (n : ℕ). SetsGray b n d) is (record {
        within = lt;
        white = white;
        black = black;
        gob = gob;
        marks = marks;
      });
      new_is = set_bits-seen h k s t x.0 d view kept takes;
    }

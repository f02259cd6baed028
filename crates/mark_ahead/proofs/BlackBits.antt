-- Black cells by their bits.
use Rattle.std.proofs.Common.{◌≡◌, ◌==◌, ℕ, Bool, true, false, Option, Some, None, inl, inr, refl, sym, ap}
use Rattle.std.proofs.Common.{◌∙◌, arith, slice_get, unwrap_or, if◌then◌else◌}
use Rattle.std.specs.Int.{bit_at}
use Rattle.std.proofs.lemmas.Bool.Decides.{eqb_tells}
use Rattle.std.proofs.lemmas.Nat.Bits.{bit_at-zero}
use Rattle.std.proofs.lemmas.Option.{get_or_from_slice_get, unwrap_or-slice_get}
use Rattle.gz_names.specs.declared.numbers.Place.{Place}
use Rattle.cell_bits.specs.declared.bits.Bits.{Bits}
use Rattle.cell_bits.specs.declared.bits.Colour.{Colour}
use Rattle.cell_bits.specs.declared.bits.Colour.TheVariants as colour
use Rattle.cell_bits.specs.Colours as bits
use Rattle.heap_core.specs.Heap.{HeapState, colour_in, colour_of}
use Rattle.barriers.specs.Colours.{IsBlack}
use Rattle.mark_ahead.specs.Ahead.{bits_in, black_bit}

-- the colour of a slot, by its bits
abbrev by_bits : Bool → Bool → Colour
by_bits black gob = if black then colour.Black else (if gob then colour.Gray else colour.White)

by_bit : (b : Bits) (slot : ℕ) → bits.colour_of b slot ≡ colour.Black → bit_at b.black slot ≡ 1
by_bit b slot black = elim (eqb_tells (bit_at b.black slot) 1) [
  | inl one ↦ one.1
  | inr other ↦ absurd (pale (bit_at b.gob slot == 1)
      (sym (ap (λ (t : Bool). by_bits t (bit_at b.gob slot == 1)) other.0) ∙ black))
]
  where
    pale : (t : Bool) → (if t then colour.Gray else colour.White) ≡ colour.Black → ⊥
    pale true e = cc e
    pale false e = cc e

by_colour : (b : Bits) (slot : ℕ) → bit_at b.black slot ≡ 1 → bits.colour_of b slot ≡ colour.Black
by_colour b slot one = elim (eqb_tells (bit_at b.black slot) 1) [
  | inl same ↦ ap (λ (t : Bool). by_bits t (bit_at b.gob slot == 1)) same.0
  | inr other ↦ absurd (other.1 one)
]

-- a black cell has its black bit, and a place that has it is black
pub black_is_bit : (h : HeapState) (x : Place) → IsBlack h x → black_bit h.colours x ≡ 1
black_is_bit h x black = go (slice_get h.colours x.0) refl
  where
    go : (o : Option Bits) → slice_get h.colours x.0 ≡ o → black_bit h.colours x ≡ 1
    go None e = absurd (let pale : colour_of h x ≡ colour.White = ap (λ (o : Option Bits). colour_in o x.1) e in
        cc (pale, black))
    go (Some b) e =
        ap (λ (d : Bits). bit_at d.black x.1) (get_or_from_slice_get h.colours x.0 b (record { black = 0; gob = 0 }) e)
        ∙ by_bit b x.1 (sym (ap (λ (o : Option Bits). colour_in o x.1) e) ∙ black)

pub bit_is_black : (h : HeapState) (x : Place) → black_bit h.colours x ≡ 1 → IsBlack h x
bit_is_black h x one = go (slice_get h.colours x.0) refl
  where
    go : (o : Option Bits) → slice_get h.colours x.0 ≡ o → IsBlack h x
    go None e =
        let nothing : bits_in h.colours x.0 ≡ record { black = 0; gob = 0 } =
        sym (unwrap_or-slice_get h.colours x.0 (record { black = 0; gob = 0 }))
        ∙ ap (λ (o : Option Bits). unwrap_or o (record { black = 0; gob = 0 })) e in
        let zero : black_bit h.colours x ≡ 0 =
        ap (λ (d : Bits). bit_at d.black x.1) nothing ∙ bit_at-zero x.1 in
        absurd (omega (arith, one, zero))
    go (Some b) e =
        ap (λ (o : Option Bits). colour_in o x.1) e
        ∙ by_colour b x.1 (sym (ap (λ (d : Bits). bit_at d.black x.1)
        (get_or_from_slice_get h.colours x.0 b (record { black = 0; gob = 0 }) e)) ∙ one)

-- What the operations on words do to single bits.
use Rattle.std.proofs.Common.{◌≡◌, ℕ, ◌-◌, ◌*◌, ◌%◌, ◌^◌, ◌<◌, ◌==◌, ◌↔◌, inl, inr, arith, bit_and, bit_or, w64}
use Rattle.std.proofs.Common.{if◌then◌else◌}
use Rattle.std.specs.Int.{bit_at, bit_not}
use Rattle.std.proofs.lemmas.Nat.{or_lt}
use Rattle.std.proofs.lemmas.Bool.{cases_eq}
use Rattle.std.proofs.lemmas.Grind.{common_steps}
use Rattle.std.proofs.lemmas.Nat.Bits.{bit_at-lt, bit_at_or, bit_at_and, bit_at_not, bit_at_set_same, bit_at_set_other}
use Rattle.cell_bits.specs.declared.bits.Bits.{Bits}
use Rattle.cell_bits.specs.declared.bits.Colour.TheVariants.{White}
use Rattle.cell_bits.specs.Colours.{colour_of}

pub bit_at-set : (n k s : ℕ) → k < 64 → bit_at (bit_or n (1 * 2 ^ k % 18446744073709551616)) s
    ≡ (if s == k then 1 else bit_at n s)
bit_at-set n k s h = elim (cases_eq s k) [
  | inl e ↦ (let same : bit_at (bit_or n (1 * 2 ^ k % 18446744073709551616)) k ≡ 1 = bit_at_set_same w64 n k h in
      grind (arith, common_steps))
  | inr e ↦ (let other : bit_at (bit_or n (1 * 2 ^ k % 18446744073709551616)) s ≡ bit_at n s =
      bit_at_set_other w64 n k h s e in grind (arith, common_steps))
]

pub bit_at-white : (alloc black gob s : ℕ) → black < 2 ^ 64 → gob < 2 ^ 64 → s < 64
    → (bit_at (bit_and alloc (bit_not w64 (bit_or black gob))) s ≡ 1)
    ↔ ((bit_at alloc s ≡ 1) × (bit_at black s ≡ 0) × (bit_at gob s ≡ 0))
bit_at-white alloc black gob s b g h =
    let both : bit_at (bit_or black gob) s ≡ _ = bit_at_or black gob s in
    let neither : bit_at (bit_not w64 (bit_or black gob)) s ≡ 1 - bit_at (bit_or black gob) s =
    bit_at_not w64 (bit_or black gob) s (or_lt 64 black gob b g) h in
    let all : bit_at (bit_and alloc (bit_not w64 (bit_or black gob))) s ≡ _ =
    bit_at_and alloc (bit_not w64 (bit_or black gob)) s in
    let x = bit_at-lt alloc s in
    let y = bit_at-lt black s in
    let z = bit_at-lt gob s in (
      λ one. (omega arith, omega arith, omega arith),
      λ parts. (let p : bit_at alloc s ≡ 1 = parts.0 in let q : bit_at black s ≡ 0 = parts.1 in
          let r : bit_at gob s ≡ 0 = parts.2 in omega arith),
    )

-- a cell is white where neither bit is set
pub colour_of-white : (b : Bits) (s : ℕ) → (colour_of b s ≡ White) ↔ ((bit_at b.black s ≡ 0) × (bit_at b.gob s ≡ 0))
colour_of-white b s =
    let y = bit_at-lt b.black s in
    let z = bit_at-lt b.gob s in grind (arith, common_steps)

use Rattle.std.proofs.Common.{◌≡◌, ◌-◌, ◌*◌, ◌%◌, ◌+◌, ◌^◌, if◌then◌else◌, Some, None, bit_and, ap, sym, ◌∙◌}
use Rattle.std.proofs.Common.{arith}
use Rattle.std.specs.Int.RustNames.{count_ones}
use Rattle.std.proofs.lemmas.Nat.{and_mask, one_shl}
use Rattle.gz_names.specs.Moves.{number_of}
use Rattle.gz_names.proofs.Moving.{bit-none, bit-some}
use Rattle.gz_names.proofs.moves.Leaving.number_of.Goals as goal

pub returns-then-self-bit-eq0 : goal.returns-then-self-bit-eq0
returns-then-self-bit-eq0 c =
    let s = c.args.self.now in
    sym (ap (λ b. if b then Some (number_of s c.args.slot) else None)
    (bit-none s.slots c.args.slot (1 * 2 ^ c.args.slot % 18446744073709551616) (one_shl c.args.slot 64 c.requires.slot)
    c.if-self-bit-eq0.true))

pub overflow_add-result : goal.overflow_add-result
overflow_add-result c =
    let s = c.args.self.now in
    let bit = one_shl c.args.slot 64 c.requires.slot in
    let set = bit-some s.slots c.args.slot (1 * 2 ^ c.args.slot % 18446744073709551616) bit c.if-self-bit-eq0.false in
    let before : bit_and s.slots (1 * 2 ^ c.args.slot % 18446744073709551616 - 1) ≡ s.slots % 2 ^ c.args.slot =
    ap (λ b. bit_and s.slots (b - 1)) bit ∙ and_mask s.slots c.args.slot in
    let count = ap count_ones before in
    let fits = c.requires.fits set in
    omega (arith, count, fits)

pub returns : goal.returns
returns c =
    let s = c.args.self.now in
    let bit = one_shl c.args.slot 64 c.requires.slot in
    let set = bit-some s.slots c.args.slot (1 * 2 ^ c.args.slot % 18446744073709551616) bit c.if-self-bit-eq0.false in
    let before : bit_and s.slots (1 * 2 ^ c.args.slot % 18446744073709551616 - 1) ≡ s.slots % 2 ^ c.args.slot =
    ap (λ b. bit_and s.slots (b - 1)) bit ∙ and_mask s.slots c.args.slot in
    ap (λ w. Some (s.first + count_ones w)) before
    ∙ sym (ap (λ b. if b then Some (number_of s c.args.slot) else None) set)

use Rattle.std.proofs.Common.{◌≡◌, ◌<◌, ◌^◌, drop}
use Rattle.dump_check.specs.Digits.{after_digits, front_digits, read_on}
use Rattle.dump_check.proofs.numbers.digits.Given as goal

abbrev pub invariant-loop-digit : goal.invariant-loop-digit
invariant-loop-digit l = (l.count ≡ l.digit-index)
    × (l.n < 2 ^ 32)
    × (read_on 0 (front_digits l.text) ≡ read_on l.n (front_digits (drop l.count l.text)))
    × (after_digits l.text ≡ after_digits (drop l.count l.text))

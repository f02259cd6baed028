use Rattle.std.proofs.Common.{◌≡◌, ◌<◌, drop}
use Rattle.trace_lang.specs.Numbers.{front_digits, after_digits, read_on}
use Rattle.trace_lang.proofs.numbers.digits.Given as goal

abbrev pub invariant-loop-digit : goal.invariant-loop-digit
invariant-loop-digit l = (l.count ≡ l.digit-index)
    × (l.n < l.limit)
    × (read_on l.first (front_digits l.text) ≡ read_on l.n (front_digits (drop l.count l.text)))
    × (after_digits l.text ≡ after_digits (drop l.count l.text))

use Rattle.std.proofs.Common.{◌≡◌, take}
use Rattle.trace_lang.specs.Words.{IsWord}
use Rattle.trace_lang.proofs.lines.split_at_space.Given as goal

abbrev pub invariant-loop-byte : goal.invariant-loop-byte
invariant-loop-byte l = (l.end ≡ l.byte-index) × IsWord (take l.byte-index l.text)
